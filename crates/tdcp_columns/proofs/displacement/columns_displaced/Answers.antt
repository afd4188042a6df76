-- `tdcp_columns::displacement::columns_displaced` meets its contract. Assumes nothing.
use mathlib.Core.Path.{sym, ◌∙◌}
use Rattle.tdcp_columns.proofs.RoundLaws.{answer-capped}
use Rattle.tdcp_columns.proofs.FitLaws.{into-long, into-count, into-fits, into-is, not_first, not-second, both-fit}
use Rattle.tdcp_columns.proofs.AnswerLaws.{promised}
use Rattle.tdcp_columns.proofs.displacement.columns_displaced.Goals as goal

pub returns-then-not-fit_into : goal.returns-then-not-fit_into
returns-then-not-fit_into c = promised _ _ (not_first _ _ c.fit_into.ensures.fits c.if-not-fit_into.true)

pub returns-then-not-fit_into-2 : goal.returns-then-not-fit_into-2
returns-then-not-fit_into-2 c = let x = c in promised _ _ (not-second _ _ x.fit_into.ensures.fits c.fit_into-2.ensures.fits x.if-not-fit_into.false c.if-not-fit_into-2.true)

pub slice_bounds-previous_signals-end : goal.slice_bounds-previous_signals-end
slice_bounds-previous_signals-end c = let x = c in
    let y = c in
    let a = c.args in
    into-long a.previous.constellation.now a.previous.svid.now a.previous.band.now a.previous.state.now a.previous.floats.now a.previous.count x.fit_into.ensures x.if-not-fit_into.false

pub slice_bounds-then-end : goal.slice_bounds-then-end
slice_bounds-then-end c = let x = c in
    let y = c in
    let a = c.args in
    sym (into-count a.previous.constellation.now a.previous.svid.now a.previous.band.now a.previous.state.now a.previous.floats.now a.previous.count x.fit_into.ensures x.if-not-fit_into.false)

pub slice_bounds-current_signals-end : goal.slice_bounds-current_signals-end
slice_bounds-current_signals-end c = let x = c in
    let y = c in
    let a = c.args in
    into-long a.current.constellation.now a.current.svid.now a.current.band.now a.current.state.now a.current.floats.now a.current.count y.fit_into-2.ensures y.if-not-fit_into-2.false

pub slice_bounds-now-end : goal.slice_bounds-now-end
slice_bounds-now-end c = let x = c in
    let y = c in
    let a = c.args in
    sym (into-count a.current.constellation.now a.current.svid.now a.current.band.now a.current.state.now a.current.floats.now a.current.count y.fit_into-2.ensures y.if-not-fit_into-2.false)

pub invariant_of-then : goal.invariant_of-then
invariant_of-then c = let a = c.args in record { fit = into-fits a.previous.constellation.now a.previous.svid.now a.previous.band.now a.previous.state.now a.previous.floats.now a.previous.count c.fit_into.ensures c.if-not-fit_into.false }

pub invariant_of-now : goal.invariant_of-now
invariant_of-now c = let a = c.args in record { fit = into-fits a.current.constellation.now a.current.svid.now a.current.band.now a.current.state.now a.current.floats.now a.current.count c.fit_into-2.ensures c.if-not-fit_into-2.false }

pub returns : goal.returns
returns c = let x = c in
    let y = c in
    let a = c.args in
    let p = into-is a.previous.constellation.now a.previous.svid.now a.previous.band.now a.previous.state.now a.previous.floats.now a.previous.count x.fit_into.ensures x.if-not-fit_into.false in
    let q = into-is a.current.constellation.now a.current.svid.now a.current.band.now a.current.state.now a.current.floats.now a.current.count y.fit_into-2.ensures y.if-not-fit_into-2.false in
    promised _ _
    (both-fit _ _ x.fit_into.ensures.fits y.fit_into-2.ensures.fits x.if-not-fit_into.false y.if-not-fit_into-2.false
    (c.displaced.ensures.answer ∙ rw (p, q, c.from-at.ensures, c.displacement_settings-s.ensures) (answer-capped _ _ _ _ a.settings.now a.rounds _ a.wanted)))
