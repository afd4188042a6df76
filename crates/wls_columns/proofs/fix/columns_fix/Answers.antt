-- `wls_columns::fix::columns_fix` meets its contract. Assumes nothing.
use mathlib.Core.Path.{sym, ◌∙◌}
use Rattle.numeric.specs.Vec3.{vector_at}
use Rattle.wls_columns.specs.Steps.{lent_observations}
use Rattle.wls_columns.proofs.FixLaws.{fix-short, fix-fit}
use Rattle.wls_columns.proofs.fix.columns_fix.Goals as goal

pub returns-then-not-fit : goal.returns-then-not-fit
returns-then-not-fit c = let s = c in
    fix-short (lent_observations s.args.observations) s.args.count (vector_at s.args.guess.now 0) s.args.settings.now s.args.rounds c.fit.ensures c.if-not-fit.true

pub observations-requires : goal.observations-requires
observations-requires c = sym c.fit.ensures ∙ c.if-not-fit.false

pub returns : goal.returns
returns c = let s = c in
    let fits = c.fit.ensures in
    c.solve_full.ensures.answer
    ∙ rw (c.from.ensures, c.fix_settings-s.ensures)
    (fix-fit (lent_observations s.args.observations) s.args.count (vector_at s.args.guess.now 0) s.args.settings.now s.args.rounds fits c.observations.result c.if-not-fit.false c.observations.ensures)
