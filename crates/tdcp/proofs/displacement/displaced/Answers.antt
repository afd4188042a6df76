-- `tdcp::displacement::displaced` meets its contract. Assumes nothing.
use mathlib.Core.Path.{◌≡◌, sym, ap, ◌∙◌}
use mathlib.Core.Bool.{false, ◌&&◌}
use lib.Dec.{ltb}
use Rattle.std.proofs.lemmas.Result.{err_from_is_err_and}
use borrow.Author.Tests.{le-ltb}
use Rattle.lists.specs.Walk.{every}
use Rattle.numeric.specs.Vec3.{vector_in_range}
use Rattle.records.specs.Record.{counted_carriers, sound_carrier}
use Rattle.records.specs.City.{looked}
use Rattle.records.specs.Pair.{seen, pairs_of, Paired}
use Rattle.records.specs.Signals.{epoch_in}
use Rattle.records.proofs.CarrierLaws.{carriers-all}
use Rattle.tdcp.specs.Displacement.{Input, input}
use Rattle.tdcp.proofs.DisplacementCall.{since-is, refused-given, passed-given, paired, answered-refused, answered-pairs}
use Rattle.tdcp.proofs.RatedLaws.{answered-promised}
use Rattle.tdcp.proofs.displacement.displaced.Goals as goal

pub moved_by-requires : goal.moved_by-requires
moved_by-requires c = let p = c.pairs_in-all.ensures in (p.held.room, p.all_seen ∙ ap (every seen) (sym p.held.all))

pub returns-in_err-dt : goal.returns-in_err-dt
returns-in_err-dt c =
    let g = c.args in
    let i : Input = input (epoch_in g.previous.signals.now g.previous.states.now g.previous.floats.now) (epoch_in g.current.signals.now g.current.states.now g.current.floats.now) g.since g.receiver g.settings g.profile in
    let few : ltb 64 i.previous.count ≡ false = le-ltb _ _ g.previous.fit.few in
    let few' : ltb 64 i.current.count ≡ false = le-ltb _ _ g.current.fit.few in
    let sound : (c.is_sound.result && c.is_sound-2.result && c.is_in_range.result) ≡ (every sound_carrier (counted_carriers i.previous) && every sound_carrier (counted_carriers i.current) && vector_in_range i.receiver) =
    rw (carriers-all g.previous.signals.now g.previous.states.now g.previous.floats.now, carriers-all g.current.signals.now g.current.states.now g.current.floats.now, c.is_sound.ensures, c.is_sound-2.ensures, c.is_in_range.ensures) in
    let p = err_from_is_err_and c.from_residual.result c.from_residual.ensures.1 in
    rw (p.1, p.2) (answered-promised _ _ (answered-refused i g.wanted (refused-given i few few' sound (sym c.in_err-dt.was ∙ c.seconds_of.ensures))))

pub returns : goal.returns
returns c =
    let g = c.args in
    let i : Input = input (epoch_in g.previous.signals.now g.previous.states.now g.previous.floats.now) (epoch_in g.current.signals.now g.current.states.now g.current.floats.now) g.since g.receiver g.settings g.profile in
    let few : ltb 64 i.previous.count ≡ false = le-ltb _ _ g.previous.fit.few in
    let few' : ltb 64 i.current.count ≡ false = le-ltb _ _ g.current.fit.few in
    let sound : (c.is_sound.result && c.is_sound-2.result && c.is_in_range.result) ≡ (every sound_carrier (counted_carriers i.previous) && every sound_carrier (counted_carriers i.current) && vector_in_range i.receiver) =
    rw (carriers-all g.previous.signals.now g.previous.states.now g.previous.floats.now, carriers-all g.current.signals.now g.current.states.now g.current.floats.now, c.is_sound.ensures, c.is_sound-2.ensures, c.is_in_range.ensures) in
    let e = sym c.in_ok-dt.was ∙ c.seconds_of.ensures in
    let h : Paired c.pairs_in-all.result (pairs_of i.receiver i.settings.mask c.in_ok-dt.dt (counted_carriers i.previous) (looked i.profile (counted_carriers i.current))) =
    rw (carriers-all g.previous.signals.now g.previous.states.now g.previous.floats.now, carriers-all g.current.signals.now g.current.states.now g.current.floats.now) c.pairs_in-all.ensures in
    answered-promised i g.wanted (c.moved_by.ensures ∙ answered-pairs i g.wanted (paired i (since-is _ e) h) (passed-given i few few' sound e))
