-- `records::pair::pairs_in` meets its contract. Assumes nothing.
use mathlib.Core.Path.{refl, sym, ap, ◌∙◌}
use mathlib.Core.List.{[], ◌∷◌}
use native.Mathlib.Omega.{arith}
use lib.ListN.{length}
use Rattle.lists.specs.Walk.{every, collect}
use Rattle.lists.proofs.Walk.{length-mapped, collecting-start, collecting-none, collecting-one, collecting-end}
use Rattle.records.specs.Signals.{carriers_in}
use Rattle.records.specs.Pair.{pair_of, seen}
use Rattle.records.specs.declared.record.Carrier.{Carrier}
use Rattle.records.specs.declared.pair.Pair.{Pair}
use Rattle.records.proofs.RecordLaws.{blank}
use Rattle.records.proofs.KeepLaws.{every-next}
use Rattle.records.proofs.PairLaws.{given_by, pair_not, pairs-looked}
use Rattle.records.proofs.CarrierLaws.{carriers-long, carriers-all, carrier-is}
use Rattle.records.proofs.PartnerLaws.{given-found}
use Rattle.records.proofs.pair.pairs_in.Goals as goal
use Rattle.records.proofs.pair.pairs_in.Goals.{then-is_wanted+in-Some, then-is_wanted+in_default, else-is_wanted}

pub loop-i-init : goal.loop-i-init
unfolding every
loop-i-init c = rw c.no_pairs-out.ensures.0 (collecting-start _ _ _ _ _ (search length-mapped), c.no_pairs-out.ensures.1)

pub offset_bounds-out-k : goal.offset_bounds-out-k
offset_bounds-out-k c = omega (arith, c.loop-i-test.true, c.loop-i.invariant.0.few, c.args.current.fit.few)

pub bounds-out-k : goal.bounds-out-k
bounds-out-k c = omega (arith, c.loop-i-test.true, c.loop-i.invariant.0.few, c.args.current.fit.few)

pub overflow_add-out : goal.overflow_add-out
overflow_add-out c = omega (arith, c.loop-i-test.true, c.loop-i.invariant.0.few, c.args.current.fit.few)

pub loop-i-preserved : goal.loop-i-preserved
loop-i-preserved c = let s = c in
    let a = s.args in
    let test = c.loop-i-test.true in
    let o = c.loop-i.out in
    let inv = c.loop-i.invariant.0 in
    let flag = c.loop-i.invariant.1 in
    let x = c.carrier-c in
    let is-it = c.is_wanted.ensures in
    let given = given_by a.receiver a.mask a.dt a.profile (carriers_in a.previous.signals.now a.previous.states.now a.previous.floats.now) in
    let fits = carriers-long a.current.signals.now a.current.states.now a.current.floats.now in
    let few = c.args.current.fit.few in
    let gives = sym (ap given (carrier-is a.current.signals.now a.current.states.now a.current.floats.now test x.ensures)) in
    elim c.if-is_wanted.branch [
      | then-is_wanted+in-Some w ↦
          rw w.out-is (collecting-one given _ _ 64 fits few inv blank test w.pair_of-q.result (gives ∙ given-found a.receiver a.mask a.dt a.profile a.previous.signals.now a.previous.states.now a.previous.floats.now _ _ a.current.floats.now _ x.result x.ensures is-it w.if-is_wanted.true w.in-Some.ensures ∙ ap (λ (p : Carrier). pair_of a.receiver a.dt x.result p ∷ []) (sym w.carrier-p.ensures) ∙ ap (λ (q : Pair). q ∷ []) (sym w.pair_of-q.ensures)), every-next seen o.pair o.count w.pair_of-q.result (omega (arith, inv.few, inv.long, few, test)) flag w.is_seen.ensures)
      | then-is_wanted+in_default w ↦
          rw w.out-is (collecting-none given _ _ 64 fits few inv blank test (gives ∙ given-found a.receiver a.mask a.dt a.profile a.previous.signals.now a.previous.states.now a.previous.floats.now _ _ a.current.floats.now _ x.result x.ensures is-it w.if-is_wanted.true w.in_default.ensures), flag)
      | else-is_wanted w ↦
          rw w.out-is (collecting-none given _ _ 64 fits few inv blank test (gives ∙ pair_not a.receiver a.mask a.dt a.profile (carriers_in a.previous.signals.now a.previous.states.now a.previous.floats.now) x.result is-it w.if-is_wanted.false), flag)
    ]

pub returns : goal.returns
returns c = let s = c in
    let a = s.args in
    let previous = carriers_in a.previous.signals.now a.previous.states.now a.previous.floats.now in
    let current = carriers_in a.current.signals.now a.current.states.now a.current.floats.now in
    let given = given_by a.receiver a.mask a.dt a.profile previous in
    let few = c.args.current.fit.few in
    let e = collecting-end given current (length a.current.signals.now) 64 (carriers-long a.current.signals.now a.current.states.now a.current.floats.now) few c.loop-i.invariant.0 c.loop-i-test.false in
    let is = ap (collect given) (carriers-all a.current.signals.now a.current.states.now a.current.floats.now) ∙ pairs-looked a.receiver a.mask a.dt a.profile previous current in
    record {
      held = record { room = omega (arith, e.few, few); count = e.count ∙ ap length is; all = e.all ∙ is };
      all_seen = c.loop-i.invariant.1 ∙ ap (every seen) (e.all ∙ is);
    }
