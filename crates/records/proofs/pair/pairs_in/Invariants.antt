-- `records::pair::pairs_in` meets its contract. Assumes nothing.
use mathlib.Core.Path.{◌≡◌}
use Prim.Native.Nat.{◌-◌}
use lib.ListN.{length, take}
use Rattle.lists.specs.Walk.{every, collect}
use Rattle.lists.proofs.Walk.{Collecting}
use Rattle.records.specs.Signals.{carriers_in}
use Rattle.records.specs.Pair.{seen}
use Rattle.records.proofs.PairLaws.{given_by}
use Rattle.records.proofs.pair.pairs_in.Given as goal

abbrev pub invariant-loop-i : goal.invariant-loop-i
invariant-loop-i l = let given = given_by l.receiver l.mask l.dt l.profile (carriers_in l.previous.signals.now l.previous.states.now l.previous.floats.now) in
    Collecting given (carriers_in l.current.signals.now l.current.states.now l.current.floats.now) (length l.current.signals.now) 64 (collect given (take (length l.current.signals.now) (carriers_in l.current.signals.now l.current.states.now l.current.floats.now))) l.out.pair l.out.count l.i
    × (l.out.seen ≡ every seen (take l.out.count l.out.pair))
