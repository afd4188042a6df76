-- What a current carrier that is looked at gives, by where its partner stands. Assumes nothing.
use mathlib.Core.Path.{◌≡◌}
use mathlib.Core.Bool.{Bool, true, cond, ◌&&◌}
use mathlib.Core.List.{List, [], ◌∷◌}
use Prim.Native.Nat.{ℕ, ◌≤◌, ◌<◌}
use Rattle.std.specs.Prelude.{Option}
use lib.ListN.{length}
use lib.IntN.{ℤ}
use lib.Ieee.{Float, le}
use Rattle.numeric.specs.declared.vec3.Vec3.{Vec3}
use Rattle.records.specs.Record.{usable}
use Rattle.records.specs.Signals.{carrier_with, carrier_in, carriers_in}
use Rattle.records.specs.Steps.{looked_at, pair_with, Finds}
use Rattle.records.specs.Pair.{pair_of, first_pair}
use Rattle.records.specs.declared.record.Carrier.{Carrier}
use Rattle.records.specs.declared.pair.Profile.{Profile}
use Rattle.records.proofs.PairLaws.{given_by, pair-tried}

module _ (receiver : Vec3) (mask dt : Float) (profile : Profile) (ps : List ℕ) (pt : List ℤ) (pf : List Float) (g : ℕ) (state : ℤ) (cf : List Float) (i : ℕ) (c : Carrier) (e : c ≡ carrier_with g state cf i) {r : Bool} (is : r ≡ ((usable c && le mask c.elevation) && looked_at profile c)) (y : r ≡ true) where
  pub given-found : {o : Option ℕ} → Finds g ps pt pf o → given_by receiver mask dt profile (carriers_in ps pt pf) c ≡ pair_with (λ j. pair_of receiver dt c (carrier_in ps pt pf j)) o
  given-found {o} f = pair-tried receiver mask dt profile (carriers_in ps pt pf) c is y (rw e (f.found receiver dt state cf i))
