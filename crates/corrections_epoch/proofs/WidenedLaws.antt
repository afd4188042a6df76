-- A base epoch comes to what it came to where the bands of an old table were widened. Assumes nothing.
use Rattle.std.specs.Prelude.{Option}
use mathlib.Core.Path.{◌≡◌}
use mathlib.Core.List.{List}
use Prim.Native.Nat.{ℕ}
use lib.ListN.{length}
use lib.Ieee.{Float}
use Rattle.numeric.specs.declared.vec3.Vec3.{Vec3}
use Rattle.corrections_table.specs.Table.{lent_samples, capacity, table_of}
use Rattle.corrections_table.specs.Widen.{widened}
use Rattle.corrections_table.proofs.WidenLaws.{Roomy, table-widened, capacity-widened}
use Rattle.corrections_epoch.specs.AddEpoch.{added_of}
use Rattle.corrections_epoch.specs.declared.record.BaseEpoch.{BaseEpoch}
use Rattle.corrections_epoch.specs.declared.record.States.{States}
use Rattle.corrections_epoch.specs.declared.record.Settings.{Settings}

-- a new column as long as the old one, so that there is as much room: the same refusal, or the same table
pub added-widened : (n : ℕ) (cs vs narrow wide : List ℕ) (ts xs : List Float) → Roomy n narrow wide → length wide ≡ length narrow
    → (e : BaseEpoch) (s : Option States) (base rover : Vec3) (set : Settings)
    → added_of n (capacity (lent_samples cs vs (widened n narrow wide) ts xs)) (table_of n (lent_samples cs vs (widened n narrow wide) ts xs)) e s base rover set
    ≡ added_of n (capacity (lent_samples cs vs narrow ts xs)) (table_of n (lent_samples cs vs narrow ts xs)) e s base rover set
added-widened n cs vs narrow wide ts xs r l e s base rover set = rw (capacity-widened n cs vs narrow wide ts xs r l, table-widened n cs vs narrow wide ts xs r)
