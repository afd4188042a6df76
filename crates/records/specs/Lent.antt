-- What a call is lent, before it and after it. Definitions only.
use Rattle.std.specs.Prelude.{ℕ, List, ℤ}
use Rattle.lists.specs.Memory.{before, Memory, LentNumbers, LentFloats}
use Rattle.numeric.specs.Vec3.{vector_at}
use Rattle.numeric.specs.declared.vec3.Vec3.{Vec3}
use Rattle.records.specs.Carriers.{CarrierColumns, carrier_columns}
use Rattle.records.specs.Signals.{carrier_in, carriers_in, epoch_in}
use Rattle.records.specs.declared.carriers.Carriers.{Carriers}
use Rattle.records.specs.declared.columns.EpochColumns.{EpochColumns}
use Rattle.records.specs.declared.record.Carrier.{Carrier}
use Rattle.records.specs.declared.record.Epoch.{Epoch}

-- an epoch's carriers in five columns
abbrev pub lent_columns : LentNumbers → LentNumbers → LentNumbers → Memory (List ℤ) → LentFloats → CarrierColumns
lent_columns constellation svid band state floats = carrier_columns (before constellation) (before svid) (before band) (before state) (before floats)

-- three floats
abbrev pub lent_vector : LentFloats → Vec3
lent_vector v = vector_at (before v) 0

-- the columns of an epoch
abbrev pub epoch_columns : EpochColumns → CarrierColumns
epoch_columns c = carrier_columns c.constellation.now c.svid.now c.band.now c.state.now c.floats.now

-- the carriers of signals, states and floats, their epoch, and carrier i
abbrev pub lent_carriers : Carriers → List Carrier
lent_carriers c = carriers_in c.signals.now c.states.now c.floats.now

abbrev pub lent_signals : Carriers → Epoch
lent_signals c = epoch_in c.signals.now c.states.now c.floats.now

abbrev pub lent_carrier : Carriers → ℕ → Carrier
lent_carrier c i = carrier_in c.signals.now c.states.now c.floats.now i
