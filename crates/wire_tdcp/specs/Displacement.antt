-- The displacement of two slices of carrier records (request xiii): its input, the number of the answer, and the bytes of the result afterwards. Definitions only.
use Rattle.numeric.specs.Refusal.{answer_number}
use Rattle.std.specs.Prelude.{Result, Ok, Err}
use Rattle.numeric.specs.declared.refusal.Refusal.{Refusal}
use Rattle.std.specs.Prelude.{◌≡◌, ℕ, not, ◌&&◌, ◌||◌, List, [], ◌∷◌, map, ltb, length, Float}
use Rattle.exact.specs.Float.{bits, +0}
use Rattle.numeric.specs.Order.{pattern_of}
use Rattle.numeric.specs.declared.refusal.Refusal.TheVariants.{TooMany, BrokenRecords}
use Rattle.numeric.specs.declared.vec3.Vec3.{Vec3}
use Rattle.records.specs.Carriers.{CarrierColumns, carrier_columns}
use Rattle.records.specs.declared.record.Carrier.{Carrier}
use Rattle.records.specs.declared.record.Epoch.{Epoch}
use Rattle.numeric.specs.Rules.{Rule, rule, ruled}
use Rattle.tdcp.specs.Displacement.{Input, general, displacement_of, Accepted}
use Rattle.tdcp.specs.declared.displacement.Settings.{Settings}
use Rattle.tdcp.specs.declared.displacement.Delta.{Delta}
use Rattle.wire.specs.Number.{five_bytes}
use Rattle.wire.specs.Record.{records_in, count_in, is_whole}
use Rattle.wire.specs.Columns.{RecordColumns, over}
use Rattle.wire.specs.declared.record.CarrierRecord.{CarrierRecord}

-- ---- the arguments of a call

-- the carrier of a record: each pattern is the float whose bits it is
unfoldable pub record_carrier : CarrierRecord → Carrier
record_carrier r =
    record {
      constellation = r.constellation;
      svid = r.svid;
      band = r.band;
      adr = bits r.adr;
      state = r.state;
      satellite = record { x = bits r.x; y = bits r.y; z = bits r.z };
      elevation = bits r.elevation;
      rate = bits r.rate;
    }

-- the carriers of the first n records
abbrev pub record_carriers : List ℕ → ℕ → List Carrier
record_carriers s n = map record_carrier (records_in s n)

-- the epoch of all records
abbrev pub record_epoch : List ℕ → Epoch
record_epoch s = record { count = count_in s; carriers = record_carriers s (count_in s) }

abbrev pub vector_of : Float → Float → Float → Vec3
vector_of x y z = record { x = x; y = y; z = z }

-- `agreement` is neither read nor checked
abbrev pub line_settings : Float → Float → Float → Float → Float → ℕ → Settings
line_settings screen a b huber mask rounds = record { screen = screen; sigma_a = a; sigma_b = b; huber = huber; mask = mask; rounds = rounds; agreement = +0 }

-- two slices of records, and the numbers of line S
pub record Handed : Type 0 where
  pub previous : List ℕ
  pub current : List ℕ
  pub dt : Float
  pub receiver : Vec3
  pub settings : Settings

abbrev pub handed : List ℕ → List ℕ → Float → Vec3 → Settings → Handed
handed previous current dt receiver settings = record { previous = previous; current = current; dt = dt; receiver = receiver; settings = settings }

-- the two epochs, and the same numbers
abbrev pub record_input : Handed → Input
record_input h = general (record_epoch h.previous) (record_epoch h.current) h.dt h.receiver h.settings

-- ---- the answer

-- 21: one slice is no whole records; 2: one has more than 64, or the result has fewer than 40 bytes
unfoldable pub record_rules : List ℕ → List ℕ → List ℕ → List Rule
record_rules previous current result =
    rule BrokenRecords (not (is_whole previous && is_whole current))
    ∷ rule TooMany (ltb 64 (count_in previous) || ltb 64 (count_in current) || ltb (length result) 40)
    ∷ []

-- these, and only then what the displacement of the two epochs is
unfoldable pub records_displaced : Handed → List ℕ → Result Delta Refusal
records_displaced h result = ruled Err (record_rules h.previous h.current result) (displacement_of (record_input h))

-- used and screened, then the displacement in metres: 40 bytes
abbrev pub delta_bytes : Delta → List ℕ
delta_bytes d = five_bytes d.used d.screened (pattern_of d.delta.x) (pattern_of d.delta.y) (pattern_of d.delta.z)

-- a refusal leaves the result unchanged, and nothing past the fortieth byte is ever written
abbrev pub bytes_after : Result Delta Refusal → List ℕ → List ℕ
bytes_after (Err r) before = before
bytes_after (Ok d) before = over (delta_bytes d) before

-- The number and the result afterwards are those of the answer. An accepted displacement has what `Accepted` says, demand 3 of every round included.
pub record RecordAnswers (h : Handed) (number : ℕ) (result₀ result : List ℕ) : Type 0 where
  pub number_is : number ≡ answer_number (records_displaced h result₀)
  pub result-is : result ≡ bytes_after (records_displaced h result₀) result₀
  pub accepted : (d : Delta) → records_displaced h result₀ ≡ Ok d → Accepted (record_input h) d

-- ---- beside the displacement of columns

-- columns that records were read into, each pattern the float whose bits it is
abbrev pub float_columns : RecordColumns → CarrierColumns
float_columns c = carrier_columns c.constellation c.svid c.band c.state (map bits c.floats)
