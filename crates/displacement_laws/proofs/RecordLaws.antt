-- The call on byte records beside the call on the columns that they are read into. Assumes nothing.
use Rattle.numeric.specs.Refusal.{answer_number}
use Rattle.std.specs.Prelude.{Result, Ok, Err}
use Rattle.numeric.specs.declared.refusal.Refusal.{Refusal}
use Rattle.tdcp.specs.declared.displacement.Delta.{Delta}
use mathlib.Core.Path.{◌≡◌, refl, sym, ap, ◌∙◌}
use mathlib.Core.Bool.{true}
use mathlib.Core.List.{List, map}
use Prim.Native.Nat.{ℕ, ◌*◌, ◌≤◌}
use native.Mathlib.Omega.{arith}
use borrow.Author.Tests.{le-leb}
use lib.ListN.{length, drop, length-append, length-map}
use lib.Ieee.{Float}
use Rattle.exact.specs.Float.{bits}
use Rattle.lists.specs.Walk.{collect}
use Rattle.lists.proofs.Walk.{places-length}
use Rattle.numeric.proofs.RefusalLaws.{not-zero}
use Rattle.numeric.specs.declared.vec3.Vec3.{Vec3}
use Rattle.lists.specs.Memory.{before, after, LentNumbers}
use Rattle.records.specs.Carriers.{epoch_fits}
use Rattle.records.specs.declared.pair.Profile.TheVariants.{General}
use Rattle.tdcp.specs.declared.displacement.Settings.{Settings}
use Rattle.tdcp.specs.declared.displacement.Interval.TheVariants.{Seconds}
use Rattle.wire.specs.Record.{record_at, count_in, records_of}
use Rattle.wire.specs.Columns.{RecordColumns, over, record_floats}
use Rattle.wire.specs.Lent.{ReadAnswers}
use Rattle.wire.specs.declared.record.CarrierRecord.{CarrierRecord}
use Rattle.wire.proofs.RecordLaws.{collect-length}
use Rattle.wire.proofs.ColumnLaws.{columns-room}
use Rattle.wire.proofs.LentLaws.{had-room}
use Rattle.wire_tdcp.specs.Displacement.{handed, records_displaced, bytes_after, float_columns, RecordAnswers}
use Rattle.wire_tdcp.proofs.ColumnLaws.{same-displacement}
use Rattle.tdcp_columns.specs.Displacement.{Lent, lent, columns_displaced, delta_after, counts_after, DisplacementAnswers}
use Rattle.displacement_laws.specs.Records.{Beside}

-- ---- columns that records were read into fit

module _ {s : List ℕ} {c₀ c : RecordColumns} {count₀ count : ℕ} (read : ReadAnswers s 0 c₀ c count₀ count) where
  many : length (records_of s) ≡ count
  many = places-length (record_at s) (count_in s) ∙ sym read.count-is

  few : count ≤ 64
  few = omega (arith, (columns-room c₀ (count_in s) (had-room read)).few, read.count-is)

  numbers-long : {A : Type 0} (f : CarrierRecord → A) (xs old : List A) → xs ≡ over (map f (records_of s)) old → count ≤ length xs
  numbers-long f xs old e =
      omega (arith, many, ap length e, length-map (records_of s) f, length-append (map f (records_of s)) (drop (length (map f (records_of s))) old))

  floats-long : 6 * count ≤ length (map bits c.floats)
  floats-long =
      let six = collect-length record_floats 6 (λ (x : CarrierRecord). refl) (records_of s) in
      let e = ap (λ (d : RecordColumns). length d.floats) read.columns-are in
      let a = length-append (collect record_floats (records_of s)) (drop (length (collect record_floats (records_of s))) c₀.floats) in
      omega (arith, e, a, six, many, length-map c.floats bits)

  pub read_fits : epoch_fits (float_columns c) count ≡ true
  unfolding epoch_fits
  read_fits =
      let a = numbers-long (λ (r : CarrierRecord). r.constellation) c.constellation c₀.constellation (ap (λ (d : RecordColumns). d.constellation) read.columns-are) in
      let b = numbers-long (λ (r : CarrierRecord). r.svid) c.svid c₀.svid (ap (λ (d : RecordColumns). d.svid) read.columns-are) in
      let d = numbers-long (λ (r : CarrierRecord). r.band) c.band c₀.band (ap (λ (d : RecordColumns). d.band) read.columns-are) in
      let e = numbers-long (λ (r : CarrierRecord). r.state) c.state c₀.state (ap (λ (d : RecordColumns). d.state) read.columns-are) in
      rw (le-leb count 64 few, le-leb count (length c.constellation) a, le-leb count (length c.svid) b, le-leb count (length c.band) d, le-leb count (length c.state) e, le-leb (6 * count) (length (map bits c.floats)) floats-long)

-- ---- both calls

beside : (x : Result Delta Refusal) (delta₀ counts₀ : List ℕ) {number number' : ℕ} {delta counts out out' : List ℕ} → number ≡ answer_number x → out' ≡ bytes_after x out
    → number' ≡ answer_number x → delta ≡ delta_after x delta₀ → counts ≡ counts_after x counts₀ → Beside number number' delta counts out out'
beside (Err r) delta₀ counts₀ n o n' d c = record { numbers = n ∙ sym n'; accepted = λ z. absurd (not-zero r (sym n ∙ z)); refused = λ z. o }
beside (Ok v) delta₀ counts₀ n o n' d c = record { numbers = n ∙ sym n'; accepted = λ z. rw (d, c) o; refused = λ z. absurd (z n) }

module _ {p : List ℕ} {d₀ d : RecordColumns} {m₀ m : ℕ} (then : ReadAnswers p 0 d₀ d m₀ m) {c : List ℕ} {e₀ e : RecordColumns} {n₀ n : ℕ} (present : ReadAnswers c 0 e₀ e n₀ n)
    (dt : Float) (receiver : Vec3) (settings : Settings) where
  -- the columns read
  abbrev pub columns : Lent
  columns = lent (float_columns d) m (float_columns e) n (Seconds dt) receiver settings General

  same : (out : List ℕ) → 40 ≤ length out → records_displaced (handed p c dt receiver settings) out ≡ columns_displaced columns
  unfolding columns_displaced
  same out room = rw (read_fits then, read_fits present) (same-displacement then present dt receiver settings out room)

  -- two slices that reading accepts, and room for the result: the call on the columns read, its counts and patterns being the 40 bytes
  pub records-columns : {number number' : ℕ} {delta counts : LentNumbers} {out out' : List ℕ} → 40 ≤ length out
      → RecordAnswers (handed p c dt receiver settings) number out out' → DisplacementAnswers columns number' delta counts → Beside number number' (after delta) (after counts) out out'
  records-columns {delta = delta} {counts = counts} {out = out} room a b =
      let is = same out room in
      beside (columns_displaced columns) (before delta) (before counts)
      (a.number_is ∙ ap answer_number is)
      (a.result-is ∙ ap (λ (x : Result Delta Refusal). bytes_after x out) is)
      b.leaves.number_is
      b.leaves.delta-is
      b.leaves.counts-are
