-- The displacement of two slices is that of the columns that they are read into. Assumes nothing.
use mathlib.Core.Path.{◌≡◌, refl, sym, ap, ap₂, ◌∙◌}
use mathlib.Core.List.{List, [], ◌∷◌, map}
use Prim.Native.Nat.{ℕ, zero, suc, ◌+◌, ◌*◌, ◌%◌, ◌≤◌, ◌<◌}
use native.Mathlib.Omega.{arith}
use borrow.Author.Tests.{eqb-true}
use lib.ListN.{length, get_or, drop, length-append}
use lib.Ieee.{Float, nan}
use Rattle.exact.specs.Float.{bits}
use Rattle.lists.specs.Walk.{collect}
use Rattle.lists.proofs.Walk.{places-length, places-map, places-ext}
use Rattle.numeric.specs.declared.vec3.Vec3.{Vec3}
use Rattle.records.specs.Carriers.{carrier_at, carriers_of, epoch_of}
use Rattle.records.specs.declared.record.Carrier.{Carrier}
use Rattle.records.specs.declared.record.Epoch.{Epoch}
use Rattle.tdcp.specs.Displacement.{general, displacement_of}
use Rattle.tdcp.specs.declared.displacement.Settings.{Settings}
use Rattle.wire.specs.Record.{record_at, count_in, records_of}
use Rattle.wire.specs.Columns.{RecordColumns, column_record, record_floats}
use Rattle.wire.specs.Lent.{ReadAnswers}
use Rattle.wire.specs.declared.record.CarrierRecord.{CarrierRecord}
use Rattle.wire.proofs.RecordLaws.{collect-length}
use Rattle.wire.proofs.ColumnLaws.{columns-room}
use Rattle.wire.proofs.LentLaws.{was-whole, had-room, read-records}
use Rattle.wire_tdcp.specs.Displacement.{record_carrier, record_epoch, handed, records_displaced, float_columns}
use Rattle.wire_tdcp.proofs.DisplacementLaws.{answer-is}

-- ---- one carrier

at_bits : (fs : List ℕ) (k : ℕ) → k < length fs → bits (get_or fs k 0) ≡ get_or (map bits fs) k nan
at_bits [] k l = absurd (omega arith)
at_bits (f ∷ fs) zero l = refl
at_bits (f ∷ fs) (suc k) l = at_bits fs k (omega arith)

carrier-at : (c : RecordColumns) (k : ℕ) → 6 * k + 5 < length c.floats → record_carrier (column_record c k) ≡ carrier_at (float_columns c) k
unfolding record_carrier column_record carrier_at
carrier-at c k l =
    let f = c.floats in
    let e2 : 6 * k + 1 + 1 ≡ 6 * k + 2 = omega arith in
    let e3 : 6 * k + 1 + 2 ≡ 6 * k + 3 = omega arith in
    rw (e2, e3, ← at_bits f (6 * k) (omega arith), ← at_bits f (6 * k + 1) (omega arith), ← at_bits f (6 * k + 2) (omega arith), ← at_bits f (6 * k + 3) (omega arith), ← at_bits f (6 * k + 4) (omega arith), ← at_bits f (6 * k + 5) l)

-- ---- an epoch that was read

abbrev epoch : ℕ → List Carrier → Epoch
epoch n xs = record { count = n; carriers = xs }

module _ {s : List ℕ} {c₀ c : RecordColumns} {count₀ count : ℕ} (read : ReadAnswers s 0 c₀ c count₀ count) where
  floats-long : 6 * count ≤ length c.floats
  floats-long =
      let six = collect-length record_floats 6 (λ (x : CarrierRecord). refl) (records_of s) in
      let e = ap (λ (d : RecordColumns). length d.floats) read.columns-are in
      let a = length-append (collect record_floats (records_of s)) (drop (length (collect record_floats (records_of s))) c₀.floats) in
      omega (arith, e, a, six, read.count-is, places-length (record_at s) (count_in s))

  -- the epoch that a displacement sees in a slice is the one that reading the slice gives
  pub read-epoch : record_epoch s ≡ epoch_of (float_columns c) count
  read-epoch =
      let rs : map record_carrier (records_of s) ≡ carriers_of (float_columns c) count =
      ap (map record_carrier) (sym (read-records read))
      ∙ places-map record_carrier (column_record c) count
      ∙ places-ext (λ (k : ℕ). record_carrier (column_record c k)) (carrier_at (float_columns c)) count (λ (k : ℕ) l. carrier-at c k (omega (arith, floats-long, l))) in
      ap₂ epoch (sym read.count-is) rs

  was-few : count_in s ≤ 64
  was-few = (columns-room c₀ (count_in s) (had-room read)).few

  was-even : length s % 59 ≡ 0
  was-even = eqb-true (length s % 59) 0 (was-whole read)

-- ---- both ways of handing over

module _ {p : List ℕ} {d₀ d : RecordColumns} {m₀ m : ℕ} (before : ReadAnswers p 0 d₀ d m₀ m) {c : List ℕ} {e₀ e : RecordColumns} {n₀ n : ℕ} (now : ReadAnswers c 0 e₀ e n₀ n) where
  -- two slices that are read into columns: with room for the result, the answer is the displacement of these columns
  pub same-displacement : (dt : Float) (receiver : Vec3) (settings : Settings) (out : List ℕ) → 40 ≤ length out
      → records_displaced (handed p c dt receiver settings) out ≡ displacement_of (general (epoch_of (float_columns d) m) (epoch_of (float_columns e) n) dt receiver settings)
  same-displacement dt receiver settings out room =
      answer-is (handed p c dt receiver settings) out (was-even before) (was-even now) (was-few before) (was-few now) room
      ∙ ap₂ (λ (x y : Epoch). displacement_of (general x y dt receiver settings)) (read-epoch before) (read-epoch now)
