-- There and back, of the two calls: what writing wrote is read again, and what reading read is written again, with no acceptance of the second call assumed.
-- Assumes nothing.
use mathlib.Core.Path.{◌≡◌, refl, sym, ap, ◌∙◌, subst}
use mathlib.Core.Bool.{true}
use mathlib.Core.List.{List, [], ◌∷◌, ◌++◌, map}
use Prim.Native.Nat.{ℕ, zero, suc, ◌+◌, ◌*◌, ◌%◌, ◌^◌, ◌≤◌, ◌<◌}
use native.Mathlib.Nat.{mul-mod_right}
use native.Mathlib.Omega.{arith}
use borrow.Author.Tests.{le-leb, eq-eqb}
use lib.ListN.{length, take, get_or, drop, length-append, length-map}
use lib.Seq.{take_at}
use lib.IntN.{pos}
use mir.Syntax.{w32}
use mir.Val.{SFits}
use Rattle.lists.specs.Walk.{collect, places}
use Rattle.lists.proofs.Walk.{places-length}
use Rattle.wire.specs.Number.{Bytes}
use Rattle.wire.specs.Record.{FitsRecord, AllFitting, none, more, epoch_bytes, record_at, count_in, records_of}
use Rattle.wire.specs.Columns.{RecordColumns, columns_fit, columns_with, record_floats, column_record, column_records, over}
use Rattle.wire.specs.Lent.{read_number, ReadAnswers, write_number, WriteAnswers}
use Rattle.wire.specs.declared.record.CarrierRecord.{CarrierRecord}
use Rattle.wire.proofs.RecordLaws.{collect-length, epoch-length, count-written}
use Rattle.wire.proofs.ColumnLaws.{columns-room}
use Rattle.wire.proofs.LentLaws.{same_count, same-records, had-room, same_bytes}

-- ---- columns within their widths

pub record Widths (c : RecordColumns) : Type 0 where
  pub constellation : (i : ℕ) → get_or c.constellation i 0 < 2 ^ 8
  pub svid : (i : ℕ) → get_or c.svid i 0 < 2 ^ 16
  pub band : (i : ℕ) → get_or c.band i 0 < 2 ^ 32
  pub state : (i : ℕ) → SFits w32 (get_or c.state i (pos 0))
  pub floats : (i : ℕ) → get_or c.floats i 0 < 2 ^ 64

all_more : {rs : List CarrierRecord} {r : CarrierRecord} → AllFitting rs → FitsRecord r → AllFitting (rs ++ (r ∷ []))
all_more none f = more f none
all_more (more g h) f = more g (all_more h f)

record_fits : (c : RecordColumns) → Widths c → (i : ℕ) → FitsRecord (column_record c i)
unfolding column_record
record_fits c w i =
    record {
      constellation = w.constellation i;
      svid = w.svid i;
      band = w.band i;
      adr = w.floats (6 * i);
      state = w.state i;
      x = w.floats (6 * i + 1);
      y = w.floats (6 * i + 2);
      z = w.floats (6 * i + 3);
      elevation = w.floats (6 * i + 4);
      rate = w.floats (6 * i + 5);
    }

-- their records fit their bytes
pub all-fitting : (c : RecordColumns) → Widths c → (n : ℕ) → AllFitting (column_records c n)
unfolding places
all-fitting c w zero = none
all-fitting c w (suc n) = all_more (all-fitting c w n) (record_fits c w n)

-- ---- what was written is read

-- If writing answers 0, reading those 59 n bytes into any columns with room answers 0 with that count and those records.
module _ {c : RecordColumns} {n : ℕ} {out₀ out : List ℕ} (wrote : WriteAnswers c n 0 out₀ out) (widths : Widths c) {d₀ d : RecordColumns} {number count₀ count : ℕ} (read : ReadAnswers (take (59 * n) out) number d₀ d count₀ count) (room : columns_fit d₀ n ≡ true) where
  long : length (epoch_bytes (column_records c n)) ≡ 59 * n
  long = omega (arith, epoch-length (column_records c n), places-length (column_record c) n)

  are : take (59 * n) out ≡ epoch_bytes (column_records c n)
  are = let bs = epoch_bytes (column_records c n) in ap (take (59 * n)) wrote.bytes-are ∙ take_at bs (drop (length bs) out₀) (59 * n) long

  many : count_in (epoch_bytes (column_records c n)) ≡ n
  many = count-written (column_records c n) ∙ places-length (column_record c) n

  pub reads : number ≡ 0
  unfolding read_number
  reads = read.number_is ∙ rw (are, eq-eqb _ 0 (ap (λ (k : ℕ). k % 59) long ∙ mul-mod_right 59 n), many, room)

  accepted : ReadAnswers (take (59 * n) out) 0 d₀ d count₀ count
  accepted = subst (λ (k : ℕ). ReadAnswers (take (59 * n) out) k d₀ d count₀ count) reads read

  pub reads-count : count ≡ n
  reads-count = same_count wrote (all-fitting c widths n) accepted

  pub reads-records : column_records d n ≡ column_records c n
  reads-records = same-records wrote (all-fitting c widths n) accepted

-- ---- what was read is written

over-long : {A : Type 0} (xs before : List A) → length xs ≤ length (over xs before)
over-long xs before = rw length-append (omega arith)

-- If reading answers 0, writing with room answers 0 with those bytes.
module _ {s : List ℕ} {c₀ c : RecordColumns} {count₀ count : ℕ} (read : ReadAnswers s 0 c₀ c count₀ count) (each : Bytes s) {number : ℕ} {out₀ out : List ℕ} (wrote : WriteAnswers c count number out₀ out) (room : 59 * count ≤ length out₀) where
  abbrev rs : List CarrierRecord
  rs = records_of s

  as_many : length rs ≡ count
  as_many = places-length (record_at s) (count_in s) ∙ sym read.count-is

  column : {A : Type 0} (f : CarrierRecord → A) (before : List A) → count ≤ length (over (map f rs) before)
  column f before = omega (arith, over-long (map f rs) before, length-map rs f, as_many)

  fits : columns_fit (columns_with rs c₀) count ≡ true
  unfolding columns_fit
  fits =
      let few : count ≤ 64 = omega (arith, (columns-room c₀ (count_in s) (had-room read)).few, read.count-is) in
      let six : 6 * count ≤ length (over (collect record_floats rs) c₀.floats) = omega (arith, over-long (collect record_floats rs) c₀.floats, collect-length record_floats 6 (λ r. refl) rs, as_many) in
      rw (le-leb count 64 few, le-leb count _ (column (λ (r : CarrierRecord). r.constellation) c₀.constellation), le-leb count _ (column (λ (r : CarrierRecord). r.svid) c₀.svid), le-leb count _ (column (λ (r : CarrierRecord). r.band) c₀.band), le-leb count _ (column (λ (r : CarrierRecord). r.state) c₀.state), le-leb (6 * count) _ six)

  pub writes : number ≡ 0
  unfolding write_number
  writes = wrote.number_is ∙ rw (read.columns-are, fits, le-leb (59 * count) (length out₀) room)

  pub writes_bytes : out ≡ over s out₀
  writes_bytes = same_bytes read each (subst (λ (k : ℕ). WriteAnswers c count k out₀ out) writes wrote)
