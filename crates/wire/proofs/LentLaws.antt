-- The answers of reading and writing, and that each undoes the other. Assumes nothing.
use mathlib.Core.Path.{◌≡◌, refl, sym, ap, ◌∙◌}
use mathlib.Core.Bool.{Bool, true, false, cond}
use mathlib.Core.List.{List}
use Prim.Native.Nat.{ℕ, ◌*◌, ◌%◌, ◌≤◌, ◌<◌}
use native.Mathlib.Omega.{arith}
use borrow.Author.Tests.{le-leb, lt-leb, eq-eqb, ne_eqb}
use lib.ListN.{length, take, drop}
use lib.Seq.{take_at}
use Rattle.lists.proofs.Walk.{places-length}
use Rattle.numeric.specs.Refusal.{number_of}
use Rattle.numeric.specs.declared.refusal.Refusal.TheVariants.{TooMany, BrokenRecords}
use Rattle.wire.specs.Number.{Bytes}
use Rattle.wire.specs.Record.{AllFitting, epoch_bytes, record_at, count_in, is_whole, records_of}
use Rattle.wire.specs.Columns.{RecordColumns, columns_fit, columns_with, column_record, column_records, over}
use Rattle.wire.specs.Lent.{read_number, ReadAnswers, write_number, WriteAnswers}
use Rattle.wire.proofs.RecordLaws.{epoch-length, count-written, read-written, written_read}
use Rattle.wire.proofs.ColumnLaws.{columns-back}

-- ---- reading

module _ (s : List ℕ) (c₀ : RecordColumns) (count : ℕ) where
  pub read-broken : (length s % 59 ≡ 0 → ⊥) → {number : ℕ} → number ≡ 21 → ReadAnswers s number c₀ c₀ count count
  unfolding read_number
  read-broken h e = rw e (record { number_is = rw (ne_eqb (length s % 59) 0 h); columns-are = refl; count-is = refl })

  module _ (h : length s % 59 ≡ 0) {b : Bool} (is : b ≡ columns_fit c₀ (count_in s)) where
    pub read-many : {number : ℕ} → b ≡ false → number ≡ 2 → ReadAnswers s number c₀ c₀ count count
    unfolding read_number
    read-many f e = rw e (record { number_is = rw (eq-eqb (length s % 59) 0 h, ← is, f); columns-are = refl; count-is = refl })

    pub read_done : {c : RecordColumns} → b ≡ true → c ≡ columns_with (records_of s) c₀ → ReadAnswers s 0 c₀ c count (count_in s)
    unfolding read_number
    read_done t e = record { number_is = rw (eq-eqb (length s % 59) 0 h, ← is, t); columns-are = e; count-is = refl }

-- ---- writing

module _ (c : RecordColumns) (n : ℕ) (out : List ℕ) {b : Bool} (is : b ≡ columns_fit c n) where
  pub write-many : {number : ℕ} → b ≡ false → number ≡ 2 → WriteAnswers c n number out out
  unfolding write_number
  write-many f e = rw e (record { number_is = rw (← is, f); bytes-are = refl })

  pub write-short : {number : ℕ} → b ≡ true → length out < 59 * n → number ≡ 2 → WriteAnswers c n number out out
  unfolding write_number
  write-short t l e = rw e (record { number_is = rw (← is, t, lt-leb (59 * n) (length out) l); bytes-are = refl })

  pub write_done : {next : List ℕ} → b ≡ true → 59 * n ≤ length out → next ≡ over (epoch_bytes (column_records c n)) out → WriteAnswers c n 0 out next
  unfolding write_number
  write_done t l e = record { number_is = rw (← is, t, le-leb (59 * n) (length out) l); bytes-are = e }

-- ---- there and back, by the contracts

-- Reading a written epoch yields its count and its counted records.
module _ {c : RecordColumns} {n : ℕ} {out₀ out : List ℕ} (wrote : WriteAnswers c n 0 out₀ out) (fitting : AllFitting (column_records c n)) {d₀ d : RecordColumns} {count₀ count : ℕ} (read : ReadAnswers (take (59 * n) out) 0 d₀ d count₀ count) where
  bytes : take (59 * n) out ≡ epoch_bytes (column_records c n)
  bytes =
      let bs = epoch_bytes (column_records c n) in
      let e : length bs ≡ 59 * n = omega (arith, epoch-length (column_records c n), places-length (column_record c) n) in
      ap (take (59 * n)) wrote.bytes-are ∙ take_at bs (drop (length bs) out₀) (59 * n) e

  pub same_count : count ≡ n
  same_count = read.count-is ∙ ap count_in bytes ∙ count-written (column_records c n) ∙ places-length (column_record c) n

  pub same-records : column_records d n ≡ column_records c n
  same-records =
      let rs = column_records c n in
      let e : d ≡ columns_with rs d₀ = read.columns-are ∙ ap (λ (s : List ℕ). columns_with (records_of s) d₀) bytes ∙ ap (λ (x : _). columns_with x d₀) (read-written fitting) in
      let l : n ≡ length rs = sym (places-length (column_record c) n) in
      rw e (ap (column_records (columns_with rs d₀)) l ∙ columns-back rs d₀)

-- Writing a read epoch yields its bytes.
module _ {s : List ℕ} {c₀ c : RecordColumns} {count₀ count : ℕ} (read : ReadAnswers s 0 c₀ c count₀ count) where
  pub was-whole : is_whole s ≡ true
  unfolding read_number
  was-whole = go (is_whole s) read.number_is
    where
      go : (b : Bool) → 0 ≡ cond b (cond (columns_fit c₀ (count_in s)) 0 (number_of TooMany)) (number_of BrokenRecords) → b ≡ true
      go true e = refl
      go false e = absurd (omega arith)

  pub had-room : columns_fit c₀ (count_in s) ≡ true
  unfolding read_number
  had-room = go (columns_fit c₀ (count_in s)) (rw was-whole at read.number_is)
    where
      go : (b : Bool) → 0 ≡ cond b 0 (number_of TooMany) → b ≡ true
      go true e = refl
      go false e = absurd (omega arith)

  pub read-records : column_records c count ≡ records_of s
  read-records =
      let rs = records_of s in
      let l : count ≡ length rs = read.count-is ∙ sym (places-length (record_at s) (count_in s)) in
      rw (read.columns-are, l) (columns-back rs c₀)

  pub same_bytes : Bytes s → {out₀ out : List ℕ} → WriteAnswers c count 0 out₀ out → out ≡ over s out₀
  same_bytes k {out₀} wrote =
      wrote.bytes-are ∙ ap (λ (bs : List ℕ). over bs out₀) (ap epoch_bytes read-records ∙ written_read s k was-whole)
