-- The numbers of the rearrangements, and the count of entries. Assumes nothing.
use Rattle.numeric.specs.Refusal.{answer_number, value_after}
use Rattle.std.specs.Prelude.{Result, ⊤}
use Rattle.numeric.specs.declared.refusal.Refusal.{Refusal}
use mathlib.Core.Path.{◌≡◌, refl, ap, ◌∙◌}
use Prim.Native.Nat.{ℕ}
use Rattle.corrections_table.specs.Table.{Columns}
use Rattle.corrections_directory.specs.Directory.{Blocks}
use Rattle.corrections_directory.specs.Rearrange.{Filed, unfiled, entries_are, filed_number, filed_count, filed_columns, Listed, unlisted, samples_are, listed_number, listed_columns}
use Rattle.corrections_convert.specs.Lent.{Files, Lists, filing_of, listing_of}

module _ (o : Filed) {r : Result ℕ Refusal} (l : Blocks) {l' : Blocks} (a : (r ≡ filing_of o) × (l' ≡ filed_columns o l)) (m : ℕ) {m' number : ℕ} where
  pub files-number : (number ≡ answer_number r) × (m' ≡ value_after r m) → Files o number m m' l l'
  files-number (k, q) = record { number_is = k ∙ ap answer_number a.0 ∙ same o; entries-are = q ∙ ap (λ (z : Result ℕ Refusal). value_after z m) a.0 ∙ count o; columns = a.1 }
    where
      same : (p : Filed) → answer_number (filing_of p) ≡ filed_number p
      same (unfiled r) = refl
      same (entries_are es) = refl

      count : (p : Filed) → value_after (filing_of p) m ≡ filed_count p m
      count (unfiled r) = refl
      count (entries_are es) = refl

module _ (o : Listed) {r : Result ⊤ Refusal} (t : Columns) {t' : Columns} (a : (r ≡ listing_of o) × (t' ≡ listed_columns o t)) {number : ℕ} where
  pub lists-number : number ≡ answer_number r → Lists o number t t'
  lists-number k = record { number_is = k ∙ ap answer_number a.0 ∙ same o; columns = a.1 }
    where
      same : (p : Listed) → answer_number (listing_of p) ≡ listed_number p
      same (unlisted r) = refl
      same (samples_are t) = refl
