-- The rules on the pairs of a displacement. Assumes nothing.
use Rattle.std.specs.Prelude.{Ok, Err}
use mathlib.Core.Path.{◌≡◌, refl, sym, ap, ap₂, ◌∙◌}
use mathlib.Core.Bool.{Bool, true, false, not, ◌&&◌, ◌||◌}
use mathlib.Core.List.{List, [], ◌∷◌, ◌++◌}
use Prim.Native.Nat.{ℕ, ◌+◌, ◌≤◌, ◌<◌}
use native.Mathlib.Numerals.{add-one}
use native.Mathlib.Omega.{arith}
use lib.Dec.{eqb, ltb}
use lib.Seq.{drop-cons}
use borrow.Author.Tests.{ltb-false}
use Rattle.numeric.specs.declared.refusal.Refusal.{Refusal}
use Rattle.numeric.specs.declared.refusal.Refusal.TheVariants.{TooFewPairs, NotCertified}
use Rattle.numeric.specs.Rules.{Rule, rule, ruled}
use Rattle.estimate_rounds.specs.Rules.{row_rules}
use Rattle.tdcp.specs.Valid.{few_rules}
use lib.ListN.{length, get_or, drop, drop_of_length-le}
use lib.Ieee.{Float}
use Rattle.std.specs.List.{list_any}
use Rattle.clocks.specs.Clocks.{has, clocks_of}
use Rattle.records.specs.Screen.{centre, within, kept_of, constellations}
use Rattle.tdcp.specs.Front.{sight_rules, count_rules, pair_rules}
use Rattle.records.specs.declared.pair.Pair.{Pair}
use Rattle.tdcp.specs.declared.displacement.Settings.{Settings}
use Rattle.records.proofs.KeepLaws.{keep-few}
use Rattle.numeric.proofs.RulesLaws.{ruled-append}
use Rattle.estimate_rounds.proofs.RulesLaws.{checked, refused-by, passed-by, head_passed, append-passed, append-first, Enough, rows-passed}

pub counts-passed : (pairs kept slots : ℕ) → (Ok tt) ≡ checked (few_rules pairs kept slots) → (6 ≤ pairs) × Enough kept slots
unfolding few_rules row_rules
counts-passed pairs kept slots e =
    let a = head_passed _ _ e in
    (ltb-false pairs 6 a.0, rows-passed kept slots a.1)

-- 7 to 9 and 20, tested in parts
module _ (pairs kept slots : ℕ) (twenty : Bool) where
  abbrev rules : List Rule
  rules = few_rules pairs kept slots ++ (rule NotCertified twenty ∷ [])

  pub counts-short : ltb pairs 6 ≡ true → Err TooFewPairs ≡ checked rules
  unfolding few_rules ruled
  counts-short e = rw e

  module _ (many : ltb pairs 6 ≡ false) where
    rows_left : checked rules ≡ ruled Err (row_rules kept slots) (checked (rule NotCertified twenty ∷ []))
    unfolding few_rules ruled
    rows_left = rw many (ruled-append Err (Ok tt) (row_rules kept slots) (rule NotCertified twenty ∷ []))

    pub counts-refused : {r : Refusal} → Err r ≡ checked (row_rules kept slots) → Err r ≡ checked rules
    counts-refused e = refused-by Err _ (row_rules kept slots) e ∙ sym rows_left

    module _ (enough : (Ok tt) ≡ checked (row_rules kept slots)) where
      rest : checked (rule NotCertified twenty ∷ []) ≡ checked rules
      rest = sym (passed-by Err _ (row_rules kept slots) enough) ∙ sym rows_left

      applies : twenty ≡ true → Err NotCertified ≡ checked (rule NotCertified twenty ∷ [])
      unfolding ruled
      applies e = rw e

      not_applies : twenty ≡ false → (Ok tt) ≡ checked (rule NotCertified twenty ∷ [])
      unfolding ruled
      not_applies e = rw e

      pub counts_twenty : twenty ≡ true → Err NotCertified ≡ checked rules
      counts_twenty e = applies e ∙ rest

      pub counts_all : twenty ≡ false → (Ok tt) ≡ checked rules
      counts_all e = not_applies e ∙ rest

-- no more pairs are kept than there are
pub kept-few : (screen : Float) (ps : List Pair) → length (kept_of screen ps) ≤ length ps
unfolding kept_of
kept-few screen ps = keep-few (within screen (centre ps)) ps

-- what an accepted displacement has: used exceeds three plus the slots
pub pairs-enough : (city : Bool) (settings : Settings) (ps : List Pair) → (Ok tt) ≡ checked (pair_rules city settings ps)
    → Enough (length (kept_of settings.screen ps)) (clocks_of (constellations (kept_of settings.screen ps))).count
unfolding pair_rules count_rules
pairs-enough city settings ps e = (counts-passed _ _ _ (append-first (count_rules settings ps) _ (append-passed (sight_rules ps) _ e))).1

-- ---- 20, of the city profile
-- whether p stands among xs
pub has-any : (p : ℕ) (xs : List ℕ) → list_any (λ y. eqb y p) xs ≡ has xs p
unfolding has
has-any p [] = refl
has-any p (x ∷ xs) = ap (λ (b : Bool). eqb x p || b) (has-any p xs)
