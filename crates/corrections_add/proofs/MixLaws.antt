-- The last of a table's first samples with the first of sorted new ones: an old one, or a new one. Assumes nothing.
use mathlib.Core.Path.{◌≡◌, refl, ap, ◌∙◌}
use mathlib.Core.List.{List, [], ◌∷◌, ◌++◌}
use mathlib.Core.Bool.{Bool, true, not}
use Prim.Native.Nat.{ℕ, suc, ◌+◌, ◌-◌, ◌≤◌, ◌<◌}
use native.Mathlib.Omega.{arith}
use lib.ListN.{length, get_or, take}
use lib.Seq.{get_or-take, length-take-le, take-suc}
use Rattle.lists.specs.Walk.{every}
use Rattle.corrections_table.specs.Table.{blank, stands_before}
use Rattle.corrections_table.specs.Add.{insert, insert_all}
use Rattle.corrections_table.specs.declared.sample.Sample.{Sample}
use Rattle.corrections_table.proofs.TableLaws.{rises-at}
use Rattle.corrections_table.proofs.Places.{place_of, rises}
use Rattle.corrections_table.proofs.SeriesLaws.{insert_all-append}
use Rattle.corrections_table.proofs.InsertLaws.{insert_all-length}
use Rattle.corrections_add.proofs.SortLaws.{before-lt, lt-before, le-before, every-all, every-insert_all, insert_all-left, insert-end}

-- the first i samples of a table with the first j of new ones
abbrev pub mixed : List Sample → List Sample → ℕ → ℕ → List Sample
mixed t u i j = insert_all (take i t) (take j u)

-- of the first samples of a sorted list none has a higher place than the last of them
upto : (q : Sample → Bool) (l : List Sample) (i : ℕ) (p : ℕ) → rises 0 l ≡ true → i ≤ length l → (0 < i → place_of (get_or l (i - 1) blank) ≤ p) → ((a : Sample) → place_of a ≤ p → q a ≡ true) → every q (take i l) ≡ true
upto q l i p r h k f =
    every-all q (take i l)
    (λ x m.
    let e : x < i = omega (arith, length-take-le i l h) in
    rw (get_or-take i l x blank e) (f (get_or l x blank) (native.Mathlib.Nat.le_trans (rises-at 0 l x (i - 1) r (omega arith) (omega arith)) (k (omega arith)))))

module _ (t u : List Sample) (rt : rises 0 t ≡ true) (ru : rises 0 u ≡ true) (i j : ℕ) where
  -- the last old one, which the last new one stands before
  pub mixed-old : i < length t → j ≤ length u → 0 < j → stands_before (get_or u (j - 1) blank) (get_or t i blank) ≡ true → mixed t u (suc i) j ≡ mixed t u i j ++ (get_or t i blank ∷ [])
  mixed-old h k l e =
      let a = get_or t i blank in
      ap (λ (m : List Sample). insert_all m (take j u)) (take-suc t i blank h)
      ∙ insert_all-left (take i t) (a ∷ []) (take j u)
      (upto (λ s. every (stands_before s) (a ∷ [])) u j (place_of (get_or u (j - 1) blank)) ru k (λ z. native.Mathlib.Nat.le_refl (place_of (get_or u (j - 1) blank))) (λ s z. one s (lt-before s a (native.Mathlib.Nat.lt_of_le_of_lt z (before-lt (get_or u (j - 1) blank) a e)))))
    where
      one : (s : Sample) → stands_before s (get_or t i blank) ≡ true → every (stands_before s) (get_or t i blank ∷ []) ≡ true
      one s q = unfold every in rw q

  -- the last new one, which stands before no old one
  pub mixed-new : i ≤ length t → j < length u → (0 < i → place_of (get_or t (i - 1) blank) ≤ place_of (get_or u j blank)) → mixed t u i (suc j) ≡ mixed t u i j ++ (get_or u j blank ∷ [])
  mixed-new h k e =
      let s = get_or u j blank in
      ap (insert_all (take i t)) (take-suc u j blank k)
      ∙ insert_all-append (take i t) (take j u) (s ∷ [])
      ∙ last (insert_all (take i t) (take j u)) s
      ∙ insert-end s (insert_all (take i t) (take j u))
      (every-insert_all (λ a. not (stands_before s a)) (take i t) (take j u)
      (upto (λ a. not (stands_before s a)) t i (place_of s) rt h e (λ a z. none s a z))
      (upto (λ a. not (stands_before s a)) u j (place_of s) ru (native.Mathlib.Nat.le_of_lt k) (λ z. rises-at 0 u (j - 1) j ru (omega arith) k) (λ a z. none s a z)))
    where
      last : (m : List Sample) (s : Sample) → insert_all m (s ∷ []) ≡ insert s m
      last m s = unfold insert_all in refl

      none : (s a : Sample) → place_of a ≤ place_of s → not (stands_before s a) ≡ true
      none s a z = rw (le-before s a z)

pub mixed-length : (t u : List Sample) (i j : ℕ) → i ≤ length t → j ≤ length u → length (mixed t u i j) ≡ i + j
mixed-length t u i j h k = insert_all-length (take i t) (take j u) ∙ rw (length-take-le i t h, length-take-le j u k)

pub mixed-none : (t u : List Sample) (i : ℕ) → mixed t u i 0 ≡ take i t
unfolding insert_all
mixed-none t u i = refl
