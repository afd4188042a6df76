-- A fit as a list: its length, its places, and a list that holds it. Assumes nothing.
use mathlib.Core.Path.{◌≡◌, refl, sym, ◌∙◌, ap}
use mathlib.Core.Bool.{true}
use mathlib.Core.Logic.{⊎_elim}
use mathlib.Core.List.{List, [], ◌∷◌, ◌++◌, map}
use Prim.Native.Nat.{ℕ, zero, suc, ◌+◌, ◌-◌, ◌*◌, ◌/◌, ◌%◌, ◌≤◌, ◌<◌}
use native.Mathlib.Nat.{eq-or-lt_of_le}
use native.Mathlib.Decide.{dec_lt}
use native.Mathlib.Omega.{arith}
use lib.ListN.{length, get_or, drop, length-append, length-drop, get_or-append}
use lib.Seq.{get_or-append-add, get_or-drop, ext_get_or}
use lib.Ieee.{Float, nan}
use lib.Ieee.Scale.{finite}
use Rattle.numeric.specs.Order.{pattern_of}
use Rattle.track_tridiagonal.specs.Rows.{SameOutside}
use Rattle.track_tridiagonal.proofs.Cells.{place}
use Rattle.track_pass.specs.Steps.{Tabulated}
use Rattle.track_smooth.specs.Track.{points}

float_at : (xs : List Float) (i k : ℕ) → i ≡ k → get_or xs i nan ≡ get_or xs k nan
float_at xs i k e = ap (λ (j : ℕ). get_or xs j nan) e

map-length : (xs : List Float) → length (map pattern_of xs) ≡ length xs
map-length [] = refl
map-length (x ∷ xs) = ap suc (map-length xs)

map_at : (xs : List Float) (k : ℕ) → k < length xs → get_or (map pattern_of xs) k 0 ≡ pattern_of (get_or xs k nan)
map_at [] k h = absurd (omega arith)
map_at (x ∷ xs) zero h = refl
map_at (x ∷ xs) (suc k) h = map_at xs k (omega arith)

pub points-length : (f : ℕ → ℕ → Float) (n : ℕ) → length (points f n) ≡ n * 3
unfolding points
points-length f zero = refl
points-length f (suc n) = length-append (points f n) (f 0 n ∷ f 1 n ∷ f 2 n ∷ []) ∙ omega (arith, points-length f n)

-- coordinate t of epoch k
module _ (f : ℕ → ℕ → Float) (t : ℕ) (low : t < 3) where
  pub points-at : (n k : ℕ) → k < n → get_or (points f n) (k * 3 + t) nan ≡ f t k
  unfolding points
  points-at zero k h = absurd (omega arith)
  points-at (suc n) k h = ⊎_elim
      (λ e. let g : k ≡ n = omega arith in
      float_at (points f n ++ last n) (k * 3 + t) (length (points f n) + t) (omega (arith, points-length f n))
      ∙ get_or-append-add (points f n) (last n) t nan ∙ third t n low ∙ ap (f t) (sym g))
      (λ l. get_or-append (points f n) (last n) nan (k * 3 + t) (omega (arith, points-length f n)) ∙ points-at n k (omega arith))
      (eq-or-lt_of_le h)
    where
      last : ℕ → List Float
      last n = f 0 n ∷ f 1 n ∷ f 2 n ∷ []

      third : (t n : ℕ) → t < 3 → get_or (last n) t nan ≡ f t n
      third zero n l = refl
      third (suc zero) n l = refl
      third (suc (suc zero)) n l = refl
      third (suc (suc (suc t))) n l = absurd (omega arith)

-- every place of the list is a coordinate
pub points-finite : (f : ℕ → ℕ → Float) (n : ℕ) → ((t : ℕ) → t < 3 → (k : ℕ) → k < n → finite (f t k) ≡ true) → (j : ℕ) → j < length (points f n) → finite (get_or (points f n) j nan) ≡ true
points-finite f n h j l = go (j % 3) (j / 3) (omega arith) (omega arith)
  where
    go : (t q : ℕ) → t < 3 → j ≡ q * 3 + t → finite (get_or (points f n) j nan) ≡ true
    go t q g e = ap finite (float_at (points f n) j (q * 3 + t) e ∙ points-at f t g n q (omega (arith, points-length f n))) ∙ h t g q (omega (arith, points-length f n))

module _ (r r' : List ℕ) (n : ℕ) (f : ℕ → ℕ → Float) (long : length r' ≡ length r) (room : n * 3 ≤ length r) (s : Tabulated r' n f) (kept : SameOutside 0 (n * 3) r r') where
  in_list : (j : ℕ) → j < n * 3 → get_or r' j 0 ≡ pattern_of (get_or (points f n) j nan)
  in_list j l = go (j % 3) (j / 3) (omega arith) (omega arith)
    where
      held : (t q : ℕ) → t < 3 → q < n → get_or r' (q * 3 + t) 0 ≡ pattern_of (f t q)
      held zero q g h = place r' (q * 3 + 0) (q * 3) (omega arith) ∙ s.xs q h
      held (suc zero) q g h = s.ys q h
      held (suc (suc zero)) q g h = s.zs q h
      held (suc (suc (suc t))) q g h = absurd (omega arith)

      go : (t q : ℕ) → t < 3 → j ≡ q * 3 + t → get_or r' j 0 ≡ pattern_of (get_or (points f n) j nan)
      go t q g e = place r' j (q * 3 + t) e ∙ held t q g (omega arith) ∙ ap pattern_of (sym (float_at (points f n) j (q * 3 + t) e ∙ points-at f t g n q (omega arith)))

  pub points-list : r' ≡ map pattern_of (points f n) ++ drop (length (points f n)) r
  points-list =
      let ps = map pattern_of (points f n) in
      let rest = drop (length (points f n)) r in
      ext_get_or 0 r' (ps ++ rest) same at
    where
      whole_length : length (map pattern_of (points f n)) ≡ n * 3
      whole_length = map-length (points f n) ∙ points-length f n

      same : length r' ≡ length (map pattern_of (points f n) ++ drop (length (points f n)) r)
      same = long ∙ sym (length-append (map pattern_of (points f n)) (drop (length (points f n)) r) ∙ omega (arith, whole_length, points-length f n, length-drop (length (points f n)) r))

      at : (k : ℕ) → k < length r' → get_or r' k 0 ≡ get_or (map pattern_of (points f n) ++ drop (length (points f n)) r) k 0
      at k l = go (dec_lt k (n * 3))
        where
          go : Dec (k < n * 3) → get_or r' k 0 ≡ get_or (map pattern_of (points f n) ++ drop (length (points f n)) r) k 0
          go (yes h) = in_list k h ∙ sym (get_or-append (map pattern_of (points f n)) (drop (length (points f n)) r) 0 k (omega (arith, whole_length)) ∙ map_at (points f n) k (omega (arith, points-length f n)))
          go (no m) =
              let h : n * 3 ≤ k = omega arith in
              kept.high k h
              ∙ sym (place (map pattern_of (points f n) ++ drop (length (points f n)) r) k (length (map pattern_of (points f n)) + (k - n * 3)) (omega (arith, whole_length))
              ∙ get_or-append-add (map pattern_of (points f n)) (drop (length (points f n)) r) (k - n * 3) 0 ∙ get_or-drop (length (points f n)) r (k - n * 3) 0
              ∙ place r (length (points f n) + (k - n * 3)) k (omega (arith, points-length f n)))
