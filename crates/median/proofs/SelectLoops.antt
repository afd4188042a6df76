-- What the loops over the first numbers of an array ask. Assumes nothing.
use Prim.Native.Nat.{ℕ, suc, ◌+◌, ◌≤◌, ◌<◌}
use native.Mathlib.Omega.{arith}
use native.Mathlib.Numerals.{add-one}
use mathlib.Core.Path.{◌≡◌, refl, sym, ap, ◌∙◌}
use mathlib.Core.Bool.{Bool, true, false, beq}
use mathlib.Core.List.{List, [], ◌∷◌, ◌++◌, append-nil, map}
use lib.ListN.{get_or, set, take, drop, length, length-append, length-set}
use lib.Seq.{take-length, take-suc, take-suc-set, take-set-le, drop-cons, drop-set-lt}
use Rattle.exact.specs.Pattern.{sign}
use Rattle.median.specs.Steps.{in_front, passing, without_sign, of_sign, Front}

kept-snoc : (test : ℕ → Bool) (l : List ℕ) (x : ℕ) → passing test (l ++ (x ∷ [])) ≡ passing test l ++ in_front (test x) x []
unfolding passing
kept-snoc test [] x = refl
kept-snoc test (y ∷ ys) x = rw (kept-snoc test ys x) (go (test y))
  where
    go : (b : Bool) → in_front b y (passing test ys ++ in_front (test x) x []) ≡ in_front b y (passing test ys) ++ in_front (test x) x []
    go true = refl
    go false = refl

-- ---- counting what passes the test

pub passed_none : (test : ℕ → Bool) (k : List ℕ) → 0 ≡ length (passing test (take 0 k))
unfolding passing
passed_none test k = refl

module _ (test : ℕ → Bool) (k : List ℕ) (j : ℕ) (h : j < length k) where
  pub passed-yes : test (get_or k j 0) ≡ true → length (passing test (take (j + 1) k)) ≡ length (passing test (take j k)) + 1
  passed-yes e = rw (add-one j, take-suc k j 0 h, kept-snoc, e) (length-append (passing test (take j k)) (get_or k j 0 ∷ []))

  pub passed-no : test (get_or k j 0) ≡ false → length (passing test (take (j + 1) k)) ≡ length (passing test (take j k))
  passed-no e = rw (add-one, take-suc k j 0 h, kept-snoc, e, append-nil)

-- ---- moving what passes the test to the front

-- the first j of a are looked at, and those of them that pass are the first w of b
pub record Keeping (test : ℕ → Bool) (a : List ℕ) (j w : ℕ) (b : List ℕ) : Type 0 where
  pub few : w ≤ j
  pub long : length b ≡ length a
  pub rest : drop j b ≡ drop j a
  pub done : take w b ≡ passing test (take j a)

pub keeping_none : (test : ℕ → Bool) (a : List ℕ) → Keeping test a 0 0 a
unfolding passing
keeping_none test a = record { few = omega arith; long = refl; rest = refl; done = refl }

module _ (test : ℕ → Bool) (a : List ℕ) (j w : ℕ) (b : List ℕ) (i : j < length a) (h : Keeping test a j w b) where
  both : get_or b j 0 ∷ drop (suc j) b ≡ get_or a j 0 ∷ drop (suc j) a
  both = sym (drop-cons b j 0 (omega (arith, h.long))) ∙ h.rest ∙ drop-cons a j 0 i

  here : get_or b j 0 ≡ get_or a j 0
  here = let e = both in cc

  after : drop (j + 1) (set b w (get_or b j 0)) ≡ drop (j + 1) a
  after = let e = both in rw add-one (drop-set-lt (suc j) b w (get_or b j 0) (omega (arith, h.few)) ∙ cc)

  next : passing test (take (j + 1) a) ≡ passing test (take j a) ++ in_front (test (get_or b j 0)) (get_or b j 0) []
  next = rw (add-one, take-suc a j 0 i, kept-snoc, here)

  pub keep-yes : test (get_or b j 0) ≡ true → Keeping test a (j + 1) (w + 1) (set b w (get_or b j 0))
  keep-yes e = record {
    few = omega (arith, h.few);
    long = length-set b w (get_or b j 0) ∙ h.long;
    rest = after;
    done = rw (next, e, ← h.done, add-one w) (take-suc-set b w (get_or b j 0) (omega (arith, h.few, h.long)));
  }

  pub keep-no : test (get_or b j 0) ≡ false → Keeping test a (j + 1) w (set b w (get_or b j 0))
  keep-no e = record {
    few = omega (arith, h.few);
    long = length-set b w (get_or b j 0) ∙ h.long;
    rest = after;
    done = rw (next, e, ← h.done, append-nil) (take-set-le w b w (get_or b j 0) (omega arith));
  }

pub keeping_all : (test : ℕ → Bool) (a : List ℕ) (n w : ℕ) (b : List ℕ) → n ≤ 64 → length a ≡ 64 → Keeping test a n w b → Front (passing test (take n a)) w b
keeping_all test a n w b r l h = record { long = h.long ∙ l; few = omega (arith, h.few); is = h.done }

-- ---- collecting the patterns of one sign

of_sign-snoc : (s : Bool) (l : List ℕ) (x : ℕ) → of_sign s (l ++ (x ∷ [])) ≡ of_sign s l ++ in_front (beq (sign x) s) (without_sign x) []
unfolding of_sign
of_sign-snoc s [] x = refl
of_sign-snoc s (y ∷ ys) x = rw (of_sign-snoc s ys x) (go (beq (sign y) s))
  where
    go : (b : Bool) → in_front b (without_sign y) (of_sign s ys ++ in_front (beq (sign x) s) (without_sign x) []) ≡ in_front b (without_sign y) (of_sign s ys) ++ in_front (beq (sign x) s) (without_sign x) []
    go true = refl
    go false = refl

-- the first j of a are looked at, and those of them that have the sign s are, without it, the first w of b
pub record Parting (s : Bool) (a : List ℕ) (j w : ℕ) (b : List ℕ) : Type 0 where
  pub few : w ≤ j
  pub long : length b ≡ 64
  pub done : take w b ≡ of_sign s (take j a)

pub parting_none : (s : Bool) (a b : List ℕ) → length b ≡ 64 → Parting s a 0 0 b
unfolding of_sign
parting_none s a b h = record { few = omega arith; long = h; done = refl }

module _ (s : Bool) (a : List ℕ) (j w : ℕ) (b : List ℕ) (i : j < length a) (few : length a ≤ 64) (h : Parting s a j w b) where
  next-part : of_sign s (take (j + 1) a) ≡ of_sign s (take j a) ++ in_front (beq (sign (get_or a j 0)) s) (without_sign (get_or a j 0)) []
  next-part = rw (add-one, take-suc a j 0 i, of_sign-snoc)

  pub part-yes : beq (sign (get_or a j 0)) s ≡ true → Parting s a (j + 1) (w + 1) (set b w (without_sign (get_or a j 0)))
  part-yes e = record {
    few = omega (arith, h.few);
    long = length-set b w (without_sign (get_or a j 0)) ∙ h.long;
    done = rw (next-part, e, ← h.done, add-one w) (take-suc-set b w (without_sign (get_or a j 0)) (omega (arith, h.few, h.long)));
  }

  pub part_no : beq (sign (get_or a j 0)) s ≡ false → Parting s a (j + 1) w (set b w (without_sign (get_or a j 0)))
  part_no e = record {
    few = omega (arith, h.few);
    long = length-set b w (without_sign (get_or a j 0)) ∙ h.long;
    done = rw (next-part, e, ← h.done, append-nil) (take-set-le w b w (without_sign (get_or a j 0)) (omega arith));
  }

pub parting_all : (s : Bool) (a : List ℕ) (j w : ℕ) (b : List ℕ) → length a ≤ 64 → j ≡ length a → Parting s a j w b → Front (of_sign s a) w b
parting_all s a j w b n e h = record { long = h.long; few = omega (arith, h.few); is = h.done ∙ ap (λ (i : ℕ). of_sign s (take i a)) e ∙ ap (of_sign s) (take-length a) }

-- ---- one element of a list after another through f

map_snoc : (f : ℕ → ℕ) (l : List ℕ) (x : ℕ) → map f (l ++ (x ∷ [])) ≡ map f l ++ (f x ∷ [])
map_snoc f [] x = refl
map_snoc f (y ∷ ys) x = ap (λ (r : List ℕ). f y ∷ r) (map_snoc f ys x)

pub map_next : (f : ℕ → ℕ) (i : ℕ) (a k : List ℕ) → i < length a → i < length k → take i k ≡ map f (take i a)
    → take (i + 1) (set k i (f (get_or a i 0))) ≡ map f (take (i + 1) a)
map_next f i a k h g e = rw (add-one, take-suc-set k i (f (get_or a i 0)) g, take-suc a i 0 h, map_snoc, e)

pub map-all : (f : ℕ → ℕ) (i : ℕ) (a k : List ℕ) → i ≡ length a → take i k ≡ map f (take i a) → take (length a) k ≡ map f a
map-all f i a k e h = ap (λ (n : ℕ). take n k) (sym e) ∙ h ∙ ap (λ (n : ℕ). map f (take n a)) e ∙ ap (map f) (take-length a)
