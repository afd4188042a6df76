-- THE THEOREMS: < <= == != on binary64 are what IEEE 754 says, of all operands that fit. Assumes nothing.
use mathlib.Core.Path.{◌≡◌, refl, sym, ap, ◌∙◌, subst₂}
use mathlib.Core.Logic.Iff
use mathlib.Core.Logic.{◌⊎◌, inl, inr, ◌↔◌}
use Prim.Native.Nat.{ℕ, ◌+◌, ◌*◌, ◌≤◌, ◌<◌}
use native.Mathlib.Nat.{le_of_eq, le_of_suc-le-suc, lt_of_not-le, not-le_of_lt, eq_of_mul-eq-mul_right, le_of_lt, mul-pos, mul-lt-mul_of_pos_right, lt_of_mul-lt-mul_right}
use native.Mathlib.Omega.{arith}
use mathlib.Core.Bool.{Bool, true, false, not, ◌&&◌, ◌||◌}
use lib.Dec.{T, eqb}
use lib.IntN.{ℤ}
use borrow.Author.Tests.{lt-ltb, eq-eqb, ltb-true, eqb-true}
use lib.Ieee.{Float, nan, inf, fin, binary64, up, down, below, level, lt, le, eq, ne, fits}
use lib.Ieee.Fits.{down_pos}
use Rattle.exact.specs.Value.{scale, magnitude}
use Rattle.exact.specs.Number.{◌<ₑ◌, ◌=ₑ◌, exactly}
use Rattle.exact.specs.Compared.{IsLess, IsEqual, IsUnordered}
use Rattle.exact.proofs.Ops.{scale-pos, exact, val, sgn, over-left, over-right}
use Rattle.exact.proofs.Number.{Is, is-exactly, le-of-is, is-of-le, lt-of-is, is-of-lt}

-- a / S and b / S are x / c and y / c
less : (a b c x y S : ℕ) → 0 < S → x * c ≡ a * S → y * c ≡ b * S → a < b → x < y
less a b c x y S P p q l = lt_of_mul-lt-mul_right c (subst₂ (λ (m n : ℕ). m < n) (sym p) (sym q) (mul-lt-mul_of_pos_right l P))

no_more : {a b : ℕ} → (a < b → ⊥) → b ≤ a
no_more h = le_of_suc-le-suc (lt_of_not-le h)

no : {A : Type 0} → false ≡ true → A
no e = absurd (let z : ◌≡◌ {A = ℕ} 0 1 = cc in omega arith)

-- ---- finite numbers: x and y are the magnitudes in units, and a / c and b / c the same numbers
module _ (a b c x y : ℕ) (C : 0 < c) (p : x * c ≡ a * scale) (q : y * c ≡ b * scale) where
  below_iff : (s t : Bool) → ((sgn s x).p + (sgn t y).n < (sgn t y).p + (sgn s x).n) ↔ (below s a t b ≡ true)
  below_iff false false = (λ l. lt-ltb a b (less x y scale a b c C (sym p) (sym q) (omega arith)), λ e. let l = less a b c x y scale scale-pos p q (ltb-true a b e) in omega arith)
  below_iff false true = (λ l. absurd (omega arith), no)
  below_iff true false = (
    λ l. lt-ltb 0 (a + b) (less 0 (x + y) scale 0 (a + b) c C (omega arith) (omega arith) (omega arith)),
    λ e. let l = less 0 (a + b) c 0 (x + y) scale scale-pos (omega arith) (omega arith) (ltb-true 0 (a + b) e) in omega arith,
  )
  below_iff true true = (λ l. lt-ltb b a (less y x scale b a c C (sym q) (sym p) (omega arith)), λ e. let l = less b a c y x scale scale-pos q p (ltb-true b a e) in omega arith)

  units-same : a ≡ b → x ≡ y
  units-same e = eq_of_mul-eq-mul_right c C x y (p ∙ ap (λ (z : ℕ). z * scale) e ∙ sym q)

  same_units : x ≡ y → a ≡ b
  same_units e = eq_of_mul-eq-mul_right scale scale-pos a b (sym p ∙ ap (λ (z : ℕ). z * c) e ∙ q)

  units-none : a ≡ 0 → x ≡ 0
  units-none e = eq_of_mul-eq-mul_right c C x 0 (p ∙ ap (λ (z : ℕ). z * scale) e ∙ omega arith)

  none-units : x ≡ 0 → a ≡ 0
  none-units e = eq_of_mul-eq-mul_right scale scale-pos a 0 (sym p ∙ ap (λ (z : ℕ). z * c) e ∙ omega arith)

  -- both are 0
  zeros_iff : (x + y ≡ 0) ↔ ((eqb a b && eqb a 0) ≡ true)
  zeros_iff = (λ e. rw (eq-eqb a b (same_units (omega arith)), eq-eqb a 0 (none-units (omega arith))), go (eqb a b) (eqb a 0) refl refl)
    where
      go : (r z : Bool) → eqb a b ≡ r → eqb a 0 ≡ z → (r && z) ≡ true → x + y ≡ 0
      go true true e f h = let i = units-same (eqb-true a b e) in let j = units-none (eqb-true a 0 f) in omega arith
      go true false e f h = no h
      go false z e f h = no h

  alike_iff : (x ≡ y) ↔ ((eqb a b && true) ≡ true)
  alike_iff = (λ e. rw (eq-eqb a b (same_units e)), go (eqb a b) refl)
    where
      go : (r : Bool) → eqb a b ≡ r → (r && true) ≡ true → x ≡ y
      go true e h = units-same (eqb-true a b e)
      go false e h = no h

  level_iff : (s t : Bool) → ((sgn s x).p + (sgn t y).n ≡ (sgn t y).p + (sgn s x).n) ↔ (level s a t b ≡ true)
  level_iff false false = Iff.trans (λ e. omega arith, λ e. omega arith) alike_iff
  level_iff false true = Iff.trans (λ e. omega arith, λ e. omega arith) zeros_iff
  level_iff true false = Iff.trans (λ e. omega arith, λ e. omega arith) zeros_iff
  level_iff true true = Iff.trans (λ e. omega arith, λ e. omega arith) alike_iff

module _ (s t : Bool) (m n : ℕ) (e d : ℤ) where
  x : ℕ
  x = magnitude (fin s m e)

  y : ℕ
  y = magnitude (fin t n d)

  left_is : Is (exactly (fin s m e)) (sgn s x) scale
  unfolding x val
  left_is = is-exactly (fin s m e)

  right_is : Is (exactly (fin t n d)) (sgn t y) scale
  unfolding y val
  right_is = is-exactly (fin t n d)

  less_iff : T (fits binary64 (fin s m e)) → T (fits binary64 (fin t n d)) → (exactly (fin s m e) <ₑ exactly (fin t n d)) ↔ (below s (m * up e * down d) t (n * up d * down e) ≡ true)
  unfolding x y
  less_iff F G =
      Iff.trans (is-of-lt scale-pos left_is right_is, lt-of-is scale-pos left_is right_is)
      (below_iff (m * up e * down d) (n * up d * down e) (down e * down d) x y (mul-pos (down_pos e) (down_pos d)) (over-left (m * up e) x (down e) (down d) scale (exact s m e F)) (over-right (n * up d) y (down d) (down e) scale (exact t n d G)) s t)

  -- one of the three holds
  three : ((exactly (fin s m e) <ₑ exactly (fin t n d)) → ⊥) → ((exactly (fin s m e) =ₑ exactly (fin t n d)) → ⊥) → ((exactly (fin t n d) <ₑ exactly (fin s m e)) → ⊥) → ⊥
  unfolding ◌=ₑ◌
  three f g h =
      let i : (sgn t y).p + (sgn s x).n ≤ (sgn s x).p + (sgn t y).n = no_more (λ l. f (lt-of-is scale-pos left_is right_is l)) in
      let j : (sgn s x).p + (sgn t y).n ≤ (sgn t y).p + (sgn s x).n = no_more (λ l. h (lt-of-is scale-pos right_is left_is l)) in
      g (le-of-is scale-pos left_is right_is j, le-of-is scale-pos right_is left_is i)

  -- and if it is `<`, no other
  three-alone : exactly (fin s m e) <ₑ exactly (fin t n d) → ((exactly (fin s m e) =ₑ exactly (fin t n d)) → ⊥) × ((exactly (fin t n d) <ₑ exactly (fin s m e)) → ⊥)
  unfolding ◌=ₑ◌
  three-alone l =
      let i = is-of-lt scale-pos left_is right_is l in
      (λ h. not-le_of_lt i (is-of-le scale-pos right_is left_is h.1), λ h. not-le_of_lt i (le_of_lt (is-of-lt scale-pos right_is left_is h)))

  equal_iff : T (fits binary64 (fin s m e)) → T (fits binary64 (fin t n d)) → (exactly (fin s m e) =ₑ exactly (fin t n d)) ↔ (level s (m * up e * down d) t (n * up d * down e) ≡ true)
  unfolding x y ◌=ₑ◌
  equal_iff F G =
      Iff.trans (λ h. same (is-of-le scale-pos left_is right_is h.0) (is-of-le scale-pos right_is left_is h.1), λ h. (le-of-is scale-pos left_is right_is (le_of_eq h), le-of-is scale-pos right_is left_is (le_of_eq (sym h))))
      (level_iff (m * up e * down d) (n * up d * down e) (down e * down d) x y (mul-pos (down_pos e) (down_pos d)) (over-left (m * up e) x (down e) (down d) scale (exact s m e F)) (over-right (n * up d) y (down d) (down e) scale (exact t n d G)) s t)
    where
      same : {a b : ℕ} → a ≤ b → b ≤ a → a ≡ b
      same {a} {b} h k = omega arith

-- ---- the theorems
never : ⊥ ↔ (false ≡ true)
never = (λ h. absurd h, no)

pub lt-is : (x y : Float) → T (fits binary64 x) → T (fits binary64 y) → IsLess x y ↔ (lt x y ≡ true)
unfolding lt
lt-is nan y F G = never
lt-is (inf s) nan F G = never
lt-is (inf true) (inf true) F G = (λ h. sym h.1, no)
lt-is (inf true) (inf false) F G = (λ h. refl, λ h. (refl, refl))
lt-is (inf false) (inf t) F G = (λ h. h.0, no)
lt-is (inf s) (fin t n d) F G = Iff.rfl
lt-is (fin s m e) nan F G = never
lt-is (fin s m e) (inf true) F G = (sym, sym)
lt-is (fin s m e) (inf false) F G = (λ h. refl, λ h. refl)
lt-is (fin s m e) (fin t n d) F G = less_iff s t m n e d F G

pub eq_is : (x y : Float) → T (fits binary64 x) → T (fits binary64 y) → IsEqual x y ↔ (eq x y ≡ true)
unfolding eq
eq_is nan y F G = never
eq_is (inf s) nan F G = never
eq_is (inf true) (inf true) F G = (λ h. refl, λ h. refl)
eq_is (inf true) (inf false) F G = (sym, sym)
eq_is (inf false) (inf true) F G = Iff.rfl
eq_is (inf false) (inf false) F G = (λ h. refl, λ h. refl)
eq_is (inf s) (fin t n d) F G = never
eq_is (fin s m e) nan F G = never
eq_is (fin s m e) (inf t) F G = never
eq_is (fin s m e) (fin t n d) F G = equal_iff s t m n e d F G

pub le_is : (x y : Float) → T (fits binary64 x) → T (fits binary64 y) → (IsLess x y ⊎ IsEqual x y) ↔ (le x y ≡ true)
unfolding le
le_is x y F G = (onto, back (lt x y) (eq x y) (lt-is x y F G).1 (eq_is x y F G).1)
  where
    onto : IsLess x y ⊎ IsEqual x y → (lt x y || eq x y) ≡ true
    onto (inl h) = rw ((lt-is x y F G).0 h)
    onto (inr h) = go (lt x y) (eq x y) ((eq_is x y F G).0 h)
      where
        go : (p q : Bool) → q ≡ true → (p || q) ≡ true
        go true q h = refl
        go false q h = h

    back : (p q : Bool) → (p ≡ true → IsLess x y) → (q ≡ true → IsEqual x y) → (p || q) ≡ true → IsLess x y ⊎ IsEqual x y
    back true q f g h = inl (f refl)
    back false q f g h = inr (g h)

pub ne-is : (x y : Float) → T (fits binary64 x) → T (fits binary64 y) → (IsEqual x y → ⊥) ↔ (ne x y ≡ true)
unfolding ne
ne-is x y F G = go (eq x y) (eq_is x y F G)
  where
    go : (p : Bool) → IsEqual x y ↔ (p ≡ true) → (IsEqual x y → ⊥) ↔ (not p ≡ true)
    go true i = (λ h. absurd (h (i.1 refl)), no)
    go false i = (λ h. refl, λ h k. no (i.0 k))

-- two floats are unordered just where neither is less and they are not equal
pub record Apart (x y : Float) : Type 0 where
  pub not-less : IsLess x y → ⊥
  pub not_equal : IsEqual x y → ⊥
  pub not_greater : IsLess y x → ⊥

with-nan : (x : Float) → Apart x nan
with-nan nan = record { not-less = λ h. h; not_equal = λ h. h; not_greater = λ h. h }
with-nan (inf s) = record { not-less = λ h. h; not_equal = λ h. h; not_greater = λ h. h }
with-nan (fin s m e) = record { not-less = λ h. h; not_equal = λ h. h; not_greater = λ h. h }

nan-with : (y : Float) → Apart nan y
nan-with nan = record { not-less = λ h. h; not_equal = λ h. h; not_greater = λ h. h }
nan-with (inf s) = record { not-less = λ h. h; not_equal = λ h. h; not_greater = λ h. h }
nan-with (fin s m e) = record { not-less = λ h. h; not_equal = λ h. h; not_greater = λ h. h }

unordered : (x y : Float) → Apart x y → IsUnordered x y
unordered nan y h = inl refl
unordered (inf s) nan h = inr refl
unordered (inf true) (inf true) h = absurd (h.not_equal refl)
unordered (inf true) (inf false) h = absurd (h.not-less (refl, refl))
unordered (inf false) (inf true) h = absurd (h.not_greater (refl, refl))
unordered (inf false) (inf false) h = absurd (h.not_equal refl)
unordered (inf true) (fin t n d) h = absurd (h.not-less refl)
unordered (inf false) (fin t n d) h = absurd (h.not_greater refl)
unordered (fin s m e) nan h = inr refl
unordered (fin s m e) (inf true) h = absurd (h.not_greater refl)
unordered (fin s m e) (inf false) h = absurd (h.not-less refl)
unordered (fin s m e) (fin t n d) h = absurd (three s t m n e d h.not-less h.not_equal h.not_greater)

pub unordered-is : (x y : Float) → IsUnordered x y ↔ Apart x y
unordered-is x y = (go, unordered x y)
  where
    go : IsUnordered x y → Apart x y
    go (inl e) = rw e (nan-with y)
    go (inr e) = rw e (with-nan x)

-- what is less is not equal, and not greater
pub less-alone : (x y : Float) → IsLess x y → (IsEqual x y → ⊥) × (IsLess y x → ⊥)
less-alone nan y h = absurd h
less-alone (inf s) nan h = absurd h
less-alone (inf s) (inf t) h = (λ e. no (sym h.1 ∙ sym e ∙ h.0), λ k. no (sym k.1 ∙ h.0))
less-alone (inf s) (fin t n d) h = (λ e. e, λ k. no (sym k ∙ h))
less-alone (fin s m e) nan h = absurd h
less-alone (fin s m e) (inf t) h = (λ e. e, λ k. no (sym h ∙ k))
less-alone (fin s m e) (fin t n d) h = three-alone s t m n e d h
