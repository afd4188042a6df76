-- A number that is printed in decimal is read again. Assumes nothing.
use mathlib.Core.Path.{◌≡◌, refl, sym, ap, subst, ◌∙◌}
use mathlib.Core.Bool.{Bool, true, false, cond, not}
use mathlib.Core.List.{List, [], ◌∷◌, ◌++◌}
use Prim.Native.Nat.{ℕ, zero, suc, ◌+◌, ◌-◌, ◌*◌, ◌/◌, ◌%◌, ◌^◌, ◌<◌}
use native.Mathlib.Omega.{arith}
use lib.Dec.{T, eqb, ltb}
use borrow.Author.Tests.{lt-ltb, ltb-true, ltb-false, le-leb, ne_eqb}
use Rattle.lists.specs.Walk.{every}
use Rattle.line_form.specs.Field.{is_digit, decimal_value, plain, is_number, number}
use Rattle.line_form.specs.Print.{glyph, digits_text, digit_count, decimal_text}
use Rattle.line_form.proofs.FloatLaws.{every_append}

-- ---- one digit

glyph-below-ten : (d : ℕ) → d < 10 → glyph d ≡ 48 + d
glyph-below-ten d l = ap (λ (t : Bool). cond t (48 + d) (55 + d)) (lt-ltb d 10 l)

glyph-digit : (d : ℕ) → d < 10 → is_digit (glyph d) ≡ true
glyph-digit d l = ap is_digit (glyph-below-ten d l) ∙ simp (le-leb 48 (48 + d) (omega arith), le-leb (48 + d) 57 (omega arith))

-- ---- all digits

decimal-append : (n : ℕ) (s : List ℕ) (b : ℕ) → decimal_value n (s ++ (b ∷ [])) ≡ decimal_value n s * 10 + (b - 48)
unfolding decimal_value
decimal-append n [] b = refl
decimal-append n (x ∷ s) b = decimal-append (n * 10 + (x - 48)) s b

digits_value : (k n : ℕ) → n < 10 ^ k → decimal_value 0 (digits_text 10 k n) ≡ n
unfolding digits_text decimal_value
digits_value zero n l = omega arith
digits_value (suc k) n l =
    let m : n / 10 < 10 ^ k = omega arith in decimal-append 0 (digits_text 10 k (n / 10)) (glyph (n % 10))
    ∙ (let e = digits_value k (n / 10) m in let g = glyph-below-ten (n % 10) (omega arith) in omega (arith, e, g))

digits-digits : (k n : ℕ) → every is_digit (digits_text 10 k n) ≡ true
unfolding digits_text every
digits-digits zero n = refl
digits-digits (suc k) n = every_append is_digit (digits_text 10 k (n / 10)) (glyph (n % 10)) (digits-digits k (n / 10)) (glyph-digit (n % 10) (omega arith))

-- ---- as many digits as the number has

places-enough : (f n : ℕ) → n < 10 ^ suc f → n < 10 ^ digit_count f n
unfolding digit_count
places-enough zero n l = l
places-enough (suc f) n l = go (ltb n 10) refl (places-enough f (n / 10) (omega arith))
  where
    go : (t : Bool) → ltb n 10 ≡ t → n / 10 < 10 ^ digit_count f (n / 10) → n < 10 ^ cond t 1 (suc (digit_count f (n / 10)))
    go true e h = omega (arith, ltb-true n 10 e)
    go false e h = let w : n < 10 ^ suc (digit_count f (n / 10)) = omega arith in w

-- the first byte is there and is no 0 (48)
abbrev leads : List ℕ → Bool
leads [] = false
leads (b ∷ s) = not (eqb b 48)

leads-append : (s t : List ℕ) → leads s ≡ true → leads (s ++ t) ≡ true
leads-append [] t e = absurd (subst T (sym e) tt)
leads-append (b ∷ s) t e = e

leads-plain : (s : List ℕ) → leads s ≡ true → plain s ≡ true
unfolding plain
leads-plain [] e = e
leads-plain (b ∷ []) e = refl
leads-plain (b ∷ (c ∷ s)) e = e

one : (n : ℕ) → 0 < n → n < 10 → leads (digits_text 10 1 n) ≡ true
unfolding digits_text
one n h l =
    let r : n % 10 ≡ n = omega arith in
    let g : glyph (n % 10) ≡ 48 + n = ap glyph r ∙ glyph-below-ten n l in
    ap (λ (b : ℕ). not (eqb b 48)) g ∙ ap not (ne_eqb (48 + n) 48 (λ e. omega (arith, e)))

digits-lead : (f n : ℕ) → 0 < n → n < 10 ^ suc f → leads (digits_text 10 (digit_count f n) n) ≡ true
unfolding digit_count digits_text
digits-lead zero n h l = one n h (omega arith)
digits-lead (suc f) n h l = go (ltb n 10) refl (λ m. digits-lead f (n / 10) m (omega arith))
  where
    go : (t : Bool) → ltb n 10 ≡ t → (0 < n / 10 → leads (digits_text 10 (digit_count f (n / 10)) (n / 10)) ≡ true) → leads (digits_text 10 (cond t 1 (suc (digit_count f (n / 10)))) n) ≡ true
    go true e q = one n h (ltb-true n 10 e)
    go false e q =
        let m = ltb-false n 10 e in leads-append (digits_text 10 (digit_count f (n / 10)) (n / 10)) (glyph (n % 10) ∷ []) (q (omega arith))

digits-plain : (n : ℕ) → n < 10 ^ 21 → plain (decimal_text n) ≡ true
unfolding digit_count digits_text plain
digits-plain zero l = refl
digits-plain (suc n) l = leads-plain (decimal_text (suc n)) (digits-lead 20 (suc n) (omega arith) l)

-- ---- what is printed is read again

pub printed-number : (limit n : ℕ) → n < limit → n < 2 ^ 64 → is_number limit (decimal_text n) ≡ true
unfolding is_number
printed-number limit n l h =
    let w : n < 10 ^ 21 = omega arith in
    let v = digits_value (digit_count 20 n) n (places-enough 20 n w) in
    simp (digits-plain n w, digits-digits (digit_count 20 n) n, v, lt-ltb n limit l)

pub number-again : (limit n : ℕ) → n < limit → n < 2 ^ 64 → number limit (decimal_text n) ≡ n
unfolding number
number-again limit n l h =
    let w : n < 10 ^ 21 = omega arith in
    ap (λ (t : Bool). cond t (decimal_value 0 (decimal_text n)) 0) (printed-number limit n l h) ∙ digits_value (digit_count 20 n) n (places-enough 20 n w)
