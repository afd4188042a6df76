-- The order by the cases of two patterns: what a class says of a pattern without its sign, and the order of like and of unlike signs. Assumes nothing.
use Prim.Native.Nat.{ℕ, ◌+◌, ◌/◌, ◌%◌, ◌^◌, ◌≤◌, ◌<◌}
use native.Mathlib.Omega.{arith}
use mathlib.Core.Path.{◌≡◌, refl, sym, subst, ◌∙◌}
use mathlib.Core.Bool.{Bool, true, false, cond, ◌&&◌, ◌||◌}
use lib.Dec.{leb, ltb, eqb}
use borrow.Author.Tests.{lt-ltb, le-ltb, le-leb, lt-leb, eq-eqb, ne_eqb, leb-true, leb-false, eqb-true, eqb-false}
use Rattle.exact.specs.Pattern.{sign, exponent, digits}
use Rattle.numeric.specs.Order.{is_quiet, payload, sign_of, class_of, total_order}
use Rattle.numeric.specs.declared.order.Sign.TheVariants.{Minus, Plus}
use Rattle.numeric.specs.declared.order.Class.{Class}
use Rattle.numeric.specs.declared.order.Class.TheVariants.{Zero, Number, Infinity, Signaling, Quiet}
use Rattle.numeric.proofs.OrderMagnitude.{unsigned, infinity}
use Rattle.numeric.proofs.OrderLaws.{leb-same, total_order-ordered}

-- ---- classes

-- where the patterns of a class lie, without their signs
abbrev pub Within : Class → ℕ → Type 0
Within Zero m = m ≡ 0
Within Number m = (0 < m) × (m < infinity)
Within Infinity m = m ≡ infinity
Within Signaling m = (infinity < m) × (m < infinity + 2 ^ 51)
Within Quiet m = infinity + 2 ^ 51 ≤ m

within-class : (b : ℕ) → Within (class_of b) (unsigned b)
unfolding class_of exponent digits is_quiet
within-class b = go (eqb (b / 2 ^ 52 % 2 ^ 11) 0) (eqb (b % 2 ^ 52) 0) (eqb (b / 2 ^ 52 % 2 ^ 11) 0x7FF) (leb (2 ^ 51) (b % 2 ^ 52)) refl refl refl refl
  where
    go : (p q r s : Bool) → eqb (b / 2 ^ 52 % 2 ^ 11) 0 ≡ p → eqb (b % 2 ^ 52) 0 ≡ q → eqb (b / 2 ^ 52 % 2 ^ 11) 0x7FF ≡ r → leb (2 ^ 51) (b % 2 ^ 52) ≡ s
        → Within (cond p (cond q Zero Number) (cond r (cond q Infinity (cond s Quiet Signaling)) Number)) (unsigned b)
    go true true r s e f g h =
        let x : b / 2 ^ 52 % 2 ^ 11 ≡ 0 = eqb-true _ _ e in
        let d : b % 2 ^ 52 ≡ 0 = eqb-true _ _ f in
        omega arith
    go true false r s e f g h =
        let x : b / 2 ^ 52 % 2 ^ 11 ≡ 0 = eqb-true _ _ e in
        let d : b % 2 ^ 52 ≡ 0 → ⊥ = eqb-false _ _ f in
        (omega arith, omega arith)
    go false true true s e f g h =
        let x : b / 2 ^ 52 % 2 ^ 11 ≡ 0x7FF = eqb-true _ _ g in
        let d : b % 2 ^ 52 ≡ 0 = eqb-true _ _ f in
        omega arith
    go false false true true e f g h =
        let x : b / 2 ^ 52 % 2 ^ 11 ≡ 0x7FF = eqb-true _ _ g in
        let d : 2 ^ 51 ≤ b % 2 ^ 52 = leb-true _ _ h in
        omega arith
    go false false true false e f g h =
        let x : b / 2 ^ 52 % 2 ^ 11 ≡ 0x7FF = eqb-true _ _ g in
        let d : b % 2 ^ 52 ≡ 0 → ⊥ = eqb-false _ _ f in
        let l : b % 2 ^ 52 < 2 ^ 51 = leb-false _ _ h in
        (omega arith, omega arith)
    go false q false s e f g h =
        let x : b / 2 ^ 52 % 2 ^ 11 ≡ 0 → ⊥ = eqb-false _ _ e in
        let y : b / 2 ^ 52 % 2 ^ 11 ≡ 0x7FF → ⊥ = eqb-false _ _ g in
        (omega arith, omega arith)

-- the class by the exponent field and the digits
module _ (b : ℕ) {e d : ℕ} (x : e ≡ exponent b) (y : d ≡ digits b) where
  pub class-zero : e ≡ 0 → d ≡ 0 → Zero ≡ class_of b
  unfolding class_of
  class-zero p q = rw (eq-eqb (exponent b) 0 (sym x ∙ p), eq-eqb (digits b) 0 (sym y ∙ q))

  pub class-subnormal : e ≡ 0 → (d ≡ 0 → ⊥) → Number ≡ class_of b
  unfolding class_of
  class-subnormal p q = rw (eq-eqb (exponent b) 0 (sym x ∙ p), ne_eqb (digits b) 0 (λ z. q (y ∙ z)))

  pub class-infinity : e ≡ 0x7FF → d ≡ 0 → Infinity ≡ class_of b
  unfolding class_of
  class-infinity p q = rw (ne_eqb (exponent b) 0 (omega arith), eq-eqb (exponent b) 0x7FF (sym x ∙ p), eq-eqb (digits b) 0 (sym y ∙ q))

  pub class-signaling : e ≡ 0x7FF → (d ≡ 0 → ⊥) → d < 2 ^ 51 → Signaling ≡ class_of b
  unfolding class_of is_quiet
  class-signaling p q l = rw (ne_eqb (exponent b) 0 (omega arith), eq-eqb (exponent b) 0x7FF (sym x ∙ p), ne_eqb (digits b) 0 (λ z. q (y ∙ z)), lt-leb (2 ^ 51) (digits b) (omega arith))

  pub class-quiet : e ≡ 0x7FF → (d ≡ 0 → ⊥) → 2 ^ 51 ≤ d → Quiet ≡ class_of b
  unfolding class_of is_quiet
  class-quiet p q l = rw (ne_eqb (exponent b) 0 (omega arith), eq-eqb (exponent b) 0x7FF (sym x ∙ p), ne_eqb (digits b) 0 (λ z. q (y ∙ z)), le-leb (2 ^ 51) (digits b) (omega arith))

  pub class-normal : (e ≡ 0 → ⊥) → (e ≡ 0x7FF → ⊥) → Number ≡ class_of b
  unfolding class_of
  class-normal p q = rw (ne_eqb (exponent b) 0 (λ z. p (x ∙ z)), ne_eqb (exponent b) 0x7FF (λ z. q (x ∙ z)))

-- where a pattern lies whose class is in hand
pub within : (b : ℕ) (c : Class) → c ≡ class_of b → Within c (unsigned b)
within b c e = subst (λ (k : Class). Within k (unsigned b)) (sym e) (within-class b)

-- ---- signs

-- a sign that is in hand
pub minus : (b : ℕ) → Minus ≡ sign_of b → sign b ≡ true
unfolding sign_of
minus b e = go (sign b) refl
  where
    go : (s : Bool) → sign b ≡ s → s ≡ true
    go true q = refl
    go false q = absurd (let z : ◌≡◌ {A = ℕ} 0 1 = cc in omega arith)

pub plus : (b : ℕ) → Plus ≡ sign_of b → sign b ≡ false
unfolding sign_of
plus b e = go (sign b) refl
  where
    go : (s : Bool) → sign b ≡ s → s ≡ false
    go true q = absurd (let z : ◌≡◌ {A = ℕ} 0 1 = cc in omega arith)
    go false q = refl

-- a pattern whose sign is cleared
cleared : (b : ℕ) → sign (b % 2 ^ 63) ≡ false
unfolding sign
cleared b = lt-leb (2 ^ 63) (b % 2 ^ 63) (omega arith)

-- without signs the order is that of the patterns
pub without-signs : (a b : ℕ) → total_order (a % 2 ^ 63) (b % 2 ^ 63) ≡ leb (unsigned a) (unsigned b)
without-signs a b =
    let e : a % 2 ^ 63 % 2 ^ 63 ≡ a % 2 ^ 63 = omega arith in
    let f : b % 2 ^ 63 % 2 ^ 63 ≡ b % 2 ^ 63 = omega arith in
    total_order-ordered (a % 2 ^ 63) (b % 2 ^ 63) ∙ rw (cleared a, cleared b, e, f)

-- it comes before, or does not
pub comes : (a b : ℕ) → unsigned a ≤ unsigned b → true ≡ total_order (a % 2 ^ 63) (b % 2 ^ 63)
comes a b h = sym (without-signs a b ∙ le-leb (unsigned a) (unsigned b) h)

pub follows : (a b : ℕ) → unsigned b < unsigned a → false ≡ total_order (a % 2 ^ 63) (b % 2 ^ 63)
follows a b h = sym (without-signs a b ∙ lt-leb (unsigned a) (unsigned b) h)

-- the four cases of two signs
module _ (a b : ℕ) where
  pub both-minus : Minus ≡ sign_of a → Minus ≡ sign_of b → total_order (b % 2 ^ 63) (a % 2 ^ 63) ≡ total_order a b
  both-minus e f = without-signs b a ∙ sym (total_order-ordered a b ∙ rw (minus a e, minus b f))

  pub both-plus : Plus ≡ sign_of a → Plus ≡ sign_of b → total_order (a % 2 ^ 63) (b % 2 ^ 63) ≡ total_order a b
  both-plus e f = without-signs a b ∙ sym (total_order-ordered a b ∙ rw (plus a e, plus b f))

  pub minus_plus : Minus ≡ sign_of a → Plus ≡ sign_of b → true ≡ total_order a b
  minus_plus e f = sym (total_order-ordered a b ∙ rw (minus a e, plus b f))

  pub plus-minus : Plus ≡ sign_of a → Minus ≡ sign_of b → false ≡ total_order a b
  plus-minus e f = sym (total_order-ordered a b ∙ rw (plus a e, minus b f))

-- ---- magnitudes and payloads

-- of like exponents by the digits, and otherwise by the exponents
module _ (a b : ℕ) where
  same-exponent : exponent a ≡ exponent b → leb (digits a) (digits b) ≡ leb (a % 2 ^ 63) (b % 2 ^ 63)
  unfolding exponent digits
  same-exponent e = leb-same (a % 2 ^ 52) (b % 2 ^ 52) (a % 2 ^ 63) (b % 2 ^ 63) (λ h. omega arith) (λ h. omega arith)

  other-exponent : (exponent a ≡ exponent b → ⊥) → ltb (exponent a) (exponent b) ≡ leb (a % 2 ^ 63) (b % 2 ^ 63)
  unfolding exponent
  other-exponent n = go (leb (a % 2 ^ 63) (b % 2 ^ 63)) refl
    where
      go : (t : Bool) → leb (a % 2 ^ 63) (b % 2 ^ 63) ≡ t → ltb (a / 2 ^ 52 % 2 ^ 11) (b / 2 ^ 52 % 2 ^ 11) ≡ t
      go true e = let h : a % 2 ^ 63 ≤ b % 2 ^ 63 = leb-true _ _ e in lt-ltb (a / 2 ^ 52 % 2 ^ 11) (b / 2 ^ 52 % 2 ^ 11) (omega arith)
      go false e = let h : b % 2 ^ 63 < a % 2 ^ 63 = leb-false _ _ e in le-ltb (a / 2 ^ 52 % 2 ^ 11) (b / 2 ^ 52 % 2 ^ 11) (omega arith)

  pub by-fields : (ltb (exponent a) (exponent b) || (eqb (exponent a) (exponent b) && leb (digits a) (digits b))) ≡ leb (a % 2 ^ 63) (b % 2 ^ 63)
  by-fields = go (eqb (exponent a) (exponent b)) refl
    where
      or_no : (t : Bool) → (t || false) ≡ t
      or_no true = refl
      or_no false = refl

      go : (t : Bool) → eqb (exponent a) (exponent b) ≡ t → (ltb (exponent a) (exponent b) || (t && leb (digits a) (digits b))) ≡ leb (a % 2 ^ 63) (b % 2 ^ 63)
      go true e = let q : exponent a ≡ exponent b = eqb-true _ _ e in rw (le-ltb (exponent a) (exponent b) (omega arith)) (same-exponent q)
      go false e = or_no (ltb (exponent a) (exponent b)) ∙ other-exponent (eqb-false _ _ e)

  -- two NaNs of one class go by their payloads
  pub signaling-payload : Within Signaling (unsigned a) → Within Signaling (unsigned b) → leb (payload a) (payload b) ≡ total_order (a % 2 ^ 63) (b % 2 ^ 63)
  unfolding payload
  signaling-payload h k = leb-same (a % 2 ^ 51) (b % 2 ^ 51) (unsigned a) (unsigned b) (λ l. omega arith) (λ l. omega arith) ∙ sym (without-signs a b)

  pub quiet-payload : Within Quiet (unsigned a) → Within Quiet (unsigned b) → leb (payload a) (payload b) ≡ total_order (a % 2 ^ 63) (b % 2 ^ 63)
  unfolding payload
  quiet-payload h k = leb-same (a % 2 ^ 51) (b % 2 ^ 51) (unsigned a) (unsigned b) (λ l. omega arith) (λ l. omega arith) ∙ sym (without-signs a b)
