-- Laws of the fields, and the invariants of the loops that read them. Assumes nothing.
use mathlib.Core.Path.{◌≡◌, refl, sym, ap, subst, ◌∙◌}
use mathlib.Core.List.{List, [], ◌∷◌}
use mathlib.Core.Bool.{Bool, true, false, cond, not, ◌&&◌, ◌||◌}
use Prim.Native.Nat.{ℕ, zero, suc, ◌+◌, ◌-◌, ◌*◌, ◌^◌, ◌≤◌, ◌<◌}
use native.Mathlib.Nat.{pow-le-pow_right}
use native.Mathlib.Numerals.{add-one}
use native.Mathlib.Omega.{arith}
use lib.Dec.{T, eqb, ltb, leb}
use lib.IntN.{ℤ, pos, negsuc, neg_ℤ, ◌-ℤ◌}
use mir.Syntax.{w32}
use mir.Val.{SFits, of_z, to_z}
use mir.Facts.{to_z-of_z, to_z_pos}
use borrow.Author.Tests.{lt-ltb, le-ltb, leb-true, leb-false, le-leb, lt-leb, eq-eqb, ne_eqb}
use lib.ListN.{length, get_or, take, drop}
use lib.Seq.{take-length}
use Rattle.lists.specs.Walk.{every}
use Rattle.line_form.specs.Field.{is_digit, decimal_value, plain, is_number, number, is_state, state, is_hex_digit, hex_value, hex, is_float, pattern_in}
use Rattle.std.specs.Prelude.{Option, Some, None}
use Rattle.std.proofs.lemmas.Option.{none-some}
use Rattle.line_form.specs.Steps.{formed, ReadsNumber}
use Rattle.line_form.proofs.SplitLaws.{left_end, left_at, every-at}

-- ---- the front of a number

pub plain-none : (s : List ℕ) → length s ≡ 0 → false ≡ plain s
unfolding plain
plain-none [] e = refl
plain-none (b ∷ s) e = absurd (omega arith)

pub plain-one : (s : List ℕ) → length s ≡ 1 → true ≡ plain s
unfolding plain
plain-one [] e = absurd (omega arith)
plain-one (b ∷ []) e = refl
plain-one (b ∷ (c ∷ s)) e = absurd (omega arith)

pub plain_more : (s : List ℕ) → (length s ≡ 0 → ⊥) → (length s ≡ 1 → ⊥) → not (eqb (get_or s 0 0) 48) ≡ plain s
unfolding plain
plain_more [] p q = absurd (p refl)
plain_more (b ∷ []) p q = absurd (q refl)
plain_more (b ∷ (c ∷ s)) p q = refl

-- ---- decimal digits

decimal-at : (n : ℕ) (s : List ℕ) (i : ℕ) → i < length s → decimal_value n (drop i s) ≡ decimal_value (n * 10 + (get_or s i 0 - 48)) (drop (i + 1) s)
unfolding decimal_value
decimal-at n s i l = ap (decimal_value n) (left_at s i l)

decimal-le : (n : ℕ) (s : List ℕ) → n ≤ decimal_value n s
unfolding decimal_value
decimal-le n [] = omega arith
decimal-le n (b ∷ s) = omega (arith, decimal-le (n * 10 + (b - 48)) s)

-- ---- a number, by what the code finds

module _ (limit : ℕ) (s : List ℕ) where
  broken : is_number limit s ≡ false → ReadsNumber limit s None
  unfolding number
  broken e = record { reads = rw e; below = tt }

  pub number-front : plain s ≡ false → ReadsNumber limit s None
  unfolding is_number
  number-front p = broken (simp p)

  number_digits : every is_digit s ≡ false → ReadsNumber limit s None
  unfolding is_number
  number_digits e = broken (go (plain s))
    where
      go : (t : Bool) → (t && every is_digit s && ltb (decimal_value 0 s) limit) ≡ false
      go true = simp e
      go false = refl

  number-large : limit ≤ decimal_value 0 s → ReadsNumber limit s None
  unfolding is_number
  number-large h = broken (go (plain s) (every is_digit s))
    where
      go : (t u : Bool) → (t && u && ltb (decimal_value 0 s) limit) ≡ false
      go true true = simp (le-ltb _ _ h)
      go true false = refl
      go false u = refl

  number_is : (n : ℕ) → n ≡ decimal_value 0 s → plain s ≡ true → every is_digit s ≡ true → n < limit → ReadsNumber limit s (Some n)
  unfolding is_number number
  number_is n v p e l =
      let f : is_number limit s ≡ true = simp (p, e, lt-ltb (decimal_value 0 s) limit (omega arith)) in
      record { reads = rw (f, v); below = l }

-- the invariant of the loop over a number's digits
pub record Reading (limit : ℕ) (s : List ℕ) (n i : ℕ) : Type 0 where
  pub within : i ≤ length s
  pub below : n < limit
  pub digits : every is_digit (drop i s) ≡ every is_digit s
  pub value : decimal_value n (drop i s) ≡ decimal_value 0 s

module _ (limit : ℕ) (s : List ℕ) (n i : ℕ) (inv : Reading limit s n i) where
  module _ (l : i < length s) where
    pub reading-no : is_digit (get_or s i 0) ≡ false → ReadsNumber limit s None
    reading-no d = number_digits limit s (sym inv.digits ∙ every-at is_digit s i l ∙ ap (λ (t : Bool). t && every is_digit (drop (i + 1) s)) d)

    pub reading-large : limit ≤ n * 10 + (get_or s i 0 - 48) → ReadsNumber limit s None
    reading-large h =
        number-large limit s (omega (arith, decimal-le (n * 10 + (get_or s i 0 - 48)) (drop (i + 1) s), decimal-at n s i l, inv.value))

    pub reading-more : is_digit (get_or s i 0) ≡ true → n * 10 + (get_or s i 0 - 48) < limit → Reading limit s (n * 10 + (get_or s i 0 - 48)) (i + 1)
    reading-more d h =
        record {
          within = omega arith;
          below = h;
          digits = sym (every-at is_digit s i l ∙ ap (λ (t : Bool). t && every is_digit (drop (i + 1) s)) d) ∙ inv.digits;
          value = sym (decimal-at n s i l) ∙ inv.value;
        }

  pub reading-end : length s ≤ i → plain s ≡ true → ReadsNumber limit s (Some n)
  unfolding every decimal_value
  reading-end l p =
      let e = left_end s i l in
      let v : n ≡ decimal_value 0 s = rw e at inv.value in
      number_is limit s n v p (sym (rw e at inv.digits)) inv.below

-- ---- hexadecimal digits

patternless : (s : List ℕ) → is_float s ≡ false → None ≡ formed (is_float s) (pattern_in s)
patternless s e = rw e

pub pattern_long : (s : List ℕ) → (length s ≡ 16 → ⊥) → None ≡ formed (is_float s) (pattern_in s)
unfolding is_float
pattern_long s h = patternless s (simp (ne_eqb _ _ h))

pattern_digits : (s : List ℕ) → every is_hex_digit s ≡ false → None ≡ formed (is_float s) (pattern_in s)
unfolding is_float
pattern_digits s e = patternless s (go (eqb (length s) 16))
  where
    go : (t : Bool) → (t && every is_hex_digit s) ≡ false
    go true = e
    go false = refl

pub is-float : (s : List ℕ) → length s ≡ 16 → every is_hex_digit s ≡ true → is_float s ≡ true
unfolding is_float
is-float s l e = simp (eq-eqb _ _ l, e)

pub pattern-is : (s : List ℕ) → is_float s ≡ true → pattern_in s ≡ hex 0 s
unfolding pattern_in
pattern-is s e = ap (λ (t : Bool). cond t (hex 0 s) 0) e

hex-at : (n : ℕ) (s : List ℕ) (i : ℕ) → i < length s → hex n (drop i s) ≡ hex (n * 16 + hex_value (get_or s i 0)) (drop (i + 1) s)
unfolding hex
hex-at n s i l = ap (hex n) (left_at s i l)

-- what is known of a digit
pub record Digit (b : ℕ) : Type 0 where
  pub low : 48 ≤ b
  pub letter : 57 < b → 65 ≤ b
  pub high : b ≤ 70
  pub small : hex_value b < 16

pub digit-known : (b : ℕ) → is_hex_digit b ≡ true → Digit b
digit-known b e = go (leb 48 b) (leb b 57) (leb 65 b) (leb b 70) refl refl refl refl e
  where
    go : (t u v w : Bool) → leb 48 b ≡ t → leb b 57 ≡ u → leb 65 b ≡ v → leb b 70 ≡ w → (t && u || (v && w)) ≡ true → Digit b
    go true true v w p q x y h =
        let l = leb-true 48 b p in
        let m = leb-true b 57 q in
        record { low = l; letter = λ g. absurd (omega arith); high = omega arith; small = simp q (omega arith) }
    go true false true true p q x y h =
        let l = leb-true 65 b x in
        let m = leb-true b 70 y in
        record { low = omega arith; letter = λ g. l; high = m; small = simp q (omega arith) }
    go true false true false p q x y h = absurd (subst T (sym h) tt)
    go true false false w p q x y h = absurd (subst T (sym h) tt)
    go false u true true p q x y h = absurd (let l = leb-false 48 b p in let m = leb-true 65 b x in omega arith)
    go false u true false p q x y h = absurd (subst T (sym h) tt)
    go false u false w p q x y h = absurd (subst T (sym h) tt)

-- the invariant of the loop over a float's digits
pub record Hexing (s : List ℕ) (n i : ℕ) : Type 0 where
  pub within : i ≤ length s
  pub below : n < 16 ^ i
  pub digits : every is_hex_digit (drop i s) ≡ every is_hex_digit s
  pub value : hex n (drop i s) ≡ hex 0 s

pub hexing_start : (s : List ℕ) → Hexing s 0 0
hexing_start s = record { within = omega arith; below = omega arith; digits = refl; value = refl }

module _ (s : List ℕ) (n i : ℕ) (inv : Hexing s n i) where
  module _ (l : i < length s) where
    pub hexing_no : is_hex_digit (get_or s i 0) ≡ false → None ≡ formed (is_float s) (pattern_in s)
    hexing_no d = pattern_digits s (sym inv.digits ∙ every-at is_hex_digit s i l ∙ ap (λ (t : Bool). t && every is_hex_digit (drop (i + 1) s)) d)

    -- what the next digit makes of the number fits 64 bits
    pub hexing_fits : length s ≡ 16 → n * 16 + 15 < 2 ^ 64
    hexing_fits e =
        let p : 16 ^ suc i ≤ 16 ^ 16 = pow-le-pow_right {n = 16} (omega arith) {i = suc i} {j = 16} (omega arith) in
        omega (arith, inv.below)

    pub hexing_next : length s ≡ 16 → (d : ℕ) → is_hex_digit (get_or s i 0) ≡ true → d ≡ hex_value (get_or s i 0) → n * 16 + d < 2 ^ 64
    hexing_next e d h q = omega (arith, hexing_fits e, (digit-known (get_or s i 0) h).small)

    pub hexing_more : (d : ℕ) → is_hex_digit (get_or s i 0) ≡ true → d ≡ hex_value (get_or s i 0) → Hexing s (n * 16 + d) (i + 1)
    hexing_more d h e =
        let small = (digit-known (get_or s i 0) h).small in
        record {
          within = omega arith;
          below = rw add-one (omega (arith, inv.below));
          digits = sym (every-at is_hex_digit s i l ∙ ap (λ (t : Bool). t && every is_hex_digit (drop (i + 1) s)) h) ∙ inv.digits;
          value = ap (λ (k : ℕ). hex (n * 16 + k) (drop (i + 1) s)) e ∙ sym (hex-at n s i l) ∙ inv.value;
        }

  pub hexing_end : length s ≤ i → length s ≡ 16 → Some n ≡ formed (is_float s) (pattern_in s)
  unfolding every hex
  hexing_end l e =
      let r = left_end s i l in
      let v : n ≡ hex 0 s = rw r at inv.value in
      let f = is-float s e (sym (rw r at inv.digits)) in
      rw (f, v, pattern-is s f)

-- ---- a form that holds and one that doesn't

pub formed-no : {A : Type 0} (b : Bool) (x : A) → None ≡ formed b x → b ≡ false
formed-no true x e = absurd (none-some _ e)
formed-no false x e = refl

pub formed-yes : {A : Type 0} (b : Bool) (x v : A) → Some v ≡ formed b x → (b ≡ true) × (v ≡ x)
formed-yes true x v e = (refl, cc)
formed-yes false x v e = absurd (none-some _ (sym e))
