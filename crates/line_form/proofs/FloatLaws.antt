-- Sixty-four bits that are printed are read again, and sixteen digits that were read are printed as they stood. Assumes nothing.
use mathlib.Core.Path.{◌≡◌, refl, sym, ap, ◌∙◌}
use mathlib.Core.Bool.{Bool, true, false, cond, ◌&&◌}
use mathlib.Core.List.{List, [], ◌∷◌, ◌++◌, append-nil}
use Prim.Native.Nat.{ℕ, zero, suc, ◌+◌, ◌-◌, ◌*◌, ◌/◌, ◌%◌, ◌^◌, ◌<◌}
use native.Mathlib.Nat.{add-zero}
use native.Mathlib.Omega.{arith}
use lib.Dec.{eqb, ltb, leb}
use borrow.Author.Tests.{lt-ltb, le-ltb, ltb-true, ltb-false, leb-true, leb-false, le-leb, lt-leb, eqb-true}
use lib.ListN.{length}
use lib.Seq.{append_snoc}
use Rattle.lists.proofs.Walk.{and_both}
use Rattle.lists.specs.Walk.{every}
use Rattle.line_form.specs.Field.{is_hex_digit, hex_value, hex, is_float, pattern_in}
use Rattle.line_form.specs.Print.{glyph, digits_text, hex_text}
use Rattle.line_form.proofs.PrintLaws.{length_digits}
use Rattle.line_form.proofs.FieldLaws.{digit-known, is-float, pattern-is}

-- ---- one digit

glyph-value : (d : ℕ) → d < 16 → hex_value (glyph d) ≡ d
glyph-value d h = go (ltb d 10) refl
  where
    go : (t : Bool) → ltb d 10 ≡ t → hex_value (cond t (48 + d) (55 + d)) ≡ d
    go true e = let l = ltb-true d 10 e in simp (le-leb (48 + d) 57 (omega arith)) (omega arith)
    go false e = let l = ltb-false d 10 e in simp (lt-leb (55 + d) 57 (omega arith)) (omega arith)

glyph-digit : (d : ℕ) → d < 16 → is_hex_digit (glyph d) ≡ true
glyph-digit d h = go (ltb d 10) refl
  where
    go : (t : Bool) → ltb d 10 ≡ t → is_hex_digit (cond t (48 + d) (55 + d)) ≡ true
    go true e = let l = ltb-true d 10 e in simp (le-leb 48 (48 + d) (omega arith), le-leb (48 + d) 57 (omega arith))
    go false e =
        let l = ltb-false d 10 e in
        simp (le-leb 48 (55 + d) (omega arith), lt-leb (55 + d) 57 (omega arith), le-leb 65 (55 + d) (omega arith), le-leb (55 + d) 70 (omega arith))

value-glyph : (b : ℕ) → is_hex_digit b ≡ true → glyph (hex_value b) ≡ b
value-glyph b e = go (leb b 57) refl
  where
    go : (t : Bool) → leb b 57 ≡ t → glyph (cond t (b - 48) (b - 55)) ≡ b
    go true q =
        let m = leb-true b 57 q in
        let k = (digit-known b e).low in
        let s : 48 + (b - 48) ≡ b = omega arith in
        simp (lt-ltb (b - 48) 10 (omega arith)) s
    go false q =
        let l = (digit-known b e).letter (leb-false b 57 q) in
        let s : 55 + (b - 55) ≡ b = omega arith in
        simp (le-ltb (b - 55) 10 (omega arith)) s

-- ---- all digits

hex-append : (n : ℕ) (s : List ℕ) (b : ℕ) → hex n (s ++ (b ∷ [])) ≡ hex n s * 16 + hex_value b
unfolding hex
hex-append n [] b = refl
hex-append n (x ∷ s) b = hex-append (n * 16 + hex_value x) s b

pub every_append : (test : ℕ → Bool) (s : List ℕ) (b : ℕ) → every test s ≡ true → test b ≡ true → every test (s ++ (b ∷ [])) ≡ true
unfolding every
every_append test [] b e h = ap (λ (t : Bool). t && true) h
every_append test (x ∷ s) b e h =
    let p = and_both (test x) (every test s) e in
    ap (λ (t : Bool). t && every test (s ++ (b ∷ []))) p.0 ∙ every_append test s b p.1 h

digits_value : (k p : ℕ) → p < 16 ^ k → hex 0 (digits_text 16 k p) ≡ p
unfolding digits_text hex
digits_value zero p l = omega arith
digits_value (suc k) p l =
    let m : p / 16 < 16 ^ k = omega arith in
    let r : p % 16 < 16 = omega arith in hex-append 0 (digits_text 16 k (p / 16)) (glyph (p % 16)) ∙ (let e = digits_value k (p / 16) m in let v = glyph-value (p % 16) r in omega (arith, e, v))

digits-digits : (k p : ℕ) → every is_hex_digit (digits_text 16 k p) ≡ true
unfolding digits_text every
digits-digits zero p = refl
digits-digits (suc k) p = every_append is_hex_digit (digits_text 16 k (p / 16)) (glyph (p % 16)) (digits-digits k (p / 16)) (glyph-digit (p % 16) (omega arith))

pub printed-float : (p : ℕ) → is_float (hex_text p) ≡ true
printed-float p = is-float (hex_text p) (length_digits 16 16 p) (digits-digits 16 p)

-- what is printed is read again
pub read-printed : (p : ℕ) → p < 2 ^ 64 → pattern_in (hex_text p) ≡ p
read-printed p l = pattern-is (hex_text p) (printed-float p) ∙ digits_value 16 p l

digits-read : (j n : ℕ) (s : List ℕ) → every is_hex_digit s ≡ true → digits_text 16 (j + length s) (hex n s) ≡ digits_text 16 j n ++ s
unfolding digits_text hex every
digits-read j n [] e = ap (λ (i : ℕ). digits_text 16 i n) (add-zero j) ∙ sym (append-nil (digits_text 16 j n))
digits-read j n (x ∷ s) e =
    let p = and_both (is_hex_digit x) (every is_hex_digit s) e in
    let small = (digit-known x p.0).small in
    let m = n * 16 + hex_value x in
    let i : j + suc (length s) ≡ suc j + length s = omega arith in
    let d : m / 16 ≡ n = omega (arith, small) in
    let q : m % 16 ≡ hex_value x = omega (arith, small) in
    ap (λ (k : ℕ). digits_text 16 k (hex m s)) i
    ∙ digits-read (suc j) m s p.1
    ∙ ap (λ (k : ℕ). (digits_text 16 j k ++ (glyph (m % 16) ∷ [])) ++ s) d
    ∙ ap (λ (k : ℕ). (digits_text 16 j n ++ (glyph k ∷ [])) ++ s) q
    ∙ ap (λ (b : ℕ). (digits_text 16 j n ++ (b ∷ [])) ++ s) (value-glyph x p.0)
    ∙ append_snoc (digits_text 16 j n) x s

-- what was read is printed as it stood
pub printed-read : (s : List ℕ) → is_float s ≡ true → hex_text (pattern_in s) ≡ s
unfolding is_float digits_text
printed-read s e =
    let b = and_both (eqb (length s) 16) (every is_hex_digit s) e in
    let n : 16 ≡ 0 + length s = omega (arith, eqb-true (length s) 16 b.0) in
    ap hex_text (pattern-is s e) ∙ ap (λ (k : ℕ). digits_text 16 k (hex 0 s)) n ∙ digits-read 0 0 s b.1
