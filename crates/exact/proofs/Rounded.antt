-- `round` gives the exact result rounded as IEEE 754 says, and nothing else is that. Assumes nothing.
use mathlib.Core.Path.{◌≡◌, refl, sym, ap, ap₂, ◌∙◌, subst, subst₂}
use mathlib.Core.Logic.{◌⊎◌, inl, inr, ◌↔◌}
use Prim.Native.Nat.{ℕ, zero, suc, ◌+◌, ◌-◌, ◌*◌, ◌/◌, ◌%◌, ◌^◌, ◌≤◌, ◌<◌}
use native.Mathlib.Nat.{le_trans, le_of_eq, le_of_suc-le-suc, lt_of_not-le, not-le_of_lt, add-zero, mul-pos, mul-lt-mul_of_pos_right, one-mul, mul-one}
use native.Mathlib.Omega.{arith}
use mathlib.Core.Bool.{Bool, true, false, not}
use lib.Dec.{T, ltb, ltb→lt, nltb→le, lit≤}
use lib.Pow.{pow_pos}
use lib.IntN.{ℤ, pos, neg_ℤ, nat_abs}
use lib.Ieee.{Float, nan, inf, fin, binary64, unlike, size, round, le, to_bits, fits}
use lib.Ieee.Fits.{round-fits}
use lib.Ieee.Exact.{HasValue}
use lib.Ieee.Order.{drop, kept, round_mono}
use lib.Ieee.Scale.{finite}
use Rattle.exact.specs.Value.{scale, magnitude, value}
use Rattle.exact.specs.Number.{Number, ◌-ₑ◌, ◌*ₑ◌, ∣◌∣, ◌≤ₑ◌, exactly}
use Rattle.exact.specs.Rounded.{is_sign_minus, Even, limit, Nearest, Rounded}
use Rattle.exact.proofs.Num.{Num, num, ◌∸◌, ◌⊙◌, ◌·◌, apart}
use Rattle.exact.proofs.Ops.{scale-pos, val, sgn}
use Rattle.exact.proofs.Number.{Is, gap, is-minus, is-*, is-*ℕ, is-∣∣, is-scaled, is_same, is-over, is-exactly, le-of-is, is-of-le, lt-of-is, is-of-lt}
use Rattle.exact.proofs.Grid.{last-digit, grid, Against, equal, beaten, tied, kept-digits, no-farther, against, below_next}
use Rattle.exact.proofs.Units.{representable, last_bit, same_float, round-finite, round-magnitude, round-sign, round-infinite, round-value}

-- ---- a finite float by its sign and its magnitude
val_is : (w : Float) → T (finite w) → val w ≡ sgn (is_sign_minus w) (magnitude w)
unfolding val
val_is nan f = absurd f
val_is (inf s) f = absurd f
val_is (fin s m e) f = refl

signedℤ : Bool → ℕ → ℤ
signedℤ false g = pos g
signedℤ true g = neg_ℤ (pos g)

value-is : (w : Float) → T (finite w) → value w ≡ signedℤ (is_sign_minus w) (magnitude w)
unfolding value signedℤ
value-is nan f = absurd f
value-is (inf s) f = absurd f
value-is (fin false m e) f = refl
value-is (fin true m e) f = refl

exactly-same : (w z : Float) → T (finite w) → T (finite z) → (is_sign_minus w ≡ is_sign_minus z) ⊎ (magnitude w ≡ 0) → magnitude w ≡ magnitude z → exactly w ≡ exactly z
unfolding exactly
exactly-same w z f g s e = ap (λ (v : ℤ). record { whole = v; places = 1074 }) (value-is w f ∙ go s ∙ sym (value-is z g))
  where
    zeros : (s t : Bool) → signedℤ s 0 ≡ signedℤ t 0
    zeros true true = refl
    zeros true false = unfold signedℤ in refl
    zeros false true = unfold signedℤ in refl
    zeros false false = refl

    go : (is_sign_minus w ≡ is_sign_minus z) ⊎ (magnitude w ≡ 0) → signedℤ (is_sign_minus w) (magnitude w) ≡ signedℤ (is_sign_minus z) (magnitude z)
    go (inl h) = ap₂ signedℤ h e
    go (inr h) = ap (signedℤ (is_sign_minus w)) h ∙ zeros (is_sign_minus w) (is_sign_minus z) ∙ ap (signedℤ (is_sign_minus z)) (sym h ∙ e)

magnitude-same : (w z : Float) → T (finite w) → T (finite z) → exactly w ≡ exactly z → magnitude w ≡ magnitude z
unfolding exactly
magnitude-same w z f g e = sym (alone (is_sign_minus w) (magnitude w)) ∙ ap nat_abs (sym (value-is w f) ∙ ap (λ (x : Number). x.whole) e ∙ value-is z g) ∙ alone (is_sign_minus z) (magnitude z)
  where
    alone : (s : Bool) (m : ℕ) → nat_abs (signedℤ s m) ≡ m
    alone false m = unfold signedℤ in refl
    alone true zero = unfold signedℤ in refl
    alone true (suc m) = unfold signedℤ in refl

-- ---- distances: w is ±v, the exact result ±A / B
far : Bool → Bool → Bool → ℕ → ℕ → ℕ → ℕ → ℕ
far s t r v A B S = gap (sgn r v ⊙ sgn t B ∸ S · sgn (unlike s t) A)

far-like : (s t : Bool) (v A B S : ℕ) → far s t s v A B S ≡ apart (v * B) (A * S)
unfolding far
far-like true true v A B S = omega arith
far-like true false v A B S = omega arith
far-like false true v A B S = omega arith
far-like false false v A B S = omega arith

far-unlike : (s t : Bool) (v A B S : ℕ) → far s t (not s) v A B S ≡ v * B + A * S
unfolding far
far-unlike true true v A B S = omega arith
far-unlike true false v A B S = omega arith
far-unlike false true v A B S = omega arith
far-unlike false false v A B S = omega arith

either : (r s : Bool) → (r ≡ s) ⊎ (r ≡ not s)
either true true = inl refl
either true false = inr refl
either false true = inr refl
either false false = inl refl

gap-sgn : (s : Bool) (g : ℕ) → gap (sgn s g) + 0 ≡ g + 0
gap-sgn true g = omega arith
gap-sgn false g = omega arith

-- ---- the limit: from this number on
abbrev top : ℕ
top = 2 ^ 1024 - 2 ^ 970

limit_is : Is limit (num top 0) 1
unfolding limit
limit_is = record { v = num top 0; stands = refl; is = refl }

module _ (s t : Bool) (A B E : ℕ) (P : 0 < E) (Q : 0 < B) {a b : Number} (ha : Is a (sgn (unlike s t) A) E) (hb : Is b (sgn t B) E) where
  z : Float
  z = round binary64 s A B

  g : ℕ
  g = grid (A * scale) B

  a-is : Is ∣ a ∣ (num A 0) E
  a-is = is_same (num A 0) (is-∣∣ ha) (gap-sgn (unlike s t) A)

  b-is : Is (limit *ₑ ∣ b ∣) (num (top * B) 0) E
  b-is = is-over (is-*ℕ limit_is (is_same (num B 0) (is-∣∣ hb) (gap-sgn t B))) (one-mul E)

  distance : (w : Float) → T (finite w) → Is ∣ exactly w *ₑ b -ₑ a ∣ (num (far s t (is_sign_minus w) (magnitude w) A B scale) 0) (scale * E)
  unfolding far
  distance w f = is-∣∣ (is-minus (is-* (subst (λ (u : Num). Is (exactly w) u scale) (val_is w f) (is-exactly w)) hb) (is-scaled scale ha))

  over-pos : 0 < scale * E
  over-pos = mul-pos scale-pos P

  -- the numbers of the format against the exact result
  versus : (w : Float) → T (fits binary64 w) → T (finite w) → Against (A * scale) B (magnitude w)
  versus w F f = let r = representable w F f in subst (λ (v : ℕ). Against (A * scale) B v) (sym r.is) (against (A * scale) B Q r.a r.j r.few)

  from_zero : apart (g * B) (A * scale) ≤ A * scale
  unfolding g
  from_zero = le_trans (no-farther (A * scale) B Q (against (A * scale) B Q 0 0 (lit≤ tt))) (le_of_eq (zero-far B (A * scale)))
    where
      zero-far : (B n : ℕ) → apart (0 * 2 ^ 0 * B) n ≡ n
      zero-far B n = omega arith

  -- the distance of w is that of its magnitude at least
  at_least : (w : Float) → apart (magnitude w * B) (A * scale) ≤ far s t (is_sign_minus w) (magnitude w) A B scale
  at_least w = go (either (is_sign_minus w) s)
    where
      more : (v n : ℕ) → apart v n ≤ v + n
      more v n = omega arith

      go : (is_sign_minus w ≡ s) ⊎ (is_sign_minus w ≡ not s) → apart (magnitude w * B) (A * scale) ≤ far s t (is_sign_minus w) (magnitude w) A B scale
      go (inl e) = le_of_eq (sym (ap (λ (r : Bool). far s t r (magnitude w) A B scale) e ∙ far-like s t (magnitude w) A B scale))
      go (inr e) = le_trans (more (magnitude w * B) (A * scale)) (le_of_eq (sym (ap (λ (r : Bool). far s t r (magnitude w) A B scale) e ∙ far-unlike s t (magnitude w) A B scale)))

  -- a float of the other sign that is no farther is 0
  other-zero : (w : Float) → is_sign_minus w ≡ not s → far s t (is_sign_minus w) (magnitude w) A B scale ≤ apart (g * B) (A * scale) → magnitude w ≡ 0
  other-zero w e l =
      none (magnitude w) B (A * scale) (apart (g * B) (A * scale)) Q (le_trans (le_of_eq (sym (ap (λ (r : Bool). far s t r (magnitude w) A B scale) e ∙ far-unlike s t (magnitude w) A B scale))) l) from_zero
    where
      none : (v B n d : ℕ) → 0 < B → v * B + n ≤ d → d ≤ n → v ≡ 0
      none zero B n d q h k = refl
      none (suc v) B n d q h k = absurd (omega arith)

  -- ---- below the limit the result is finite, and from it on an infinity
  below : A < top * B → g < 2 ^ 2098
  unfolding g
  below l =
      below_next (A * scale) B Q ((2 ^ 53 - 1) * 2 ^ 2045) (2 ^ 2044) (top * 2 ^ 1074) (2 ^ 2098) (pow_pos 2044) (against (A * scale) B Q (2 ^ 53 - 1) 2045 (lit≤ tt)) refl refl
      (unfold scale in scaled A top B (2 ^ 1074) (pow_pos 1074) l)
    where
      scaled : (A L B S : ℕ) → 0 < S → A < L * B → A * S < L * S * B
      scaled A L B S h l = omega (arith, mul-lt-mul_of_pos_right l h)

  above : top * B ≤ A → 2 ^ 2098 ≤ g
  unfolding g
  above l = le_of_suc-le-suc (lt_of_not-le (λ (k : g < 2 ^ 2098). no_more (round binary64 false A B) (g) (2 ^ 1074) (round-value false A B k) most))
    where
      no_more : (x : Float) (n c : ℕ) → HasValue x false n c → T (le (inf false) x) → ⊥
      no_more nan n c h k = h
      no_more (inf r) n c h k = h
      no_more (fin r m e) n c h k = unfold le in k

      full : round binary64 false top 1 ≡ inf false
      full = unfold round in refl

      most : T (le (inf false) (round binary64 false A B))
      most = subst (λ (x : Float). T (le x (round binary64 false A B))) full (round_mono binary64 top 1 A B (lit≤ tt) Q (le_trans l (le_of_eq (sym (mul-one A)))))

  module _ (G : g < 2 ^ 2098) where
    z-finite : T (finite z)
    unfolding z g
    z-finite = round-finite s A B G

    z-far : far s t (is_sign_minus z) (magnitude z) A B scale ≡ apart (g * B) (A * scale)
    unfolding z g
    z-far =
        ap₂ (λ (r : Bool) (v : ℕ). far s t r v A B scale) (round-sign s A B) (round-magnitude s A B G)
        ∙ far-like s t (grid (A * scale) B) A B scale

    z-nearest : (w : Float) → T (fits binary64 w) → T (finite w) → ∣ exactly z *ₑ b -ₑ a ∣ ≤ₑ ∣ exactly w *ₑ b -ₑ a ∣
    unfolding g
    z-nearest w F f =
        le-of-is over-pos (distance z z-finite) (distance w f)
        (subst (λ (d : ℕ). d + 0 ≤ far s t (is_sign_minus w) (magnitude w) A B scale + 0) (sym z-far) (plus (le_trans (no-farther (A * scale) B Q (versus w F f)) (at_least w))))
      where
        plus : {m n : ℕ} → m ≤ n → m + 0 ≤ n + 0
        plus {m} {n} h = omega arith

    -- the other way: w is no farther than z
    no-nearer : (w : Float) → T (finite w) → ∣ exactly w *ₑ b -ₑ a ∣ ≤ₑ ∣ exactly z *ₑ b -ₑ a ∣ → far s t (is_sign_minus w) (magnitude w) A B scale ≤ apart (g * B) (A * scale)
    no-nearer w f h = minus (subst (λ (d : ℕ). far s t (is_sign_minus w) (magnitude w) A B scale + 0 ≤ d + 0) z-far (is-of-le over-pos (distance w f) (distance z z-finite) h))
      where
        minus : {m n : ℕ} → m + 0 ≤ n + 0 → m ≤ n
        minus {m} {n} h = omega arith

    z-even : (w : Float) → T (fits binary64 w) → T (finite w) → ∣ exactly w *ₑ b -ₑ a ∣ ≤ₑ ∣ exactly z *ₑ b -ₑ a ∣ → (exactly w ≡ exactly z) ⊎ Even z
    unfolding z g
    z-even w F f h = go (versus w F f) (no-nearer w f h)
      where
        alike : far s t (is_sign_minus w) (magnitude w) A B scale ≤ apart (g * B) (A * scale) → (is_sign_minus w ≡ s) ⊎ (is_sign_minus w ≡ not s) → (is_sign_minus w ≡ is_sign_minus z) ⊎ (magnitude w ≡ 0)
        alike l (inl e) = inl (e ∙ sym (round-sign s A B))
        alike l (inr e) = inr (other-zero w e l)

        go : Against (A * scale) B (magnitude w) → far s t (is_sign_minus w) (magnitude w) A B scale ≤ apart (g * B) (A * scale) → (exactly w ≡ exactly z) ⊎ Even z
        go (equal e) l = inl (exactly-same w z f z-finite (alike l (either (is_sign_minus w) s)) (e ∙ sym (round-magnitude s A B G)))
        go (beaten m) l = absurd (not-le_of_lt m (le_trans (at_least w) l))
        go (tied c e q v o d) l =
            inr (last_bit z z-finite ∙ ap (λ (n : ℕ). n / 2 ^ (size n - 53) % 2) (round-magnitude s A B G) ∙ last-digit (kept 53 (A * scale) B) (drop 53 (A * scale) B) (kept-digits (A * scale) B Q) ∙ q)

  -- THE THEOREM on `round`: it gives the exact result rounded
  pub round-rounds : Rounded s a b (round binary64 s A B)
  unfolding z g
  round-rounds =
      record {
        fits_format = round-fits binary64 s A B;
        signed = round-sign s A B;
        within = λ h. let G = below (minus (is-of-lt P a-is b-is h)) in record { is_finite = z-finite G; nearest = z-nearest G; even = z-even G };
        beyond = λ h. round-infinite s A B (above (least (is-of-le P b-is a-is h)));
      }
    where
      minus : A + 0 < top * B + 0 → A < top * B
      minus h = subst₂ (λ (m n : ℕ). m < n) (add-zero A) (add-zero (top * B)) h

      least : top * B + 0 ≤ A + 0 → top * B ≤ A
      least h = subst₂ (λ (m n : ℕ). m ≤ n) (add-zero (top * B)) (add-zero A) h

  -- ---- and it alone does
  module _ (G : g < 2 ^ 2098) (x : Float) (h : Rounded s a b x) (k : Nearest a b x) where
    same : magnitude x ≡ g → x ≡ z
    unfolding z g
    same e = same_float x z h.fits_format (round-fits binary64 s A B) k.is_finite (z-finite G) (h.signed ∙ sym (round-sign s A B)) (e ∙ sym (round-magnitude s A B G))

    -- another float that is as near has an odd last digit, and so is not the even one
    only : Against (A * scale) B (magnitude x) → x ≡ z
    unfolding z g
    only (equal e) = same e
    only (beaten m) = absurd (not-le_of_lt m (le_trans (at_least x) (no-nearer G x k.is_finite (k.nearest z (round-fits binary64 s A B) (z-finite G)))))
    only (tied c e q v o d) = go (k.even z (round-fits binary64 s A B) (z-finite G) (z-nearest G x h.fits_format k.is_finite))
      where
        last : to_bits binary64 x % 2 ≡ 1
        last = last_bit x k.is_finite ∙ ap (λ (n : ℕ). n / 2 ^ (size n - 53) % 2) v ∙ last-digit c (drop 53 (A * scale) B) d ∙ o

        both : {n : ℕ} → n ≡ 0 → n ≡ 1 → ⊥
        both {n} i j = omega arith

        go : (exactly z ≡ exactly x) ⊎ Even x → x ≡ z
        go (inl i) = same (sym (magnitude-same z x (z-finite G) k.is_finite i) ∙ round-magnitude s A B G)
        go (inr i) = absurd (both i last)

  pub round-only : (x : Float) → Rounded s a b x → x ≡ round binary64 s A B
  unfolding z g
  round-only x h = go (ltb A (top * B)) (ltb→lt A (top * B)) (nltb→le A (top * B))
    where
      more : A < top * B → A + 0 < top * B + 0
      more l = subst₂ (λ (m n : ℕ). m < n) (sym (add-zero A)) (sym (add-zero (top * B))) l

      least : top * B ≤ A → top * B + 0 ≤ A + 0
      least l = subst₂ (λ (m n : ℕ). m ≤ n) (sym (add-zero (top * B))) (sym (add-zero A)) l

      go : (c : Bool) → (T c → A < top * B) → (T (not c) → top * B ≤ A) → x ≡ round binary64 s A B
      go true l m = let k = h.within (lt-of-is P a-is b-is (more (l tt))) in only (below (l tt)) x h k (versus x h.fits_format k.is_finite)
      go false l m = h.beyond (le-of-is P b-is a-is (least (m tt))) ∙ sym (round-infinite s A B (above (m tt)))

  pub round_iff : (r : Float) → r ≡ round binary64 s A B → (x : Float) → Rounded s a b x ↔ (x ≡ r)
  round_iff r e x = (λ h. round-only x h ∙ sym e, λ h. subst (λ (y : Float). Rounded s a b y) (sym (h ∙ e)) round-rounds)
