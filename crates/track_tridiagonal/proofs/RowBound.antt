-- A row's bound as it is stated, from the bound in units. Assumes nothing.
use mathlib.Core.Path.{◌≡◌, ap, ◌∙◌, subst}
use Prim.Native.Nat.{ℕ, ◌+◌, ◌*◌, ◌≤◌, ◌<◌}
use native.Mathlib.Nat.{mul-pos, mul_assoc}
use native.Mathlib.Omega.{arith}
use Rattle.exact.specs.Number.{Number, ◌+ₑ◌, ◌-ₑ◌, ◌*ₑ◌, ∣◌∣, ◌≤ₑ◌, 1ₑ}
use Rattle.exact.proofs.Num.{Num, num, ◌∔◌, ◌∸◌, ◌⊙◌, ◌·◌, abs, abs-⊙}
use Rattle.exact.proofs.Number.{Is, Sized, gap, is-+, is-minus, is-*, is-∣∣, is-size, sized-*, is-scaled, is_scaledℕ, is-over, is-1, le-of-is}
use Rattle.exact.proofs.Accuracy.{bound-is}
use Rattle.track_tridiagonal.proofs.RowGap.{first, second}

abs₃ : (x y z : Num) → abs (x ⊙ y ⊙ z) ≡ abs x * abs y * abs z
abs₃ x y z = abs-⊙ (x ⊙ y) z ∙ ap (λ (n : ℕ). n * abs z) (abs-⊙ x y)

module _ (S : ℕ) where
  -- three and two factors, over one denominator
  size₃ : {x y z : Number} {u t s : Num} → Sized x u S → Sized y t S → Sized z s S → Is ∣ x *ₑ y *ₑ z ∣ (num (abs u * abs t * abs s) 0) (S * (S * S))
  size₃ {x} {y} {z} {u} {t} {s} h k l =
      is-over (subst (λ (n : ℕ). Is ∣ x *ₑ y *ₑ z ∣ (num n 0) (S * S * S)) (abs₃ u t s) (is-size (sized-* (sized-* h k) l))) (mul_assoc S S S)

  size₂ : {x y : Number} {u t : Num} → Sized x u S → Sized y t S → Is ∣ x *ₑ y ∣ (num (S * (abs u * abs t)) 0) (S * (S * S))
  size₂ {x} {y} {u} {t} h k = is_scaledℕ S (subst (λ (n : ℕ). Is ∣ x *ₑ y ∣ (num n 0) (S * S)) (abs-⊙ u t) (is-size (sized-* h k)))

  -- M is 2 ^ 50, K is 2 ^ 1070, and k is 2 ^ 1020; a and b are 1 / M and 1 / K
  pub row-bound : (K k M : ℕ) → 0 < S → 0 < K → k * M ≡ K → {a b f d c e g w v u D r : Number} {f' d' c' e' g' w' v' u' D' r' : Num}
      → Is a (num 1 0) M → Is b (num 1 0) K
      → Sized f f' S → Sized d d' S → Sized c c' S → Sized e e' S → Sized g g' S → Sized w w' S → Sized v v' S → Sized u u' S → Is D D' S → Is r r' S
      → K * S * gap (e' ⊙ w' ∔ D' ⊙ v' ∔ g' ⊙ u' ∸ S · r') ≤ k * first S (abs f') (abs c') (abs d') (abs e') (abs w') (abs v') (abs (g' ⊙ u')) + second S (abs f') (abs c') (abs d') (abs w') (abs v')
      → ∣ e *ₑ w +ₑ D *ₑ v +ₑ g *ₑ u -ₑ r ∣ ≤ₑ a *ₑ (∣ f *ₑ c *ₑ w ∣ +ₑ ∣ f *ₑ e *ₑ v ∣ +ₑ ∣ d *ₑ v ∣ +ₑ ∣ g *ₑ u ∣) +ₑ b *ₑ (1ₑ +ₑ ∣ f ∣) *ₑ (1ₑ +ₑ ∣ c ∣ +ₑ ∣ d ∣) *ₑ (1ₑ +ₑ ∣ w ∣ +ₑ ∣ v ∣)
  row-bound K k M P Q m {f' = f'} {d' = d'} {c' = c'} {e' = e'} {g' = g'} {w' = w'} {v' = v'} {u' = u'} {D' = D'} {r' = r'} ha hb hf hd hc he hg hw hv hu hD hr l =
      let one = is-1 S in
      le-of-is (mul-pos Q (mul-pos P (mul-pos P P)))
      (is-over (is_scaledℕ (K * S) (is-∣∣ (is-minus (is-+ (is-+ (is-* he.is hw.is) (is-* hD hv.is)) (is-* hg.is hu.is)) (is-scaled S hr)))) (mul_assoc K S (S * S)))
      (bound-is K k M S (first S (abs f') (abs c') (abs d') (abs e') (abs w') (abs v') (abs g' * abs u')) (S + abs f') (S + abs c' + abs d') (S + abs w' + abs v') m ha hb
      (is-+ (is-+ (is-+ (size₃ hf hc hw) (size₃ hf he hv)) (size₂ hd hv)) (size₂ hg hu)) (is-+ one (is-size hf)) (is-+ (is-+ one (is-size hc)) (is-size hd)) (is-+ (is-+ one (is-size hw)) (is-size hv)))
      (finish K k S (gap (e' ⊙ w' ∔ D' ⊙ v' ∔ g' ⊙ u' ∸ S · r')) (first S (abs f') (abs c') (abs d') (abs e') (abs w') (abs v') (abs g' * abs u')) (S + abs f') (S + abs c' + abs d') (S + abs w' + abs v')
      (subst (λ (y : ℕ). K * S * gap (e' ⊙ w' ∔ D' ⊙ v' ∔ g' ⊙ u' ∸ S · r') ≤ k * first S (abs f') (abs c') (abs d') (abs e') (abs w') (abs v') y + second S (abs f') (abs c') (abs d') (abs w') (abs v')) (abs-⊙ g' u') l))
    where
      finish : (K k S G A B C E : ℕ) → K * S * G ≤ k * A + B * C * E → K * S * G + 0 ≤ k * 1 * A + 1 * B * C * E + 0
      finish K k S G A B C E h = omega arith
