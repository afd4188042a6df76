-- A displacement of zeros is one of zeros along north, east and down too, wherever there is an answer. Assumes nothing.
use Rattle.std.specs.Prelude.{Result, Ok, Err}
use Rattle.numeric.specs.declared.refusal.Refusal.{Refusal}
use mathlib.Core.Path.{◌≡◌, refl, sym, ap, ap₂, ◌∙◌, subst}
use Prim.Native.Nat.{ℕ, zero, suc, ◌*◌, ◌<◌}
use native.Mathlib.Nat.{zero-mul, mul_comm, mul-pos}
use mathlib.Core.Bool.{Bool, true, false, cond, ◌&&◌}
use lib.Dec.{T}
use lib.Ieee.{Float, nan, inf, fin, binary64, up, down, unlike, round, sum, add, mul}
use lib.Ieee.Fits.{down_pos}
use lib.Ieee.Scale.{finite}
use Rattle.exact.specs.Float.{◌⊕◌, ◌⊗◌}
use Rattle.exact.proofs.Ops.{add-finite, mul-finite}
use Rattle.numeric.proofs.Zeros.{is_zero, round-none, zero-times}
use Rattle.numeric.specs.declared.refusal.Refusal.TheVariants.{NotTurned}
use Rattle.numeric.specs.declared.vec3.Vec3.{Vec3}
use Rattle.frames.specs.Frames.{axis_turned, ned_at, all_finite, north_east_down}
use Rattle.numeric.specs.Vec3.{vector_in_range}
use Rattle.frames.specs.declared.frames.Ned.{Ned}

-- ---- zeros among products and sums
unlike-comm : (s t : Bool) → unlike s t ≡ unlike t s
unlike-comm true true = refl
unlike-comm true false = refl
unlike-comm false true = refl
unlike-comm false false = refl

-- the order of two finite factors does not count
commutes : (x y : Float) → T (finite x) → T (finite y) → x ⊗ y ≡ y ⊗ x
unfolding mul
commutes nan y f g = absurd f
commutes (inf s) y f g = absurd f
commutes (fin s m e) nan f g = absurd g
commutes (fin s m e) (inf t) f g = absurd g
commutes (fin s m e) (fin t n d) f g =
    ap (λ (u : Bool). round binary64 u (m * up e * (n * up d)) (down e * down d)) (unlike-comm s t)
    ∙ ap₂ (λ (a b : ℕ). round binary64 (unlike t s) a b) (mul_comm (m * up e) (n * up d)) (mul_comm (down e) (down d))

-- a finite product with a zero is a zero
product-zero : (a x : Float) → T (finite (a ⊗ x)) → T (is_zero x) → T (is_zero (a ⊗ x))
product-zero a x f z =
    let g = mul-finite a x f in
    subst (λ (r : Float). T (is_zero r)) (sym (commutes a x g.0 g.1)) (zero-times x a z g.0)

-- the sum of two zeros is a zero
none-plus : (s t : Bool) (c : ℕ) → 0 < c → T (is_zero (sum binary64 s 0 t 0 c))
unfolding sum
none-plus true true c C = subst (λ (r : Float). T (is_zero r)) (sym (round-none true c C)) tt
none-plus true false c C = subst (λ (r : Float). T (is_zero r)) (sym (round-none false c C)) tt
none-plus false true c C = subst (λ (r : Float). T (is_zero r)) (sym (round-none false c C)) tt
none-plus false false c C = subst (λ (r : Float). T (is_zero r)) (sym (round-none false c C)) tt

none-times : (u d : ℕ) → 0 * u * d ≡ 0
none-times u d = ap (λ (k : ℕ). k * d) (zero-mul u) ∙ zero-mul d

sum-zero : (x y : Float) → T (is_zero x) → T (is_zero y) → T (is_zero (x ⊕ y))
unfolding add
sum-zero nan y z o = absurd z
sum-zero (inf s) y z o = absurd z
sum-zero (fin s (suc m) e) y z o = absurd z
sum-zero (fin s zero e) nan z o = absurd o
sum-zero (fin s zero e) (inf t) z o = absurd o
sum-zero (fin s zero e) (fin t (suc n) d) z o = absurd o
sum-zero (fin s zero e) (fin t zero d) z o =
    subst (λ (r : Float). T (is_zero r)) (sym (ap₂ (λ (a b : ℕ). sum binary64 s a t b (down e * down d)) (none-times (up e) (down d)) (none-times (up d) (down e))))
    (none-plus s t (down e * down d) (mul-pos (down_pos e) (down_pos d)))

-- three products with zeros, summed left to right
sums-zero : (a b c x y z : Float) → T (is_zero x) → T (is_zero y) → T (is_zero z) → T (finite (a ⊗ x ⊕ b ⊗ y ⊕ c ⊗ z)) → T (is_zero (a ⊗ x ⊕ b ⊗ y ⊕ c ⊗ z))
sums-zero a b c x y z o p q f =
    let g = add-finite (a ⊗ x ⊕ b ⊗ y) (c ⊗ z) f in
    let h = add-finite (a ⊗ x) (b ⊗ y) g.0 in sum-zero (a ⊗ x ⊕ b ⊗ y) (c ⊗ z) (sum-zero (a ⊗ x) (b ⊗ y) (product-zero a x h.0 o) (product-zero b y h.1 p)) (product-zero c z g.1 q)

-- ---- the answer
pub record NoWay (w : Ned) : Type 0 where
  pub no_north : T (is_zero w.n)
  pub no_east : T (is_zero w.e)
  pub no-down : T (is_zero w.d)

both : (a b : Bool) → T (a && b) → T a × T b
both true b t = (tt, t)
both false b t = absurd t

record Whole (w : Ned) : Type 0 where
  north_finite : T (finite w.n)
  east_finite : T (finite w.e)
  down-finite : T (finite w.d)

whole : (w : Ned) → T (all_finite w) → Whole w
unfolding all_finite
whole w f =
    let g = both (finite w.n && finite w.e) (finite w.d) f in
    let h = both (finite w.n) (finite w.e) g.0 in
    record { north_finite = h.0; east_finite = h.1; down-finite = g.1 }

module _ (r v : Vec3) (zx : T (is_zero v.x)) (zy : T (is_zero v.y)) (zz : T (is_zero v.z)) where
  no_way : T (all_finite (ned_at r v)) → NoWay (ned_at r v)
  unfolding ned_at axis_turned
  no_way f =
      let g = whole (ned_at r v) f in
      record {
        no_north = sums-zero _ _ _ v.x v.y v.z zx zy zz g.north_finite;
        no_east = sums-zero _ _ _ v.x v.y v.z zx zy zz g.east_finite;
        no-down = sums-zero _ _ _ v.x v.y v.z zx zy zz g.down-finite;
      }

  pub still : (w : Ned) → north_east_down r v ≡ Ok w → NoWay w
  unfolding north_east_down
  still w = go (vector_in_range r && vector_in_range v) (all_finite (ned_at r v)) no_way
    where
      way : Result Ned Refusal → Ned
      way (Err x) = ned_at r v
      way (Ok u) = u

      answers : Result Ned Refusal → Bool
      answers (Err x) = false
      answers (Ok u) = true

      go : (a b : Bool) → (T b → NoWay (ned_at r v)) → cond (a && b) (Ok (ned_at r v)) (Err NotTurned) ≡ Ok w → NoWay w
      go true true f e = subst NoWay (ap way e) (f tt)
      go true false f e = absurd (subst (λ (c : Result Ned Refusal). T (answers c)) (sym e) tt)
      go false b f e = absurd (subst (λ (c : Result Ned Refusal). T (answers c)) (sym e) tt)
