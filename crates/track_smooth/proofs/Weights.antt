-- The scales of the measurements, one at a time. Assumes nothing.
use Rattle.std.specs.Prelude.{Option, Some, None}
use Rattle.std.proofs.lemmas.Option.{none-some, same_Some}
use mathlib.Core.Path.{◌≡◌, refl, sym, ◌∙◌, ap, ap₂}
use mathlib.Core.Bool.{true, false, ◌&&◌}
use mathlib.Core.Logic.{⊎_elim}
use mathlib.Core.List.{List}
use Prim.Native.Nat.{ℕ, ◌+◌, ◌*◌, ◌<◌}
use native.Mathlib.Nat.{eq-or-lt_of_le}
use native.Mathlib.Omega.{arith}
use lib.Dec.{T}
use lib.ListN.{length, get_or, set}
use lib.Ieee.{Float, nan, inf, fin, binary64, fits, lt, le, div, of_bits, of_int}
use lib.Ieee.Fits.{mul-fits, div-fits, cond-fits}
use lib.Ieee.Bits.{of_bits-fits}
use Rattle.exact.specs.Float.{◌⊕◌, ◌⊖◌, ◌⊗◌, ◌⊘◌, +0, 1·0, decimal, bits}
use Rattle.root.specs.Root.{root_of}
use Rattle.numeric.specs.Real.{square, max}
use Rattle.track_tridiagonal.proofs.EachBelow.{left-true, right-true}
use Rattle.numeric.specs.Order.{pattern_of}
use Rattle.numeric.specs.declared.vec3.Vec3.{Vec3}
use Rattle.track_tridiagonal.specs.Rows.{float_at}
use Rattle.track_tridiagonal.proofs.Cells.{miss, float-hit, float-miss, kept-none}
use Rattle.track_pass.specs.Input.{Measured, index_at, value_at}
use Rattle.track_pass.specs.Equations.{next_at}
use Rattle.track_smooth.specs.Track.{huber_of, anchor_scale, link_scale}
use Rattle.track_smooth.specs.Steps.{Limit, Weighed, point_in, fit_in}
use Rattle.track_smooth.proofs.RootOrder.{root-within}

-- ---- `huber`

-- 1e-12, as the code writes it
pub floor-is : bits 0x3D71_9799_812D_EA11 ≡ decimal 1 12
unfolding of_bits of_int div
floor-is = refl

pub huber-near : (h z : Float) → le z h ≡ true → 1·0 ≡ huber_of h z
unfolding huber_of
huber-near h z e = rw e

pub huber-far : (h z m : Float) → le z h ≡ false → m ≡ max z (bits 0x3D71_9799_812D_EA11) → h ⊘ m ≡ huber_of h z
unfolding huber_of
huber-far h z m e f = rw (e, f, floor-is)

-- ---- the limit

pub no-limit : (h : Float) → Limit h None
no-limit h = record { within = λ most q n f p e. absurd (none-some most n) }

infinity-is : 1·0 ⊘ +0 ≡ inf false
unfolding div of_bits
infinity-is = refl

pub some-limit : (h z : Float) → z ≡ root_of (h ⊗ h) → (lt +0 h && (lt +0 (h ⊗ h) && (lt (h ⊗ h) (1·0 ⊘ +0) && le z h))) ≡ true → Limit h (Some (h ⊗ h))
some-limit h z ez e =
    let c = h ⊗ h in
    let A = lt +0 h in
    let B = lt +0 c in
    let C = lt c (1·0 ⊘ +0) in
    let D = le z h in
    let e1 = right-true A (B && (C && D)) e in
    let e2 = right-true B (C && D) e1 in
    record {
      within = λ most q n f p m. let l = rw (← same_Some _ _ n) at m in root-within q c h f (mul-fits binary64 h h) p (rw infinity-is at (left-true C D e2)) (left-true B (C && D) e1) (left-true A (B && (C && D)) e) l (rw ez at (right-true C D e2));
    }

pub scale-near : (h c q : Float) {o : Option Float} → Limit h o → o ≡ Some c → T (fits binary64 q) → (lt +0 q && le q c) ≡ true → 1·0 ≡ huber_of h (root_of q)
scale-near h c q l n f e = huber-near h (root_of q) (l.within c q n f (left-true (lt +0 q) (le q c) e) (right-true (lt +0 q) (le q c) e))

-- ---- a distance from three residuals and three sigmas

same_scale : (h : Float) (x y z a b c x' y' z' a' b' c' : Float) → x ≡ x' → y ≡ y' → z ≡ z' → a ≡ a' → b ≡ b' → c ≡ c'
    → huber_of h (root_of (square (x ⊘ a) ⊕ square (y ⊘ b) ⊕ square (z ⊘ c))) ≡ huber_of h (root_of (square (x' ⊘ a') ⊕ square (y' ⊘ b') ⊕ square (z' ⊘ c')))
same_scale h x y z a b c x' y' z' a' b' c' ex ey ez ea eb ec = rw (ex, ey, ez, ea, eb, ec)

float-places : (r : List ℕ) (v : List Float) (a a' b b' : ℕ) (x : Float) → x ≡ float_at r a → a ≡ a' → b ≡ b' → x ⊖ get_or v b nan ≡ float_at r a' ⊖ get_or v b' nan
float-places r v a a' b b' x ex e f = rw (ex, e, f)

step-places : (r : List ℕ) (v : List Float) (a a' b b' c c' : ℕ) (x y : Float) → x ≡ float_at r a → y ≡ float_at r b → a ≡ a' → b ≡ b' → c ≡ c'
    → x ⊖ y ⊖ get_or v c nan ≡ float_at r a' ⊖ float_at r b' ⊖ get_or v c' nan
step-places r v a a' b b' c c' x y ex ey e f g = rw (ex, ey, e, f, g)

same_place : (v : List Float) (a b : ℕ) → a ≡ b → get_or v a nan ≡ get_or v b nan
same_place v a b e = ap (λ (k : ℕ). get_or v k nan) e

pub huber-fits : (h z : Float) → T (fits binary64 (huber_of h z))
unfolding huber_of
huber-fits h z = cond-fits binary64 (le z h) 1·0 (h ⊘ max z (decimal 1 12)) one-fits (div-fits binary64 _ _)
  where
    one-fits : T (fits binary64 1·0)
    one-fits = of_bits-fits binary64 0x3FF0_0000_0000_0000

pub at-point : (r : List ℕ) (i : ℕ) (v : Vec3) → v ≡ point_in r i → (v.x ≡ float_at r i) × (v.y ≡ float_at r (i + 1)) × (v.z ≡ float_at r (i + 2))
at-point r i v e = (ap (λ (u : Vec3). u.x) e, ap (λ (u : Vec3). u.y) e, ap (λ (u : Vec3). u.z) e)

-- ---- one measurement more

pub weighed_none : (f : ℕ → Float) (from : ℕ) (w : List ℕ) → Weighed f from 0 w w
weighed_none f from w = record { kept = kept-none from (from + 0) w; scales = λ j l. absurd (omega arith) }

pub weighed_all : (f : ℕ → Float) (from j m : ℕ) (w w' : List ℕ) → j ≡ m → Weighed f from j w w' → Weighed f from m w w'
weighed_all f from j m w w' e s = rw e at s

weighed_more : (f : ℕ → Float) (from j : ℕ) (w₀ w : List ℕ) (v : Float) → T (fits binary64 v) → from + j < length w → v ≡ f j → Weighed f from j w₀ w → Weighed f from (j + 1) w₀ (set w (from + j) (pattern_of v))
weighed_more f from j w₀ w v fv room e s = record {
  kept = record {
    low = λ q g. miss w (from + j) q (pattern_of v) (omega arith) ∙ s.kept.low q g;
    high = λ q g. miss w (from + j) q (pattern_of v) (omega arith) ∙ s.kept.high q (omega arith);
  };
  scales = λ i g. ⊎_elim
      (λ q. let h : i ≡ j = omega arith in float-hit w (from + j) (from + i) v fv room (omega arith) ∙ e ∙ ap f (sym h))
      (λ q. float-miss w (from + j) (from + i) (pattern_of v) (omega arith) ∙ s.scales i (omega arith))
      (eq-or-lt_of_le g);
}

module _ (m : Measured) (h : Float) (r : List ℕ) (from j : ℕ) (w₀ w : List ℕ) (room : from + j < length w) (v : Float) (x y z : Float) (b : ℕ) (eb : b ≡ pattern_of v)
    (ev : v ≡ huber_of h
    (root_of
    (square ((x ⊖ get_or m.value (j * 3) nan) ⊘ get_or m.sigma (j * 3) nan)
    ⊕ square ((y ⊖ get_or m.value (j * 3 + 1) nan) ⊘ get_or m.sigma (j * 3 + 1) nan)
    ⊕ square ((z ⊖ get_or m.value (j * 3 + 2) nan) ⊘ get_or m.sigma (j * 3 + 2) nan)))) where
  value-fits : T (fits binary64 v)
  value-fits = rw ev (huber-fits h _)

  pub anchor_weighed : (let i = index_at m j * 3 in (x ≡ float_at r i) × (y ≡ float_at r (i + 1)) × (z ≡ float_at r (i + 2)))
      → Weighed (anchor_scale m h (fit_in r)) from j w₀ w → Weighed (anchor_scale m h (fit_in r)) from (j + 1) w₀ (set w (from + j) b)
  unfolding anchor_scale
  anchor_weighed e s =
      let i = index_at m j * 3 in
      rw eb (weighed_more (anchor_scale m h (fit_in r)) from j w₀ w v value-fits room
      (ev ∙ same_scale h _ _ _ _ _ _ _ _ _ _ _ _
      (float-places r m.value i (i + 0) (j * 3) (j * 3 + 0) x e.0 (omega arith) (omega arith))
      (float-places r m.value (i + 1) (i + 1) (j * 3 + 1) (j * 3 + 1) y e.1 refl refl)
      (float-places r m.value (i + 2) (i + 2) (j * 3 + 2) (j * 3 + 2) z e.2 refl refl)
      (same_place m.sigma (j * 3) (j * 3 + 0) (omega arith)) refl refl) s)

  module _ (x0 y0 z0 x1 y1 z1 : Float) (ex : x ≡ x1 ⊖ x0) (ey : y ≡ y1 ⊖ y0) (ez : z ≡ z1 ⊖ z0) where
    pub link_weighed : (let i = index_at m j * 3 in (x0 ≡ float_at r i) × (y0 ≡ float_at r (i + 1)) × (z0 ≡ float_at r (i + 2)))
        → (let i = index_at m j * 3 + 3 in (x1 ≡ float_at r i) × (y1 ≡ float_at r (i + 1)) × (z1 ≡ float_at r (i + 2)))
        → Weighed (link_scale m h (fit_in r)) from j w₀ w → Weighed (link_scale m h (fit_in r)) from (j + 1) w₀ (set w (from + j) b)
    unfolding link_scale
    link_weighed e f s =
        let k = index_at m j in
        let i = k * 3 in
        rw eb (weighed_more (link_scale m h (fit_in r)) from j w₀ w v value-fits room
        (ev ∙ same_scale h _ _ _ _ _ _ _ _ _ _ _ _
        (ap (λ (q : Float). q ⊖ get_or m.value (j * 3) nan) ex ∙ step-places r m.value (i + 3) ((k + 1) * 3 + 0) i (i + 0) (j * 3) (j * 3 + 0) x1 x0 f.0 e.0 (omega arith) (omega arith) (omega arith))
        (ap (λ (q : Float). q ⊖ get_or m.value (j * 3 + 1) nan) ey ∙ step-places r m.value (i + 3 + 1) ((k + 1) * 3 + 1) (i + 1) (i + 1) (j * 3 + 1) (j * 3 + 1) y1 y0 f.1 e.1 (omega arith) refl refl)
        (ap (λ (q : Float). q ⊖ get_or m.value (j * 3 + 2) nan) ez ∙ step-places r m.value (i + 3 + 2) ((k + 1) * 3 + 2) (i + 2) (i + 2) (j * 3 + 2) (j * 3 + 2) z1 z0 f.2 e.2 (omega arith) refl refl)
        (same_place m.sigma (j * 3) (j * 3 + 0) (omega arith)) refl refl) s)

-- ---- a list that holds a fit gives the fit's scales

module _ (m : Measured) (n : ℕ) (h : Float) (r : List ℕ) (f : ℕ → ℕ → Float) (fit : (t k : ℕ) → t < 3 → k < n → fit_in r t k ≡ f t k) where
  pub held_anchor : (j : ℕ) → index_at m j < n → anchor_scale m h (fit_in r) j ≡ anchor_scale m h f j
  unfolding anchor_scale
  held_anchor j g =
      let i = index_at m j in
      same_scale h _ _ _ _ _ _ _ _ _ _ _ _
      (ap (λ (x : Float). x ⊖ value_at m 0 j) (fit 0 i (omega arith) g))
      (ap (λ (x : Float). x ⊖ value_at m 1 j) (fit 1 i (omega arith) g))
      (ap (λ (x : Float). x ⊖ value_at m 2 j) (fit 2 i (omega arith) g))
      refl refl refl

  pub held_link : (j : ℕ) → next_at m j < n → link_scale m h (fit_in r) j ≡ link_scale m h f j
  unfolding link_scale
  held_link j g =
      let i = index_at m j in
      same_scale h _ _ _ _ _ _ _ _ _ _ _ _
      (ap₂ (λ (x y : Float). x ⊖ y ⊖ value_at m 0 j) (fit 0 (i + 1) (omega arith) g) (fit 0 i (omega arith) (omega arith)))
      (ap₂ (λ (x y : Float). x ⊖ y ⊖ value_at m 1 j) (fit 1 (i + 1) (omega arith) g) (fit 1 i (omega arith) (omega arith)))
      (ap₂ (λ (x y : Float). x ⊖ y ⊖ value_at m 2 j) (fit 2 (i + 1) (omega arith) g) (fit 2 i (omega arith) (omega arith)))
      refl refl refl
