-- THE LAW: of tridiagonal equations whose pivots and solution are finite, every row is met as closely as its bound says. For any number of rows. Assumes nothing.
use mathlib.Core.Path.{◌≡◌, refl, sym, ap, ◌∙◌, subst}
use mathlib.Core.Logic.{inl}
use Prim.Native.Nat.{ℕ, zero, suc, ◌-◌, ◌*◌, ◌^◌, ◌≤◌, ◌<◌}
use native.Mathlib.Nat.{le_antisymm}
use native.Mathlib.Omega.{arith}
use mathlib.Core.Bool.{Bool, true, false, not, cond}
use lib.Dec.{T, ltb, ltb→lt, nltb→le, lit≤}
use lib.Pow.{pow_pos}
use lib.Ieee.{Float, binary64, fits}
use lib.Ieee.Fits.{sub-fits, mul-fits, div-fits}
use lib.Ieee.Scale.{finite}
use Rattle.exact.specs.Float.{◌⊖◌, ◌⊗◌, ◌⊘◌}
use Rattle.exact.specs.Value.{scale}
use Rattle.exact.specs.Number.{Number, 0ₑ, exactly}
use Rattle.exact.proofs.Num.{Num, none, ◌⊙◌, abs, Plain}
use Rattle.exact.proofs.Ops.{scale-pos, val, val-plain, mul-near, div-near, sub-near, sub-finite, mul-finite, div-finite}
use Rattle.exact.proofs.Number.{Sized, is-2^-, is-exactly, sized-0, sized-exactly}
use Rattle.track_tridiagonal.specs.Tridiagonal.{Equations, pivot, factor, reduced, eliminated, back, solution}
use Rattle.track_tridiagonal.proofs.RowGap.{Back, Steps, back-row, back_last, gap-small}
use Rattle.track_tridiagonal.proofs.RowBound.{row-bound}
use Rattle.track_tridiagonal.specs.Accuracy.{joined_rows, RowAccurate, RowsMet, RowsAccurate}

-- the first n rows of each column are binary64s, as every float of a program is
pub record Fitting (q : Equations) (n : ℕ) : Type 0 where
  pub diagonal-fits : (i : ℕ) → i < n → T (fits binary64 (q.diagonal i))
  pub upper_fits : (i : ℕ) → suc i < n → T (fits binary64 (q.upper i))
  pub right-fits : (i : ℕ) → i < n → T (fits binary64 (q.right i))

-- ---- the unknowns, one from the next
pub solved : (q : Equations) (n i : ℕ) → suc i < n → solution q n i ≡ (reduced q i ⊖ q.upper i ⊗ solution q n (suc i)) ⊘ pivot q i
unfolding solution back
solved q n i h =
    let j = n - 1 - suc i in
    let a : n - 1 - i ≡ suc j = omega arith in
    let b : n - 1 - suc j ≡ i = omega arith in
    ap (back (eliminated q) (n - 1)) a ∙ ap (λ (k : ℕ). (reduced q k ⊖ q.upper k ⊗ back (eliminated q) (n - 1) j) ⊘ pivot q k) b

pub solved-last : (q : Equations) (n i : ℕ) → suc i ≡ n → solution q n i ≡ reduced q i ⊘ pivot q i
unfolding solution back
solved-last q n i h =
    let a : n - 1 - i ≡ 0 = omega arith in
    let b : n - 1 ≡ i = omega arith in
    ap (back (eliminated q) (n - 1)) a ∙ ap (λ (k : ℕ). reduced q k ⊘ pivot q k) b

wide : 16 ≤ 2 ^ 53
wide = lit≤ tt

-- ---- the first row: nothing is eliminated
start : (W S : ℕ) (wide : 16 ≤ W) (d b v Y : Num) → Plain b → Back W S wide b (v ⊙ d) Y (abs d) → Steps W S wide none none d none d b none none none b none v Y
start W S wide d b v Y p h =
    record {
      factor = omega arith;
      taken = omega arith;
      pivot = omega arith;
      taken-right = omega arith;
      right = omega arith;
      row-above = omega arith;
      row = h;
      R-plain = inl refl;
      b-plain = p;
    }

module _ (q : Equations) (n : ℕ) (held : Fitting q n) (pf : (i : ℕ) → i < n → T (finite (pivot q i))) (xf : (i : ℕ) → i < n → T (finite (solution q n i))) where
  up : {i : ℕ} → suc i < n → i < n
  up {i} h = omega arith

  -- ---- all that is read fits and is finite
  pivot-fits : (i : ℕ) → i < n → T (fits binary64 (pivot q i))
  unfolding pivot
  pivot-fits zero h = held.diagonal-fits 0 h
  pivot-fits (suc i) h = sub-fits binary64 (q.diagonal (suc i)) ((q.upper i ⊘ pivot q i) ⊗ q.upper i)

  reduced-fits : (i : ℕ) → i < n → T (fits binary64 (reduced q i))
  unfolding reduced
  reduced-fits zero h = held.right-fits 0 h
  reduced-fits (suc i) h = sub-fits binary64 (q.right (suc i)) (factor q i ⊗ reduced q i)

  more : (i : ℕ) → i < n → (b : Bool) → (T b → suc i < n) → (T (not b) → n ≤ suc i) → T (fits binary64 (solution q n i)) × T (finite (reduced q i))
  more i h true l m =
      let e = solved q n i (l tt) in
      let s = reduced q i ⊖ q.upper i ⊗ solution q n (suc i) in (
        subst (λ (z : Float). T (fits binary64 z)) (sym e) (div-fits binary64 s (pivot q i)),
        (sub-finite (reduced q i) (q.upper i ⊗ solution q n (suc i)) (div-finite s (pivot q i) (subst (λ (z : Float). T (finite z)) e (xf i h)))).0,
      )
  more i h false l m =
      let k : suc i ≡ n = le_antisymm h (m tt) in
      let e = solved-last q n i k in
      (subst (λ (z : Float). T (fits binary64 z)) (sym e) (div-fits binary64 (reduced q i) (pivot q i)), div-finite (reduced q i) (pivot q i) (subst (λ (z : Float). T (finite z)) e (xf i h)))

  x_fits : (i : ℕ) → i < n → T (fits binary64 (solution q n i))
  x_fits i h = (more i h (ltb (suc i) n) (ltb→lt (suc i) n) (nltb→le (suc i) n)).0

  reduced-finite : (i : ℕ) → i < n → T (finite (reduced q i))
  reduced-finite i h = (more i h (ltb (suc i) n) (ltb→lt (suc i) n) (nltb→le (suc i) n)).1

  taken-finite : (i : ℕ) → suc i < n → T (finite (factor q i)) × T (finite (q.upper i))
  unfolding pivot
  taken-finite i h = mul-finite (factor q i) (q.upper i) (sub-finite (q.diagonal (suc i)) (factor q i ⊗ q.upper i) (pf (suc i) h)).1

  right-finite : (i : ℕ) → i < n → T (finite (q.right i))
  unfolding reduced
  right-finite zero h = reduced-finite 0 h
  right-finite (suc i) h = (sub-finite (q.right (suc i)) (factor q i ⊗ reduced q i) (reduced-finite (suc i) h)).0

  -- ---- a row once solved
  abbrev Solved : ℕ → Num → Type 0
  Solved i Y = Back (2 ^ 53) scale wide (val (reduced q i)) (val (solution q n i) ⊙ val (pivot q i)) Y (abs (val (pivot q i)))

  solved-near : (i : ℕ) → suc i < n → Solved i (val (q.upper i) ⊙ val (solution q n (suc i)))
  solved-near i h =
      let e = solved q n i h in
      let y = solution q n (suc i) in
      let m = q.upper i ⊗ y in
      let s = reduced q i ⊖ m in
      let fd : T (finite (s ⊘ pivot q i)) = subst (λ (z : Float). T (finite z)) e (xf i (up h)) in
      let fs = div-finite s (pivot q i) fd in
      let fr = sub-finite (reduced q i) m fs in
      let fm = mul-finite (q.upper i) y fr.1 in
      subst (λ (z : Float). Back (2 ^ 53) scale wide (val (reduced q i)) (val z ⊙ val (pivot q i)) (val (q.upper i) ⊙ val y) (abs (val (pivot q i)))) (sym e)
      (back-row (2 ^ 53) scale wide (val (reduced q i)) (val m) (val s) (val (s ⊘ pivot q i) ⊙ val (pivot q i)) (val (q.upper i) ⊙ val y) (abs (val (pivot q i))) (val-plain s)
      (mul-near (q.upper i) y (held.upper_fits i h) (x_fits (suc i) h) fm.0 fm.1 fr.1).exactly
      (sub-near (reduced q i) m (reduced-fits i (up h)) (mul-fits binary64 (q.upper i) y) fr.0 fr.1 fs)
      (div-near s (pivot q i) (sub-fits binary64 (reduced q i) m) (pivot-fits i (up h)) fs (pf i (up h)) fd).near)

  last-near : (i : ℕ) → suc i ≡ n → i < n → Solved i none
  last-near i k h =
      let e = solved-last q n i k in
      let fd : T (finite (reduced q i ⊘ pivot q i)) = subst (λ (z : Float). T (finite z)) e (xf i h) in
      subst (λ (z : Float). Back (2 ^ 53) scale wide (val (reduced q i)) (val z ⊙ val (pivot q i)) none (abs (val (pivot q i)))) (sym e)
      (back_last (2 ^ 53) scale wide (val (reduced q i)) (val (reduced q i ⊘ pivot q i) ⊙ val (pivot q i)) (abs (val (pivot q i)))
      (div-near (reduced q i) (pivot q i) (reduced-fits i h) (pivot-fits i h) (div-finite (reduced q i) (pivot q i) fd) (pf i h) fd).near)

  -- ---- a row once eliminated
  steps : (i : ℕ) (Y : Num) → suc i < n → Solved (suc i) Y
      → Steps (2 ^ 53) scale wide (val (factor q i)) (val (pivot q i)) (val (pivot q (suc i))) (val (q.upper i)) (val (q.diagonal (suc i))) (val (q.right (suc i)))
      (val (factor q i ⊗ q.upper i)) (val (factor q i ⊗ reduced q i)) (val (reduced q i)) (val (reduced q (suc i))) (val (solution q n i)) (val (solution q n (suc i))) Y
  unfolding pivot reduced
  steps i Y h b =
      let e = q.upper i in
      let c = pivot q i in
      let f = factor q i in
      let D = q.diagonal (suc i) in
      let r = q.right (suc i) in
      let R = reduced q i in
      let ft = sub-finite D (f ⊗ e) (pf (suc i) h) in
      let ff = taken-finite i h in
      let gt = sub-finite r (f ⊗ R) (reduced-finite (suc i) h) in
      let E = held.upper_fits i h in
      let F = div-fits binary64 e c in
      record {
        factor = (div-near e c E (pivot-fits i (up h)) ff.1 (pf i (up h)) ff.0).near;
        taken = (mul-near f e F E ff.0 ff.1 ft.1).exactly;
        pivot = sub-near D (f ⊗ e) (held.diagonal-fits (suc i) h) (mul-fits binary64 f e) ft.0 ft.1 (pf (suc i) h);
        taken-right = (mul-near f R F (reduced-fits i (up h)) ff.0 (reduced-finite i (up h)) gt.1).exactly;
        right = sub-near r (f ⊗ R) (held.right-fits (suc i) h) (mul-fits binary64 f R) gt.0 gt.1 (reduced-finite (suc i) h);
        row-above = solved-near i h;
        row = b;
        R-plain = val-plain R;
        b-plain = val-plain (reduced q (suc i));
      }

  -- ---- what stands on the right of a row, and 0 in the last
  record Beside (i : ℕ) (g u : Number) : Type 0 where
    g' : Num
    u' : Num
    g-is : Sized g g' scale
    u-is : Sized u u' scale
    row : Solved i (g' ⊙ u')

  beside : (i : ℕ) → i < n → Beside i (joined_rows n i (q.upper i)) (joined_rows n i (solution q n (suc i)))
  beside i h = go (ltb (suc i) n) (ltb→lt (suc i) n) (nltb→le (suc i) n)
    where
      go : (b : Bool) → (T b → suc i < n) → (T (not b) → n ≤ suc i) → Beside i (cond b (exactly (q.upper i)) 0ₑ) (cond b (exactly (solution q n (suc i))) 0ₑ)
      go true l m =
          record {
            g' = val (q.upper i);
            u' = val (solution q n (suc i));
            g-is = sized-exactly (q.upper i);
            u-is = sized-exactly (solution q n (suc i));
            row = solved-near i (l tt);
          }
      go false l m = record { g' = none; u' = none; g-is = sized-0 scale; u-is = sized-0 scale; row = last-near i (le_antisymm h (m tt)) h }

  halves : 2 ^ 1020 * (2 * 2 ^ 53) ≡ scale
  unfolding scale
  halves = refl

  sixteenth : 2 ^ 1070 * 16 ≡ scale
  unfolding scale
  sixteenth = refl

  row-accurate : (i : ℕ) → i < n → RowAccurate q n (solution q n) i
  unfolding pivot reduced
  row-accurate zero h =
      let s = beside 0 h in
      let d = q.diagonal 0 in
      let r = q.right 0 in
      let v = solution q n 0 in
      row-bound scale (2 ^ 1070) (2 ^ 1020) (2 ^ 50) scale-pos (pow_pos 1070) refl (is-2^- 50) (is-2^- 1070)
      (sized-0 scale) (sized-exactly d) (sized-0 scale) (sized-0 scale) s.g-is (sized-0 scale) (sized-exactly v) s.u-is (is-exactly d) (is-exactly r)
      (gap-small (2 ^ 53) scale wide (2 ^ 1070) (2 ^ 1020) halves sixteenth none none (val d) none (val d) (val r) none none none (val r) none (val v) (s.g' ⊙ s.u')
      (start (2 ^ 53) scale wide (val d) (val r) (val v) (s.g' ⊙ s.u') (val-plain r) s.row))
  row-accurate (suc i) h =
      let s = beside (suc i) h in
      let f = factor q i in
      let c = pivot q i in
      let d = pivot q (suc i) in
      let e = q.upper i in
      let D = q.diagonal (suc i) in
      let r = q.right (suc i) in
      let w = solution q n i in
      let v = solution q n (suc i) in
      row-bound scale (2 ^ 1070) (2 ^ 1020) (2 ^ 50) scale-pos (pow_pos 1070) refl (is-2^- 50) (is-2^- 1070)
      (sized-exactly f) (sized-exactly d) (sized-exactly c) (sized-exactly e) s.g-is (sized-exactly w) (sized-exactly v) s.u-is (is-exactly D) (is-exactly r)
      (gap-small (2 ^ 53) scale wide (2 ^ 1070) (2 ^ 1020) halves sixteenth (val f) (val c) (val d) (val e) (val D) (val r) (val (f ⊗ e)) (val (f ⊗ reduced q i)) (val (reduced q i)) (val (reduced q (suc i))) (val w) (val v) (s.g' ⊙ s.u')
      (steps i (s.g' ⊙ s.u') h s.row))

  pub rows-met : RowsMet q n
  rows-met = record { upper-finite = λ i h. (taken-finite i h).1; factor-finite = λ i h. (taken-finite i h).0; right-finite = right-finite; accurate = row-accurate }

pub rows-accurate : (q : Equations) (n : ℕ) → Fitting q n → RowsAccurate q n
rows-accurate q n held fine = rows-met q n held fine.pivot-finite fine.solution-finite
