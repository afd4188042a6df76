-- The result, and the passes in turn. Assumes nothing.
use mathlib.Core.Path.{◌≡◌, refl, sym, ◌∙◌, ap}
use mathlib.Core.Bool.{Bool, true, false}
use mathlib.Core.List.{List}
use Prim.Native.Nat.{ℕ, zero, suc, ◌+◌, ◌-◌, ◌*◌, ◌/◌, ◌%◌, ◌≤◌, ◌<◌}
use native.Mathlib.Omega.{arith}
use lib.Dec.{T}
use lib.ListN.{length, get_or, take, length-take}
use lib.Seq.{get_or-take}
use lib.Ieee.{Float, is_nan, binary64, fits}
use lib.Ieee.Fits.{add-fits}
use Rattle.exact.specs.Float.{bits}
use Rattle.numeric.specs.Order.{pattern_of}
use Rattle.numeric.proofs.OrderLaws.{pattern_back}
use Rattle.track_tridiagonal.specs.Rows.{float_at, SameOutside}
use Rattle.track_tridiagonal.specs.Steps.{Filled}
use Rattle.track_tridiagonal.proofs.Cells.{place, same_float, kept-none, kept_then}
use Rattle.track_tridiagonal.proofs.Nan.{finite_number}
use Rattle.track_pass.specs.Input.{Measured, Trajectory, work_need}
use Rattle.track_pass.specs.Equations.{Scales}
use Rattle.track_pass.specs.Pass.{pass_succeeds, fitted_at}
use Rattle.track_pass.specs.Steps.{Lent, Valid, scales_in, Tabulated, PassDone}
use Rattle.track_pass.proofs.Passing.{pass_succeeds-same, fit_same}
use Rattle.track_pass.proofs.Finite.{pass-finite}
use Rattle.track_smooth.specs.Track.{anchor_scale, link_scale, scales_of, ones, smoothed}
use Rattle.track_smooth.specs.Steps.{fit_in, Numbers, Weighed, Reweighed, FitDone}
use Rattle.track_smooth.proofs.Passes.{track_from, from-none, from-yes, from-no}
use Rattle.track_smooth.proofs.Weights.{held_anchor, held_link}

-- ---- a list that holds a fit, as floats

module _ (r : List ℕ) (n : ℕ) (f : ℕ → ℕ → Float) (fits_all : (t k : ℕ) → T (fits binary64 (f t k))) (s : Tabulated r n f) where
  pub tabulated_fit : (t k : ℕ) → t < 3 → k < n → fit_in r t k ≡ f t k
  tabulated_fit t k l h = ap bits (at t l) ∙ pattern_back (f t k) (fits_all t k)
    where
      at : (t : ℕ) → t < 3 → get_or r (k * 3 + t) 0 ≡ pattern_of (f t k)
      at zero l = place r (k * 3 + 0) (k * 3) (omega arith) ∙ s.xs k h
      at (suc zero) l = s.ys k h
      at (suc (suc zero)) l = s.zs k h
      at (suc (suc (suc t))) l = absurd (omega arith)

fit-fits : (p : Trajectory) (s : Scales) (t k : ℕ) → T (fits binary64 (fitted_at p s t k))
unfolding fitted_at
fit-fits p s t k = add-fits binary64 _ _

-- ---- the scales by a fit

-- a list of n points
pub lent-third : (m : Measured) (n r : ℕ) → r ≡ n * 3 → Lent m n → Lent m (r / 3)
lent-third m n r e s = record { indices = s.indices; values = s.values; sigmas = s.sigmas; below = λ j l. let h = s.below j l in omega arith }

pub lent-next : (m : Measured) (n r : ℕ) → r ≡ n * 3 → Lent m (n - 1) → Lent m (r / 3 - 1)
lent-next m n r e s = record { indices = s.indices; values = s.values; sigmas = s.sigmas; below = λ j l. let h = s.below j l in omega arith }

pub reweighed : (p : Trajectory) (h : Float) (r w w1 w2 : List ℕ) → Weighed (anchor_scale p.anchors h (fit_in r)) (p.n * 9) p.anchors.count w w1
    → Weighed (link_scale p.links h (fit_in r)) (p.n * 9 + p.anchors.count) p.links.count w1 w2 → Reweighed p h r w w2
reweighed p h r w w1 w2 a l = record {
  kept = record { low = λ k g. absurd (omega arith); high = λ k g. l.kept.high k (omega arith) ∙ a.kept.high k (omega arith) };
  anchors = λ j g. same_float w1 w2 (p.n * 9 + j) (l.kept.low (p.n * 9 + j) (omega arith)) ∙ a.scales j g;
  links = l.scales;
}

-- ---- the fit of a pass, in the result

-- the scales s stand after the rows of w
pub record Stand (p : Trajectory) (s : Scales) (w : List ℕ) : Type 0 where
  pub anchors : (j : ℕ) → j < p.anchors.count → (scales_in p w).anchors j ≡ s.anchors j
  pub links : (j : ℕ) → j < p.links.count → (scales_in p w).links j ≡ s.links j

module _ (p : Trajectory) (s : Scales) (w w' r r' : List ℕ) (ok : Bool) (d : PassDone p w r ok w' r') (e : Stand p s w) where
  pub pass-answer : ok ≡ pass_succeeds p s
  pass-answer = d.answer ∙ pass_succeeds-same p (scales_in p w) s e.anchors e.links

  pub pass-fit : ok ≡ true → Tabulated r' p.n (fitted_at p s)
  pass-fit y =
      let f = d.fit y in
      record { xs = λ k g. f.xs k g ∙ same 0 k; ys = λ k g. f.ys k g ∙ same 1 k; zs = λ k g. f.zs k g ∙ same 2 k }
    where
      same : (t k : ℕ) → pattern_of (fitted_at p (scales_in p w) t k) ≡ pattern_of (fitted_at p s t k)
      same t k = ap pattern_of (fit_same p (scales_in p w) s e.anchors e.links t k)

-- ---- the first part of a list

pub take_long : (r : List ℕ) (m : ℕ) → m ≤ length r → length (take m r) ≡ m
take_long r m h = simp length-take (omega arith)

pub take_same : (r : List ℕ) (m k : ℕ) → k < m → get_or (take m r) k 0 ≡ get_or r k 0
take_same r m k h = rw get_or-take

pub none_done : (n : ℕ) → n ≤ 0 → n ≡ 0
none_done n h = omega arith

-- ---- the passes in turn

tabulated_is : (r : List ℕ) (n : ℕ) (f g : ℕ → ℕ → Float) → f ≡ g → Tabulated r n f → Tabulated r n g
tabulated_is r n f g e s = rw e at s

-- what a pass by the scales s leads to, after so many good ones: where it is good, the track is what the passes left make of its fit, and where it fails the track stands in r
pub record Ahead (p : Trajectory) (h : Float) (its : ℕ) (r₀ r : List ℕ) (done : ℕ) (s : Scales) : Type 0 where
  pub if-good : pass_succeeds p s ≡ true → (pass_succeeds p ones ≡ true) × (smoothed p h its ≡ track_from p h (its - (done + 1)) s)
  pub if-first : pass_succeeds p s ≡ false → done ≡ 0 → (pass_succeeds p ones ≡ false) × (r ≡ r₀)
  pub if-later : pass_succeeds p s ≡ false → 0 < done → (pass_succeeds p ones ≡ true) × Tabulated r p.n (smoothed p h its)

pub record Fitting (p : Trajectory) (h : Float) (its : ℕ) (w₀ r₀ w r : List ℕ) (done : ℕ) : Type 0 where
  pub work-kept : SameOutside 0 (work_need p) w₀ w
  pub kept : SameOutside 0 (p.n * 3) r₀ r
  pub work-long : length w ≡ length w₀
  pub long : length r ≡ length r₀
  pub few : done ≤ its
  pub scales : Scales
  pub stand : Stand p scales w
  pub ahead : Ahead p h its r₀ r done scales

pub fitting-none : (p : Trajectory) (h : Float) (its : ℕ) (w₀ r₀ w : List ℕ) → Filled (p.n * 9) (p.n * 9 + p.anchors.count + p.links.count) 0x3FF0_0000_0000_0000 w₀ w → length w ≡ length w₀ → Fitting p h its w₀ r₀ w r₀ 0
unfolding smoothed
fitting-none p h its w₀ r₀ w f l = record {
  work-kept = record { low = λ k g. absurd (omega arith); high = λ k g. f.kept.high k (omega arith) };
  kept = kept-none 0 (p.n * 3) r₀;
  work-long = l;
  long = refl;
  few = omega arith;
  scales = ones;
  stand = record {
    anchors = λ j g. ap bits (f.filled (p.n * 9 + j) (omega arith) (omega arith));
    links = λ j g. ap bits (f.filled (p.n * 9 + p.anchors.count + j) (omega arith) (omega arith));
  };
  ahead = record {
    if-good = λ e. (e, refl);
    if-first = λ e z. (e, refl);
    if-later = λ e z. absurd (omega arith);
  };
}

module _ (p : Trajectory) (v : Valid p) (h : Float) (its : ℕ) (w₀ r₀ w r : List ℕ) (done : ℕ) (s : Fitting p h its w₀ r₀ w r done) (ok : Bool) (w1 r1 : List ℕ) (d : PassDone p w r ok w1 r1) where
  work-then : SameOutside 0 (work_need p) w₀ w1
  work-then = record { low = λ k g. absurd (omega arith); high = λ k g. d.kept.high k (omega arith) ∙ s.work-kept.high k g }

  kept_too : SameOutside 0 (p.n * 3) r₀ r1
  kept_too = kept_then 0 (p.n * 3) 0 (p.n * 3) r₀ r r1 (omega arith) (omega arith) s.kept d.result-kept

  ok-is : ok ≡ pass_succeeds p s.scales
  ok-is = pass-answer p s.scales w w1 r r1 ok d s.stand

  pub fitting-fails : ok ≡ false → (b : Bool) → (b ≡ true → 0 < done) → (b ≡ false → done ≡ 0) → FitDone p h its w₀ w1 r₀ b r1
  fitting-fails f b t z =
      let n : pass_succeeds p s.scales ≡ false = sym ok-is ∙ f in
      record {
        work-kept = work-then;
        kept = kept_too;
        answer = go b t z;
        yes-holds = λ y. rw (d.no_same f) (s.ahead.if-later n (t y)).1;
        no_same = λ y. d.no_same f ∙ (s.ahead.if-first n (z y)).1;
      }
    where
      go : (b : Bool) → (b ≡ true → 0 < done) → (b ≡ false → done ≡ 0) → b ≡ pass_succeeds p ones
      go true t z = sym (s.ahead.if-later (sym ok-is ∙ f) (t refl)).0
      go false t z = sym (s.ahead.if-first (sym ok-is ∙ f) (z refl)).0

  module _ (y : ok ≡ true) where
    good : pass_succeeds p s.scales ≡ true
    good = sym ok-is ∙ y

    abbrev g : ℕ → ℕ → Float
    g = fitted_at p s.scales

    holds : Tabulated r1 p.n g
    holds = pass-fit p s.scales w w1 r r1 ok d s.stand y

    pub fitting-ends : its ≤ done + 1 → FitDone p h its w₀ w1 r₀ true r1
    fitting-ends m = record {
      work-kept = work-then;
      kept = kept_too;
      answer = sym (s.ahead.if-good good).0;
      yes-holds = λ _. tabulated_is r1 p.n g _ (sym ((s.ahead.if-good good).1 ∙ from-none p h (its - (done + 1)) s.scales (omega arith))) holds;
      no_same = λ f. let z : ◌≡◌ {A = ℕ} 0 1 = cc in absurd (omega arith);
    }

    in-fit : (t k : ℕ) → t < 3 → k < p.n → fit_in r1 t k ≡ g t k
    in-fit = tabulated_fit r1 p.n g (fit-fits p s.scales) holds

    fit-number : (t k : ℕ) → t < 3 → k < p.n → is_nan (fit_in r1 t k) ≡ false
    fit-number t k l h = ap is_nan (in-fit t k l h) ∙ finite_number (g t k) (pass-finite p v.origin s.scales good t l k h)

    -- the first part of the result, as a list, holds numbers, and the same fit
    module _ (rs : List ℕ) (long-rs : length rs ≡ p.n * 3) (same : (k : ℕ) → k < p.n * 3 → get_or rs k 0 ≡ get_or r1 k 0) where
      pub fit-numbers : Numbers rs
      fit-numbers = record { number = λ k h. go k h (k % 3) (k / 3) (omega arith) (omega arith) }
        where
          go : (k : ℕ) → k < length rs → (t q : ℕ) → t < 3 → k ≡ q * 3 + t → is_nan (float_at rs k) ≡ false
          go k h t q l e = ap is_nan (ap bits (same k (omega arith) ∙ place r1 k (q * 3 + t) e)) ∙ fit-number t q l (omega arith)

      in-part : (t k : ℕ) → t < 3 → k < p.n → fit_in rs t k ≡ g t k
      in-part t k l h = ap bits (same (k * 3 + t) (omega arith)) ∙ in-fit t k l h

      pub fitting-more : done + 1 < its → (w2 : List ℕ) → Reweighed p h rs w1 w2 → length w1 ≡ length w → length w2 ≡ length w1 → length r1 ≡ length r → Fitting p h its w₀ r₀ w2 r1 (done + 1)
      fitting-more more w2 x lw1 lw2 lr =
          let m = its - (done + 1) in
          let so = s.ahead.if-good good in
          let step : (e : pass_succeeds p (scales_of p h g) ≡ true) → track_from p h m s.scales ≡ track_from p h (its - (done + 1 + 1)) (scales_of p h g)
          = λ e. let i : m - 1 ≡ its - (done + 1 + 1) = omega arith in from-yes p h m s.scales e (omega arith) ∙ ap (λ (i : ℕ). track_from p h i (scales_of p h g)) i in
          record {
            work-kept = kept_then 0 (work_need p) 0 (work_need p) w₀ w1 w2 (omega arith) (omega arith) work-then x.kept;
            kept = kept_too;
            work-long = lw2 ∙ lw1 ∙ s.work-long;
            long = lr ∙ s.long;
            few = omega arith;
            scales = scales_of p h g;
            stand = record {
              anchors = λ j l. x.anchors j l ∙ held_anchor p.anchors p.n h rs g in-part j (v.anchors.below j l);
              links = λ j l. x.links j l ∙ held_link p.links p.n h rs g in-part j (omega (arith, v.links.below j l));
            };
            ahead = record {
              if-good = λ e. (so.0, so.1 ∙ step e);
              if-first = λ e z. absurd (omega arith);
              if-later = λ e z. (so.0, tabulated_is r1 p.n g _ (sym (so.1 ∙ from-no p h m s.scales e (omega arith))) holds);
            };
          }

-- ---- good passes

-- `done` good passes are made, the last of them from the work and the result before it
pub record Gone (p : Trajectory) (h : Float) (its : ℕ) (w₀ r₀ w r : List ℕ) (done : ℕ) : Type 0 where
  pub passes : ℕ
  pub count : done ≡ passes + 1
  pub old-w : List ℕ
  pub old-r : List ℕ
  pub fitting : Fitting p h its w₀ r₀ old-w old-r passes
  pub last : PassDone p old-w old-r true w r
  pub work-long : length w ≡ length old-w
  pub long : length r ≡ length old-r

pub gone-on : (p : Trajectory) (h : Float) (its : ℕ) (w₀ r₀ w r w1 r1 : List ℕ) (done : ℕ) → Fitting p h its w₀ r₀ w r done → PassDone p w r true w1 r1 → length w1 ≡ length w → length r1 ≡ length r → Gone p h its w₀ r₀ w1 r1 (done + 1)
gone-on p h its w₀ r₀ w r w1 r1 done s d a b = record { passes = done; count = refl; old-w = w; old-r = r; fitting = s; last = d; work-long = a; long = b }

module _ (p : Trajectory) (v : Valid p) (h : Float) (its : ℕ) (w₀ r₀ w r : List ℕ) where
  -- the first pass fails, or a later one
  pub first-fails : (w1 r1 : List ℕ) → Fitting p h its w₀ r₀ w r 0 → PassDone p w r false w1 r1 → FitDone p h its w₀ w1 r₀ false r1
  first-fails w1 r1 s d = fitting-fails p v h its w₀ r₀ w r 0 s false w1 r1 d refl false (λ e. let z : ◌≡◌ {A = ℕ} 0 1 = cc in absurd (omega arith)) (λ e. refl)

  pub later-fails : (done : ℕ) (w1 r1 : List ℕ) → 0 < done → Fitting p h its w₀ r₀ w r done → PassDone p w r false w1 r1 → FitDone p h its w₀ w1 r₀ true r1
  later-fails done w1 r1 m s d = fitting-fails p v h its w₀ r₀ w r done s false w1 r1 d refl true (λ e. m) (λ e. let z : ◌≡◌ {A = ℕ} 0 1 = cc in absurd (omega arith))

  module _ (done : ℕ) (g : Gone p h its w₀ r₀ w r done) where
    pub gone-long : (length w ≡ length w₀) × (length r ≡ length r₀)
    gone-long = (g.work-long ∙ g.fitting.work-long, g.long ∙ g.fitting.long)

    pub gone-ends : its ≤ done → FitDone p h its w₀ w r₀ true r
    gone-ends m = fitting-ends p v h its w₀ r₀ g.old-w g.old-r g.passes g.fitting true w r g.last refl (omega (arith, g.count))

    module _ (rs : List ℕ) (long-rs : length rs ≡ p.n * 3) (same : (k : ℕ) → k < p.n * 3 → get_or rs k 0 ≡ get_or r k 0) where
      pub gone-numbers : Numbers rs
      gone-numbers = fit-numbers p v h its w₀ r₀ g.old-w g.old-r g.passes g.fitting true w r g.last refl rs long-rs same

      pub gone-more : done < its → (w2 : List ℕ) → Reweighed p h rs w w2 → length w2 ≡ length w → Fitting p h its w₀ r₀ w2 r done
      gone-more m w2 x l =
          rw g.count (fitting-more p v h its w₀ r₀ g.old-w g.old-r g.passes g.fitting true w r g.last refl rs long-rs same (omega (arith, g.count)) w2 x g.work-long l g.long)
