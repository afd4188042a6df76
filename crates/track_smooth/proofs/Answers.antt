-- What the call answers and leaves, from its steps; and that every coordinate of a track is finite. Assumes nothing.
use Rattle.std.specs.Prelude.{Result, Ok, Err, ⊤}
use mathlib.Core.Path.{◌≡◌, refl, sym, ◌∙◌, ap}
use mathlib.Core.Bool.{Bool, true, false, not}
use mathlib.Core.List.{List, [], ◌∷◌}
use Prim.Native.Nat.{ℕ, ◌≤◌}
use native.Mathlib.Omega.{arith}
use lib.ListN.{length}
use lib.Ieee.{Float}
use Rattle.numeric.specs.Rules.{rule, ruled}
use Rattle.numeric.specs.declared.refusal.Refusal.{Refusal}
use Rattle.numeric.specs.declared.refusal.Refusal.TheVariants.{TooMany, SettingOutOfRange, RecordOutOfRange, BadTrack, FitFailed}
use Rattle.track_tridiagonal.specs.Steps.{Filled}
use Rattle.track_tridiagonal.proofs.Cells.{fill-list}
use Rattle.track_pass.specs.Input.{Trajectory, work_need}
use Rattle.track_pass.specs.Pass.{pass_succeeds}
use Rattle.track_pass.specs.Steps.{Ready}
use Rattle.track_smooth.specs.declared.Settings.{Settings}
use Rattle.track_smooth.specs.Track.{ones, smoothed, points, good_passes}
use Rattle.track_smooth.specs.Answer.{counts_ok, settings_ok, records_ok, track_ok, Tracked, Refused, Points, track_of, track_result_after, cleared, work_after, TrackLeft, CallOf}
use Rattle.track_smooth.specs.Steps.{track_checked, FitDone}
use Rattle.track_smooth.proofs.Refusals.{ready, AllOk, none-applies, refused-early, few-passes}
use Rattle.track_smooth.proofs.Finite.{smoothed-finite}
use Rattle.track_smooth.proofs.Passes.{track-is-last, all-accurate}
use Rattle.track_smooth.proofs.Points.{points-finite, points-list}

-- ---- what is given out is finite

listed : Tracked → List Float
listed (Refused x) = []
listed (Points ps) = ps

-- a track is given only where no rule applies
record Given (b2 b3 b4 b6 b10 : Bool) (fs ps : List Float) : Type 0 where
  counts : b2 ≡ true
  records : b4 ≡ true
  track : b6 ≡ true
  fit : b10 ≡ true
  same : fs ≡ ps

given : (b2 b3 b4 b6 b10 : Bool) (fs ps : List Float)
    → ruled Refused (rule TooMany (not b2) ∷ rule SettingOutOfRange (not b3) ∷ rule RecordOutOfRange (not b4) ∷ rule BadTrack (not b6) ∷ rule FitFailed (not b10) ∷ []) (Points fs) ≡ Points ps
    → Given b2 b3 b4 b6 b10 fs ps
unfolding ruled listed
given true true true true true fs ps e = record { counts = refl; records = refl; track = refl; fit = refl; same = ap listed e }
given false b3 b4 b6 b10 fs ps e = let z : ◌≡◌ {A = ℕ} 0 1 = cc in absurd (omega arith)
given true false b4 b6 b10 fs ps e = let z : ◌≡◌ {A = ℕ} 0 1 = cc in absurd (omega arith)
given true true false b6 b10 fs ps e = let z : ◌≡◌ {A = ℕ} 0 1 = cc in absurd (omega arith)
given true true true false b10 fs ps e = let z : ◌≡◌ {A = ℕ} 0 1 = cc in absurd (omega arith)
given true true true true false fs ps e = let z : ◌≡◌ {A = ℕ} 0 1 = cc in absurd (omega arith)

module _ (p : Trajectory) (s : Settings) (r w r' w' : List ℕ) (t : Tracked) (e : track_of p s (length r) (length w) ≡ t) where
  -- what is known of every answer
  leaves : r' ≡ track_result_after t r → w' ≡ work_after (work_need p) t w
      → TrackLeft p s (track_of p s (length r) (length w)) r w r' w'
  unfolding track_of
  leaves er ew =
      let f = smoothed p s.huber s.iterations in
      let of : (ps : List Float) → track_of p s (length r) (length w) ≡ Points ps → Given (counts_ok p (length r) (length w)) (settings_ok s) (records_ok p) (track_ok p) (pass_succeeds p ones) (points f p.n) ps
      = λ ps q. given (counts_ok p (length r) (length w)) (settings_ok s) (records_ok p) (track_ok p) (pass_succeeds p ones) (points f p.n) ps q in
      record {
        result = rw e er;
        work = rw e ew;
        all-finite = λ ps q.
            let g = of ps q in
            rw g.same at (points-finite f p.n (smoothed-finite p (ready p r w g.counts g.records g.track).valid.origin s.huber s.iterations g.fit));
        last-given = λ ps q. let g = of ps q in sym g.same ∙ ap (λ (f : ℕ → ℕ → Float). points f p.n) (track-is-last p s.huber s.iterations g.fit);
        accurate = all-accurate p (good_passes p s.huber s.iterations);
      }

-- ---- the call's ends

module _ (p : Trajectory) (s : Settings) (r w : List ℕ) where
  abbrev Ends : Result ⊤ Refusal → List ℕ → List ℕ → Type 0
  Ends x r' w' = CallOf p s (track_of p s (length r) (length w)) r w x r' w'

  -- a refusal under 2 to 6 leaves all as it was
  pub turned-back : (x : Refusal) → track_checked p s (length r) (length w) ≡ Err x → Ends (Err x) r w
  unfolding track_of
  turned-back x q =
      let k = refused-early (counts_ok p (length r) (length w)) (settings_ok s) (records_ok p) (track_ok p) (rule FitFailed (not (pass_succeeds p ones)) ∷ []) (Points (points (smoothed p s.huber s.iterations) p.n)) x q in
      let e : track_of p s (length r) (length w) ≡ Refused x = k.answer in
      record { answer = rw e; left = leaves p s r w r w (Refused x) e refl (rw k.number) }

  module _ (q : track_checked p s (length r) (length w) ≡ (Ok tt)) where
    ok-all : AllOk (counts_ok p (length r) (length w)) (settings_ok s) (records_ok p) (track_ok p)
    ok-all = none-applies (counts_ok p (length r) (length w)) (settings_ok s) (records_ok p) (track_ok p) q

    pub is-ready : Ready p w r
    is-ready = ready p r w ok-all.counts ok-all.records ok-all.track

    pub is-few : s.iterations ≤ 50
    is-few = few-passes s ok-all.settings

    module _ (ok : Bool) (w1 r1 w2 : List ℕ) (d : FitDone p s.huber s.iterations w w1 r ok r1) (c : Filled 0 (work_need p) 0 w1 w2) (lw : length w2 ≡ length w) (lr : length r1 ≡ length r) where
      clear : w2 ≡ cleared (work_need p) w
      clear = fill-list (work_need p) 0 w w2 lw is-ready.work (λ k h. c.filled k (omega arith) h) (λ k h. c.kept.high k h ∙ d.work-kept.high k h)

      pub fit-failed : ok ≡ false → Ends (Err FitFailed) r1 w2
      unfolding track_of ruled
      fit-failed f =
          let e : track_of p s (length r) (length w) ≡ Refused FitFailed = rw (ok-all.counts, ok-all.settings, ok-all.records, ok-all.track, sym d.answer ∙ f) in
          record { answer = rw e; left = leaves p s r w r1 w2 (Refused FitFailed) e (d.no_same f) clear }

      pub found : ok ≡ true → Ends (Ok tt) r1 w2
      unfolding track_of ruled
      found t =
          let f = smoothed p s.huber s.iterations in
          let e : track_of p s (length r) (length w) ≡ Points (points f p.n) = rw (ok-all.counts, ok-all.settings, ok-all.records, ok-all.track, sym d.answer ∙ t) in
          record { answer = rw e; left = leaves p s r w r1 w2 (Points (points f p.n)) e (points-list r r1 p.n f lr is-ready.result (d.yes-holds t) d.kept) clear }
