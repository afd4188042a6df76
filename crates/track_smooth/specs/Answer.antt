-- The answer of a track (docs/REFUSALS.md) and what lent memory holds after it. Definitions only.
use Rattle.std.specs.Prelude.{Result, Ok, Err, ⊤}
use Rattle.std.specs.Prelude.{◌≡◌, Bool, true, not, ◌&&◌, cond, List, [], ◌∷◌, ◌++◌, map, ℕ, ◌-◌, ◌*◌, ◌<◌, leb, ltb, length, get_or, replicate, drop, Float}
use Rattle.std.specs.Float.{nan}
use Rattle.std.specs.Float.Ieee.{lt}
use Rattle.std.specs.Float.Ieee.Scale.{finite}
use Rattle.lists.specs.Memory.{before, after, LentNumbers}
use Rattle.exact.specs.Float.{+0}
use Rattle.numeric.specs.Order.{pattern_of}
use Rattle.numeric.specs.Real.{in_range}
use Rattle.numeric.specs.Refusal.{number_of}
use Rattle.numeric.specs.Rules.{Rule, rule, ruled}
use Rattle.numeric.specs.declared.refusal.Refusal.{Refusal}
use Rattle.numeric.specs.declared.refusal.Refusal.TheVariants.{TooMany, SettingOutOfRange, RecordOutOfRange, BadTrack, FitFailed}
use Rattle.track_tridiagonal.specs.Tridiagonal.{each_below}
use Rattle.track_pass.specs.Input.{Measured, Trajectory, index_at, work_need}
use Rattle.track_pass.specs.Pass.{pass_succeeds, fitted_at, PassAccurate}
use Rattle.track_smooth.specs.declared.Settings.{Settings}
use Rattle.track_smooth.specs.Track.{ones, smoothed, points, good_passes, last_pass, EachPass}

-- ---- the tests, in checking order

-- 2: at most 1,024 epochs, anchors and links, and no lent column or buffer is shorter than the counts need; r and w are the lengths of result and work
abbrev pub columns_ok : Measured → Bool
columns_ok m = leb m.count 1024 && (leb m.count (length m.index) && (leb (m.count * 3) (length m.value) && leb (m.count * 3) (length m.sigma)))

unfoldable pub counts_ok : Trajectory → (r w : ℕ) → Bool
counts_ok p r w = leb p.n 1024 && (columns_ok p.anchors && (columns_ok p.links && (leb (p.n * 3) r && leb (work_need p) w)))

-- 3: the threshold is finite and at most 1e9 in magnitude, and there are at most 50 iterations
unfoldable pub settings_ok : Settings → Bool
settings_ok s = in_range s.huber && leb s.iterations 50

-- 4: so is every float of a counted anchor or link
abbrev pub in_range_below : List Float → ℕ → Bool
in_range_below xs count = each_below (λ k. in_range (get_or xs k nan)) count

abbrev pub measured_ok : Measured → Bool
measured_ok m = in_range_below m.value (m.count * 3) && in_range_below m.sigma (m.count * 3)

unfoldable pub records_ok : Trajectory → Bool
records_ok p = measured_ok p.anchors && measured_ok p.links

-- 6: there are epochs and anchors, each sigma is above 0, an anchor's index is below n, and a link's below n - 1, since it ends at the next epoch
abbrev pub sigmas_ok : Measured → Bool
sigmas_ok m = each_below (λ k. lt +0 (get_or m.sigma k nan)) (m.count * 3)

abbrev pub indices_ok : Measured → ℕ → Bool
indices_ok m bound = each_below (λ j. ltb (index_at m j) bound) m.count

unfoldable pub track_ok : Trajectory → Bool
track_ok p =
    (ltb 0 p.n && ltb 0 p.anchors.count)
    && ((sigmas_ok p.anchors && sigmas_ok p.links) && (indices_ok p.anchors p.n && indices_ok p.links (p.n - 1)))

-- ---- the answer

-- the refusal, or the track
pub data Tracked : Type 0 where
  Refused : Refusal → Tracked
  Points : List Float → Tracked

-- what is checked before the fit, in order
abbrev pub track_rules : Trajectory → Settings → (r w : ℕ) → List Rule
track_rules p s r w =
    rule TooMany (not (counts_ok p r w)) ∷ rule SettingOutOfRange (not (settings_ok s)) ∷ rule RecordOutOfRange (not (records_ok p)) ∷ rule BadTrack (not (track_ok p)) ∷ []

-- the first refusal that applies; 10 is a first pass that fails
unfoldable pub track_of : Trajectory → Settings → (r w : ℕ) → Tracked
track_of p s r w =
    ruled Refused (track_rules p s r w ++ rule FitFailed (not (pass_succeeds p ones)) ∷ [])
    (Points (points (smoothed p s.huber s.iterations) p.n))

-- the answer without the points, which the result holds
abbrev pub track_answer : Tracked → Result ⊤ Refusal
track_answer (Refused x) = Err x
track_answer (Points ps) = Ok tt

-- ---- the lent memory afterwards

-- Both are lists of patterns, so that what is said of them is said of every bit.

-- the result holds the patterns of the track, or is unchanged; beyond the track it is unchanged
abbrev pub track_result_after : Tracked → List ℕ → List ℕ
track_result_after (Refused x) r = r
track_result_after (Points ps) r = map pattern_of ps ++ drop (length ps) r

-- zero bits in the needed part
abbrev pub cleared : ℕ → List ℕ → List ℕ
cleared need w = replicate need 0 ++ drop need w

-- after 2 to 6 the work is unchanged, and otherwise the part that is needed is zero
abbrev pub work_after : ℕ → Tracked → List ℕ → List ℕ
work_after need (Refused x) w = cond (leb (number_of x) 6) w (cleared need w)
work_after need (Points ps) w = cleared need w

-- What a call that answers t leaves. Every coordinate of a track is finite, and the track is the fit of the last good pass.
-- Each pass whose track is given out or reweighted from meets its equations as closely as docs/SCOPE.md, "Track", says, on every axis and in every row.
pub record TrackLeft (p : Trajectory) (s : Settings) (t : Tracked) (r w r' w' : List ℕ) : Type 0 where
  pub result : r' ≡ track_result_after t r
  pub work : w' ≡ work_after (work_need p) t w
  pub all-finite : (ps : List Float) → t ≡ Points ps → (k : ℕ) → k < length ps → finite (get_or ps k nan) ≡ true
  pub last-given : (ps : List Float) → t ≡ Points ps → ps ≡ points (fitted_at p (last_pass ones (good_passes p s.huber s.iterations))) p.n
  pub accurate : EachPass (PassAccurate p) (good_passes p s.huber s.iterations)

-- what the call answers, and leaves of the result and the work that it is lent
pub record CallOf (p : Trajectory) (s : Settings) (t : Tracked) (r w : List ℕ) (x : Result ⊤ Refusal) (r' w' : List ℕ) : Type 0 where
  pub answer : x ≡ track_answer t
  pub left : TrackLeft p s t r w r' w'

abbrev pub Called : Trajectory → Settings → (result work : LentNumbers) → Result ⊤ Refusal → Type 0
Called p s result work x =
    CallOf p s (track_of p s (length (before result)) (length (before work))) (before result) (before work) x (after result) (after work)
