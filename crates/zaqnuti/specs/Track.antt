-- What the entry point of the track answers and leaves. Definitions only.
use Rattle.std.specs.Prelude.{◌≡◌, List, ℕ, length, Float}
use Rattle.lists.specs.Memory.{before, after, LentNumbers}
use Rattle.track_pass.specs.Input.{Trajectory}
use Rattle.track_smooth.specs.declared.Settings.{Settings}
use Rattle.track_smooth.specs.Answer.{Tracked, track_of, track_answer, TrackLeft}
use Rattle.numeric.specs.Refusal.{answer_number}

abbrev pub settings : Float → ℕ → Settings
settings huber iterations = record { huber = huber; iterations = iterations }

-- the number of the answer t, and what the call leaves
pub record TrackNumbered (p : Trajectory) (s : Settings) (t : Tracked) (r w : List ℕ) (number : ℕ) (r' w' : List ℕ) : Type 0 where
  pub number_is : number ≡ answer_number (track_answer t)
  pub left : TrackLeft p s t r w r' w'

-- result and work are the patterns of what the caller lends
abbrev pub TrackCalled : Trajectory → Settings → (result work : LentNumbers) → ℕ → Type 0
TrackCalled p s result work number =
    TrackNumbered p s (track_of p s (length (before result)) (length (before work))) (before result) (before work) number (after result) (after work)
