-- docs/SCOPE.md, "Trials at the edges": the marked trials of a track. Definitions only.
use Rattle.std.specs.Prelude.{◌≡◌, [], ◌∷◌}
use Rattle.exact.specs.Float.{1·0, whole}
use Rattle.numeric.specs.declared.refusal.Refusal.TheVariants.{FitFailed}
use Rattle.track_pass.specs.Input.{Measured, measured, trajectory}
use Rattle.track_smooth.specs.declared.Settings.{Settings}
use Rattle.track_smooth.specs.Answer.{Refused, Points, track_of}

-- `Settings::default`
abbrev pub usual : Settings
usual = record { huber = whole 2; iterations = 6 }

-- one anchor of sigma 1 at (5, 6, 7), of the first epoch, and no link
abbrev pub one_anchor : Measured
one_anchor = measured 1 (0 ∷ []) (whole 5 ∷ whole 6 ∷ whole 7 ∷ []) (1·0 ∷ 1·0 ∷ 1·0 ∷ [])

abbrev pub no_link : Measured
no_link = measured 0 [] [] []

-- m12: a one-epoch track with one anchor of sigma 1 at (5, 6, 7) is that point
abbrev pub m12 : Type 0
m12 = track_of (trajectory 1 one_anchor no_link) usual 3 10 ≡ Points (whole 5 ∷ whole 6 ∷ whole 7 ∷ [])

-- m13: two epochs, one anchor, no link: 10
abbrev pub m13 : Type 0
m13 = track_of (trajectory 2 one_anchor no_link) usual 6 19 ≡ Refused FitFailed
