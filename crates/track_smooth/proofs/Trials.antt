-- The marked trials of a track hold, and further worked values. Assumes nothing.
use mathlib.Core.Path.{◌≡◌, refl}
use mathlib.Core.List.{[], ◌∷◌}
use lib.Ieee.{add, sub, mul, div, lt, le, is_nan, of_bits, of_int}
use Rattle.exact.specs.Float.{1·0, whole, decimal}
use Rattle.root.specs.Root.{root_of}
use Rattle.numeric.specs.Real.{square, abs, max, in_range}
use Rattle.numeric.specs.declared.refusal.Refusal.TheVariants.{BadTrack, SettingOutOfRange}
use Rattle.numeric.specs.Rules.{ruled}
use Rattle.track_tridiagonal.specs.Tridiagonal.{each_below, pivot, reduced, vanishing, back, solution}
use Rattle.track_pass.specs.Input.{measured, trajectory}
use Rattle.track_pass.specs.Equations.{changed, diagonal, upper, right}
use Rattle.track_pass.specs.Pass.{pass_succeeds, fitted_at}
use Rattle.track_smooth.specs.Track.{huber_of, anchor_scale, link_scale, passes_from, last_pass, smoothed, points}
use Rattle.track_smooth.specs.Answer.{counts_ok, settings_ok, records_ok, track_ok, Refused, Points, track_of}
use Rattle.track_smooth.specs.Trials.{usual, one_anchor, no_link, m12, m13}

pub one-point : m12
unfolding track_of ruled counts_ok settings_ok records_ok track_ok each_below in_range abs pass_succeeds diagonal upper right changed vanishing pivot reduced back solution fitted_at huber_of max square anchor_scale link_scale passes_from last_pass smoothed points root_of add sub mul div lt le is_nan of_bits of_int
one-point = refl

pub not_held : m13
unfolding track_of ruled counts_ok settings_ok records_ok track_ok each_below in_range abs pass_succeeds diagonal upper right changed vanishing pivot reduced back solution fitted_at huber_of max square anchor_scale link_scale passes_from last_pass smoothed points root_of add sub mul div lt le is_nan of_bits of_int
not_held = refl

-- two epochs, one anchor and a link of (1, 0, 0): no iterations run one pass, and the link carries the second epoch
two-points : track_of (trajectory 2 one_anchor (measured 1 (0 ∷ []) (whole 1 ∷ whole 0 ∷ whole 0 ∷ []) (1·0 ∷ 1·0 ∷ 1·0 ∷ []))) (record { huber = whole 2; iterations = 0 }) 6 20 ≡ Points (whole 5 ∷ whole 6 ∷ whole 7 ∷ whole 6 ∷ whole 6 ∷ whole 7 ∷ [])
unfolding track_of ruled counts_ok settings_ok records_ok track_ok each_below in_range abs pass_succeeds diagonal upper right changed vanishing pivot reduced back solution fitted_at huber_of max square anchor_scale link_scale passes_from last_pass smoothed points root_of add sub mul div lt le is_nan of_bits of_int
two-points = refl

-- no epochs: 6
no-epochs : track_of (trajectory 0 one_anchor no_link) usual 0 1 ≡ Refused BadTrack
unfolding track_of ruled counts_ok settings_ok records_ok track_ok each_below in_range abs le lt of_bits of_int
no-epochs = refl

-- 51 iterations: 3
too_many-passes : track_of (trajectory 1 one_anchor no_link) (record { huber = whole 2; iterations = 51 }) 3 10 ≡ Refused SettingOutOfRange
unfolding track_of ruled counts_ok settings_ok in_range abs le lt of_int
too_many-passes = refl

-- up to the threshold a residual counts once, and beyond it in proportion
huber-within : huber_of (whole 2) (whole 2) ≡ 1·0
unfolding huber_of le of_int of_bits
huber-within = refl

huber-beyond : huber_of (whole 2) (whole 4) ≡ decimal 5 1
unfolding huber_of max is_nan le lt div of_int of_bits
huber-beyond = refl
