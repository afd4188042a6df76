-- The samples of an epoch (docs/SCOPE.md, "Corrections"; `build` of differential.rs, its loop over the constellations). Definitions only.
use Rattle.std.specs.Prelude.{Option, ℕ, Bool, cond, not, ◌&&◌, ◌||◌, List, [], ◌∷◌, map, eqb, leb, ltb, length, Float}
use Rattle.std.specs.Float.Ieee.{lt}
use Rattle.std.specs.Float.Ieee.Scale.{finite}
use Rattle.exact.specs.Float.{◌⊖◌, bits}
use Rattle.lists.specs.Walk.{collect}
use Rattle.numeric.specs.Order.{pattern_of}
use Rattle.numeric.specs.Real.{abs}
use Rattle.numeric.specs.declared.vec3.Vec3.{Vec3}
use Rattle.median.specs.Sorted.{median_of}
use Rattle.corrections_table.specs.declared.sample.Sample.{Sample}
use Rattle.corrections_epoch.specs.Record.{ranges_of, states_of}
use Rattle.corrections_epoch.specs.Raw.{raws_of}
use Rattle.corrections_epoch.specs.declared.record.BaseEpoch.{BaseEpoch}
use Rattle.corrections_epoch.specs.declared.record.States.{States}
use Rattle.corrections_epoch.specs.declared.record.Settings.{Settings}
use Rattle.corrections_epoch.specs.declared.raw.Raw.{Raw}

-- a raw correction where it is of the constellation c
abbrev pub of_constellation : ℕ → Raw → List Raw
of_constellation c r = cond (eqb r.constellation c) (r ∷ []) []

-- the group of the constellation c
unfoldable pub group : ℕ → List Raw → List Raw
group c raws = collect (of_constellation c) raws

abbrev pub patterns_of : List Raw → List ℕ
patterns_of g = map (λ (r : Raw). pattern_of r.value) g

-- the base receiver's clock by a group: the element at place len/2 of its values in total_order
unfoldable pub clock_of : List Raw → Float
clock_of g = bits (median_of (patterns_of g))

-- a correction that is kept: finite and not above the maximum in magnitude
unfoldable pub kept : Float → Float → Bool
kept max x = not (lt max (abs x)) && finite x

abbrev pub corrected_sample : Float → Raw → Float → Sample
corrected_sample time r x = record { constellation = r.constellation; svid = r.svid; band = r.band; time = time; correction = x }

-- what a raw correction gives once the clock is removed
unfoldable pub corrected : Float → Float → Raw → Float → List Sample
corrected time max r clock = cond (kept max (r.value ⊖ clock)) (corrected_sample time r (r.value ⊖ clock) ∷ []) []

-- the same by the clock of its group: groups under three yield nothing, nor do constellations 8 and above
unfoldable pub sample_at : Float → Float → List Raw → Raw → List Sample
sample_at time max raws r =
    let g = group r.constellation raws in
    cond (leb 8 r.constellation || ltb (length g) 3) [] (corrected time max r (clock_of g))

-- the samples of raw corrections, in their order
unfoldable pub samples_of : Float → Float → List Raw → List Sample
samples_of time max raws = collect (sample_at time max raws) raws

-- the samples of an epoch with its states
unfoldable pub epoch_samples : Vec3 → Vec3 → Settings → BaseEpoch → Option States → List Sample
epoch_samples base rover set e s =
    samples_of e.time set.max_correction (raws_of set base rover (states_of s) (ranges_of e))
