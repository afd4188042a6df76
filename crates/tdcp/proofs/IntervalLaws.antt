-- The seconds of an interval by the code's tests, and that a displacement between two times is the one at the seconds between them. Assumes nothing.
use Rattle.std.specs.Prelude.{Result, Ok, Err}
use mathlib.Core.Path.{◌≡◌, refl, sym, ap, ◌∙◌}
use mathlib.Core.Bool.{Bool, true, false, not, cond, ◌&&◌}
use mathlib.Core.List.{[], ◌∷◌}
use Prim.Native.Nat.{ℕ}
use native.Mathlib.Omega.{arith}
use lib.Ieee.{Float}
use Rattle.numeric.specs.declared.vec3.Vec3.{Vec3}
use Rattle.numeric.specs.declared.refusal.Refusal.{Refusal}
use Rattle.numeric.specs.declared.refusal.Refusal.TheVariants.{BadTime, BadInterval}
use Rattle.time.specs.Time.{is_dated, seconds_between, seconds_since}
use Rattle.time.specs.declared.time.GpsTime.{GpsTime}
use Rattle.records.specs.declared.record.Epoch.{Epoch}
use Rattle.records.specs.declared.pair.Profile.{Profile}
use Rattle.numeric.specs.Rules.{rule, ruled}
use Rattle.tdcp.specs.Valid.{settings_pass, dt_of, is_timed, bad_interval, interval_rules}
use Rattle.tdcp.specs.Displacement.{input, displacement_of}
use Rattle.tdcp.specs.declared.displacement.Settings.{Settings}
use Rattle.tdcp.specs.declared.displacement.Interval.{Interval}
use Rattle.tdcp.specs.Steps.{given_rules}

-- ---- 13, and then 5

abbrev pub since_of : Interval → Result Float Refusal
since_of since = ruled Err (rule BadTime (not (is_timed since)) ∷ []) (Ok (dt_of since))

pub since-times : (s t : GpsTime) → seconds_since t s ≡ since_of (Interval.Between s t)
unfolding seconds_since ruled
since-times s t = go (is_dated t && is_dated s)
  where
    go : (b : Bool) → cond b (Ok (seconds_between t s)) (Err BadTime) ≡ cond (not b) (Err BadTime) (Ok (seconds_between t s))
    go true = refl
    go false = refl

module _ (settings : Settings) {sound : Bool} (since : Interval) (set : settings_pass settings ≡ true) (ok : sound ≡ true) where
  abbrev all : Result Float Refusal
  all = ruled Err (given_rules settings sound since) (Ok (dt_of since))

  abbrev x : Float
  x = dt_of since

  abbrev both : Bool → Result Float Refusal
  both b = cond (not b) (Err BadTime) (cond (bad_interval x) (Err BadInterval) (Ok x))

  all-is : both (is_timed since) ≡ all
  unfolding given_rules interval_rules ruled
  all-is = rw (set, ok)

  pub not_timed : {r : Refusal} → Err r ≡ since_of since → Err r ≡ all
  unfolding ruled
  not_timed {r} e = go (is_timed since) e ∙ all-is
    where
      go : (b : Bool) → Err r ≡ cond (not b) (Err BadTime) (Ok x) → Err r ≡ both b
      go true q = absurd (let z : ◌≡◌ {A = ℕ} 0 1 = cc in omega arith)
      go false q = q

  module _ {dt : Float} (e : Ok dt ≡ since_of since) where
    same-dt : dt ≡ x
    unfolding ruled
    same-dt = go (is_timed since) e
      where
        go : (b : Bool) → Ok dt ≡ cond (not b) (Err BadTime) (Ok x) → dt ≡ x
        go true q = cc
        go false q = absurd (let z : ◌≡◌ {A = ℕ} 0 1 = cc in omega arith)

    timed : both true ≡ all
    unfolding ruled
    timed = go (is_timed since) refl e
      where
        go : (b : Bool) → is_timed since ≡ b → Ok dt ≡ cond (not b) (Err BadTime) (Ok x) → both true ≡ all
        go true h q = ap both (sym h) ∙ all-is
        go false h q = absurd (let z : ◌≡◌ {A = ℕ} 0 1 = cc in omega arith)

    pub bad_interval_lem : bad_interval dt ≡ true → Err BadInterval ≡ all
    bad_interval_lem h = sym (ap (λ (f : Bool). cond f (Err BadInterval) (Ok x)) (ap bad_interval (sym same-dt) ∙ h)) ∙ timed

    pub good_interval : bad_interval dt ≡ false → Ok dt ≡ all
    good_interval h = ap Ok same-dt ∙ sym (ap (λ (f : Bool). cond f (Err BadInterval) (Ok x)) (ap bad_interval (sym same-dt) ∙ h)) ∙ timed

-- ---- THE LAW: with two times that 13 does not turn away the answer is that of a caller who has the seconds between them as dt

pub at-dt : (previous current : Epoch) (s t : GpsTime) (receiver : Vec3) (settings : Settings) (profile : Profile) → (is_dated t && is_dated s) ≡ true
    → displacement_of (input previous current (Interval.Between s t) receiver settings profile) ≡ displacement_of (input previous current (Interval.Seconds (seconds_between t s)) receiver settings profile)
unfolding displacement_of interval_rules
at-dt previous current s t receiver settings profile e = rw e
