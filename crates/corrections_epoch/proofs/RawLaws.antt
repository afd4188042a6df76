-- What a range gives, by the way that the code took. Assumes nothing.
use mathlib.Core.Path.{◌≡◌, sym, ◌∙◌}
use mathlib.Core.List.{List, []}
use mathlib.Core.Bool.{Bool, true, false}
use lib.Ieee.{nan}
use Rattle.numeric.specs.declared.vec3.Vec3.{Vec3}
use Rattle.corrections_epoch.specs.Raw.{enabled, first_raw, raw_at}
use Rattle.corrections_epoch.specs.declared.record.Range.{Range}
use Rattle.corrections_epoch.specs.declared.record.State.{State}
use Rattle.corrections_epoch.specs.declared.record.Settings.{Settings}
use Rattle.corrections_epoch.specs.declared.raw.Raw.{Raw}

-- what the logic has for a read past the end of an array
abbrev pub blank_range : Range
blank_range = record { constellation = 0; svid = 0; band = 0; pseudorange = nan }

abbrev pub blank_state : State
blank_state =
    record {
      constellation = 0;
      svid = 0;
      band = 0;
      position = record { x = nan; y = nan; z = nan };
      velocity = record { x = nan; y = nan; z = nan };
      clock = nan;
      modelled = nan;
    }

abbrev pub blank_raw : Raw
blank_raw = record { constellation = 0; svid = 0; band = 0; value = nan }

module _ (set : Settings) (base rover : Vec3) (states : List State) (r : Range) {b : Bool} (is : b ≡ enabled set r.constellation) where
  pub raw-tried : {l : List Raw} → b ≡ true → first_raw base rover states r ≡ l → raw_at set base rover states r ≡ l
  unfolding raw_at
  raw-tried t e = rw (sym is ∙ t) e

  pub raw_not : b ≡ false → raw_at set base rover states r ≡ []
  unfolding raw_at
  raw_not t = rw (sym is ∙ t)
