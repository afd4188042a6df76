-- Displacements of a caller's columns: the answer, its number, and what the lent results hold afterwards. Definitions only.
use Rattle.numeric.specs.Refusal.{answer_number}
use Rattle.std.specs.Prelude.{Result, Ok, Err}
use Rattle.numeric.specs.declared.refusal.Refusal.{Refusal}
use Rattle.std.specs.Prelude.{ℕ, ◌≡◌, Bool, cond, ◌&&◌, List, map, get_or, Float}
use Rattle.std.specs.Float.{nan}
use Rattle.exact.specs.Float.{+0}
use Rattle.numeric.specs.Order.{pattern_of}
use Rattle.numeric.specs.declared.refusal.Refusal.TheVariants.{TooMany}
use Rattle.numeric.specs.declared.vec3.Vec3.{Vec3}
use Rattle.lists.specs.Memory.{before, after, LentNumbers, LentFloats}
use Rattle.records.specs.Carriers.{CarrierColumns, epoch_of, epoch_fits}
use Rattle.records.specs.declared.pair.Profile.{Profile}
use Rattle.tdcp.specs.Displacement.{Input, input, displacement_of, displacement_floats, displacement_counts, Accepted}
use Rattle.tdcp.specs.declared.displacement.Settings.{Settings}
use Rattle.tdcp.specs.declared.displacement.Interval.{Interval}
use Rattle.tdcp.specs.declared.displacement.Delta.{Delta}

-- five floats (screen, sigma_a, sigma_b, huber, mask) and the rounds; `agreement` is neither read nor checked
abbrev pub displacement_settings : List Float → ℕ → Settings
displacement_settings s rounds =
    record {
      screen = get_or s 0 nan;
      sigma_a = get_or s 1 nan;
      sigma_b = get_or s 2 nan;
      huber = get_or s 3 nan;
      mask = get_or s 4 nan;
      rounds = rounds;
      agreement = +0;
    }

-- the same, lent
abbrev pub lent_settings : LentFloats → ℕ → Settings
lent_settings s rounds = displacement_settings (before s) rounds

-- what is lent: the first carriers of two epochs' columns, so many of each, and what every displacement is handed
pub record Lent : Type 0 where
  pub previous : CarrierColumns
  pub previous-count : ℕ
  pub current : CarrierColumns
  pub current-count : ℕ
  pub since : Interval
  pub receiver : Vec3
  pub settings : Settings
  pub profile : Profile

abbrev pub lent : CarrierColumns → ℕ → CarrierColumns → ℕ → Interval → Vec3 → Settings → Profile → Lent
lent p m c n since receiver settings profile =
    record { previous = p; previous-count = m; current = c; current-count = n; since = since; receiver = receiver; settings = settings; profile = profile }

-- the two epochs, and the same
abbrev pub lent_input : Lent → Input
lent_input l = input (epoch_of l.previous l.previous-count) (epoch_of l.current l.current-count) l.since l.receiver l.settings l.profile

abbrev pub is_fit : Lent → Bool
is_fit l = epoch_fits l.previous l.previous-count && epoch_fits l.current l.current-count

-- their displacement. 2: one epoch has more than 64 carriers, or one of its columns is too short.
unfoldable pub columns_displaced : Lent → Result Delta Refusal
columns_displaced l = cond (is_fit l) (displacement_of (lent_input l)) (Err TooMany)

-- ---- the answer in lent memory

-- the patterns of the displacement in metres, and how many pairs were used and screened out; a refusal changes no bit of either
abbrev pub delta_after : Result Delta Refusal → List ℕ → List ℕ
delta_after (Err r) old = old
delta_after (Ok d) old = map pattern_of (displacement_floats (Ok d))

abbrev pub counts_after : Result Delta Refusal → List ℕ → List ℕ
counts_after (Err r) old = old
counts_after (Ok d) old = displacement_counts (Ok d)

-- the number and the lent results afterwards are those of the displacement d
pub record Leaves (d : Result Delta Refusal) (number : ℕ) (delta counts : LentNumbers) : Type 0 where
  pub number_is : number ≡ answer_number d
  pub delta-is : after delta ≡ delta_after d (before delta)
  pub counts-are : after counts ≡ counts_after d (before counts)

-- The number and the lent results afterwards are those of the displacement of what is lent. An accepted one has what an accepted displacement has, demand 3 of every
-- round included.
pub record DisplacementAnswers (l : Lent) (number : ℕ) (delta counts : LentNumbers) : Type 0 where
  pub leaves : Leaves (columns_displaced l) number delta counts
  pub accepted : (d : Delta) → columns_displaced l ≡ Ok d → Accepted (lent_input l) d

-- two calls are alike: the same number, and from the same memory the same bits in the lent results
pub record Alike (number number' : ℕ) (delta delta' counts counts' : LentNumbers) : Type 0 where
  pub numbers : number ≡ number'
  pub deltas : before delta ≡ before delta' → after delta ≡ after delta'
  pub counted : before counts ≡ before counts' → after counts ≡ after counts'
