-- A mileage as ten words (docs/SCOPE.md, "Mileage"): the limit's bits, epochs, refused, set aside, counted millimetres, counted pulses, standing millimetres, all
-- pulses, whether the last epoch had a pulse, and the last epoch's millimetres where it stands so far. What the calls on them answer, and what lent words hold
-- afterwards. Definitions only.
use Rattle.numeric.specs.Refusal.{answer_number}
use Rattle.std.specs.Prelude.{Result, Ok, Err}
use Rattle.mileage.specs.declared.mileage.Report.{Report}
use Rattle.numeric.specs.declared.refusal.Refusal.{Refusal}
use Rattle.std.specs.Prelude.{◌≡◌, ℕ, List, [], ◌∷◌, get_or, Float}
use Rattle.std.specs.Float.{nan}
use Rattle.lists.specs.Memory.{before, after, Memory, LentNumbers, LentFloats}
use Rattle.exact.specs.Float.{bits}
use Rattle.lists.specs.Walk.{fold}
use Rattle.numeric.specs.Order.{pattern_of}
use Rattle.numeric.specs.Vec3.{vector_at}
use Rattle.mileage.specs.Mileage.{mileage_started, mileage_added, mileage_reported, mileage_distance, mileage_fuelled}
use Rattle.mileage.specs.declared.mileage.Epoch.{Epoch}
use Rattle.mileage.specs.declared.mileage.Mileage.{Mileage}

-- ---- words and mileages, an epoch from what is lent

abbrev pub mileage_from : List ℕ → Mileage
mileage_from w =
    record {
      limit = bits (get_or w 0 0);
      epochs = get_or w 1 0;
      refused = get_or w 2 0;
      aside = get_or w 3 0;
      counted = get_or w 4 0;
      covered = get_or w 5 0;
      standing = get_or w 6 0;
      pulses = get_or w 7 0;
      moved = get_or w 8 0;
      waiting = get_or w 9 0;
    }

abbrev pub mileage_words : Mileage → List ℕ
mileage_words m =
    pattern_of m.limit ∷ m.epochs ∷ m.refused ∷ m.aside ∷ m.counted ∷ m.covered ∷ m.standing ∷ m.pulses ∷ m.moved ∷ m.waiting ∷ []

-- three floats are lent for the displacement, and chi and pdop
abbrev pub lent_epoch : ℕ → LentFloats → LentFloats → ℕ → Epoch
lent_epoch number delta quality pulses =
    record {
      refused = number;
      displacement = vector_at (before delta) 0;
      chi = get_or (before quality) 0 nan;
      pdop = get_or (before quality) 1 nan;
      pulses = pulses;
    }

-- ---- the calls on the mileage that words hold

abbrev pub mileage_added_words : List ℕ → Epoch → Result Mileage Refusal
mileage_added_words w e = mileage_added (mileage_from w) e

abbrev pub mileage_reported_words : List ℕ → Result Report Refusal
mileage_reported_words w = mileage_reported (mileage_from w)

abbrev pub distance_words : List ℕ → Result ℕ Refusal
distance_words w = mileage_distance (mileage_from w)

abbrev pub mileage_fuelled_words : List ℕ → ℕ → Result ℕ Refusal
mileage_fuelled_words w millilitres = mileage_fuelled (mileage_from w) millilitres

-- ---- the number, and what the lent words hold afterwards: a refusal changes nothing

abbrev pub mileage_after : Result Mileage Refusal → List ℕ → List ℕ
mileage_after (Err r) w = w
mileage_after (Ok m) w = mileage_words m

abbrev pub mileage_report_words : Report → List ℕ
mileage_report_words p = p.epochs ∷ p.refused ∷ p.aside ∷ p.counted ∷ p.covered ∷ p.standing ∷ p.pulses ∷ []

abbrev pub mileage_report_after : Result Report Refusal → List ℕ → List ℕ
mileage_report_after (Err r) w = w
mileage_report_after (Ok p) w = mileage_report_words p

abbrev pub distance_after : Result ℕ Refusal → ℕ → ℕ
distance_after (Err r) n = n
distance_after (Ok d) n = d

abbrev pub mileage_fuel_after : Result ℕ Refusal → ℕ → ℕ
mileage_fuel_after (Err r) n = n
mileage_fuel_after (Ok m) n = m

-- what calls on lent words promise
pub record MileageAnswers (s : Result Mileage Refusal) (number : ℕ) (mileage : LentNumbers) : Type 0 where
  pub number_is : number ≡ answer_number s
  pub words_are : after mileage ≡ mileage_after s (before mileage)

pub record MileageReportAnswers (q : Result Report Refusal) (number : ℕ) (report : LentNumbers) : Type 0 where
  pub number_is : number ≡ answer_number q
  pub words_are : after report ≡ mileage_report_after q (before report)

pub record DistanceAnswers (d : Result ℕ Refusal) (number : ℕ) (millimetres : Memory ℕ) : Type 0 where
  pub number_is : number ≡ answer_number d
  pub word-is : after millimetres ≡ distance_after d (before millimetres)

pub record MileageFuelAnswers (f : Result ℕ Refusal) (number : ℕ) (per-km : Memory ℕ) : Type 0 where
  pub number_is : number ≡ answer_number f
  pub word-is : after per-km ≡ mileage_fuel_after f (before per-km)

-- ---- calls one after the other

-- the words that an addition leaves
unfoldable pub mileage_next : List ℕ → Epoch → List ℕ
mileage_next w e = mileage_after (mileage_added_words w e) w

-- the words that a start in lent words w and then these additions leave
unfoldable pub called : Float → List ℕ → List Epoch → List ℕ
called limit w es = fold mileage_next (mileage_after (mileage_started limit) w) es
