-- The entry points of times: what a lent place holds afterwards; a refusal leaves it unchanged, to the last bit. Definitions only.
use Rattle.numeric.specs.Refusal.{answer_number}
use Rattle.std.specs.Prelude.{Result, Ok, Err, Float}
use Rattle.numeric.specs.declared.refusal.Refusal.{Refusal}
use Rattle.std.specs.Prelude.{◌≡◌, ℕ, ℤ}
use Rattle.lists.specs.Memory.{before, after, Memory}
use Rattle.numeric.specs.Order.{pattern_of}
use Rattle.time.specs.declared.time.GpsTime.{GpsTime}

-- the time of so many nanoseconds
abbrev pub time_at : ℕ → GpsTime
time_at n = record { nanos = n }

abbrev pub time_after : Result GpsTime Refusal → ℕ → ℕ
time_after (Err r) n = n
time_after (Ok t) n = t.nanos

abbrev pub nanos_after : Result ℤ Refusal → ℤ → ℤ
nanos_after (Err r) n = n
nanos_after (Ok z) n = z

-- the pattern of the seconds
abbrev pub seconds_after : Result Float Refusal → ℕ → ℕ
seconds_after (Err r) n = n
seconds_after (Ok x) n = pattern_of x

-- what the entry points promise: the number, and what is lent afterwards
abbrev pub TimeAnswers : Result GpsTime Refusal → ℕ → Memory ℕ → Type 0
TimeAnswers t number nanos = (number ≡ answer_number t) × (after nanos ≡ time_after t (before nanos))

abbrev pub NanosAnswers : Result ℤ Refusal → ℕ → Memory ℤ → Type 0
NanosAnswers t number nanos = (number ≡ answer_number t) × (after nanos ≡ nanos_after t (before nanos))

abbrev pub SecondsAnswers : Result Float Refusal → ℕ → Memory ℕ → Type 0
SecondsAnswers t number seconds = (number ≡ answer_number t) × (after seconds ≡ seconds_after t (before seconds))
