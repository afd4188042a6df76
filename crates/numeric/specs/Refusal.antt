-- The number of each refusal (docs/REFUSALS.md). and of an answer. Definitions only.
use Rattle.std.specs.Prelude.{ℕ, Result, Ok, Err}
use Rattle.numeric.specs.declared.refusal.Refusal.{Refusal}
use Rattle.numeric.specs.declared.refusal.Refusal.TheVariants.{BrokenForm, TooMany, SettingOutOfRange, RecordOutOfRange, BadInterval, BadTrack, TooFewPairs, TooFewRows, TooManySlots, FitFailed, TableFull, NoCorrection, BadTime, QualityNotFinite, OnReceiver, BadTrip, NoDistance, BadDropTime, NotTurned, NotCertified, BrokenRecords}

abbrev pub number_of : Refusal → ℕ
-- program only: the text is above 32,768 bytes, or a line breaks the form
number_of BrokenForm = 1
-- more records, epochs, anchors, links or samples than a call takes, or a lent buffer is too short
number_of TooMany = 2
-- a setting is not finite or above 1e9 in magnitude, or the rounds are too many or too few
number_of SettingOutOfRange = 3
-- a float of a counted record, a coordinate or a time is not finite or above 1e9 in magnitude, an elevation is outside -90 to 90 degrees,
-- a round called by itself has too many unknowns or too high a clock index, or a correction table is not sorted
number_of RecordOutOfRange = 4
-- the interval dt is not finite, not above 0, or above 604,800 seconds
number_of BadInterval = 5
-- a track has no epochs or no anchor, a sigma is not above 0, or an index is not below the epochs
number_of BadTrack = 6
-- fewer than six carrier pairs before screening
number_of TooFewPairs = 7
-- fewer rows kept than 4 plus the clock slots
number_of TooFewRows = 8
-- more than six clock slots
number_of TooManySlots = 9
-- a Cholesky pivot is refused, the position or displacement is not finite, or the first track pass fails
number_of FitFailed = 10
-- the epoch's accepted corrections do not all fit in the rest of the table
number_of TableFull = 11
-- the table gives no correction for the query
number_of NoCorrection = 12
-- a week is above 15,000, a time of week is not finite or outside 0 to below 604,800, or a time handed in is before week 0 or past the start of week 15,001
number_of BadTime = 13
-- chi or pdop of a fix is not finite
number_of QualityNotFinite = 14
-- the range that the geometry of a satellite gives is zero or not finite
number_of OnReceiver = 15
-- a displacement of a trip is not finite or longer than 1,000 m, a full trip has one more epoch, or a trip's numbers are out of bounds: a rate of 0,
-- more than 65,535 epochs, or more than 1,000,000 mm or 65,535 pulses times its epochs
number_of BadTrip = 16
-- fuel per kilometre is asked for at zero carrier distance
number_of NoDistance = 17
-- the time to drop before is not finite
number_of BadDropTime = 18
-- a coordinate to be turned to north, east, down is not finite or above 1e9 in magnitude, or a result is not finite
number_of NotTurned = 19
-- GPS or Galileo is absent among the kept pairs of a city displacement
number_of NotCertified = 20
-- the length of the carrier records to be read is not a multiple of 59
number_of BrokenRecords = 21

-- the number of an answer: 0, or the refusal's
abbrev pub answer_number : {A : Type 0} → Result A Refusal → ℕ
answer_number (Ok x) = 0
answer_number (Err r) = number_of r

-- what a caller's memory holds after an answer: its value, or what it held
abbrev pub value_after : {A : Type 0} → Result A Refusal → A → A
value_after (Ok x) old = x
value_after (Err r) old = old
