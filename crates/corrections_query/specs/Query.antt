-- The correction of a signal at a time (docs/SCOPE.md, "Corrections"; `Corrections::at` of differential.rs). Definitions only.
use Rattle.numeric.specs.Refusal.{answer_number}
use Rattle.std.specs.Prelude.{Result, Ok, Err, ⊤}
use Rattle.numeric.specs.declared.refusal.Refusal.{Refusal}
use Rattle.std.specs.Prelude.{ℕ, ◌≤◌, ◌≡◌, Bool, true, cond, not, ◌&&◌, ◌||◌, List, [], ◌∷◌, ltb, Float}
use Rattle.std.specs.Float.Ieee.{lt}
use Rattle.std.specs.Float.Ieee.Scale.{finite}
use Rattle.exact.specs.Float.{◌⊕◌, ◌⊖◌, ◌⊗◌, ◌⊘◌, bits}
use Rattle.numeric.specs.Order.{pattern_of}
use Rattle.numeric.specs.Real.{abs, in_range}
use Rattle.numeric.specs.Rules.{rule, ruled}
use Rattle.numeric.specs.declared.refusal.Refusal.TheVariants.{TooMany, SettingOutOfRange, RecordOutOfRange, NoCorrection}
use Rattle.signal.specs.Signal.{signal}
use Rattle.corrections_table.specs.Table.{series_of, sound_table}
use Rattle.corrections_table.specs.declared.sample.Sample.{Sample}
use Rattle.corrections_directory.specs.Directory.{Directory, block_capacity, directory_in, flat, sound_directory}
use Rattle.corrections_directory.specs.Read.{ReadTable}

-- 1e-6
abbrev pub near_limit : Float
near_limit = bits 0x3EB0_C6F7_A0B5_ED8D

-- less than 1e-6 s away
unfoldable pub near : Float → Float → Bool
near x t = lt (abs (x ⊖ t)) near_limit

pub data Found : Type 0 where
  missing : Found
  the : Sample → Found

-- the first sample that passes the test
unfoldable pub first_of : (Sample → Bool) → List Sample → Found
first_of test [] = missing
first_of test (s ∷ ss) = cond (test s) (the s) (first_of test ss)

-- the last sample that passes the test, and f where none does
unfoldable pub last_of : (Sample → Bool) → Found → List Sample → Found
last_of test f [] = f
last_of test f (s ∷ ss) = last_of test (cond (test s) (the s) f) ss

-- a sample before the time t
abbrev pub sample_before : Float → Sample → Bool
sample_before t s = lt s.time t

-- a sample at or after the time t
abbrev pub since : Float → Sample → Bool
since t s = not (lt s.time t)

-- the last sample of a series before t
abbrev pub last_before : Float → List Sample → Found
last_before t l = last_of (sample_before t) missing l

-- the first sample of a series at or after t
abbrev pub first_since : Float → List Sample → Found
first_since t l = first_of (since t) l

-- the line through x at the time a and y at the time b, at t
unfoldable pub through : Float → Float → Float → Float → Float → Float
through t a x b y = x ⊕ (t ⊖ a) ⊘ (b ⊖ a) ⊗ (y ⊖ x)

-- the line through two samples, at t
abbrev pub line : Float → Sample → Sample → Float
line t a b = through t a.time a.correction b.time b.correction

-- a found sample's value where it is less than 1e-6 s away, and otherwise what the rest of the rule gives
unfoldable pub near_or : Float → Found → Result Float Refusal → Result Float Refusal
near_or t missing rest = rest
near_or t (the s) rest = cond (near s.time t) (Ok s.correction) rest

-- the ends, and then the gap: what the last sample before t and the first one at or after it give, neither being near
unfoldable pub spanned : Float → Float → Found → Found → Result Float Refusal
spanned gap t missing h = Err NoCorrection
spanned gap t (the a) missing = Err NoCorrection
spanned gap t (the a) (the b) = cond (lt gap (b.time ⊖ a.time)) (Err NoCorrection) (Ok (line t a b))

-- request (vi): what the last sample f before t and the first one h at or after it give, a near h first, then a near f, then the ends, then the gap
unfoldable pub correction_rule : Float → Float → Found → Found → Result Float Refusal
correction_rule gap t f h = near_or t h (near_or t f (spanned gap t f h))

-- the correction at the time t from one satellite's series, by the last sample before t and the first one at or after it
unfoldable pub answer_in : List Sample → Float → Float → Result Float Refusal
answer_in l gap t = correction_rule gap t (last_before t l) (first_since t l)

-- the correction of the signal c, v, b at the time t: that of its series
unfoldable pub answer_at : List Sample → Float → ℕ → ℕ → ℕ → Float → Result Float Refusal
answer_at ss gap c v b t = answer_in (series_of (signal c v b) ss) gap t

-- the answer once numbers 2, 3 and 4 pass, by whether the counts are above the capacity and whether the table is sound; a time that is not finite passes 4
unfoldable pub guarded : Bool → Bool → Float → Float → Result Float Refusal → Result Float Refusal
guarded many sound gap t answer =
    ruled Err
    (rule TooMany many
    ∷ rule SettingOutOfRange (not (in_range gap))
    ∷ rule RecordOutOfRange (not (sound && (in_range t || not (finite t))))
    ∷ [])
    answer

-- a query of n samples with that capacity
unfoldable pub query_of : ℕ → ℕ → List Sample → Float → ℕ → ℕ → ℕ → Float → Result Float Refusal
query_of n room ss gap c v b t = guarded (ltb room n) (sound_table ss) gap t (answer_at ss gap c v b t)

-- request (ix): a query of a directory of m entries and n samples in columns with that capacity has its own 2 and 4, and the answer of the samples that the directory stands for
unfoldable pub query_in : ℕ → ℕ → ℕ → Directory → Float → ℕ → ℕ → ℕ → Float → Result Float Refusal
query_in m n room d gap c v b t = guarded (ltb room m || ltb room n) (sound_directory d) gap t (answer_at (flat d) gap c v b t)

-- a query of a table in lent columns
abbrev pub lent_query : ReadTable → Float → ℕ → ℕ → ℕ → Float → Result Float Refusal
lent_query table gap c v b t =
    query_in table.entries table.samples (block_capacity table.columns) (directory_in table.entries table.samples table.columns) gap c v b t

-- numbers 2 to 4 of a table of m entries and n samples and of a gap
unfoldable pub table_test : ℕ → ℕ → ℕ → Directory → Float → Result ⊤ Refusal
table_test m n room d gap =
    ruled Err
    (rule TooMany (ltb room m || ltb room n)
    ∷ rule SettingOutOfRange (not (in_range gap))
    ∷ rule RecordOutOfRange (not (sound_directory d))
    ∷ [])
    (Ok tt)

-- numbers 2 to 4 of a table in lent columns and of a gap
abbrev pub lent_test : ReadTable → Float → Result ⊤ Refusal
lent_test table gap = table_test table.entries table.samples (block_capacity table.columns) (directory_in table.entries table.samples table.columns) gap

-- the pattern of a lent float afterwards, to the last bit: that of the correction, unchanged where the query is refused
abbrev pub pattern_after : Result Float Refusal → ℕ → ℕ
pattern_after (Err r) old = old
pattern_after (Ok x) old = pattern_of x

-- every correction given is finite
abbrev pub GivesFinite : Result Float Refusal → Type 0
GivesFinite (Err n) = Unit {0}
GivesFinite (Ok x) = finite x ≡ true

-- the number and the lent pattern afterwards are those of the answer, and the correction given is finite
pub record Answers (q : Result Float Refusal) (number metres metres' : ℕ) : Type 0 where
  pub number_is : number ≡ answer_number q
  pub metres_are : metres' ≡ pattern_after q metres
  pub given-finite : GivesFinite q

-- ---- what the contract of the answer says

-- rules 2 to 4 let the directory and the gap pass
pub record PassedQuery (m n room : ℕ) (d : Directory) (gap : Float) : Type 0 where
  pub few-entries : m ≤ room
  pub few-samples : n ≤ room
  pub in-range : in_range gap ≡ true
  pub sound : sound_directory d ≡ true

-- rules 2 to 4 let the query pass: its time too is in range, or not finite
pub record Passes (m n room : ℕ) (d : Directory) (gap t : Float) : Type 0 where
  pub table : PassedQuery m n room d gap
  pub time : (in_range t || not (finite t)) ≡ true
