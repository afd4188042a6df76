-- Many queries of one directory, which is tested once; each of the answers is that of one query (docs/SCOPE.md, "Corrections"). Definitions only.
use Rattle.numeric.specs.Refusal.{answer_number}
use Rattle.std.specs.Prelude.{Result, Ok, Err, ⊤}
use Rattle.std.specs.Prelude.{ℕ, ◌≡◌, Bool, not, ◌||◌, List, [], ◌∷◌, length, get_or, ltb, Float}
use Rattle.std.specs.Float.{nan}
use Rattle.lists.specs.Memory.{before, after, LentNumbers, LentFloats}
use Rattle.lists.specs.Walk.{places}
use Rattle.numeric.specs.Real.{in_range}
use Rattle.numeric.specs.Rules.{rule, ruled}
use Rattle.numeric.specs.declared.refusal.Refusal.{Refusal}
use Rattle.numeric.specs.declared.refusal.Refusal.TheVariants.{TooMany, SettingOutOfRange, RecordOutOfRange}
use Rattle.corrections_directory.specs.Directory.{Directory, block_capacity, directory_in, sound_directory}
use Rattle.corrections_directory.specs.Read.{ReadTable}
use Rattle.corrections_query.specs.Query.{query_in, pattern_after, GivesFinite}

-- ---- the outcome of a call

-- a refusal of the whole call, or the answer of each place that is asked
pub data Reply : Type 0 where
  refusal : Refusal → Reply
  answers : List (Result Float Refusal) → Reply

-- what is asked: columns of constellations, svids, bands and times, and how many of their places count
pub record Asked : Type 0 where
  pub constellations : List ℕ
  pub svids : List ℕ
  pub bands : List ℕ
  pub times : List Float
  pub count : ℕ

-- number 2: a lent column is shorter than the count of places
unfoldable pub places_short : Asked → List ℕ → List ℕ → Bool
places_short q numbers metres =
    ltb (length q.constellations) q.count
    || ltb (length q.svids) q.count
    || ltb (length q.bands) q.count
    || ltb (length q.times) q.count
    || ltb (length numbers) q.count
    || ltb (length metres) q.count

-- the query at the place i
abbrev pub query_at : ℕ → ℕ → ℕ → Directory → Float → Asked → ℕ → Result Float Refusal
query_at m n room d gap q i = query_in m n room d gap (get_or q.constellations i 0) (get_or q.svids i 0) (get_or q.bands i 0) (get_or q.times i nan)

-- queries of m entries and n samples in columns with that capacity: numbers 2, 3 and 4 for the whole call, and then the query at each place that counts
unfoldable pub queries_in : ℕ → ℕ → ℕ → Directory → Float → Asked → List ℕ → List ℕ → Reply
queries_in m n room d gap q numbers metres =
    ruled refusal
    (rule TooMany ((ltb room m || ltb room n) || places_short q numbers metres)
    ∷ rule SettingOutOfRange (not (in_range gap))
    ∷ rule RecordOutOfRange (not (sound_directory d))
    ∷ [])
    (answers (places (query_at m n room d gap q) q.count))

-- ---- what a call leaves

-- the answer of the call itself
abbrev pub asking_of : Reply → Result ⊤ Refusal
asking_of (refusal r) = Err r
asking_of (answers l) = Ok tt

-- at each answer's place what f makes of the answer and of the value there, and past them what was there
unfoldable pub with_answers : {A : Type 0} → ((Result Float Refusal) → A → A) → List (Result Float Refusal) → List A → List A
with_answers f [] xs = xs
with_answers f (a ∷ l) [] = []
with_answers f (a ∷ l) (x ∷ xs) = f a x ∷ with_answers f l xs

-- a column afterwards: unchanged where the call is refused
abbrev pub places_after : {A : Type 0} → ((Result Float Refusal) → A → A) → Reply → List A → List A
places_after f (refusal r) column = column
places_after f (answers l) column = with_answers f l column

-- a place's number afterwards
abbrev pub number_after : Result Float Refusal → ℕ → ℕ
number_after a old = answer_number a

-- every correction given is finite
unfoldable pub EachFinite : List (Result Float Refusal) → Type 0
EachFinite [] = Unit {0}
EachFinite (a ∷ l) = GivesFinite a × EachFinite l

abbrev pub ReplyFinite : Reply → Type 0
ReplyFinite (refusal r) = Unit {0}
ReplyFinite (answers l) = EachFinite l

-- the number and the columns of numbers and of the patterns of metres afterwards are those of the reply, to the last bit, and every correction given is finite
pub record Replies (o : Reply) (number : ℕ) (numbers metres numbers' metres' : List ℕ) : Type 0 where
  pub number_is : number ≡ answer_number (asking_of o)
  pub numbers_after : numbers' ≡ places_after number_after o numbers
  pub metres_after : metres' ≡ places_after pattern_after o metres
  pub all-finite : ReplyFinite o

-- ---- on lent memory

-- what a call is asked
abbrev pub asked : LentNumbers → LentNumbers → LentNumbers → LentFloats → ℕ → Asked
asked c v b t count = record { constellations = before c; svids = before v; bands = before b; times = before t; count = count }

-- the reply to queries of a table in lent columns
abbrev pub lent_queries : ReadTable → Float → Asked → LentNumbers → LentNumbers → Reply
lent_queries table gap q numbers metres =
    queries_in table.entries table.samples (block_capacity table.columns) (directory_in table.entries table.samples table.columns) gap q
    (before numbers) (before metres)

-- the number and the two columns after a call are those of the reply
abbrev pub RepliesTo : ReadTable → Float → Asked → ℕ → LentNumbers → LentNumbers → Type 0
RepliesTo table gap q number numbers metres =
    Replies (lent_queries table gap q numbers metres) number (before numbers) (before metres) (after numbers) (after metres)

-- the answer is that of the reply, and so are the two columns
abbrev pub Replied : ReadTable → Float → Asked → Result ⊤ Refusal → LentNumbers → LentNumbers → Type 0
Replied table gap q a numbers metres = (a ≡ asking_of (lent_queries table gap q numbers metres)) × RepliesTo table gap q (answer_number a) numbers metres
