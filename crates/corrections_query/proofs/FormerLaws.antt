-- The rule of before request (vi), by the last sample before the time and the first one at or after it. Assumes nothing.
use Rattle.std.specs.Prelude.{Result, Ok, Err}
use Rattle.numeric.specs.declared.refusal.Refusal.{Refusal}
use mathlib.Core.Path.{◌≡◌, refl, sym, ◌∙◌}
use mathlib.Core.List.{List, [], ◌∷◌, ◌++◌}
use mathlib.Core.Bool.{Bool, true, false, cond, not, ◌&&◌, ◌||◌}
use Prim.Native.Nat.{ℕ, zero, suc, ◌+◌, ◌-◌, ◌*◌, ◌^◌, ◌≤◌, ◌<◌}
use native.Mathlib.Omega.{arith}
use lib.Dec.{T, eqb, ltb}
use lib.ListN.{length, get_or}
use borrow.Author.Tests.{eqb-true, eq-eqb, ne_eqb, ltb-true, ltb-false, lt-ltb, le-ltb}
use lib.Ieee.{Float, lt, fits, binary64}
use Rattle.exact.specs.Float.{◌⊖◌}
use Rattle.lists.specs.Walk.{collect}
use Rattle.signal.specs.Signal.{signal}
use Rattle.numeric.specs.declared.refusal.Refusal.TheVariants.{NoCorrection}
use Rattle.corrections_table.specs.Table.{blank, series_of, signal_of}
use Rattle.corrections_table.specs.declared.sample.Sample.{Sample}
use Rattle.corrections_table.proofs.Places.{place_of, time_key}
use Rattle.corrections_table.proofs.TableLaws.{SoundTable, and_left, and_right}
use Rattle.corrections_table.proofs.UnitLaws.{earlier-of, never}
use Rattle.corrections_query.specs.Query.{Found, missing, the, near, line, through, first_of, last_of, sample_before, last_before, first_since, near_or, spanned, correction_rule}
use Rattle.corrections_query.specs.Past.{former_rule, former_answer}
use Rattle.corrections_query.specs.Former.{partition_point, former_at}
use Rattle.corrections_query.proofs.FoundLaws.{earlier, last_none, last_series}
use Rattle.corrections_query.proofs.QueryLaws.{TimesHeld}

-- ---- of a table in order, an earlier sample of a signal is before a time if a later one is

-- two samples of one signal, in the table's order, by their times
keys-le : (a b : Sample) → place_of a ≤ place_of b → signal_of a ≡ signal_of b → time_key a.time ≤ time_key b.time
keys-le a b h e = keys (signal_of a) (signal_of b) (time_key a.time) (time_key b.time) e h
  where
    keys : (g l j k : ℕ) → g ≡ l → g * 2 ^ 64 + j ≤ l * 2 ^ 64 + k → j ≤ k
    keys g l j k e r = omega arith

pub before_too : (ss : List Sample) (t : Float) → T (fits binary64 t) → SoundTable ss → TimesHeld ss → (i j : ℕ) → i ≤ j → j < length ss
    → signal_of (get_or ss i blank) ≡ signal_of (get_or ss j blank) → lt (get_or ss j blank).time t ≡ true → lt (get_or ss i blank).time t ≡ true
unfolding TimesHeld
before_too ss t ft s w i j le h same past =
    let k : i < length ss = omega arith in
    let keys = keys-le (get_or ss i blank) (get_or ss j blank) (s.rising i j le h) same in
    earlier-of (get_or ss i blank).time (get_or ss j blank).time t (w i k) (w j h) ft (s.times i k) (s.times j h) keys past

-- ---- the neighbours of a time in a series, by their places
positive : (i : ℕ) → eqb (suc i) 0 ≡ false
positive i = ne_eqb (suc i) 0 (λ q. omega arith)

less : (i : ℕ) → suc i - 1 ≡ i
less i = omega arith

below_suc : (i n : ℕ) → ltb (suc i) (suc n) ≡ ltb i n
below_suc i n = by (ltb i n) refl
  where
    by : (y : Bool) → ltb i n ≡ y → ltb (suc i) (suc n) ≡ y
    by true e = let k = ltb-true i n e in lt-ltb (suc i) (suc n) (omega arith)
    by false e = let k = ltb-false i n e in le-ltb (suc i) (suc n) (omega arith)

module _ (t : Float) where
  point-within : (l : List Sample) → partition_point t l ≤ length l
  unfolding partition_point
  point-within [] = omega arith
  point-within (s ∷ l) = go (lt s.time t) (point-within l)
    where
      go : (x : Bool) → partition_point t l ≤ length l → cond x (suc (partition_point t l)) 0 ≤ length (s ∷ l)
      go true ih = omega arith
      go false ih = omega arith

  since-point : (l : List Sample) → first_since t l ≡ cond (ltb (partition_point t l) (length l)) (the (get_or l (partition_point t l) blank)) missing
  unfolding partition_point first_of
  since-point [] = refl
  since-point (s ∷ l) = go (lt s.time t) (since-point l)
    where
      go : (x : Bool) → first_since t l ≡ cond (ltb (partition_point t l) (length l)) (the (get_or l (partition_point t l) blank)) missing
          → cond (not x) (the s) (first_since t l)
          ≡ cond (ltb (cond x (suc (partition_point t l)) 0) (length (s ∷ l))) (the (get_or (s ∷ l) (cond x (suc (partition_point t l)) 0) blank)) missing
      go true ih = rw (below_suc (partition_point t l) (length l)) ih
      go false ih = rw (lt-ltb 0 (length (s ∷ l)) (omega arith)) refl

  -- in the table's order, a sample of the signal is before t if a later one is
  abbrev Falls : ℕ → List Sample → Type 0
  Falls g ss = (i j : ℕ) → i ≤ j → j < length ss → eqb (signal_of (get_or ss i blank)) g ≡ true → earlier g t (get_or ss j blank) ≡ true → lt (get_or ss i blank).time t ≡ true

  before-point : (g : ℕ) (f : Found) (ss : List Sample) → Falls g ss
      → last_of (sample_before t) f (series_of g ss) ≡ cond (eqb (partition_point t (series_of g ss)) 0) f (the (get_or (series_of g ss) (partition_point t (series_of g ss) - 1) blank))
  unfolding partition_point last_of collect
  before-point g f [] falls = refl
  before-point g f (s ∷ ss) falls = go (eqb (signal_of s) g) refl (λ h. before-point g h ss (λ i j le k. falls (suc i) (suc j) (omega arith) (omega arith)))
    where
      l : List Sample
      l = series_of g ss

      shift : (i : ℕ) → cond (eqb i 0) (the s) (the (get_or l (i - 1) blank)) ≡ the (get_or (s ∷ l) i blank)
      shift zero = refl
      shift (suc i) = rw (positive i, less i) refl

      none : eqb (signal_of s) g ≡ true → lt s.time t ≡ false → (j : ℕ) → j < length ss → earlier g t (get_or ss j blank) ≡ false
      none mine late j h = by (earlier g t (get_or ss j blank)) refl
        where
          by : (x : Bool) → earlier g t (get_or ss j blank) ≡ x → x ≡ false
          by false e = refl
          by true e = never (sym late ∙ falls 0 (suc j) (omega arith) (omega arith) mine e)

      first : ((h : Found) → last_of (sample_before t) h l ≡ cond (eqb (partition_point t l) 0) h (the (get_or l (partition_point t l - 1) blank))) → eqb (signal_of s) g ≡ true → (x : Bool) → lt s.time t ≡ x
          → last_of (sample_before t) (cond x (the s) f) l ≡ cond (eqb (cond x (suc (partition_point t l)) 0) 0) f (the (get_or (s ∷ l) (cond x (suc (partition_point t l)) 0 - 1) blank))
      first rest mine true e = rw (positive (partition_point t l), less (partition_point t l)) (rest (the s) ∙ shift (partition_point t l))
      first rest mine false e = sym (last_series (sample_before t) g f ss) ∙ last_none (earlier g t) f ss (none mine e)

      go : (x : Bool) → eqb (signal_of s) g ≡ x → ((h : Found) → last_of (sample_before t) h l ≡ cond (eqb (partition_point t l) 0) h (the (get_or l (partition_point t l - 1) blank)))
          → last_of (sample_before t) f (cond x (s ∷ []) [] ++ l)
          ≡ cond (eqb (partition_point t (cond x (s ∷ []) [] ++ l)) 0) f (the (get_or (cond x (s ∷ []) [] ++ l) (partition_point t (cond x (s ∷ []) [] ++ l) - 1) blank))
      go true e rest = first rest e (lt s.time t) refl
      go false e rest = rest f

-- ---- the rule by the neighbours
module _ (gap t : Float) where
  -- what the last sample before t, if there is one, and the first one at or after it, b, gave, b not being near
  unfoldable pub bridged : Found → Sample → Result Float Refusal
  bridged missing b = Err NoCorrection
  bridged (the a) b = cond (near a.time t) (Ok a.correction) (cond (lt gap (b.time ⊖ a.time)) (Err NoCorrection) (Ok (line t a b)))

  -- what they gave, where there may be none at or after t
  unfoldable pub between : Found → Found → Result Float Refusal
  between f missing = Err NoCorrection
  between f (the b) = cond (near b.time t) (Ok b.correction) (bridged f b)

  pub former-between : (g : ℕ) (ss : List Sample) → T (fits binary64 t) → SoundTable ss → TimesHeld ss
      → former_at (series_of g ss) gap t ≡ between (last_before t (series_of g ss)) (first_since t (series_of g ss))
  unfolding former_at between bridged near through
  former-between g ss ft s w =
      rw (before-point t g missing ss falls, since-point t l) (go (eqb i 0) (ltb i (length l)) (eqb i (length l)) (ends i (length l) (point-within t l)))
    where
      l : List Sample
      l = series_of g ss

      i : ℕ
      i = partition_point t l

      falls : Falls t g ss
      falls k j le h mine past =
          let other = eqb-true (signal_of (get_or ss j blank)) g (and_left (eqb (signal_of (get_or ss j blank)) g) (lt (get_or ss j blank).time t) past) in
          let late = and_right (eqb (signal_of (get_or ss j blank)) g) (lt (get_or ss j blank).time t) past in
          before_too ss t ft s w k j le h (eqb-true (signal_of (get_or ss k blank)) g mine ∙ sym other) late

      ends : (i n : ℕ) → i ≤ n → eqb i n ≡ not (ltb i n)
      ends i n h = by (ltb i n) refl
        where
          by : (y : Bool) → ltb i n ≡ y → eqb i n ≡ not y
          by true e = let k = ltb-true i n e in ne_eqb i n (λ q. omega arith)
          by false e = let k = ltb-false i n e in eq-eqb i n (omega arith)

      go : (x y z : Bool) → z ≡ not y
          → cond (y && near (get_or l i blank).time t) (Ok (get_or l i blank).correction)
          (cond (x || z) (Err NoCorrection)
          (cond (near (get_or l (i - 1) blank).time t) (Ok (get_or l (i - 1) blank).correction)
          (cond (lt gap ((get_or l i blank).time ⊖ (get_or l (i - 1) blank).time)) (Err NoCorrection) (Ok (line t (get_or l (i - 1) blank) (get_or l i blank))))))
          ≡ between (cond x missing (the (get_or l (i - 1) blank))) (cond y (the (get_or l i blank)) missing)
      go true true false k = refl
      go false true false k = refl
      go true false true k = refl
      go false false true k = refl
      go x true true k = never (sym k)
      go x false false k = never k

  -- and that is what the definition of specs/Past.antt gives
  pub between-rule : (f h : Found) → between f h ≡ former_rule gap t f h
  unfolding between bridged former_rule correction_rule near_or spanned
  between-rule f missing = refl
  between-rule missing (the b) = refl
  between-rule (the a) (the b) = refl

-- for every table in order that columns hold, every gap limit, signal and time, the rule of before is the one written line by line
pub former-lines : (ss : List Sample) (gap : Float) (c v b : ℕ) (t : Float) → T (fits binary64 t) → SoundTable ss → TimesHeld ss
    → former_at (series_of (signal c v b) ss) gap t ≡ former_answer ss gap c v b t
unfolding former_answer
former-lines ss gap c v b t ft s w =
    let l = series_of (signal c v b) ss in
    former-between gap t (signal c v b) ss ft s w ∙ between-rule gap t (last_before t l) (first_since t l)
