-- Which answers request (vi) changed: the rule of before it, and where a time lies just past a signal's last sample. Definitions only.
use Rattle.std.specs.Prelude.{Result, Err}
use Rattle.numeric.specs.declared.refusal.Refusal.{Refusal}
use Rattle.std.specs.Prelude.{ℕ, ◌≡◌, Bool, true, ◌||◌, List, eqb, ltb, Float}
use Rattle.std.specs.Float.Ieee.{lt}
use Rattle.numeric.specs.declared.refusal.Refusal.TheVariants.{NoCorrection}
use Rattle.signal.specs.Signal.{signal}
use Rattle.corrections_table.specs.Table.{signal_of, series_of}
use Rattle.corrections_table.specs.declared.sample.Sample.{Sample}
use Rattle.corrections_directory.specs.Directory.{Directory, flat, sound_directory}
use Rattle.corrections_query.specs.Query.{Found, missing, the, near, near_or, correction_rule, last_of, last_before, first_since, guarded}

-- ---- the rule of before: near sample at or after the time, the ends, near sample before it, the gap

-- what the last sample before t and the first one at or after it gave: past the last sample nothing, before the first that one where it is near, and between two of
-- them what they give now
unfoldable pub former_rule : Float → Float → Found → Found → Result Float Refusal
former_rule gap t f missing = Err NoCorrection
former_rule gap t missing (the b) = near_or t (the b) (Err NoCorrection)
former_rule gap t (the a) (the b) = correction_rule gap t (the a) (the b)

-- the answer of before
unfoldable pub former_answer : List Sample → Float → ℕ → ℕ → ℕ → Float → Result Float Refusal
former_answer ss gap c v b t = let l = series_of (signal c v b) ss in former_rule gap t (last_before t l) (first_since t l)

-- a query by the rule of before, of a directory of m entries and n samples in columns with that capacity: the same numbers 2 to 4
unfoldable pub query_before : ℕ → ℕ → ℕ → Directory → Float → ℕ → ℕ → ℕ → Float → Result Float Refusal
query_before m n room d gap c v b t = guarded (ltb room m || ltb room n) (sound_directory d) gap t (former_answer (flat d) gap c v b t)

-- ---- where the answers differ

-- a sample of the signal g
abbrev pub is_of : ℕ → Sample → Bool
is_of g s = eqb (signal_of s) g

-- t lies after a, the last sample of the signal g in table order, by less than 1e-6 s in the rounded difference
pub record JustPast (ss : List Sample) (g : ℕ) (t : Float) (a : Sample) : Type 0 where
  pub last : last_of (is_of g) missing ss ≡ the a
  pub past : lt a.time t ≡ true
  pub close : near a.time t ≡ true
