-- The bands of a table that was written with 8 bits for each, in a column of 32 bits (docs/SCOPE.md, "Corrections"). Definitions only.
use Rattle.std.specs.Prelude.{Result, Ok, Err, ⊤}
use Rattle.numeric.specs.declared.refusal.Refusal.{Refusal}
use Rattle.std.specs.Prelude.{ℕ, Bool, cond, ◌||◌, List, ◌++◌, ltb, length, take, drop}
use Rattle.numeric.specs.declared.refusal.Refusal.TheVariants.{TooMany}

-- number 2: more bands than a table may hold, or than a column has
unfoldable pub bands_short : ℕ → List ℕ → List ℕ → Bool
bands_short n narrow wide = ltb 2048 n || ltb (length narrow) n || ltb (length wide) n

-- the first n bands of the old column, and past them what was in the new one
abbrev pub widened : ℕ → List ℕ → List ℕ → List ℕ
widened n narrow wide = take n narrow ++ drop n wide

unfoldable pub widen_of : ℕ → List ℕ → List ℕ → Result ⊤ Refusal
widen_of n narrow wide = cond (bands_short n narrow wide) (Err TooMany) (Ok tt)

-- the new column afterwards: unchanged where widening is refused, else with the bands
abbrev pub bands_after : Result ⊤ Refusal → ℕ → List ℕ → List ℕ → List ℕ
bands_after (Err r) n narrow wide = wide
bands_after (Ok tt) n narrow wide = widened n narrow wide
