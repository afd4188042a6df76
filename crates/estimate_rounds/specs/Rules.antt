-- The rules that a fix and a displacement share (docs/REFUSALS.md). Definitions only.
use Rattle.std.specs.Prelude.{ℕ, ◌+◌, List, [], ◌∷◌, ltb}
use Rattle.numeric.specs.Rules.{Rule, rule}
use Rattle.numeric.specs.declared.refusal.Refusal.TheVariants.{TooFewRows, TooManySlots}

-- 8 and 9: of how many rows are kept, and how many clock slots those have
unfoldable pub row_rules : ℕ → ℕ → List Rule
row_rules rows slots =
    rule TooFewRows (ltb rows (4 + slots))
    ∷ rule TooManySlots (ltb 6 slots)
    ∷ []
