-- The displacement of byte records beside that of the columns read. Definitions only.
use Rattle.std.specs.Prelude.{◌≡◌, List, ℕ, get_or}
use Rattle.wire.specs.Number.{five_bytes}
use Rattle.wire.specs.Columns.{over}

-- the 40 bytes of these counts and patterns
abbrev pub forty_bytes : List ℕ → List ℕ → List ℕ
forty_bytes counts delta = five_bytes (get_or counts 0 0) (get_or counts 1 0) (get_or delta 0 0) (get_or delta 1 0) (get_or delta 2 0)

-- the numbers are one; where it is 0 the result has the bytes of the counts and patterns, and otherwise it is unchanged
pub record Beside (number number' : ℕ) (delta counts out out' : List ℕ) : Type 0 where
  pub numbers : number ≡ number'
  pub accepted : number ≡ 0 → out' ≡ over (forty_bytes counts delta) out
  pub refused : (number ≡ 0 → ⊥) → out' ≡ out
