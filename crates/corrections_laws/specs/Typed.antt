-- What the types of lent columns guarantee, which is all that the laws assume of a caller's memory. Definitions only.
use Rattle.std.specs.Prelude.{ℕ, ◌^◌, ◌<◌, List, [], ◌∷◌, T, get_or, Float}
use Rattle.std.specs.Float.{nan, binary64}
use Rattle.std.specs.Float.Ieee.{fits}

-- a lent column, by the type of its places
pub data TypedColumn : Type 0 where
  u16 : List ℕ → TypedColumn
  u32 : List ℕ → TypedColumn
  u64 : List ℕ → TypedColumn
  f64 : List Float → TypedColumn

-- each place holds a value of the type, and so does what a read past the end gives
abbrev pub OfType : TypedColumn → Type 0
OfType (u16 column) = (i : ℕ) → get_or column i 0 < 2 ^ 16
OfType (u32 column) = (i : ℕ) → get_or column i 0 < 2 ^ 32
OfType (u64 column) = (i : ℕ) → get_or column i 0 < 2 ^ 64
OfType (f64 column) = (i : ℕ) → T (fits binary64 (get_or column i nan))

-- each of these columns is of its type
abbrev pub Typed : List TypedColumn → Type 0
Typed [] = Unit {0}
Typed (c ∷ cs) = OfType c × Typed cs
