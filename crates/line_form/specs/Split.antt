-- Parts of a text: its lines, and the fields of a line (docs/SCOPE.md, "The line form and its program"). Definitions only.
use Rattle.std.specs.Prelude.{ℕ, cond, List, [], ◌∷◌, eqb, get_or}

-- a byte at the front of the first of some parts
abbrev pub onto : ℕ → List (List ℕ) → List (List ℕ)
onto b [] = (b ∷ []) ∷ []
onto b (p ∷ ps) = (b ∷ p) ∷ ps

-- the parts between the bytes c: one more than there are such bytes
unfoldable pub split : ℕ → List ℕ → List (List ℕ)
split c [] = [] ∷ []
split c (b ∷ s) = let ps = split c s in cond (eqb b c) ([] ∷ ps) (onto b ps)

-- the fields of a line, separated by commas (44)
abbrev pub fields : List ℕ → List (List ℕ)
fields line = split 44 line

-- the field k of a line, counted from 0; nothing where there is none
abbrev pub field : List ℕ → ℕ → List ℕ
field line k = get_or (fields line) k []
