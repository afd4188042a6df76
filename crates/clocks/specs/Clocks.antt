-- The receiver clocks, one for each constellation (docs/SCOPE.md, "Clocks"; `Clocks` of robust.rs). Definitions only.
use Rattle.std.specs.Prelude.{ℕ, ◌+◌, ◌-◌, ◌%◌, ◌^◌, min, Bool, false, cond, ◌||◌, List, [], ◌∷◌, ◌++◌, map, length, replicate, ◌==◌, nat_lt, slice_index, slice_set}
use Rattle.clocks.specs.declared.clocks.Clocks.{Clocks}

-- The place of a constellation: those from 7 on share one.
abbrev pub place : ℕ → ℕ
place c = min c 7

-- the largest usize, the slot of a constellation not yet given
abbrev pub not_given : ℕ
not_given = 2 ^ 64 - 1

-- ---- one constellation after the other

-- none given yet
abbrev pub none : Clocks
none = record { slot = replicate 8 not_given; count = 0 }

-- the slot of a constellation
abbrev pub slot : Clocks → ℕ → ℕ
slot k c = slice_index k.slot (place c)

-- One constellation more: a place without a slot gets the next, which is 3 plus the count. A state with a count above 7 is handed back unchanged.
unfoldable pub given : Clocks → ℕ → Clocks
given k c =
    cond (nat_lt 7 k.count) k
    (cond (slot k c == not_given)
    (record { slot = slice_set k.slot (place c) (3 + k.count); count = k.count + 1 })
    k)

-- Three coordinates and the clocks. The sum wraps at 2 ^ 64, as the Rust's does: no state made by `given` comes near.
abbrev pub unknowns : Clocks → ℕ
unknowns k = (3 + k.count) % 2 ^ 64

-- ---- all at once

-- whether the place p is among the places ps
unfoldable pub has : List ℕ → ℕ → Bool
has [] p = false
has (q ∷ ps) p = q == p || has ps p

-- the places ps, and after them those of the constellations that are not among them yet, in order of first appearance
unfoldable pub appearing : List ℕ → List ℕ → List ℕ
appearing ps [] = ps
appearing ps (c ∷ cs) = appearing (cond (has ps (place c)) ps (ps ++ (place c ∷ []))) cs

-- the slot of the place p, where the first of the places ps has the slot s, the next s + 1, and so on
unfoldable pub slot_from : ℕ → List ℕ → ℕ → ℕ
slot_from s [] p = not_given
slot_from s (q ∷ ps) p = cond (q == p) s (slot_from (s + 1) ps p)

-- the clocks of the places ps: slots count from 3, in their order
unfoldable pub clocks_in : List ℕ → Clocks
clocks_in ps = record { slot = map (slot_from 3 ps) (0 ∷ 1 ∷ 2 ∷ 3 ∷ 4 ∷ 5 ∷ 6 ∷ 7 ∷ []); count = length ps }

-- the clocks of a list of constellations: slots count from 3 in order of first appearance
unfoldable pub clocks_of : List ℕ → Clocks
clocks_of cs = clocks_in (appearing [] cs)
