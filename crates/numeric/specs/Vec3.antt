-- Vectors of three floats, as vec3.rs has them. Definitions only.
use Rattle.std.specs.Prelude.{ℕ, ◌+◌, Bool, ◌&&◌, List, [], ◌∷◌, get_or, Float}
use Rattle.std.specs.Float.Ieee.Scale.{finite}
use Rattle.numeric.specs.Real.{in_range}
use Rattle.numeric.specs.Order.{pattern_of}
use Rattle.std.specs.Float.{nan}
use Rattle.exact.specs.Float.{◌⊕◌, ◌⊖◌, ◌⊗◌}
use Rattle.root.specs.Root.{root_of}
use Rattle.numeric.specs.declared.vec3.Vec3.{Vec3}

-- a + b, component by component
unfoldable pub add : Vec3 → Vec3 → Vec3
add a b = record { x = a.x ⊕ b.x; y = a.y ⊕ b.y; z = a.z ⊕ b.z }

-- a − b, component by component
unfoldable pub sub : Vec3 → Vec3 → Vec3
sub a b = record { x = a.x ⊖ b.x; y = a.y ⊖ b.y; z = a.z ⊖ b.z }

-- the length: the root of the sum of the squares, in the order x, y, z
unfoldable pub norm : Vec3 → Float
norm v = root_of (v.x ⊗ v.x ⊕ v.y ⊗ v.y ⊕ v.z ⊗ v.z)

-- the vector whose coordinates are the floats at k, k + 1 and k + 2
abbrev pub vector_at : List Float → ℕ → Vec3
vector_at v k = record { x = get_or v k nan; y = get_or v (k + 1) nan; z = get_or v (k + 2) nan }

-- each coordinate is finite and at most 1e9 in magnitude
abbrev pub vector_in_range : Vec3 → Bool
vector_in_range v = in_range v.x && in_range v.y && in_range v.z

-- each coordinate is finite
abbrev pub vector_finite : Vec3 → Bool
vector_finite v = finite v.x && finite v.y && finite v.z

-- the patterns of the coordinates
abbrev pub vector_patterns : Vec3 → List ℕ
vector_patterns v = pattern_of v.x ∷ pattern_of v.y ∷ pattern_of v.z ∷ []
