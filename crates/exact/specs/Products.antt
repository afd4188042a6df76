-- The running difference that a factor and a substitution are made of. Definitions only.
use Rattle.std.specs.Prelude.{ℕ, zero, suc, Float}
use Rattle.exact.specs.Float.{◌⊖◌, ◌⊗◌}

-- s less the first n products p 0 · q 0, p 1 · q 1, .., one after the other, each product and each difference rounded
unfoldable pub less_products : Float → (ℕ → Float) → (ℕ → Float) → ℕ → Float
less_products s p q zero = s
less_products s p q (suc n) = less_products s p q n ⊖ p n ⊗ q n
