-- `cholesky::factor::forward` meets its contract: after i turns the first i places are solved. Assumes nothing.
use Rattle.cholesky.specs.Factor.{forward_to, at, cell}
use Rattle.exact.specs.Products.{less_products}
use mathlib.Core.Path.{◌≡◌}
use Prim.Native.Nat.{◌≤◌, ◌<◌, ◌-◌}
use Rattle.cholesky.proofs.factor.forward.Given as goal

abbrev pub invariant-loop-k : goal.invariant-loop-k
invariant-loop-k l = (l.i < l.n) × (l.k ≤ l.i) × (l.s ≡ less_products (at l.x l.i) (cell l.l l.i) (at l.x) l.k)

abbrev pub invariant-loop-i : goal.invariant-loop-i
invariant-loop-i l = (l.i ≤ l.n) × (l.x ≡ forward_to l.i l.l l.initial.x)
