-- `cholesky::factor::back` meets its contract: after m turns the places n - m to n - 1 are solved, and those from n on are 0. Assumes nothing.
use Rattle.cholesky.specs.Factor.{back_to, at, cell, UnusedPlaces}
use Rattle.exact.specs.Products.{less_products}
use mathlib.Core.Path.{◌≡◌}
use Prim.Native.Nat.{◌≤◌, ◌-◌, ◌+◌}
use Rattle.cholesky.proofs.factor.back.Given as goal

abbrev pub invariant-loop-k : goal.invariant-loop-k
invariant-loop-k l = (l.i + 1 + l.m ≡ l.n) × (l.k ≤ l.m) × (l.s ≡ less_products (at l.x l.i) (λ z. cell l.l (l.i + 1 + z) l.i) (λ z. at l.x (l.i + 1 + z)) l.k)

abbrev pub invariant-loop-m : goal.invariant-loop-m
invariant-loop-m l = (l.m ≤ l.n) × UnusedPlaces l.n l.x × (l.x ≡ back_to (9 - l.n + l.m) l.l l.initial.x)
