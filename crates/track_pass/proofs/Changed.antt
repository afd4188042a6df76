-- A column that measurements change in turn: one more of them, and what it depends on. Assumes nothing.
use mathlib.Core.Path.{◌≡◌, refl}
use mathlib.Core.Bool.{cond}
use Prim.Native.Nat.{ℕ, zero, suc, ◌+◌, ◌≤◌, ◌<◌}
use native.Mathlib.Numerals.{add-one}
use native.Mathlib.Omega.{arith}
use mathlib.Core.List.{List}
use lib.Dec.{eqb}
use lib.ListN.{length}
use lib.Ieee.{Float}
use Rattle.exact.specs.Float.{◌⊕◌, ◌⊖◌}
use Rattle.track_pass.specs.Equations.{changed, raised_at, lower}

pub changed-none : (step : ℕ → ℕ → Float → Float) (c : ℕ → Float) (k : ℕ) → changed step c 0 k ≡ c k
unfolding changed
changed-none step c k = refl

pub changed-next : (step : ℕ → ℕ → Float → Float) (c : ℕ → Float) (j k : ℕ) (x : Float) → x ≡ changed step c j k → step j k x ≡ changed step c (j + 1) k
unfolding changed
changed-next step c j k x e = rw (add-one, e)

pub changed-same : (step step' : ℕ → ℕ → Float → Float) (c c' : ℕ → Float) (n k : ℕ) → ((j : ℕ) (x : Float) → j < n → step j k x ≡ step' j k x) → c k ≡ c' k → changed step c n k ≡ changed step' c' n k
unfolding changed
changed-same step step' c c' zero k e h = h
changed-same step step' c c' (suc n) k e h = rw (e n (changed step c n k) (omega arith), changed-same step step' c c' n k (λ j x l. e j x (omega arith)) h)

-- measurement j, whose row is i and whose amount is a, on what its column held
module _ (row : ℕ → ℕ) (amount c : ℕ → Float) (j k i : ℕ) (a x : Float) (ei : i ≡ row j) (ea : a ≡ amount j) where
  pub raise-next : x ≡ changed (raised_at row amount) c j k → cond (eqb i k) (x ⊕ a) x ≡ changed (raised_at row amount) c (j + 1) k
  raise-next e = rw (ei, ea) (changed-next (raised_at row amount) c j k x e)

  pub lower-next : x ≡ changed (lower row amount) c j k → cond (eqb i k) (x ⊖ a) x ≡ changed (lower row amount) c (j + 1) k
  lower-next e = rw (ei, ea) (changed-next (lower row amount) c j k x e)

  -- at the row and at the next
  pub both-next : x ≡ changed (λ j k x. raised_at (λ j. row j + 1) amount j k (raised_at row amount j k x)) c j k
      → cond (eqb (i + 1) k) (cond (eqb i k) (x ⊕ a) x ⊕ a) (cond (eqb i k) (x ⊕ a) x) ≡ changed (λ j k x. raised_at (λ j. row j + 1) amount j k (raised_at row amount j k x)) c (j + 1) k
  both-next e = rw (ei, ea) (changed-next (λ j k x. raised_at (λ j. row j + 1) amount j k (raised_at row amount j k x)) c j k x e)

  pub across-next : x ≡ changed (λ j k x. raised_at (λ j. row j + 1) amount j k (lower row amount j k x)) c j k
      → cond (eqb (i + 1) k) (cond (eqb i k) (x ⊖ a) x ⊕ a) (cond (eqb i k) (x ⊖ a) x) ≡ changed (λ j k x. raised_at (λ j. row j + 1) amount j k (lower row amount j k x)) c (j + 1) k
  across-next e = rw (ei, ea) (changed-next (λ j k x. raised_at (λ j. row j + 1) amount j k (lower row amount j k x)) c j k x e)

-- a loop over measurements, j of them done: w is what it has made of w₀
pub record Counting (count j : ℕ) (w₀ w : List ℕ) (A : Type 0) : Type 0 where
  pub below : j ≤ count
  pub long : length w ≡ length w₀
  pub added : A
