-- The rounds of a fit (docs/SCOPE.md, "Their rounds"): the first begins where the reference begins, each later one with just what the one before left,
-- and the last meets the stop or uses up the count. Definitions only.
use Rattle.std.specs.Prelude.{ℕ, zero, suc, Bool, cond, ◌&&◌, List, [], ◌∷◌, ltb, Float}
use Rattle.std.specs.Float.Ieee.{lt}
use Rattle.std.specs.Float.Ieee.Scale.{finite}
use Rattle.exact.specs.Float.{◌⊕◌}
use Rattle.cholesky.specs.Factor.{at}
use Rattle.numeric.specs.Real.{hypot}
use Rattle.numeric.specs.Vec3.{vector_at}
use Rattle.numeric.specs.declared.vec3.Vec3.{Vec3}
use Rattle.numeric.specs.declared.refusal.Refusal.{Refusal}
use Rattle.normal_equations.specs.Nine.{nine}
use Rattle.robust.specs.Round.{Round, RoundOutcome, Refused, Solved}
use Rattle.normal_equations.specs.declared.row.Row.{Row}
use Rattle.numeric.specs.Rules.{Rule, ruled}

-- where the rounds end: in a refused round, or at the state x
pub data End : Type 0 where
  Stopped : Refusal → End
  Reached : List Float → End

-- the rounds that were solved, one after the other, and where they end
pub record Fit : Type 0 where
  pub rounds : List Round
  pub end : End

-- the state x with the step added to the n unknowns
unfoldable pub moved : ℕ → List Float → List Float → List Float
moved n x dx = nine (λ i. cond (ltb i n) (at x i ⊕ at dx i) (at x i))

-- the stop: the first three elements of the step are together shorter than the limit
unfoldable pub short_step : Float → List Float → Bool
short_step limit dx = lt (hypot (hypot (at dx 0) (at dx 1)) (at dx 2)) limit

-- no further round: the fit ends at x
abbrev pub reached_at : List Float → Fit
reached_at x = record { rounds = []; end = Reached x }

-- the round r, and what follows it
abbrev pub begun : Round → Fit → Fit
begun r f = record { rounds = r ∷ f.rounds; end = f.end }

-- after a round at the state x: the end, or what follows from where its step leads
abbrev pub after_round : ℕ → Float → List Float → (List Float → Fit) → RoundOutcome → Fit
after_round n limit x next (Refused r) = record { rounds = []; end = Stopped r }
after_round n limit x next (Solved r) =
    let y = moved n x r.step in
    begun r (cond (short_step limit r.step) (reached_at y) (next y))

-- at most `count` rounds of n unknowns from the state x on; round_at x is the round at x
unfoldable pub fit_from : (List Float → RoundOutcome) → ℕ → Float → ℕ → List Float → Fit
fit_from round_at n limit zero x = reached_at x
fit_from round_at n limit (suc count) x = after_round n limit x (fit_from round_at n limit count) (round_at x)

-- the rows of the last round, or those given where there is none
unfoldable pub last_rows : List Row → List Round → List Row
last_rows rows [] = rows
last_rows rows (r ∷ rs) = last_rows r.rows rs

-- the position or displacement of a state
abbrev pub vector : List Float → Vec3
vector x = vector_at x 0

-- it is finite
unfoldable pub finite_at : List Float → Bool
finite_at x = finite (at x 0) && finite (at x 1) && finite (at x 2)

-- The answer of a fit: the refusal of a round, or of the first rule that applies to the state reached, or the answer there.
abbrev pub concluded : {A : Type 0} → (Refusal → A) → (List Float → List Rule) → (List Float → A) → End → A
concluded refused rules answer (Stopped r) = refused r
concluded refused rules answer (Reached x) = ruled refused (rules x) (answer x)

-- the state x afterwards: where the fit ends, or unchanged
abbrev pub state_after : End → List Float → List Float
state_after (Stopped r) x = x
state_after (Reached z) x = z
