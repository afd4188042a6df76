-- `root::root::slow` meets its contract. At the loop's head s is the whole part of the root of the number made of w's first 2 * i binary digits, and rem is what that number has over s * s.
-- Assumes nothing.
use Rattle.std.proofs.Common.{◌≡◌, ℕ, ◌+◌, ◌-◌, ◌*◌, ◌^◌, ◌<◌, ◌≤◌}
use Rattle.root.proofs.sqrt.slow.Given as goal

pub record Sofar (w s rem rest i : ℕ) : Type 0 where
  pub turns : i ≤ 53
  pub rest_lt : rest < 2 ^ 54
  pub rem-le : rem ≤ 2 * s
  pub s-lt : s < 2 ^ i
  pub sum : (s * s + rem) * 2 ^ 54 + rest ≡ w * 4 ^ i

abbrev pub invariant-loop-i : goal.invariant-loop-i
invariant-loop-i l = Sofar l.w l.s l.rem l.rest l.i
