-- `order::class_of` meets its contract. Assumes nothing.
use native.Mathlib.Omega.{arith}
use Rattle.numeric.proofs.OrderCases.{class-zero, class-subnormal, class-infinity, class-signaling, class-quiet, class-normal}
use Rattle.numeric.proofs.order.class_of.Goals as goal

pub returns-then-d-eq0 : goal.returns-then-d-eq0
returns-then-d-eq0 c = let s = c in
    class-zero s.args.b s.exponent_of-e.ensures s.digits_of-d.ensures (omega arith) c.if-d-eq0.true

pub returns-else-d-eq0 : goal.returns-else-d-eq0
returns-else-d-eq0 c = let s = c in
    class-subnormal s.args.b s.exponent_of-e.ensures s.digits_of-d.ensures (omega arith) c.if-d-eq0.false

pub returns-then-d-eq0-2 : goal.returns-then-d-eq0-2
returns-then-d-eq0-2 c = let s = c in
    class-infinity s.args.b s.exponent_of-e.ensures s.digits_of-d.ensures (omega arith) c.if-d-eq0-2.true

pub returns-then-d-lt2251799813685248 : goal.returns-then-d-lt2251799813685248
returns-then-d-lt2251799813685248 c = let s = c in
    class-signaling s.args.b s.exponent_of-e.ensures s.digits_of-d.ensures (omega arith) c.if-d-eq0-2.false c.if-d-lt2251799813685248.true

pub returns-else-d-lt2251799813685248 : goal.returns-else-d-lt2251799813685248
returns-else-d-lt2251799813685248 c = let s = c in
    class-quiet s.args.b s.exponent_of-e.ensures s.digits_of-d.ensures (omega arith) c.if-d-eq0-2.false c.if-d-lt2251799813685248.false

pub returns-in_default : goal.returns-in_default
returns-in_default c = let s = c in
    class-normal s.args.b s.exponent_of-e.ensures s.digits_of-d.ensures (λ e. omega arith) (λ e. omega arith)
