use Rattle.std.proofs.Common.{arith}
use mathlib.Core.Path.{sym}
use lib.Seq.{length-take-le}
use Rattle.line_form.proofs.AnswerLaws.{answered-room}
use Rattle.displacement.proofs.main.Goals as goal

pub slice_bounds-line-end : goal.slice_bounds-line-end
slice_bounds-line-end c = omega (arith, answered-room _ _ _ _ _ c.in-Ok.is c.answer-answer.ensures)

pub slice_bounds-write_all-end : goal.slice_bounds-write_all-end
slice_bounds-write_all-end c = sym (length-take-le _ _ (omega (arith, answered-room _ _ _ _ _ c.in-Ok.is c.answer-answer.ensures)))
