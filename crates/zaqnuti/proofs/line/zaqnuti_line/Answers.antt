-- `zaqnuti::line::zaqnuti_line` meets its contract. Assumes nothing.
use Rattle.line_form.proofs.AnswerLaws.{line-answers}
use Rattle.zaqnuti.proofs.line.zaqnuti_line.Goals as goal

pub returns : goal.returns
returns c = line-answers _ _ _ _ _ _ _ c.answer.ensures c.put.ensures.0 c.put.ensures.1
