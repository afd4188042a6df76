-- `tdcp_columns::lent::rated_into` meets its contract. Assumes nothing.
use mathlib.Core.Path.{◌∙◌}
use Rattle.tdcp_columns.proofs.AnswerLaws.{number-plain}
use Rattle.tdcp_columns.proofs.lent.rated_into.Goals as goal

pub returns-in-Ok : goal.returns-in-Ok
returns-in-Ok c =
    let h = c.answer_into-number.ensures in
    record { number_is = h.number_is ∙ number-plain _; delta-is = h.delta-is; quality-is = rw (c.in-Ok.is, c.pattern-chi.ensures, c.pattern-pdop.ensures); counts-are = h.counts-are }

pub returns-in_default : goal.returns-in_default
returns-in_default c =
    let h = c.answer_into-number.ensures in
    record { number_is = h.number_is ∙ number-plain _; delta-is = h.delta-is; quality-is = rw c.in_default.is; counts-are = h.counts-are }
