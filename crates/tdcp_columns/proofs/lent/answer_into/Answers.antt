-- `tdcp_columns::lent::answer_into` meets its contract. Assumes nothing.
use mathlib.Core.Path.{refl}
use Rattle.tdcp_columns.proofs.lent.answer_into.Goals as goal

pub returns-in-Ok : goal.returns-in-Ok
returns-in-Ok c = rw c.in-Ok.is (record { number_is = refl; delta-is = c.patterns-v.ensures; counts-are = refl })

pub returns-in-Err : goal.returns-in-Err
returns-in-Err c = rw c.in-Err.is (record { number_is = c.number.ensures; delta-is = refl; counts-are = refl })
