-- `line_form::print::print_to` meets its contract. Assumes nothing.
use mathlib.Core.Path.{subst}
use borrow.Author.Rules.{rules}
use Rattle.line_form.specs.Steps.{Printable}
use Rattle.line_form.proofs.PrintLaws.{put-put, put_refused}
use Rattle.line_form.proofs.print.print_to.Goals as goal

pub put_vector-requires : goal.put_vector-requires
put_vector-requires c = record { at_in_bounds = search rules; numbers = subst Printable c.in-Ok.is c.requires.printable }

pub returns-in-Err : goal.returns-in-Err
returns-in-Err c = rw c.in-Err.is (put_refused _ _ c.number-number.ensures (put-put c.put_letter-a.ensures.put_bytes c.put_decimal.ensures.put_bytes))

pub returns-in-Ok : goal.returns-in-Ok
returns-in-Ok c = rw c.in-Ok.is
    (put-put c.put_letter-a-in-Ok.ensures.put_bytes
    (put-put c.put_decimal-b.ensures.put_bytes
    (put-put c.put_decimal-c.ensures.put_bytes c.put_vector.ensures)))
