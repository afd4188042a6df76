-- `line_form::print::put_hex` meets its contract. Assumes nothing.
use Rattle.line_form.proofs.PrintLaws.{put-spell}
use native.Mathlib.Omega.{arith}
use mathlib.Core.Path.{refl}
use Rattle.line_form.proofs.print.put_hex.Goals as goal

pub returns : goal.returns
returns c = record { put_bytes = put-spell c.args.out.now _ _ 16 16 16 c.args.p _ _ c.spell.ensures refl (omega arith) (omega arith); upper_bound = omega arith }
