-- `line_form::print::put_decimal` meets its contract. Assumes nothing.
use Rattle.line_form.proofs.PrintLaws.{put-spell}
use native.Mathlib.Omega.{arith}
use mathlib.Core.Path.{refl}
use Rattle.line_form.proofs.print.put_decimal.Goals as goal

pub returns : goal.returns
returns c = record { put_bytes = put-spell c.args.out.now _ _ _ _ 10 c.args.n _ _ c.spell.ensures c.places_of-k.ensures.value refl (omega (arith, c.places_of-k.ensures.upper_bound)); upper_bound = omega (arith, c.places_of-k.ensures.upper_bound) }
