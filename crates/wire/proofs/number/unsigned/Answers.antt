-- `wire::number::unsigned` meets its contract. Assumes nothing.
use mathlib.Core.Path.{ap, ◌∙◌}
use mir.Facts.{to_z-of_z}
use mir.Syntax.{w32}
use mir.Val.{SFits, of_z}
use borrow.Author.Rules.{rules}
use Rattle.wire.proofs.NumberLaws.{bits-are}
use Rattle.wire.proofs.number.unsigned.Goals as goal

pub returns : goal.returns
returns c = let f : SFits w32 c.args.z = search rules in c.cast_unsigned.ensures ∙ ap (of_z w32) (to_z-of_z f) ∙ bits-are c.args.z
