-- `wire::number::signed` meets its contract. Assumes nothing.
use mathlib.Core.Path.{◌∙◌}
use mir.Facts.{to_z-of_z}
use mir.Syntax.{w32}
use mir.Val.{SFits}
use borrow.Author.Rules.{rules}
use Rattle.wire.proofs.NumberLaws.{signed-is}
use Rattle.wire.proofs.number.signed.Goals as goal

pub returns : goal.returns
returns c = let f : SFits w32 c.cast_signed.result = search rules in to_z-of_z f ∙ c.cast_signed.ensures ∙ signed-is c.args.n c.requires
