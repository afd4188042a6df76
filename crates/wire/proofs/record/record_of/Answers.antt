-- `wire::record::record_of` meets its contract. Assumes nothing.
use mathlib.Core.Path.{ap, ◌∙◌}
use mir.Syntax.{w32}
use mir.Val.{SFits}
use mir.Facts.{to_z-of_z}
use Rattle.wire.specs.Number.{signed}
use Rattle.wire.proofs.RecordLaws.{record_is}
use borrow.Author.Rules.{rules}
use Rattle.wire.proofs.record.record_of.Goals as goal

pub returns : goal.returns
returns c = let s = c in
    let f : SFits w32 c.signed-state.result = search rules in
    record_is s.args.s.now s.args.at
    c.number_at-constellation.ensures.0
    c.number_at-svid.ensures.0
    c.number_at-band.ensures.0
    c.pattern_in-adr.ensures
    (to_z-of_z f ∙ c.signed-state.ensures ∙ ap signed c.number_at.ensures.0)
    c.pattern_in-x.ensures
    c.pattern_in-y.ensures
    c.pattern_in-z.ensures
    c.pattern_in-elevation.ensures
    c.pattern_in-rate.ensures
