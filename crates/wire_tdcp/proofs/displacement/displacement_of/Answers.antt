-- `wire_tdcp::displacement::displacement_of` meets its contract: the epochs are those of the records. Assumes nothing.
use mathlib.Core.Path.{sym, ap₂, ◌∙◌}
use borrow.Author.Rules.{rules}
use Rattle.records.specs.declared.record.Epoch.{Epoch}
use Rattle.tdcp.specs.Displacement.{general, displacement_of}
use Rattle.tdcp.proofs.DisplacementSound.{promised}
use Rattle.tdcp.proofs.RatedLaws.{plain-is, plain-map}
use Rattle.wire_tdcp.proofs.DisplacementLaws.{laid-fits, laid-is}
use Rattle.wire_tdcp.proofs.displacement.displacement_of.Goals as goal

pub first-requires : goal.first-requires
first-requires c = record { few = c.requires.0; fit = laid-fits _ c.put_records.ensures c.requires.0 }

pub first-requires-2 : goal.first-requires-2
first-requires-2 c = record { few = c.requires.1; fit = laid-fits _ c.put_records-2.ensures c.requires.1 }

pub returns : goal.returns
returns c = let y = c in
    let x = y in
    let s = x in
    let a = s.args in
    promised _ _
    (plain-map _ _ (λ d v q. search rules) c.map.ensures.cases ∙ plain-is _ (rw (c.first.ensures.signals, c.first.ensures.states, c.first.ensures.floats, c.first-2.ensures.signals, c.first-2.ensures.states, c.first-2.ensures.floats) at c.displaced.ensures).answer
    ∙ ap₂ (λ (p q : Epoch). displacement_of (general p q a.dt a.receiver a.settings)) (laid-is _ c.put_records.ensures s.requires.0) (laid-is _ c.put_records-2.ensures s.requires.1))
