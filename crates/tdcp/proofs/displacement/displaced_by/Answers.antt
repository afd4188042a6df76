-- `tdcp::displacement::displaced_by` meets its contract. Assumes nothing.
use mathlib.Core.Path.{sym, ◌∙◌}
use borrow.Author.Tests.{lt-ltb, le-ltb}
use Rattle.lists.proofs.Walk.{length-mapped}
use Rattle.records.proofs.EpochLaws.{laid-count, laid-fits, laid-counted}
use Rattle.tdcp.proofs.DisplacementCall.{too_many, answered-refused}
use Rattle.tdcp.proofs.CountedLaws.{answer-counted}
use Rattle.tdcp.proofs.RatedLaws.{answered-promised}
use Rattle.tdcp.proofs.displacement.displaced_by.Goals as goal

pub returns-then-m-gt64 : goal.returns-then-m-gt64
returns-then-m-gt64 c = answered-promised _ _ (answered-refused _ _ (too_many _ (rw (lt-ltb _ _ c.if-m-gt64.true))))

pub returns-then-n-gt64 : goal.returns-then-n-gt64
returns-then-n-gt64 c = answered-promised _ _ (answered-refused _ _ (too_many _ (rw (le-ltb _ _ c.if-m-gt64.false, lt-ltb _ _ c.if-n-gt64.true))))

pub first-requires : goal.first-requires
first-requires c = let x = c.put_epoch in record { few = c.if-m-gt64.false; fit = laid-fits c.args.previous x.new.self.signals x.new.self.states x.new.self.floats x.ensures c.if-m-gt64.false (search (length-mapped, c.well_formed.0)) }

pub first-requires-2 : goal.first-requires-2
first-requires-2 c = let y = c.put_epoch-2 in record { few = c.if-n-gt64.false; fit = laid-fits c.args.current y.new.self.signals y.new.self.states y.new.self.floats y.ensures c.if-n-gt64.false (search (length-mapped, c.well_formed.1.0)) }

pub returns : goal.returns
returns c = let s = c in
    let few = c.if-m-gt64.false in
    let few2 = c.if-n-gt64.false in
    let x = c.put_epoch in
    let y = c.put_epoch-2 in
    let a = s.args in
    answered-promised _ _
    ((let e = c.displaced.ensures.answer in rw (c.first.ensures.signals, c.first.ensures.states, c.first.ensures.floats, c.first-2.ensures.signals, c.first-2.ensures.states, c.first-2.ensures.floats) at e)
    ∙ answer-counted _ a.previous _ a.current a.since a.receiver a.settings a.profile (laid-count a.previous x.new.self.signals x.new.self.states x.new.self.floats x.ensures few (search (length-mapped, c.well_formed.0))) (laid-count a.current y.new.self.signals y.new.self.states y.new.self.floats y.ensures few2 (search (length-mapped, c.well_formed.1.0))) (laid-counted a.previous x.new.self.signals x.new.self.states x.new.self.floats x.ensures few (search (length-mapped, c.well_formed.0))) (laid-counted a.current y.new.self.signals y.new.self.states y.new.self.floats y.ensures few2 (search (length-mapped, c.well_formed.1.0))) a.wanted)
