-- `records::arrays::CarrierArrays::put` meets its contract. Assumes nothing.
use mathlib.Core.Path.{◌≡◌, sym}
use mir.Syntax.{w32}
use mir.Val.{to_z, of_z}
use mir.Facts.{to_z-of_z}
use Rattle.signal.specs.Signal.{signal}
use Rattle.lists.proofs.Walk.{length-mapped}
use Rattle.records.proofs.PutLaws.{put_is}
use borrow.Author.Rules.{rules}
use Rattle.records.proofs.arrays.CarrierArrays.put.Goals as goal

pub returns : goal.returns
returns c = let s = c in
    let x = s.args.c in
    let e : signal x.constellation x.svid x.band ≡ c.signal_of.result = sym c.signal_of.ensures in
    let z : to_z w32 (of_z w32 x.state) ≡ x.state = to_z-of_z {w = w32} (search rules) in
    rw (← e, z) (put_is s.args.self.now.signals s.args.self.now.states s.args.self.now.floats s.args.i x (search length-mapped) (search length-mapped) (search length-mapped) s.requires (search rules) (search rules) (search rules))
