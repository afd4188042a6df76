-- `wire::record::put_record` meets its contract. Assumes nothing.
use mathlib.Core.Path.{◌≡◌, refl, ap, ◌∙◌}
use mathlib.Core.List.{◌++◌}
use Prim.Native.Nat.{ℕ}
use lib.Seq.{sets}
use mir.Syntax.{w32}
use mir.Val.{SFits}
use mir.Facts.{to_z-of_z}
use Rattle.records.specs.Record.{unsigned}
use Rattle.wire.specs.Number.{bytes_in, five_bytes}
use Rattle.wire.specs.Record.{front_bytes, bytes_of}
use Rattle.wire.proofs.RecordLaws.{put-more}
use borrow.Author.Rules.{rules}
use Rattle.wire.proofs.record.put_record.Goals as goal

pub returns : goal.returns
unfolding bytes_of bytes_in
returns c = let s = c in
    let r = s.args.r in
    let n = c.unsigned-state.result in
    let f : SFits w32 r.state = search rules in
    let u : n ≡ unsigned r.state = c.unsigned-state.ensures ∙ ap unsigned (to_z-of_z f) in
    let five = five_bytes r.x r.y r.z r.elevation r.rate in
    put-more s.args.out.now s.args.at (front_bytes r.constellation r.svid r.band r.adr n) five c.put_front.ensures refl c.put_five.ensures
    ∙ ap (λ (k : ℕ). sets s.args.out.now s.args.at (front_bytes r.constellation r.svid r.band r.adr k ++ five)) u
