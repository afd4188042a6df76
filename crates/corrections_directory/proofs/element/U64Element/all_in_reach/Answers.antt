-- `corrections_directory::element::U64Element::all_in_reach` meets its contract. Assumes nothing.
use mathlib.Core.Path.{refl, sym, ap, ◌∙◌}
use Prim.Native.Nat.{◌^◌}
use native.Mathlib.Omega.{arith}
use lib.Bits.{bit_or}
use lib.Dec.{ltb}
use lib.ListN.{length}
use Prim.Native.Nat.{◌<◌}
use Rattle.std.proofs.lemmas.List.{get_or_default}
use Rattle.numeric.specs.Order.{is_nan_pattern}
use Rattle.numeric.specs.Real.{in_range}
use Rattle.corrections_directory.specs.Directory.{floats}
use Rattle.corrections_directory.proofs.ColumnLaws.{readings-length}
use Rattle.corrections_directory.proofs.PatternLaws.{floats_at, floats-length, numbers-in, or-below}
use Rattle.corrections_directory.proofs.SoundLaws.{reach-on, reach-end}
use Rattle.corrections_directory.proofs.element.U64Element.all_in_reach.Goals as goal

pub loop-i-init : goal.loop-i-init
loop-i-init c = (omega arith, refl)

pub offset_bounds-times-i : goal.offset_bounds-times-i
offset_bounds-times-i c = let s = c in omega (arith, s.requires, readings-length (floats s.args.times.now) (floats s.args.metres.now), floats-length s.args.times.now, floats-length s.args.metres.now)

pub bounds-times-i : goal.bounds-times-i
bounds-times-i c = let s = c in omega (arith, s.requires, readings-length (floats s.args.times.now) (floats s.args.metres.now), floats-length s.args.times.now, floats-length s.args.metres.now)

pub offset_bounds-metres-i : goal.offset_bounds-metres-i
offset_bounds-metres-i c = let s = c in omega (arith, s.requires, readings-length (floats s.args.times.now) (floats s.args.metres.now), floats-length s.args.times.now, floats-length s.args.metres.now)

pub bounds-metres-i : goal.bounds-metres-i
bounds-metres-i c = let s = c in omega (arith, s.requires, readings-length (floats s.args.times.now) (floats s.args.metres.now), floats-length s.args.times.now, floats-length s.args.metres.now)

pub loop-i-preserved : goal.loop-i-preserved
loop-i-preserved c = let s = c in
    let h = c.loop-i in
    let z = readings-length (floats s.args.times.now) (floats s.args.metres.now) in
    let zt = floats-length s.args.times.now in
    let zx = floats-length s.args.metres.now in
    let x = c.range_sum.result in
    let y = c.range_sum-in-loop-i.result in (
      omega arith,
      rw (or-below (bit_or h.sums x) y, or-below h.sums x)
          (reach-on (floats s.args.times.now) (floats s.args.metres.now) s.args.count s.requires h.i (ltb h.sums (2 ^ 63)) h.invariant.1 c.loop-i-test.true (ltb x (2 ^ 63)) (ltb y (2 ^ 63)) (c.range_sum.ensures ∙ ap in_range (sym (floats_at s.args.times.now h.i (omega (arith, s.requires, z))))) (c.range_sum-in-loop-i.ensures ∙ ap in_range (sym (floats_at s.args.metres.now h.i (omega (arith, s.requires, z)))))),
    )

pub returns : goal.returns
returns c = let s = c in
    let h = c.loop-i in
    let e = reach-end (floats s.args.times.now) (floats s.args.metres.now) s.args.count s.requires h.i (ltb h.sums (2 ^ 63)) h.invariant.1 c.loop-i-test.false in
    record { reach = e; numbers = λ t j d l. let k : j < length s.args.times.now = omega (arith, s.requires, readings-length (floats s.args.times.now) (floats s.args.metres.now), floats-length s.args.times.now) in ap is_nan_pattern (get_or_default s.args.times.now j d 0 k) ∙ numbers-in s.args.times.now s.args.metres.now s.args.count s.requires (sym e ∙ t) j l }
