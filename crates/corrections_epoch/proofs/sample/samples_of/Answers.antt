-- `corrections_epoch::sample::samples_of` meets its contract: its loop collects what each raw correction gives. Assumes nothing.
use mathlib.Core.Path.{◌≡◌, sym, ap, ◌∙◌}
use native.Mathlib.Nat.{le_refl}
use native.Mathlib.Omega.{arith}
use lib.ListN.{length, get_or, take}
use lib.Seq.{take_all}
use Rattle.lists.specs.Walk.{collect}
use Rattle.lists.proofs.Walk.{length-mapped, collecting-start, collecting-none, collecting-one, collecting-end}
use Rattle.corrections_epoch.specs.Sample.{sample_at, samples_of}
use Rattle.corrections_epoch.proofs.RawLaws.{blank_raw}
use Rattle.corrections_epoch.proofs.SampleLaws.{sample-high, sample-none, sample-dropped, sample-kept}
use Rattle.corrections_epoch.proofs.sample.samples_of.Goals as goal
use Rattle.corrections_epoch.proofs.sample.samples_of.Goals.{then-r-lt8+in-Some+then-is_kept, then-r-lt8+in-Some+else-is_kept, then-r-lt8+in_default, else-r-lt8}

pub loop-r-init : goal.loop-r-init
loop-r-init c = rw c.no_samples-out.ensures (collecting-start _ _ _ _ _ (search length-mapped))

pub loop-r-preserved : goal.loop-r-preserved
loop-r-preserved c = let s = c in
    let h = c.loop-r in
    let r = get_or s.args.raws.now h.r-index blank_raw in
    let test = c.loop-r-test.true in
    elim c.if-r-lt8.branch [
      | then-r-lt8+in-Some+then-is_kept w ↦ rw w.out-is (collecting-one _ _ _ _ (le_refl _) s.requires h.invariant blank_raw test _ (sample-kept _ _ _ r w.if-r-lt8.true (c.clocks_of-clocks.ensures r.constellation w.if-r-lt8.true) _ w.in-Some.is w.is_kept.ensures w.if-is_kept.true))
      | then-r-lt8+in-Some+else-is_kept w ↦ rw w.out-is (collecting-none _ _ _ _ (le_refl _) s.requires h.invariant blank_raw test (sample-dropped _ _ _ r w.if-r-lt8.true (c.clocks_of-clocks.ensures r.constellation w.if-r-lt8.true) _ w.in-Some.is w.is_kept.ensures w.if-is_kept.false))
      | then-r-lt8+in_default w ↦ rw w.out-is (collecting-none _ _ _ _ (le_refl _) s.requires h.invariant blank_raw test (sample-none _ _ _ r w.if-r-lt8.true (c.clocks_of-clocks.ensures r.constellation w.if-r-lt8.true) w.in_default.not-Some))
      | else-r-lt8 w ↦ rw w.out-is (collecting-none _ _ _ _ (le_refl _) s.requires h.invariant blank_raw test (sample-high _ _ _ r w.if-r-lt8.false))
    ]

pub returns : goal.returns
unfolding samples_of
returns c = let s = c in
    let e = collecting-end _ _ _ _ (le_refl _) s.requires c.loop-r.invariant c.loop-r-test.false in
    let all : take c.loop-r.out.count c.loop-r.out.samples ≡ collect (sample_at s.args.time s.args.max s.args.raws.now) s.args.raws.now = e.all ∙ ap (collect (sample_at s.args.time s.args.max s.args.raws.now)) (take_all _ s.args.raws.now (le_refl _)) in
    record { room = omega (arith, e.few); count = e.count ∙ sym (ap length e.all) ∙ ap length all; all = all }
