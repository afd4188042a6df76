-- `tdcp::moved::moved_by` meets its contract. Assumes nothing.
use mathlib.Core.Path.{◌≡◌, refl, sym, ap₂, ◌∙◌}
use native.Mathlib.Omega.{arith}
use Prim.Native.Nat.{ℕ, ◌≤◌}
use mathlib.Core.List.{List}
use Rattle.std.proofs.lemmas.Result.{err_from_is_err_and}
use lib.ListN.{length, take, length-take}
use Rattle.records.specs.declared.pair.Pair.{Pair}
use lib.Seq.{length-take-le}
use Rattle.lists.proofs.Walk.{length-mapped}
use Rattle.tdcp.proofs.SightLaws.{all_seen, one-unseen}
use Rattle.tdcp.specs.Steps.{quality_by}
use Rattle.tdcp.specs.Rated.{answered_by}
use Rattle.tdcp.proofs.RatedLaws.{refused_as}
use Rattle.tdcp.proofs.DisplacementCall.{refused-sights, no_more, refused-counts, few-clocks, over, quality-over}
use Rattle.records.specs.City.{is_city}
use Rattle.tdcp.proofs.moved.moved_by.Goals as goal

-- the pairs counted
long : (n : ℕ) (ps : List Pair) → n ≤ 64 → length ps ≡ 64 → n ≡ length (take n ps)
long n ps few e = sym (length-take-le n ps (omega arith))

pub returns-then-not-seen : goal.returns-then-not-seen
returns-then-not-seen c = let t = c in let s = t.args in refused_as s.wanted (quality_by s.settings (take s.all.count s.all.pair)) (refused-sights (is_city s.profile) s.settings (take s.all.count s.all.pair) (one-unseen _ t.requires.1 c.if-not-seen.true))

pub slice_bounds-clocks_of-end : goal.slice_bounds-clocks_of-end
slice_bounds-clocks_of-end c = let k = c.keep_into-used.ensures in sym (length-take-le _ _ (omega (arith, k.room, k.constellation-long)))

pub slice_bounds-is_uncertified-end : goal.slice_bounds-is_uncertified-end
slice_bounds-is_uncertified-end c = let k = c.keep_into-used.ensures in sym (length-take-le _ _ (omega (arith, k.room, k.constellation-long)))

pub returns-in_err-check_pairs : goal.returns-in_err-check_pairs
returns-in_err-check_pairs c = let t = c in let s = t.args in let k = c.keep_into-used.ensures in let p = err_from_is_err_and c.from_residual.result c.from_residual.ensures.1 in rw (p.1, p.2) (refused_as s.wanted (quality_by s.settings (take s.all.count s.all.pair)) (refused-counts (is_city s.profile) s.settings (take s.all.count s.all.pair) s.all.count (long s.all.count s.all.pair c.requires.0 (search (length-mapped, c.well_formed.1.0))) (all_seen _ c.requires.1 c.if-not-seen.false) _ k c.clocks_of-clocks.ensures c.is_uncertified-uncertified.ensures (sym c.in_err-check_pairs.was ∙ c.check_pairs.ensures)))

pub slice_bounds-moved_over-end : goal.slice_bounds-moved_over-end
slice_bounds-moved_over-end c = let k = c.keep_into-used.ensures in sym (length-take-le _ _ (omega (arith, k.room, k.observed-long)))

pub overflow_sub-pairs : goal.overflow_sub-pairs
overflow_sub-pairs c = let t = c in
    let s = t.args in
    let k = c.keep_into-used.ensures in
    no_more (is_city s.profile) s.settings (take s.all.count s.all.pair) s.all.count (long s.all.count s.all.pair c.requires.0 (search (length-mapped, c.well_formed.1.0))) (all_seen _ c.requires.1 c.if-not-seen.false) _ k c.clocks_of-clocks.ensures c.is_uncertified-uncertified.ensures

pub moved_over-requires : goal.moved_over-requires
moved_over-requires c = let t = c in
    let s = t.args in
    let k = c.keep_into-used.ensures in
    (simp length-take (omega (arith, k.room)), few-clocks (is_city s.profile) s.settings (take s.all.count s.all.pair) s.all.count (long s.all.count s.all.pair c.requires.0 (search (length-mapped, c.well_formed.1.0))) (all_seen _ c.requires.1 c.if-not-seen.false) _ k c.clocks_of-clocks.ensures c.is_uncertified-uncertified.ensures (sym c.in_ok-check_pairs.was ∙ c.check_pairs.ensures))

pub returns : goal.returns
returns c = let t = c in
    let s = t.args in
    let k = c.keep_into-used.ensures in
    c.moved_over.ensures ∙ ap₂ (answered_by s.wanted) (quality-over (is_city s.profile) s.settings (take s.all.count s.all.pair) s.all.count (long s.all.count s.all.pair c.requires.0 (search (length-mapped, c.well_formed.1.0))) (all_seen _ c.requires.1 c.if-not-seen.false) _ k c.clocks_of-clocks.ensures c.is_uncertified-uncertified.ensures (sym c.in_ok-check_pairs.was ∙ c.check_pairs.ensures)) (over (is_city s.profile) s.settings (take s.all.count s.all.pair) s.all.count (long s.all.count s.all.pair c.requires.0 (search (length-mapped, c.well_formed.1.0))) (all_seen _ c.requires.1 c.if-not-seen.false) _ k c.clocks_of-clocks.ensures c.is_uncertified-uncertified.ensures (sym c.in_ok-check_pairs.was ∙ c.check_pairs.ensures) refl)
