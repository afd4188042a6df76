-- `track_smooth::checks::check` meets its contract. Assumes nothing.
use mathlib.Core.Path.{sym, ◌∙◌}
use mathlib.Core.Bool.{true, false}
use native.Mathlib.Omega.{arith}
use Rattle.track_pass.specs.Input.{measured_in, track_in}
use Rattle.track_smooth.proofs.Refusals.{columns, both, some-both, epochs-many, anchors-short, links-short, counts-are, records-first, records-are, no-epochs, no-anchors, sigmas-bad, track-is, too_many, bad-settings, bad-records, bad-track, all-checked}
use Rattle.track_smooth.proofs.checks.check.Goals as goal

pub returns-then-n-gt1024 : goal.returns-then-n-gt1024
returns-then-n-gt1024 c = too_many (track_in c.args.track) _ c.args.room c.args.space (epochs-many (track_in c.args.track) _ _ c.if-n-gt1024.true)

pub returns-then-not-is_long_enough : goal.returns-then-not-is_long_enough
returns-then-not-is_long_enough c = too_many (track_in c.args.track) _ c.args.room c.args.space (anchors-short (track_in c.args.track) _ _ c.if-n-gt1024.false (sym c.is_long_enough.ensures ∙ c.if-not-is_long_enough.true))

pub returns-then-not-is_long_enough-2 : goal.returns-then-not-is_long_enough-2
returns-then-not-is_long_enough-2 c = too_many (track_in c.args.track) _ c.args.room c.args.space
    (links-short (track_in c.args.track) _ _ c.if-n-gt1024.false (sym c.is_long_enough.ensures ∙ c.if-not-is_long_enough.false)
    (sym c.is_long_enough-2.ensures ∙ c.if-not-is_long_enough-2.true))

pub returns-then-not-n-room : goal.returns-then-not-n-room
returns-then-not-n-room c = too_many (track_in c.args.track) _ c.args.room c.args.space
    (counts-are (track_in c.args.track) _ _ c.if-n-gt1024.false false (sym c.is_long_enough.ensures ∙ c.if-not-is_long_enough.false)
    (sym c.is_long_enough-2.ensures ∙ c.if-not-is_long_enough-2.false) c.if-not-n-room.true)

pub returns-then-not-allows : goal.returns-then-not-allows
returns-then-not-allows c = bad-settings (track_in c.args.track) c.args.set c.args.room c.args.space (counts-are (track_in c.args.track) c.args.room c.args.space c.if-n-gt1024.false true (sym c.is_long_enough.ensures ∙ c.if-not-is_long_enough.false)
    (sym c.is_long_enough-2.ensures ∙ c.if-not-is_long_enough-2.false) c.if-not-n-room.false) (sym c.allows.ensures ∙ c.if-not-allows.true)

pub returns-then-not-are_in_range : goal.returns-then-not-are_in_range
returns-then-not-are_in_range c = bad-records (track_in c.args.track) c.args.set c.args.room c.args.space (counts-are (track_in c.args.track) c.args.room c.args.space c.if-n-gt1024.false true (sym c.is_long_enough.ensures ∙ c.if-not-is_long_enough.false)
    (sym c.is_long_enough-2.ensures ∙ c.if-not-is_long_enough-2.false) c.if-not-n-room.false) (sym c.allows.ensures ∙ c.if-not-allows.false)
    (records-first (track_in c.args.track) (both _ _ _ _ false c.are_in_range.ensures c.are_in_range-2.ensures c.if-not-are_in_range.true))

pub returns-then-not-are_in_range-2 : goal.returns-then-not-are_in_range-2
returns-then-not-are_in_range-2 c = bad-records (track_in c.args.track) c.args.set c.args.room c.args.space (counts-are (track_in c.args.track) c.args.room c.args.space c.if-n-gt1024.false true (sym c.is_long_enough.ensures ∙ c.if-not-is_long_enough.false)
    (sym c.is_long_enough-2.ensures ∙ c.if-not-is_long_enough-2.false) c.if-not-n-room.false) (sym c.allows.ensures ∙ c.if-not-allows.false)
    (records-are (track_in c.args.track) false (both _ _ _ _ true c.are_in_range.ensures c.are_in_range-2.ensures c.if-not-are_in_range.false) (both _ _ _ _ false c.are_in_range-3.ensures c.are_in_range-4.ensures c.if-not-are_in_range-2.true))

pub returns-then-n-eq0 : goal.returns-then-n-eq0
returns-then-n-eq0 c = bad-track (track_in c.args.track) c.args.set c.args.room c.args.space (counts-are (track_in c.args.track) c.args.room c.args.space c.if-n-gt1024.false true (sym c.is_long_enough.ensures ∙ c.if-not-is_long_enough.false)
    (sym c.is_long_enough-2.ensures ∙ c.if-not-is_long_enough-2.false) c.if-not-n-room.false) (sym c.allows.ensures ∙ c.if-not-allows.false) (records-are (track_in c.args.track) true (both _ _ _ _ true c.are_in_range.ensures c.are_in_range-2.ensures c.if-not-are_in_range.false)
    (both _ _ _ _ true c.are_in_range-3.ensures c.are_in_range-4.ensures c.if-not-are_in_range-2.false)) (no-epochs (track_in c.args.track) c.if-n-eq0.true)

pub returns-then-anchors-eq0 : goal.returns-then-anchors-eq0
returns-then-anchors-eq0 c = bad-track (track_in c.args.track) c.args.set c.args.room c.args.space (counts-are (track_in c.args.track) c.args.room c.args.space c.if-n-gt1024.false true (sym c.is_long_enough.ensures ∙ c.if-not-is_long_enough.false)
    (sym c.is_long_enough-2.ensures ∙ c.if-not-is_long_enough-2.false) c.if-not-n-room.false) (sym c.allows.ensures ∙ c.if-not-allows.false) (records-are (track_in c.args.track) true (both _ _ _ _ true c.are_in_range.ensures c.are_in_range-2.ensures c.if-not-are_in_range.false)
    (both _ _ _ _ true c.are_in_range-3.ensures c.are_in_range-4.ensures c.if-not-are_in_range-2.false))
    (no-anchors (track_in c.args.track) c.if-n-eq0.false c.if-anchors-eq0.true)

pub returns-then-not-are_above_zero : goal.returns-then-not-are_above_zero
returns-then-not-are_above_zero c = bad-track (track_in c.args.track) c.args.set c.args.room c.args.space (counts-are (track_in c.args.track) c.args.room c.args.space c.if-n-gt1024.false true (sym c.is_long_enough.ensures ∙ c.if-not-is_long_enough.false)
    (sym c.is_long_enough-2.ensures ∙ c.if-not-is_long_enough-2.false) c.if-not-n-room.false) (sym c.allows.ensures ∙ c.if-not-allows.false) (records-are (track_in c.args.track) true (both _ _ _ _ true c.are_in_range.ensures c.are_in_range-2.ensures c.if-not-are_in_range.false)
    (both _ _ _ _ true c.are_in_range-3.ensures c.are_in_range-4.ensures c.if-not-are_in_range-2.false))
    (sigmas-bad (track_in c.args.track) (some-both _ _ c.if-n-eq0.false c.if-anchors-eq0.false)
    (both _ _ _ _ false c.are_above_zero.ensures c.are_above_zero-2.ensures c.if-not-are_above_zero.true))

pub returns-then-not-are_below : goal.returns-then-not-are_below
returns-then-not-are_below c = bad-track (track_in c.args.track) c.args.set c.args.room c.args.space (counts-are (track_in c.args.track) c.args.room c.args.space c.if-n-gt1024.false true (sym c.is_long_enough.ensures ∙ c.if-not-is_long_enough.false)
    (sym c.is_long_enough-2.ensures ∙ c.if-not-is_long_enough-2.false) c.if-not-n-room.false) (sym c.allows.ensures ∙ c.if-not-allows.false) (records-are (track_in c.args.track) true (both _ _ _ _ true c.are_in_range.ensures c.are_in_range-2.ensures c.if-not-are_in_range.false)
    (both _ _ _ _ true c.are_in_range-3.ensures c.are_in_range-4.ensures c.if-not-are_in_range-2.false))
    (track-is (track_in c.args.track) false (some-both _ _ c.if-n-eq0.false c.if-anchors-eq0.false)
    (both _ _ _ _ true c.are_above_zero.ensures c.are_above_zero-2.ensures c.if-not-are_above_zero.false)
    (both _ _ _ _ false c.are_below.ensures c.are_below-2.ensures c.if-not-are_below.true))

pub returns : goal.returns
returns c = all-checked (track_in c.args.track) c.args.set c.args.room c.args.space (counts-are (track_in c.args.track) c.args.room c.args.space c.if-n-gt1024.false true (sym c.is_long_enough.ensures ∙ c.if-not-is_long_enough.false)
    (sym c.is_long_enough-2.ensures ∙ c.if-not-is_long_enough-2.false) c.if-not-n-room.false) (sym c.allows.ensures ∙ c.if-not-allows.false) (records-are (track_in c.args.track) true (both _ _ _ _ true c.are_in_range.ensures c.are_in_range-2.ensures c.if-not-are_in_range.false)
    (both _ _ _ _ true c.are_in_range-3.ensures c.are_in_range-4.ensures c.if-not-are_in_range-2.false))
    (track-is (track_in c.args.track) true (some-both _ _ c.if-n-eq0.false c.if-anchors-eq0.false)
    (both _ _ _ _ true c.are_above_zero.ensures c.are_above_zero-2.ensures c.if-not-are_above_zero.false)
    (both _ _ _ _ true c.are_below.ensures c.are_below-2.ensures c.if-not-are_below.false))
