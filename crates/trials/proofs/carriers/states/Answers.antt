use mathlib.Core.Path.{◌≡◌, refl, ◌∙◌}
use lib.IntN.{pos, negsuc}
use lib.Ieee.{of_int, of_bits, to_bits, neg, add, sub, mul, div, le, lt, eq, is_nan}
use Rattle.lists.specs.Walk.{every, first, collect}
use Rattle.root.specs.Root.{root_of}
use Rattle.numeric.specs.Real.{travel_sine, travel_cosine, abs, in_range}
use Rattle.numeric.specs.Vec3.{sub as vec-minus, norm}
use Rattle.numeric.specs.Sight.{travel_angle, turned, gap, along, sight_of, on_receiver}
use Rattle.exact.specs.Pattern.{sign, exponent, digits}
use Rattle.numeric.specs.Order.{is_nan_pattern, is_quiet, payload, payload_order, unordered, total_order, pattern_of}
use Rattle.median.specs.Sorted.{insert_by, sorted_by, median_of}
use Rattle.median.specs.Centre.{centre_of}
use Rattle.numeric.specs.Rules.{ruled}
use Rattle.estimate_rounds.specs.Rules.{row_rules}
use Rattle.records.specs.Record.{is_elevation, sound_carrier, unsigned, bit_set, usable, same}
use Rattle.clocks.specs.Clocks.{has, appearing, slot_from, clocks_in, clocks_of}
use Rattle.records.specs.Pair.{pair_of, first_pair, pair_at, pairs_of}
use Rattle.records.specs.Screen.{centre, within, kept_of}
use Rattle.tdcp.specs.Valid.{settings_pass, bad_interval, epoch_rules, interval_rules, few_rules}
use Rattle.tdcp.specs.Front.{sight_rules, count_rules, city_rules, pair_rules}
use Rattle.estimate_rounds.specs.Rounds.{fit_from, finite_at}
use Rattle.tdcp.specs.Displacement.{fit_over, fit_by, end_rules, moved_by, displacement_of}
use Rattle.trials.specs.Steps.{six_in, used_of}
use Rattle.trials.proofs.carriers.states.Goals as goal

-- what a displacement uses of six carriers in each state
record Used : Type 0 where
  in-1 : used_of (displacement_of (six_in (pos 1))) ≡ 6
  in-0 : used_of (displacement_of (six_in (pos 0))) ≡ 0
  in-3 : used_of (displacement_of (six_in (pos 3))) ≡ 0
  in-5 : used_of (displacement_of (six_in (pos 5))) ≡ 0
  in-minus-1 : used_of (displacement_of (six_in (negsuc 0))) ≡ 0

used : Used
unfolding displacement_of moved_by end_rules finite_at fit_by fit_over fit_from ruled every first collect abs in_range is_elevation sound_carrier unsigned bit_set usable same has appearing slot_from clocks_in clocks_of pair_of first_pair pair_at pairs_of centre within kept_of settings_pass bad_interval epoch_rules interval_rules few_rules row_rules pair_rules sight_rules count_rules city_rules on_receiver sight_of gap along turned travel_angle travel_sine travel_cosine norm vec-minus root_of sign exponent digits is_nan_pattern is_quiet payload payload_order unordered total_order pattern_of insert_by sorted_by median_of centre_of of_int of_bits to_bits neg add sub mul div le lt eq is_nan
used = record { in-1 = refl; in-0 = refl; in-3 = refl; in-5 = refl; in-minus-1 = refl }

pub returns : goal.returns
returns c = rw (c.used_in.ensures ∙ used.in-1, c.used_in-2.ensures ∙ used.in-0, c.used_in-3.ensures ∙ used.in-3, c.used_in-4.ensures ∙ used.in-5, c.used_in-5.ensures ∙ used.in-minus-1)
