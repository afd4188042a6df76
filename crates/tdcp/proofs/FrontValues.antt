-- Marked trials m6 and m9 of docs/SCOPE.md, and its trials at the edges that come before the rounds, computed. Assumes nothing.
use Rattle.std.specs.Prelude.{Result, Ok, Err, ⊤}
use Rattle.numeric.specs.declared.refusal.Refusal.{Refusal}
use mathlib.Core.Path.{◌≡◌, refl}
use mathlib.Core.List.{List, [], ◌∷◌, ◌++◌, map}
use mathlib.Core.Bool.{true, false}
use Prim.Native.Nat.{ℕ}
use lib.IntN.{ℤ, pos, negsuc}
use lib.Ieee.{Float, nan, inf, neg, of_int, of_bits, to_bits, add, sub, mul, div, le, lt, eq, is_nan}
use lib.ListN.{length, replicate}
use Rattle.exact.specs.Float.{+0, 1·0, whole, decimal}
use Rattle.lists.specs.Walk.{every, first, collect, fold}
use Rattle.numeric.specs.Real.{abs, in_range}
use Rattle.exact.specs.Pattern.{sign, exponent, digits}
use Rattle.numeric.specs.Order.{is_nan_pattern, is_quiet, payload, payload_order, unordered, total_order, pattern_of}
use Rattle.numeric.specs.Sight.{on_receiver}
use Rattle.numeric.specs.declared.vec3.Vec3.{Vec3}
use Rattle.numeric.specs.declared.refusal.Refusal.TheVariants.{TooMany, SettingOutOfRange, RecordOutOfRange, BadInterval, TooFewPairs, TooFewRows, TooManySlots, OnReceiver}
use Rattle.median.specs.Sorted.{insert_by, sorted_by, median_of}
use Rattle.median.specs.Centre.{centre_of}
use Rattle.numeric.specs.Rules.{ruled}
use Rattle.estimate_rounds.specs.Rules.{row_rules}
use Rattle.records.specs.Record.{is_elevation, sound_carrier, unsigned, bit_set, usable, same}
use Rattle.clocks.specs.Clocks.{none, given, slot, has, appearing, slot_from, clocks_in, clocks_of}
use Rattle.records.specs.Pair.{pair_of, first_pair, pair_at, pairs_of}
use Rattle.records.specs.Screen.{centre, within, kept_of}
use Rattle.tdcp.specs.Valid.{settings_pass, bad_interval, epoch_rules, interval_rules, few_rules}
use Rattle.tdcp.specs.Front.{sight_rules, count_rules}
use Rattle.tdcp.specs.Displacement.{general, pairs, kept_pairs}
use Rattle.records.specs.declared.record.Carrier.{Carrier}
use Rattle.records.specs.declared.record.Epoch.{Epoch}
use Rattle.records.specs.declared.pair.Pair.{Pair}
use Rattle.tdcp.specs.declared.displacement.Settings.{Settings}

-- ---- m6 and m9

abbrev seen : List ℕ
seen = 6 ∷ 1 ∷ 6 ∷ 9 ∷ 7 ∷ []

abbrev origin : Vec3
origin = record { x = +0; y = +0; z = +0 }

-- the constellation g, the satellite n, the adr a, the state z, 10 degrees up
abbrev carrier : ℕ → ℕ → Float → ℤ → Carrier
carrier g n a z =
    record { constellation = g; svid = n; band = 1575; adr = a; state = z; satellite = record { x = 1·0; y = 1·0; z = 1·0 }; elevation = whole 10; rate = +0 }

pub record Marked : Type 0 where
  -- 6, 1, 6, 9, 7 give slots 3, 4, 3, 5, 5
  pub m6 : map (slot (clocks_of seen)) seen ≡ 3 ∷ 4 ∷ 3 ∷ 5 ∷ 5 ∷ []
  pub m6-in-turn : map (slot (fold given none seen)) seen ≡ 3 ∷ 4 ∷ 3 ∷ 5 ∷ 5 ∷ []
  -- states 1 usable, 0, 3, 5 and -1 not
  pub m9 : map (λ (z : ℤ). usable (carrier 0 0 +0 z)) (pos 1 ∷ pos 0 ∷ pos 3 ∷ pos 5 ∷ negsuc 0 ∷ []) ≡ true ∷ false ∷ false ∷ false ∷ false ∷ []

pub marked : Marked
unfolding clocks_of clocks_in appearing has slot_from fold given usable bit_set unsigned of_bits
marked = record { m6 = refl; m6-in-turn = refl; m9 = refl }

-- ---- the edges

-- an adr that is used, of the constellation g and the satellite n
abbrev used : ℕ → ℕ → Carrier
used g n = carrier g n (whole 7) (pos 1)

abbrev epoch : List Carrier → Epoch
epoch cs = record { count = length cs; carriers = cs }

-- the screen 0.5, the mask m
abbrev set : Float → Settings
set m = record { screen = decimal 5 1; sigma_a = 1·0; sigma_b = +0; huber = 1·0; mask = m; rounds = 4; agreement = nan }

-- what the rules but for 15 say at dt seconds
abbrev said : Float → Float → List Carrier → List Carrier → Result ⊤ Refusal
said m dt previous current =
    let i = general (epoch previous) (epoch current) dt origin (set m) in
    ruled Err (epoch_rules i.previous i.current i.receiver i.settings ++ interval_rules i.since ++ count_rules i.settings (pairs i)) (Ok tt)

abbrev six : List Carrier
six = map (used 1) (1 ∷ 2 ∷ 3 ∷ 4 ∷ 5 ∷ 6 ∷ [])

-- two carriers of each of the constellations
abbrev twice : List ℕ → List Carrier
twice gs = map (λ (g : ℕ). used g 1) (gs ++ gs)

pub record Edges : Type 0 where
  pub nothing : said (whole 10) 1·0 [] [] ≡ Err TooFewPairs
  pub five-pairs : said (whole 10) 1·0 six (map (used 1) (1 ∷ 2 ∷ 3 ∷ 4 ∷ 5 ∷ [])) ≡ Err TooFewPairs
  pub six-pairs : said (whole 10) 1·0 six six ≡ (Ok tt)
  pub below-mask : said (whole 11) 1·0 six six ≡ Err TooFewPairs
  pub too_few-rows : said (whole 10) 1·0 (twice (1 ∷ 2 ∷ 3 ∷ [])) (twice (1 ∷ 2 ∷ 3 ∷ [])) ≡ Err TooFewRows
  pub six-slots : said (whole 10) 1·0 (twice (0 ∷ 1 ∷ 2 ∷ 3 ∷ 4 ∷ 5 ∷ [])) (twice (0 ∷ 1 ∷ 2 ∷ 3 ∷ 4 ∷ 5 ∷ [])) ≡ (Ok tt)
  pub seven-slots : said (whole 10) 1·0 (twice (0 ∷ 1 ∷ 2 ∷ 3 ∷ 4 ∷ 5 ∷ 6 ∷ [])) (twice (0 ∷ 1 ∷ 2 ∷ 3 ∷ 4 ∷ 5 ∷ 6 ∷ [])) ≡ Err TooManySlots
  -- a detector that equals the screen is dropped
  pub at-the-screen : length (kept_pairs (general (epoch (used 1 9 ∷ six)) (epoch (carrier 1 9 (decimal 75 1) (pos 1) ∷ six)) 1·0 origin (set (whole 10)))) ≡ 6
  pub adr_not_finite : said (whole 10) 1·0 six (carrier 1 9 (inf false) (pos 1) ∷ six) ≡ (Ok tt)
  pub adr_too_large : said (whole 10) 1·0 six (carrier 1 9 (whole 1000000001) (pos 0) ∷ six) ≡ Err RecordOutOfRange
  pub interval_of-0 : said (whole 10) +0 six six ≡ Err BadInterval
  pub interval_of-a-week : said (whole 10) (whole 604800) six six ≡ (Ok tt)
  pub records-65 : said (whole 10) 1·0 (replicate 65 (used 1 1)) six ≡ Err TooMany
  pub mask_not_finite : said nan 1·0 six six ≡ Err SettingOutOfRange

pub edges : Edges
unfolding ruled every first collect abs in_range is_elevation sound_carrier unsigned bit_set usable same has appearing slot_from clocks_in clocks_of pair_of first_pair pair_at pairs_of centre within kept_of settings_pass bad_interval epoch_rules interval_rules few_rules row_rules count_rules sign exponent digits is_nan_pattern is_quiet payload payload_order unordered total_order pattern_of insert_by sorted_by median_of centre_of of_int of_bits to_bits neg add sub mul div le lt eq is_nan
edges =
    record {
      nothing = refl;
      five-pairs = refl;
      six-pairs = refl;
      below-mask = refl;
      too_few-rows = refl;
      six-slots = refl;
      seven-slots = refl;
      at-the-screen = refl;
      adr_not_finite = refl;
      adr_too_large = refl;
      interval_of-0 = refl;
      interval_of-a-week = refl;
      records-65 = refl;
      mask_not_finite = refl;
    }

-- ---- 15, of pairs with these ranges, the current satellite's and the previous one's

abbrev ranged : Float → Float → Pair
ranged now then = record { unit = origin; constellation = 1; elevation = +0; observed = +0; detector = +0; range = now; previous_range = then }

abbrev sighted : List Pair → Result ⊤ Refusal
sighted ps = ruled Err (sight_rules (ranged 1·0 1·0 ∷ ps)) (Ok tt)

pub record Ranges : Type 0 where
  pub all_seen : sighted (ranged (whole 7) 1·0 ∷ []) ≡ (Ok tt)
  pub current-zero : sighted (ranged +0 1·0 ∷ []) ≡ Err OnReceiver
  pub previous-zero : sighted (ranged 1·0 (neg +0) ∷ []) ≡ Err OnReceiver
  pub current_not_finite : sighted (ranged nan 1·0 ∷ []) ≡ Err OnReceiver
  pub previous_not_finite : sighted (ranged 1·0 (inf false) ∷ []) ≡ Err OnReceiver

pub ranges : Ranges
unfolding ruled collect sight_rules on_receiver eq neg of_int of_bits
ranges = record { all_seen = refl; current-zero = refl; previous-zero = refl; current_not_finite = refl; previous_not_finite = refl }
