-- What comes before the rounds: the rows, and the rules on them in the order of docs/REFUSALS.md. Definitions only.
use Rattle.std.specs.Prelude.{Bool, not, ◌&&◌, List, [], ◌∷◌, ◌++◌, length}
use Rattle.lists.specs.Walk.{collect}
use Rattle.numeric.specs.Sight.{on_receiver}
use Rattle.numeric.specs.declared.refusal.Refusal.TheVariants.{OnReceiver, NotCertified}
use Rattle.numeric.specs.Rules.{Rule, rule}
use Rattle.clocks.specs.Clocks.{has, clocks_of}
use Rattle.records.specs.Screen.{kept_of, constellations}
use Rattle.tdcp.specs.Valid.{few_rules}
use Rattle.records.specs.declared.pair.Pair.{Pair}
use Rattle.tdcp.specs.declared.displacement.Settings.{Settings}

-- 15, of one pair: the current satellite before the previous
abbrev pub range_rules : Pair → List Rule
range_rules p = rule OnReceiver (on_receiver p.range) ∷ rule OnReceiver (on_receiver p.previous_range) ∷ []

-- 15, of each pair in order
unfoldable pub sight_rules : List Pair → List Rule
sight_rules ps = collect range_rules ps

-- 7 to 9, of the pairs before screening
unfoldable pub count_rules : Settings → List Pair → List Rule
count_rules settings ps =
    let kept = kept_of settings.screen ps in
    few_rules (length ps) (length kept) (clocks_of (constellations kept)).count

-- 20, in the city profile alone: GPS (1) or Galileo (6) is absent among the pairs kept
unfoldable pub city_rules : Bool → List Pair → List Rule
city_rules city kept = rule NotCertified (city && not (has (constellations kept) 1 && has (constellations kept) 6)) ∷ []

-- 15, ahead of 7, and 20 after 9
unfoldable pub pair_rules : Bool → Settings → List Pair → List Rule
pair_rules city settings ps = sight_rules ps ++ (count_rules settings ps ++ city_rules city (kept_of settings.screen ps))
