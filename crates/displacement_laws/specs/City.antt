-- When a city displacement is 20, said of the columns that hold the certified carriers alone. Definitions only.
use Rattle.std.specs.Prelude.{Result, Ok, Err, ⊤}
use Rattle.numeric.specs.declared.refusal.Refusal.{Refusal}
use Rattle.std.specs.Prelude.{ℕ, ◌≡◌, Bool, true, false, not, ◌&&◌, List, ◌++◌}
use Rattle.clocks.specs.Clocks.{has}
use Rattle.records.specs.Carriers.{CarrierColumns, carriers_of, epoch_fits}
use Rattle.records.specs.City.{certified_of}
use Rattle.records.specs.Screen.{constellations}
use Rattle.numeric.specs.Rules.{Rule, ruled}
use Rattle.tdcp.specs.Valid.{epoch_rules, interval_rules}
use Rattle.tdcp.specs.Front.{sight_rules, count_rules}
use Rattle.tdcp.specs.Displacement.{Input, pairs, kept_pairs}

-- columns that hold just the certified carriers of others, in their order
pub record Certified (band : ℕ) (c : CarrierColumns) (n : ℕ) (c' : CarrierColumns) (n' : ℕ) : Type 0 where
  pub fits : epoch_fits c' n' ≡ true
  pub carriers : carriers_of c' n' ≡ certified_of band (carriers_of c n)

-- 2 to 5, 15 and 7 to 9 of a call
abbrev pub rules_before_twenty : Input → List Rule
rules_before_twenty j =
    epoch_rules j.previous j.current j.receiver j.settings
    ++ (interval_rules j.since ++ (sight_rules (pairs j) ++ count_rules j.settings (pairs j)))

-- its kept pairs lack constellation 1 or 6
abbrev pub lacking : Input → Bool
lacking j = not (has (constellations (kept_pairs j)) 1 && has (constellations (kept_pairs j)) 6)

abbrev pub is_passed : Result ⊤ Refusal → Bool
is_passed (Err r) = false
is_passed (Ok tt) = true

abbrev pub is_twenty : Input → Bool
is_twenty j = is_passed (ruled Err (rules_before_twenty j) (Ok tt)) && lacking j
