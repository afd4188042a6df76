-- Rule 15 of a displacement: as the geometry of the two satellites has it, where it applies, and for whom nothing changed with request (v). Assumes nothing.
use Rattle.std.specs.Prelude.{Result, Ok, Err}
use Rattle.numeric.specs.declared.sight.Sight.{Sight}
use Rattle.tdcp.specs.declared.displacement.Delta.{Delta}
use mathlib.Core.Path.{◌≡◌, refl, sym, ap, ap₂, ◌∙◌}
use mathlib.Core.Bool.{Bool, true, false, not, cond, ◌&&◌}
use mathlib.Core.List.{List, [], ◌∷◌, ◌++◌}
use Prim.Native.Nat.{◌-◌}
use lib.ListN.{length}
use lib.Ieee.{Float}
use Rattle.lists.specs.Walk.{every, collect}
use Rattle.numeric.specs.Sight.{sight_of, on_receiver, geometry}
use Rattle.numeric.specs.declared.vec3.Vec3.{Vec3}
use Rattle.numeric.specs.declared.refusal.Refusal.{Refusal}
use Rattle.numeric.specs.declared.refusal.Refusal.TheVariants.{OnReceiver}
use Rattle.records.specs.Pair.{pair_of, seen}
use Rattle.records.specs.Screen.{kept_of}
use Rattle.records.specs.declared.record.Carrier.{Carrier}
use Rattle.records.specs.declared.pair.Pair.{Pair}
use Rattle.numeric.specs.Rules.{Rule, rule, ruled}
use Rattle.records.specs.City.{is_city}
use Rattle.estimate_rounds.specs.Rounds.{concluded}
use Rattle.numeric.proofs.RulesLaws.{ruled-append}
use Rattle.estimate_rounds.proofs.RulesLaws.{checked}
use Rattle.tdcp.specs.Valid.{epoch_rules, interval_rules}
use Rattle.tdcp.specs.Front.{range_rules, sight_rules, count_rules, city_rules, pair_rules}
use Rattle.tdcp.specs.Displacement.{Input, fit_by, pairs, delta_at, end_rules, moved_by, displacement_of}
use Rattle.tdcp.specs.declared.displacement.Settings.{Settings}

-- ---- the rules of a pair are what the geometry of its current satellite and then that of the previous pass on

abbrev pub passed_on : Result Sight Refusal → Rule
passed_on (Err r) = rule r true
passed_on (Ok s) = rule OnReceiver false

one_on : (satellite receiver : Vec3) → rule OnReceiver (on_receiver (sight_of satellite receiver).range) ≡ passed_on (geometry satellite receiver)
unfolding geometry
one_on satellite receiver = go (on_receiver (sight_of satellite receiver).range)
  where
    go : (b : Bool) → rule OnReceiver b ≡ passed_on (cond b (Err OnReceiver) (Ok (sight_of satellite receiver)))
    go true = refl
    go false = refl

pub passed_on_lem : (receiver : Vec3) (dt : Float) (c p : Carrier) → range_rules (pair_of receiver dt c p) ≡ passed_on (geometry c.satellite receiver) ∷ passed_on (geometry p.satellite receiver) ∷ []
unfolding pair_of
passed_on_lem receiver dt c p = ap₂ (λ (a b : Rule). a ∷ b ∷ []) (one_on c.satellite receiver) (one_on p.satellite receiver)

-- ---- the first of the rules that applies is 15 exactly where a range of a pair is zero or not finite

module _ {A : Type 0} (f : Refusal → A) (a : A) where
  pub sights-are : (ps : List Pair) → ruled f (sight_rules ps) a ≡ cond (every seen ps) a (f OnReceiver)
  unfolding sight_rules seen collect every ruled
  sights-are [] = refl
  sights-are (p ∷ ps) = go (on_receiver p.range) (on_receiver p.previous_range) (sights-are ps)
    where
      go : (x y : Bool) → ruled f (sight_rules ps) a ≡ cond (every seen ps) a (f OnReceiver)
          → cond x (f OnReceiver) (cond y (f OnReceiver) (ruled f (sight_rules ps) a)) ≡ cond ((not x && not y) && every seen ps) a (f OnReceiver)
      go true y e = refl
      go false true e = refl
      go false false e = e

-- what the flag beside the pairs says
module _ (ps : List Pair) {flag : Bool} (is : flag ≡ every seen ps) where
  pub all_seen : flag ≡ true → (Ok tt) ≡ checked (sight_rules ps)
  all_seen t = sym (sights-are Err (Ok tt) ps ∙ ap (λ (b : Bool). cond b (Ok tt) (Err OnReceiver)) (sym is ∙ t))

  pub one-unseen : flag ≡ false → Err OnReceiver ≡ checked (sight_rules ps)
  one-unseen t = sym (sights-are Err (Ok tt) ps ∙ ap (λ (b : Bool). cond b (Ok tt) (Err OnReceiver)) (sym is ∙ t))

-- ---- THE LAW of request (v): where no range of a pair is zero or not finite the displacement is the one from before, and else, behind 2 to 5, it is refused by 15

-- what the pairs came to before the request: 7 to 9, the rounds, and 10
abbrev pub moved_before : Settings → List Pair → Result Delta Refusal
moved_before settings ps =
    let used = length (kept_of settings.screen ps) in
    ruled Err (count_rules settings ps) (concluded Err end_rules (λ x. Ok (delta_at used (length ps - used) x)) (fit_by settings ps).end)

abbrev pub displacement_before : Input → Result Delta Refusal
displacement_before i = ruled Err (epoch_rules i.previous i.current i.receiver i.settings ++ interval_rules i.since) (moved_before i.settings (pairs i))

-- 20 never applies outside the city profile
counts_alone : (settings : Settings) (ps : List Pair) (a : Result Delta Refusal) → ruled Err (count_rules settings ps ++ city_rules false (kept_of settings.screen ps)) a ≡ ruled Err (count_rules settings ps) a
unfolding city_rules ruled
counts_alone settings ps a = ruled-append Err a (count_rules settings ps) _

pub moved-is : (settings : Settings) (ps : List Pair) → moved_by false settings ps ≡ cond (every seen ps) (moved_before settings ps) (Err OnReceiver)
unfolding moved_by pair_rules
moved-is settings ps =
    ruled-append Err _ (sight_rules ps) _ ∙ ap (ruled Err (sight_rules ps)) (counts_alone settings ps _) ∙ sights-are Err (moved_before settings ps) ps

pub as_before : (i : Input) → is_city i.profile ≡ false → every seen (pairs i) ≡ true → displacement_of i ≡ displacement_before i
unfolding displacement_of
as_before i g e =
    ap (λ (d : Result Delta Refusal). ruled Err (epoch_rules i.previous i.current i.receiver i.settings ++ interval_rules i.since) d)
    (ap (λ (city : Bool). moved_by city i.settings (pairs i)) g
    ∙ moved-is i.settings (pairs i)
    ∙ ap (λ (b : Bool). cond b (moved_before i.settings (pairs i)) (Err OnReceiver)) e)
