-- The city displacement: 20 aside it is the general one of what is left. Assumes nothing.
use Rattle.std.specs.Prelude.{Result, Ok, Err}
use Rattle.tdcp.specs.declared.displacement.Delta.{Delta}
use mathlib.Core.Logic.{◌⊎◌, inl, inr}
use mathlib.Core.Path.{◌≡◌, refl, sym, ap, ap₂, ◌∙◌}
use mathlib.Core.Bool.{Bool, true, false, not, cond, ◌&&◌, ◌||◌}
use mathlib.Core.List.{List, [], ◌∷◌, ◌++◌}
use Prim.Native.Nat.{ℕ, ◌-◌}
use native.Mathlib.Omega.{arith}
use lib.Dec.{ltb}
use borrow.Author.Tests.{ltb-false, le-ltb, not-false}
use lib.ListN.{length, length-take}
use Rattle.lists.specs.Walk.{every}
use Rattle.lists.proofs.Walk.{or_no, and_both}
use Rattle.clocks.specs.Clocks.{has}
use Rattle.numeric.specs.declared.refusal.Refusal.{Refusal}
use Rattle.numeric.specs.declared.refusal.Refusal.TheVariants.{NotCertified}
use Rattle.numeric.specs.declared.vec3.Vec3.{Vec3}
use Rattle.numeric.specs.Vec3.{vector_in_range}
use Rattle.records.specs.Record.{counted_carriers, sound_carrier}
use Rattle.records.specs.City.{certified_of}
use Rattle.records.specs.Pair.{pairs_of}
use Rattle.records.specs.Screen.{kept_of, constellations}
use Rattle.records.specs.declared.record.Epoch.{Epoch}
use Rattle.records.specs.declared.pair.Pair.{Pair}
use Rattle.numeric.specs.Rules.{Rule, ruled}
use Rattle.estimate_rounds.specs.Rounds.{concluded}
use Rattle.numeric.proofs.RulesLaws.{ruled-append}
use Rattle.estimate_rounds.proofs.RulesLaws.{checked, passed-by, head_passed, refused-by}
use Rattle.tdcp.specs.Valid.{dt_of, settings_pass, epoch_rules, interval_rules}
use Rattle.tdcp.specs.Front.{sight_rules, count_rules, city_rules, pair_rules}
use Rattle.tdcp.specs.Displacement.{Input, fit_by, pairs, delta_at, end_rules, moved_by, displacement_of}
use Rattle.tdcp.specs.City.{in_city, certified_epoch, left}
use Rattle.tdcp.specs.declared.displacement.Settings.{Settings}
use Rattle.tdcp.proofs.FilterLaws.{counted-left, left-few, left-every}

-- ---- THE THEOREM: 20 aside, a city displacement is the general one of what is left

-- rules that come first refuse both alike
behind : {A : Type 0} (f : Refusal → A) (rs : List Rule) {a b c : A} → (a ≡ c) ⊎ (a ≡ b) → (ruled f rs a ≡ c) ⊎ (ruled f rs a ≡ ruled f rs b)
unfolding ruled
behind f [] h = h
behind f (r ∷ rs) {a} {b} {c} h = go r.applies (behind f rs h)
  where
    go : (t : Bool) → (ruled f rs a ≡ c) ⊎ (ruled f rs a ≡ ruled f rs b) → (cond t (f r.refusal) (ruled f rs a) ≡ c) ⊎ (cond t (f r.refusal) (ruled f rs a) ≡ cond t (f r.refusal) (ruled f rs b))
    go true h = inr refl
    go false h = h

module _ (settings : Settings) (ps : List Pair) where
  abbrev pub kept : List Pair
  kept = kept_of settings.screen ps

  abbrev fitted : Result Delta Refusal
  fitted = concluded Err end_rules (λ x. Ok (delta_at (length kept) (length ps - length kept) x)) (fit_by settings ps).end

  parts : (city : Bool) → moved_by city settings ps ≡ ruled Err (sight_rules ps) (ruled Err (count_rules settings ps) (ruled Err (city_rules city kept) fitted))
  unfolding moved_by pair_rules
  parts city = ruled-append Err fitted (sight_rules ps) _ ∙ ap (ruled Err (sight_rules ps)) (ruled-append Err fitted (count_rules settings ps) (city_rules city kept))

  last : (ruled Err (city_rules true kept) fitted ≡ Err NotCertified) ⊎ (ruled Err (city_rules true kept) fitted ≡ ruled Err (city_rules false kept) fitted)
  unfolding city_rules ruled
  last = go (not (has (constellations kept) 1 && has (constellations kept) 6))
    where
      go : (b : Bool) → (cond b (Err NotCertified) fitted ≡ Err NotCertified) ⊎ (cond b (Err NotCertified) fitted ≡ fitted)
      go true = inl refl
      go false = inr refl

  twenty_or : (moved_by true settings ps ≡ Err NotCertified) ⊎ (moved_by true settings ps ≡ moved_by false settings ps)
  twenty_or = go (behind Err (sight_rules ps) (behind Err (count_rules settings ps) last))
    where
      go : (ruled Err (sight_rules ps) (ruled Err (count_rules settings ps) (ruled Err (city_rules true kept) fitted)) ≡ Err NotCertified)
          ⊎ (ruled Err (sight_rules ps) (ruled Err (count_rules settings ps) (ruled Err (city_rules true kept) fitted)) ≡ ruled Err (sight_rules ps) (ruled Err (count_rules settings ps) (ruled Err (city_rules false kept) fitted)))
          → (moved_by true settings ps ≡ Err NotCertified) ⊎ (moved_by true settings ps ≡ moved_by false settings ps)
      go (inl e) = inl (parts true ∙ e)
      go (inr e) = inr (parts true ∙ e ∙ sym (parts false))

-- what 2 to 4 let pass, they let pass with carriers taken out
few-left : (band : ℕ) (e : Epoch) → ltb 64 e.count ≡ false → ltb 64 (length (certified_of band (counted_carriers e))) ≡ false
few-left band e h = le-ltb 64 (length (certified_of band (counted_carriers e))) (omega (arith, ltb-false 64 e.count h, left-few band (counted_carriers e), length-take e.count e.carriers))

sound-left : (band : ℕ) (e : Epoch) → every sound_carrier (counted_carriers e) ≡ true → every sound_carrier (counted_carriers (certified_epoch band e)) ≡ true
sound-left band e h = ap (every sound_carrier) (counted-left band e) ∙ left-every sound_carrier band (counted_carriers e) h

passed-parts : (p c : Epoch) (r : Vec3) (s : Settings) → (Ok tt) ≡ checked (epoch_rules p c r s)
    → ((ltb 64 p.count || ltb 64 c.count) ≡ false) × (not (settings_pass s) ≡ false) × (not (every sound_carrier (counted_carriers p) && every sound_carrier (counted_carriers c) && vector_in_range r) ≡ false)
unfolding epoch_rules
passed-parts p c r s e =
    let a = head_passed _ _ e in
    let b = head_passed _ _ a.1 in
    (a.0, b.0, (head_passed _ _ b.1).0)

module _ (band : ℕ) (i : Input) (e : (Ok tt) ≡ checked (epoch_rules i.previous i.current i.receiver i.settings)) where
  abbrev rules : List Rule
  rules = epoch_rules i.previous i.current i.receiver i.settings

  abbrev pub rules-left : List Rule
  rules-left = epoch_rules (certified_epoch band i.previous) (certified_epoch band i.current) i.receiver i.settings

  pub left_passed : (Ok tt) ≡ checked rules-left
  unfolding epoch_rules ruled
  left_passed =
      let h = passed-parts i.previous i.current i.receiver i.settings e in
      let few = or_no (ltb 64 i.previous.count) (ltb 64 i.current.count) h.0 in
      let set : settings_pass i.settings ≡ true = not-false (settings_pass i.settings) h.1 in
      let all = not-false (every sound_carrier (counted_carriers i.previous) && every sound_carrier (counted_carriers i.current) && vector_in_range i.receiver) h.2 in
      let outer = and_both (every sound_carrier (counted_carriers i.previous) && every sound_carrier (counted_carriers i.current)) (vector_in_range i.receiver) all in
      let inner = and_both (every sound_carrier (counted_carriers i.previous)) (every sound_carrier (counted_carriers i.current)) outer.0 in
      rw (few-left band i.previous few.0, few-left band i.current few.1, set, sound-left band i.previous inner.0, sound-left band i.current inner.1, outer.1)

  -- the pairs are those of what is left
  pairs-are : pairs (in_city band i) ≡ pairs (left band i)
  pairs-are = sym (ap₂ (pairs_of i.receiver i.settings.mask (dt_of i.since)) (counted-left band i.previous) (counted-left band i.current))

  abbrev moved : Bool → Result Delta Refusal
  moved city = ruled Err (interval_rules i.since) (moved_by city i.settings (pairs (left band i)))

  -- both calls, behind 2 to 4
  city-is : displacement_of (in_city band i) ≡ moved true
  unfolding displacement_of
  city-is =
      ruled-append Err _ rules (interval_rules i.since)
      ∙ passed-by Err _ rules e
      ∙ ap (λ (ps : List Pair). ruled Err (interval_rules i.since) (moved_by true i.settings ps)) pairs-are

  left_is : displacement_of (left band i) ≡ moved false
  unfolding displacement_of
  left_is = ruled-append Err _ rules-left (interval_rules i.since) ∙ passed-by Err _ rules-left left_passed

  pub aside_twenty : (displacement_of (in_city band i) ≡ Err NotCertified) ⊎ (displacement_of (in_city band i) ≡ displacement_of (left band i))
  aside_twenty = go (behind Err (interval_rules i.since) (twenty_or i.settings (pairs (left band i))))
    where
      go : (moved true ≡ Err NotCertified) ⊎ (moved true ≡ moved false) → (displacement_of (in_city band i) ≡ Err NotCertified) ⊎ (displacement_of (in_city band i) ≡ displacement_of (left band i))
      go (inl h) = inl (city-is ∙ h)
      go (inr h) = inr (city-is ∙ h ∙ sym left_is)

  -- ---- THE SAME, EXACTLY: behind 2 to 4, 20 where 5, 15 and 7 to 9 let what is left pass and its kept pairs lack GPS or Galileo, and everywhere else its displacement

  abbrev ps : List Pair
  ps = pairs (left band i)

  -- 13 and 5, 15, 7 to 9, of what is left
  abbrev pub earlier : List Rule
  earlier = interval_rules i.since ++ (sight_rules ps ++ count_rules i.settings ps)

  abbrev pub lacks : Bool
  lacks = not (has (constellations (kept i.settings ps)) 1 && has (constellations (kept i.settings ps)) 6)

  split : (city : Bool) → moved city ≡ ruled Err earlier (ruled Err (city_rules city (kept i.settings ps)) (fitted i.settings ps))
  split city =
      let end = ruled Err (city_rules city (kept i.settings ps)) (fitted i.settings ps) in
      ap (ruled Err (interval_rules i.since)) (parts i.settings ps city ∙ sym (ruled-append Err end (sight_rules ps) (count_rules i.settings ps)))
      ∙ sym (ruled-append Err end (interval_rules i.since) (sight_rules ps ++ count_rules i.settings ps))

  city-split : displacement_of (in_city band i) ≡ ruled Err earlier (cond lacks (Err NotCertified) (fitted i.settings ps))
  unfolding city_rules ruled
  city-split = city-is ∙ split true

  left_split : displacement_of (left band i) ≡ ruled Err earlier (fitted i.settings ps)
  unfolding city_rules ruled
  left_split = left_is ∙ split false

  pub city_twenty : (Ok tt) ≡ checked earlier → lacks ≡ true → displacement_of (in_city band i) ≡ Err NotCertified
  city_twenty p q = city-split ∙ passed-by Err _ earlier p ∙ rw q

  pub city-general : lacks ≡ false → displacement_of (in_city band i) ≡ displacement_of (left band i)
  city-general q = city-split ∙ rw q (sym left_split)

  pub city-earlier : (r : Refusal) → Err r ≡ checked earlier → (displacement_of (in_city band i) ≡ Err r) × (displacement_of (left band i) ≡ Err r)
  city-earlier r p = (city-split ∙ sym (refused-by Err _ earlier p), left_split ∙ sym (refused-by Err _ earlier p))
