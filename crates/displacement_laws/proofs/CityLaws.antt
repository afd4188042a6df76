-- The city call beside the general call on columns that hold just the certified carriers. Assumes nothing.
use Rattle.numeric.specs.Refusal.{answer_number}
use Rattle.std.specs.Prelude.{Result, Ok, Err, ⊤}
use Rattle.tdcp.specs.declared.displacement.Delta.{Delta}
use mathlib.Core.Path.{◌≡◌, refl, sym, ap, ap₂, subst, ◌∙◌}
use mathlib.Core.Bool.{Bool, true, false, cond, ◌&&◌}
use mathlib.Core.List.{List}
use Prim.Native.Nat.{ℕ}
use lib.ListN.{length}
use lib.Ieee.{Float}
use Rattle.lists.proofs.Walk.{places-length, places-all}
use Rattle.numeric.specs.declared.vec3.Vec3.{Vec3}
use Rattle.numeric.specs.declared.refusal.Refusal.{Refusal}
use Rattle.numeric.specs.declared.refusal.Refusal.TheVariants.{TooMany, NotCertified}
use Rattle.records.specs.Record.{counted_carriers}
use Rattle.lists.specs.Memory.{before, after, LentNumbers}
use Rattle.records.specs.Carriers.{CarrierColumns, carrier_at, carriers_of, epoch_of}
use Rattle.records.specs.City.{certified_of}
use Rattle.records.specs.declared.record.Carrier.{Carrier}
use Rattle.records.specs.declared.record.Epoch.{Epoch}
use Rattle.records.specs.declared.pair.Profile.TheVariants.{General, City}
use Rattle.numeric.specs.Rules.{Rule}
use Rattle.numeric.proofs.RulesLaws.{ruled-append}
use Rattle.estimate_rounds.proofs.RulesLaws.{checked, passed-by, refused-by}
use Rattle.tdcp.specs.Valid.{epoch_rules, interval_rules}
use Rattle.tdcp.specs.City.{in_city, certified_epoch, left}
use Rattle.tdcp.specs.Displacement.{Input, input, displacement_of}
use Rattle.tdcp.specs.declared.displacement.Settings.{Settings}
use Rattle.tdcp.specs.declared.displacement.Interval.TheVariants.{Seconds}
use Rattle.tdcp.proofs.CityLaws.{rules-left, left_passed, earlier, lacks, city_twenty, city-general, city-earlier}
use Rattle.tdcp_columns.specs.Displacement.{Lent, lent, lent_input, is_fit, columns_displaced, delta_after, counts_after, DisplacementAnswers, Alike}
use Rattle.tdcp_columns.proofs.CallLaws.{alike}
use Rattle.displacement_laws.proofs.NeverLaws.{never_twenty}
use Rattle.displacement_laws.specs.City.{Certified, rules_before_twenty, lacking, is_passed, is_twenty}

abbrev epoch : ℕ → List Carrier → Epoch
epoch n xs = record { count = n; carriers = xs }

same-epoch : {band : ℕ} {c : CarrierColumns} {n : ℕ} {c' : CarrierColumns} {n' : ℕ} → Certified band c n c' n' → epoch_of c' n' ≡ certified_epoch band (epoch_of c n)
same-epoch {band} {c} {n} {c'} {n'} h =
    let all : carriers_of c' n' ≡ certified_of band (counted_carriers (epoch_of c n)) = h.carriers ∙ ap (certified_of band) (sym (places-all (carrier_at c) n)) in
    ap₂ epoch (sym (places-length (carrier_at c') n') ∙ ap length all) all

module _ (band : ℕ) (i : Input) (passed : (Ok tt) ≡ checked (epoch_rules i.previous i.current i.receiver i.settings)) where
  front : checked (rules_before_twenty (left band i)) ≡ checked (earlier band i passed)
  front = ruled-append Err (Ok tt) (rules-left band i passed) (earlier band i passed) ∙ passed-by Err _ (rules-left band i passed) (left_passed band i passed)

  go : (v : Result ⊤ Refusal) → checked (earlier band i passed) ≡ v → (b : Bool) → lacks band i passed ≡ b
      → displacement_of (in_city band i) ≡ cond (is_passed v && b) (Err NotCertified) (displacement_of (left band i))
  go (Err r) e b h = let both = city-earlier band i passed r (sym e) in both.0 ∙ sym both.1
  go (Ok tt) e true h = city_twenty band i passed (sym e) h
  go (Ok tt) e false h = city-general band i passed h

  city-left : displacement_of (in_city band i) ≡ cond (is_twenty (left band i)) (Err NotCertified) (displacement_of (left band i))
  city-left =
      go (checked (earlier band i passed)) refl (lacks band i passed) refl
      ∙ ap (λ (v : Result ⊤ Refusal). cond (is_passed v && lacking (left band i)) (Err NotCertified) (displacement_of (left band i))) (sym front)

module _ (previous : CarrierColumns) (m : ℕ) (current : CarrierColumns) (n : ℕ) (dt : Float) (band : ℕ) (receiver : Vec3) (settings : Settings) where
  abbrev pub city : Lent
  city = lent previous m current n (Seconds dt) receiver settings (City band)

  abbrev given : List Rule
  given = epoch_rules (epoch_of previous m) (epoch_of current n) receiver settings

  -- 2 to 4 are those of everything given
  pub city_unfit : is_fit city ≡ false → columns_displaced city ≡ Err TooMany
  unfolding columns_displaced
  city_unfit e = rw e

  pub city-given : is_fit city ≡ true → (r : Refusal) → Err r ≡ checked given → columns_displaced city ≡ Err r
  unfolding columns_displaced displacement_of
  city-given fit r e = rw fit (ruled-append Err _ given (interval_rules (Seconds dt)) ∙ sym (refused-by Err _ given e))

  -- behind them, with any columns that hold just the certified carriers
  module _ (fit : is_fit city ≡ true) (passed : (Ok tt) ≡ checked given) {previous' : CarrierColumns} {m' : ℕ} {current' : CarrierColumns} {n' : ℕ}
      (p : Certified band previous m previous' m') (c : Certified band current n current' n') where
    abbrev pub alone : Lent
    alone = lent previous' m' current' n' (Seconds dt) receiver settings General

    left_is : lent_input alone ≡ left band (lent_input city)
    left_is = ap₂ (λ (a b : Epoch). input a b (Seconds dt) receiver settings General) (same-epoch p) (same-epoch c)

    city-alone : displacement_of (lent_input city) ≡ cond (is_twenty (lent_input alone)) (Err NotCertified) (displacement_of (lent_input alone))
    city-alone = subst (λ (j : Input). displacement_of (lent_input city) ≡ cond (is_twenty j) (Err NotCertified) (displacement_of j)) (sym left_is) (city-left band (lent_input city) passed)

    alone-is : columns_displaced city ≡ cond (is_twenty (lent_input alone)) (Err NotCertified) (columns_displaced alone)
    unfolding columns_displaced
    alone-is = rw (fit, p.fits, c.fits) city-alone

    module _ {number : ℕ} {delta counts : LentNumbers} (answers : DisplacementAnswers city number delta counts) where
      -- 20, with nothing written, where those rules let the columns pass and the kept pairs lack constellation 1 or 6
      pub city-refused : is_twenty (lent_input alone) ≡ true → (number ≡ 20) × (after delta ≡ before delta) × (after counts ≡ before counts)
      city-refused e =
          let is : columns_displaced city ≡ Err NotCertified = alone-is ∙ rw e in (
            answers.leaves.number_is ∙ ap answer_number is,
            answers.leaves.delta-is ∙ ap (λ (d : Result Delta Refusal). delta_after d (before delta)) is,
            answers.leaves.counts-are ∙ ap (λ (d : Result Delta Refusal). counts_after d (before counts)) is,
          )

      -- otherwise the call on those columns
      pub city-same : is_twenty (lent_input alone) ≡ false → {number' : ℕ} {delta' counts' : LentNumbers} → DisplacementAnswers alone number' delta' counts' → Alike number number' delta delta' counts counts'
      city-same e b =
          let is : columns_displaced city ≡ columns_displaced alone = alone-is ∙ rw e in
          alike city alone is answers b

      -- and 20 nowhere else
      pub city-exactly : number ≡ 20 → is_twenty (lent_input alone) ≡ true
      unfolding columns_displaced
      city-exactly twenty = decide (is_twenty (lent_input alone)) refl
        where
          is_twenty_lem : answer_number (columns_displaced city) ≡ 20
          is_twenty_lem = sym answers.leaves.number_is ∙ twenty

          decide : (b : Bool) → is_twenty (lent_input alone) ≡ b → b ≡ true
          decide true e = refl
          decide false e =
              let general : columns_displaced city ≡ displacement_of (lent_input alone) = alone-is ∙ rw (e, p.fits, c.fits) in
              absurd (never_twenty (lent_input alone) refl (sym (ap answer_number general) ∙ is_twenty_lem))

  -- in one: behind 2 to 4, with any columns that hold just the certified carriers
  pub city-is : is_fit city ≡ true → (Ok tt) ≡ checked given → {previous' : CarrierColumns} {m' : ℕ} {current' : CarrierColumns} {n' : ℕ}
      → Certified band previous m previous' m' → Certified band current n current' n'
      → (let l = lent previous' m' current' n' (Seconds dt) receiver settings General in columns_displaced city ≡ cond (is_twenty (lent_input l)) (Err NotCertified) (columns_displaced l))
  city-is fit passed p c = alone-is fit passed p c
