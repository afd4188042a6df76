-- The carriers of records, and the answers of the displacement on them. Assumes nothing.
use Rattle.numeric.specs.Refusal.{number_of, answer_number}
use Rattle.std.specs.Prelude.{Result, Ok, Err}
use mathlib.Core.Path.{◌≡◌, sym, ap, ◌∙◌}
use mathlib.Core.List.{List}
use Prim.Native.Nat.{ℕ, ◌%◌, ◌≤◌, ◌<◌}
use native.Mathlib.Omega.{arith}
use borrow.Author.Tests.{lt-ltb, le-ltb, eq-eqb, ne_eqb}
use lib.ListN.{length, get_or, take}
use lib.Seq.{sets, sets-eq}
use lib.IntN.{ℤ}
use lib.Ieee.{Float}
use Rattle.lists.proofs.Walk.{places-map, places-at}
use Rattle.numeric.specs.Vec3.{vector_patterns}
use Rattle.numeric.specs.declared.refusal.Refusal.{Refusal}
use Rattle.numeric.specs.declared.refusal.Refusal.TheVariants.{TooMany, BrokenRecords}
use Rattle.records.specs.Signals as signals
use Rattle.records.specs.Signals.{SignalsFit}
use Rattle.records.specs.Steps.{Laid}
use Rattle.records.specs.declared.record.Carrier.{Carrier}
use Rattle.records.proofs.RecordLaws.{blank}
use Rattle.records.proofs.EpochLaws.{cut-count, cut_fits, cut-is}
use Rattle.numeric.specs.Rules.{ruled}
use Rattle.tdcp.specs.Displacement.{displacement_of, Promised}
use Rattle.tdcp.specs.declared.displacement.Delta.{Delta}
use Rattle.wire.specs.Number.{bytes_in, five_bytes}
use Rattle.wire.specs.Record.{record_at, count_in}
use Rattle.wire.specs.Columns.{over}
use Rattle.wire_tdcp.specs.Displacement.{record_carrier, record_carriers, record_epoch, Handed, record_input, record_rules, records_displaced, delta_bytes, bytes_after, RecordAnswers}

-- ---- the carriers

pub carrier-in : (s : List ℕ) (n i : ℕ) (d : Carrier) → i < n → record_carrier (record_at s i) ≡ get_or (record_carriers s n) i d
carrier-in s n i d l = sym (ap (λ (xs : List Carrier). get_or xs i d) (places-map record_carrier (record_at s) n) ∙ places-at (λ (k : ℕ). record_carrier (record_at s k)) n i d l)

-- ---- the epoch of the records s, once its carriers stand in signals, states and floats
module _ (s : List ℕ) {ss : List ℕ} {ts : List ℤ} {fs : List Float} (h : Laid (record_carriers s (count_in s)) (count_in s) ss ts fs) (few : count_in s ≤ 64) where
  pub laid-fits : SignalsFit (take (count_in s) ss) ts fs
  laid-fits = cut_fits ss ts fs (count_in s) h.signals-long few (omega (arith, h.states-long, few)) (omega (arith, h.floats-long, few)) h.small

  pub laid-is : signals.epoch_in (take (count_in s) ss) ts fs ≡ record_epoch s
  laid-is =
      cut-is ss ts fs (count_in s) h.signals-long few (λ (k : ℕ). record_carrier (record_at s k)) (λ k l. h.all k l blank ∙ sym (carrier-in s (count_in s) k blank l))
      ∙ ap (λ (xs : List Carrier). record { count = count_in s; carriers = xs }) (sym (places-map record_carrier (record_at s) (count_in s)))

-- ---- the answers

not_moved : (r : Refusal) (d : Delta) → Err r ≡ Ok d → ⊥
not_moved r d e = let z : ◌≡◌ {A = ℕ} 0 1 = cc in omega arith

module _ (h : Handed) (out : List ℕ) where
  abbrev p : List ℕ
  p = h.previous

  abbrev c : List ℕ
  c = h.current

  refusal-answers : {r : Refusal} {number : ℕ} → Err r ≡ records_displaced h out → number ≡ number_of r → RecordAnswers h number out out
  refusal-answers {r} e n = record { number_is = rw (← e) n; result-is = rw (← e); accepted = λ d q. absurd (not_moved r d (e ∙ q)) }

  pub previous-broken : {number : ℕ} → (length p % 59 ≡ 0 → ⊥) → number ≡ 21 → RecordAnswers h number out out
  unfolding records_displaced record_rules ruled
  previous-broken b n = refusal-answers {r = BrokenRecords} (rw (ne_eqb (length p % 59) 0 b)) n

  module _ (hp : length p % 59 ≡ 0) where
    pub current-broken : {number : ℕ} → (length c % 59 ≡ 0 → ⊥) → number ≡ 21 → RecordAnswers h number out out
    unfolding records_displaced record_rules ruled
    current-broken b n = refusal-answers {r = BrokenRecords} (rw (eq-eqb (length p % 59) 0 hp, ne_eqb (length c % 59) 0 b)) n

    module _ (hc : length c % 59 ≡ 0) where
      pub previous-many : {number : ℕ} → 64 < count_in p → number ≡ 2 → RecordAnswers h number out out
      unfolding records_displaced record_rules ruled
      previous-many l n = refusal-answers {r = TooMany} (rw (eq-eqb (length p % 59) 0 hp, eq-eqb (length c % 59) 0 hc, lt-ltb 64 (count_in p) l)) n

      module _ (fp : count_in p ≤ 64) where
        pub current-many : {number : ℕ} → 64 < count_in c → number ≡ 2 → RecordAnswers h number out out
        unfolding records_displaced record_rules ruled
        current-many l n = refusal-answers {r = TooMany} (rw (eq-eqb (length p % 59) 0 hp, eq-eqb (length c % 59) 0 hc, le-ltb 64 (count_in p) fp, lt-ltb 64 (count_in c) l)) n

        module _ (fc : count_in c ≤ 64) where
          pub result-short : {number : ℕ} → length out < 40 → number ≡ 2 → RecordAnswers h number out out
          unfolding records_displaced record_rules ruled
          result-short l n = refusal-answers {r = TooMany} (rw (eq-eqb (length p % 59) 0 hp, eq-eqb (length c % 59) 0 hc, le-ltb 64 (count_in p) fp, le-ltb 64 (count_in c) fc, lt-ltb (length out) 40 l)) n

          module _ (room : 40 ≤ length out) where
            -- whole records, few enough, and room for the result: the answer is the displacement's
            pub answer-is : records_displaced h out ≡ displacement_of (record_input h)
            unfolding records_displaced record_rules ruled
            answer-is = rw (eq-eqb (length p % 59) 0 hp, eq-eqb (length c % 59) 0 hc, le-ltb 64 (count_in p) fp, le-ltb 64 (count_in c) fc, le-ltb (length out) 40 room)

            pub displacement-answers : {d : Result Delta Refusal} → Promised (record_input h) d → {number : ℕ} {next : List ℕ} → number ≡ answer_number d → next ≡ bytes_after d out → RecordAnswers h number out next
            displacement-answers {d} made a b =
                let e : records_displaced h out ≡ d = answer-is ∙ sym made.answer in
                record { number_is = rw e a; result-is = rw e b; accepted = λ v q. made.accepted v (sym e ∙ q) }

-- the 40 bytes of a result, as the code writes them
pub result-is : (out : List ℕ) (d : Delta) (v : List ℕ) {next : List ℕ} → 40 ≤ length out → v ≡ vector_patterns d.delta
    → next ≡ sets out 0 (five_bytes d.used d.screened (get_or v 0 0) (get_or v 1 0) (get_or v 2 0)) → next ≡ over (delta_bytes d) out
unfolding bytes_in
result-is out d v room e h = h ∙ sets-eq (five_bytes d.used d.screened (get_or v 0 0) (get_or v 1 0) (get_or v 2 0)) out 0 room ∙ rw e
