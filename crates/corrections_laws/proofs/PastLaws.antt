-- Request (vi): just which answers of `zaqnuti_query` changed, for every directory in lent columns, sound or not; and times that are not finite. Assumes nothing.
use Rattle.numeric.specs.Refusal.{answer_number}
use Rattle.std.specs.Prelude.{Result, Ok, Err}
use Rattle.numeric.specs.declared.refusal.Refusal.{Refusal}
use mathlib.Core.Path.{◌≡◌, refl, sym, ap, subst}
use mathlib.Core.Bool.{false}
use mathlib.Core.List.{List, [], ◌∷◌}
use Prim.Native.Nat.{ℕ, ◌<◌}
use native.Mathlib.Omega.{arith}
use lib.ListN.{get_or}
use lib.Ieee.{Float}
use lib.Ieee.Scale.{finite}
use Rattle.numeric.specs.Order.{pattern_of}
use Rattle.numeric.specs.declared.refusal.Refusal.TheVariants.{NoCorrection}
use Rattle.signal.specs.Signal.{signal}
use Rattle.numeric.proofs.RefusalLaws.{not-zero}
use Rattle.corrections_table.specs.declared.sample.Sample.{Sample}
use Rattle.corrections_directory.specs.Directory.{Blocks, block_capacity, directory_in, flat}
use Rattle.corrections_query.specs.Query.{Answers, PassedQuery, Passes, query_in}
use Rattle.corrections_query.specs.Past.{JustPast, query_before}
use Rattle.corrections_query.proofs.PastLaws.{query_changed, query_kept, query_refused, query_timeless}
use Rattle.corrections_query.proofs.PlaceLaws.{held-flat}
use Rattle.corrections_queries.specs.Queries.{Asked, Replies, Reply, answers, asking_of, queries_in, query_at, refusal}
use Rattle.corrections_queries.proofs.QueriesLaws.{finite-there, metres_at, number_at}
use Rattle.corrections_laws.specs.Typed.{Typed, f64}

-- all counts, limits, signals and times, by the contract of the call
module _ (l : Blocks) (m n : ℕ) (gap : Float) (c v b : ℕ) (t : Float) (number metres metres' : ℕ) (asked : Answers (query_in m n (block_capacity l) (directory_in m n l) gap c v b t) number metres metres') where
  same : (q : Result Float Refusal) → query_in m n (block_capacity l) (directory_in m n l) gap c v b t ≡ q → Answers q number metres metres'
  same q e = subst (λ (a : Result Float Refusal). Answers a number metres metres') e asked

  -- where the time is not after the signal's last sample by less than 1e-6 s in the rounded difference, the call answers by the rule of before
  pub answer-kept : ((a : Sample) → JustPast (flat (directory_in m n l)) (signal c v b) t a → ⊥) → Answers (query_before m n (block_capacity l) (directory_in m n l) gap c v b t) number metres metres'
  answer-kept nay = same _ (query_kept m n (block_capacity l) (directory_in m n l) gap c v b t nay)

  -- what 2 to 4 refuse keeps its number
  pub refusal-kept : (Passes m n (block_capacity l) (directory_in m n l) gap t → ⊥) → Answers (query_before m n (block_capacity l) (directory_in m n l) gap c v b t) number metres metres'
  refusal-kept nay = same _ (query_refused m n (block_capacity l) (directory_in m n l) gap c v b t nay)

  -- where it is and 2 to 4 pass, 12 became that sample's value
  pub answer-changed : Passes m n (block_capacity l) (directory_in m n l) gap t → Typed (f64 l.times ∷ f64 (t ∷ []) ∷ []) → (a : Sample) → JustPast (flat (directory_in m n l)) (signal c v b) t a
      → (answer_number (query_before m n (block_capacity l) (directory_in m n l) gap c v b t) ≡ 12) × (number ≡ 0) × (metres' ≡ pattern_of a.correction)
  answer-changed p typed a j =
      let held = held-flat m n l (omega (arith, p.table.few-entries)) (omega (arith, p.table.few-samples)) p.table.sound typed.0 in
      let k = query_changed m n (block_capacity l) (directory_in m n l) gap c v b t p (typed.1.0 0) held a j in
      let s : Answers (Ok a.correction) number metres metres' = same _ k.1 in
      (ap answer_number k.0, s.number_is, s.metres_are)

  -- a time that is not finite is 12 once 2 to 4 pass
  pub not_finite : PassedQuery m n (block_capacity l) (directory_in m n l) gap → finite t ≡ false → (number ≡ 12) × (metres' ≡ metres)
  not_finite p e =
      let s : Answers (Err NoCorrection) number metres metres' = same _ (query_timeless m n (block_capacity l) (directory_in m n l) gap c v b t p e) in
      (s.number_is, s.metres_are)

-- ---- many queries in one call, by its contract
refused_not : (o : Reply) → 0 ≡ answer_number (asking_of o) → (Ok tt) ≡ asking_of o
refused_not (refusal r) e = absurd (not-zero r (sym e))
refused_not (answers l) e = refl

module _ (l : Blocks) (m n : ℕ) (gap : Float) (q : Asked) (numbers metres numbers' metres' : List ℕ)
    (asked : Replies (queries_in m n (block_capacity l) (directory_in m n l) gap q numbers metres) 0 numbers metres numbers' metres') where
  -- where it answers 0, each place answers as a query of its own, of which the laws above speak
  pub place-answers : (i : ℕ) → i < q.count → Answers (query_at m n (block_capacity l) (directory_in m n l) gap q i) (get_or numbers' i 0) (get_or metres i 0) (get_or metres' i 0)
  place-answers i h =
      let o = refused_not (queries_in m n (block_capacity l) (directory_in m n l) gap q numbers metres) asked.number_is in
      record {
        number_is = number_at m n (block_capacity l) (directory_in m n l) gap q numbers metres numbers' metres' o asked i h;
        metres_are = metres_at m n (block_capacity l) (directory_in m n l) gap q numbers metres numbers' metres' o asked i h;
        given-finite = finite-there m n (block_capacity l) (directory_in m n l) gap q numbers metres numbers' metres' o asked i h;
      }
