-- The number of one query and of many, by the contracts of the calls, and what a refusal leaves. Assumes nothing.
use Rattle.numeric.specs.Refusal.{answer_number}
use Rattle.std.specs.Prelude.{Result, Ok, Err}
use mathlib.Core.Path.{◌≡◌, refl, sym, ap, subst, ◌∙◌}
use mathlib.Core.List.{List, [], ◌∷◌}
use mathlib.Core.Bool.{Bool, true, false, cond, not, ◌&&◌, ◌||◌}
use Prim.Native.Nat.{ℕ, zero, suc, min, ◌≤◌, ◌<◌}
use native.Mathlib.Omega.{arith}
use lib.Dec.{ltb}
use lib.ListN.{length, get_or}
use borrow.Author.Tests.{le-ltb, lt-ltb}
use lib.Ieee.{Float, nan, lt}
use lib.Ieee.Scale.{finite}
use Rattle.exact.specs.Float.{◌⊖◌}
use Rattle.lists.specs.Walk.{places}
use Rattle.lists.proofs.Walk.{places-length}
use Rattle.numeric.specs.Real.{in_range}
use Rattle.numeric.specs.Refusal.{number_of}
use Rattle.numeric.specs.Rules.{ruled}
use Rattle.numeric.specs.declared.refusal.Refusal.{Refusal}
use Rattle.numeric.specs.declared.refusal.Refusal.TheVariants.{TooMany, SettingOutOfRange, RecordOutOfRange, NoCorrection}
use Rattle.signal.specs.Signal.{signal}
use Rattle.corrections_table.specs.Table.{series_of}
use Rattle.corrections_table.specs.declared.sample.Sample.{Sample}
use Rattle.corrections_directory.specs.Directory.{Blocks, Directory, block_capacity, directory_in, flat, sound_directory}
use Rattle.corrections_query.specs.Query.{Answers, Found, answer_at, answer_in, correction_rule, first_since, guarded, last_before, line, missing, near, near_or, pattern_after, query_in, spanned, the}
use Rattle.corrections_queries.specs.Queries.{Asked, Replies, Reply, answers, asking_of, number_after, places_short, queries_in, query_at, refusal, with_answers}
use Rattle.corrections_queries.proofs.QueriesLaws.{written-length}
use Rattle.corrections_laws.specs.Numbers.{QueriesNumber, QueryNumber, place_room, room_of}
use Rattle.corrections_laws.proofs.PastLaws.{place-answers}
use Rattle.corrections_laws.proofs.NumberLaws.{either, ltb-min, neither, same-room}

-- ---- one query

-- the samples of a signal refuse a query by 12 alone
spanned-refused : (gap t : Float) (f h : Found) (r : Refusal) → spanned gap t f h ≡ Err r → number_of r ≡ 12
unfolding spanned
spanned-refused gap t missing h r e = let k : NoCorrection ≡ r = cc in ap number_of (sym k)
spanned-refused gap t (the a) missing r e = let k : NoCorrection ≡ r = cc in ap number_of (sym k)
spanned-refused gap t (the a) (the b) r e = go (lt gap (b.time ⊖ a.time)) (line t a b) e
  where
    go : (x : Bool) (y : Float) → cond x (Err NoCorrection) (Ok y) ≡ Err r → number_of r ≡ 12
    go true y e = let k : NoCorrection ≡ r = cc in ap number_of (sym k)
    go false y e = absurd (let z : ◌≡◌ {A = ℕ} 0 1 = cc in omega arith)

near-refused : (t : Float) (f : Found) (rest : Result Float Refusal) (r : Refusal) → (rest ≡ Err r → number_of r ≡ 12) → near_or t f rest ≡ Err r → number_of r ≡ 12
unfolding near_or
near-refused t missing rest r k e = k e
near-refused t (the s) rest r k e = go (near s.time t) e
  where
    go : (x : Bool) → cond x (Ok s.correction) rest ≡ Err r → number_of r ≡ 12
    go true e = absurd (let z : ◌≡◌ {A = ℕ} 0 1 = cc in omega arith)
    go false e = k e

answer-refused : (ss : List Sample) (gap : Float) (c v b : ℕ) (t : Float) (r : Refusal) → answer_at ss gap c v b t ≡ Err r → number_of r ≡ 12
unfolding answer_at answer_in correction_rule
answer-refused ss gap c v b t r e =
    let l = series_of (signal c v b) ss in
    near-refused t (first_since t l) _ r (near-refused t (last_before t l) _ r (spanned-refused gap t (last_before t l) (first_since t l) r)) e

metres_stay : (q : Result Float Refusal) (metres : ℕ) → (answer_number q ≡ 0 → ⊥) → pattern_after q metres ≡ metres
metres_stay (Err r) metres n = refl
metres_stay (Ok x) metres n = absurd (n refl)

time-passes : (t : Float) → (finite t ≡ true → in_range t ≡ true) → (in_range t || not (finite t)) ≡ true
time-passes t k = go (finite t) k
  where
    go : (x : Bool) → (x ≡ true → in_range t ≡ true) → (in_range t || not x) ≡ true
    go true k = rw (k refl)
    go false k = either (in_range t)

-- a query, rule by rule
module _ (m n room : ℕ) (d : Directory) (gap : Float) (c v b : ℕ) (t : Float) where
  two : (ltb room m || ltb room n) ≡ true → query_in m n room d gap c v b t ≡ Err TooMany
  unfolding query_in guarded ruled
  two e = rw e

  three : m ≤ room → n ≤ room → in_range gap ≡ false → query_in m n room d gap c v b t ≡ Err SettingOutOfRange
  unfolding query_in guarded ruled
  three h k e = rw (le-ltb room m h, le-ltb room n k, e)

  four : m ≤ room → n ≤ room → in_range gap ≡ true → (sound_directory d && (in_range t || not (finite t))) ≡ false
      → query_in m n room d gap c v b t ≡ Err RecordOutOfRange
  unfolding query_in guarded ruled
  four h k e f = rw (le-ltb room m h, le-ltb room n k, e, f)

  passed : m ≤ room → n ≤ room → in_range gap ≡ true → sound_directory d ≡ true → (finite t ≡ true → in_range t ≡ true)
      → query_in m n room d gap c v b t ≡ answer_at (flat d) gap c v b t
  unfolding query_in guarded ruled
  passed h k e f g = rw (le-ltb room m h, le-ltb room n k, e, f, time-passes t g)

  by_answer : (number metres metres' : ℕ) → Answers (query_in m n room d gap c v b t) number metres metres' → QueryNumber m n room d gap c v b t number metres metres'
  by_answer number metres metres' a =
      let is : (q : Result Float Refusal) → query_in m n room d gap c v b t ≡ q → number ≡ answer_number q = λ q e. a.number_is ∙ ap answer_number e in
      record {
        many-entries = λ h. is (Err TooMany) (two (rw (lt-ltb room m h)));
        many-samples = λ h. is (Err TooMany) (two (rw (lt-ltb room n h) (either (ltb room m))));
        bad-gap = λ h k e. is (Err SettingOutOfRange) (three h k e);
        not_sound = λ h k e f. is (Err RecordOutOfRange) (four h k e (rw f));
        bad-time = λ h k e f g. is (Err RecordOutOfRange) (four h k e (rw (f, g) (neither (sound_directory d))));
        none = λ h k e f g r z. is (Err r) (passed h k e f g ∙ z) ∙ answer-refused (flat d) gap c v b t r z;
        given = λ h k e f g x z. (is (Ok x) (passed h k e f g ∙ z), a.metres_are ∙ ap (λ (q : Result Float Refusal). pattern_after q metres) (passed h k e f g ∙ z));
        refused = λ z. a.metres_are ∙ metres_stay (query_in m n room d gap c v b t) metres (λ y. z (a.number_is ∙ y));
      }

-- by the contract of `zaqnuti_query`
pub query_number_lem : (l : Blocks) (m n : ℕ) (gap : Float) (c v b : ℕ) (t : Float) (number metres metres' : ℕ)
    → Answers (query_in m n (block_capacity l) (directory_in m n l) gap c v b t) number metres metres'
    → QueryNumber m n (room_of l) (directory_in m n l) gap c v b t number metres metres'
query_number_lem l m n gap c v b t number metres metres' a =
    subst (λ (k : ℕ). QueryNumber m n k (directory_in m n l) gap c v b t number metres metres') (same-room l)
    (by_answer m n (block_capacity l) (directory_in m n l) gap c v b t number metres metres' a)

-- ---- many queries

-- a column is too short exactly where the shortest is
short-is : (q : Asked) (numbers metres : List ℕ) → places_short q numbers metres ≡ ltb (place_room q numbers metres) q.count
unfolding places_short
short-is q numbers metres =
    let c = length q.constellations in
    let v = length q.svids in
    let b = length q.bands in
    let t = length q.times in
    rw (
      ltb-min c v q.count,
      ltb-min (min c v) b q.count,
      ltb-min (min (min c v) b) t q.count,
      ltb-min (min (min (min c v) b) t) (length numbers) q.count,
      ltb-min (min (min (min (min c v) b) t) (length numbers)) (length metres) q.count,
    )

-- places past the answers
written-past : (f : Result Float Refusal → ℕ → ℕ) (l : List (Result Float Refusal)) (xs : List ℕ) (i : ℕ) → length l ≤ i → get_or (with_answers f l xs) i 0 ≡ get_or xs i 0
unfolding with_answers
written-past f [] xs i h = refl
written-past f (a ∷ l) [] i h = refl
written-past f (a ∷ l) (x ∷ xs) zero h = absurd (omega arith)
written-past f (a ∷ l) (x ∷ xs) (suc i) h = written-past f l xs i (omega arith)

module _ (m n room : ℕ) (d : Directory) (gap : Float) (q : Asked) (numbers metres : List ℕ) where
  abbrev short : Bool
  short = places_short q numbers metres

  all_two : ((ltb room m || ltb room n) || short) ≡ true → queries_in m n room d gap q numbers metres ≡ refusal TooMany
  unfolding queries_in ruled
  all_two e = rw e

  module _ (h : m ≤ room) (k : n ≤ room) (j : q.count ≤ place_room q numbers metres) where
    enough : short ≡ false
    enough = short-is q numbers metres ∙ le-ltb (place_room q numbers metres) q.count j

    all_three : in_range gap ≡ false → queries_in m n room d gap q numbers metres ≡ refusal SettingOutOfRange
    unfolding queries_in ruled
    all_three e = rw (le-ltb room m h, le-ltb room n k, enough, e)

    all-four : in_range gap ≡ true → sound_directory d ≡ false → queries_in m n room d gap q numbers metres ≡ refusal RecordOutOfRange
    unfolding queries_in ruled
    all-four e f = rw (le-ltb room m h, le-ltb room n k, enough, e, f)

    all-passed : in_range gap ≡ true → sound_directory d ≡ true → queries_in m n room d gap q numbers metres ≡ answers (places (query_at m n room d gap q) q.count)
    unfolding queries_in ruled
    all-passed e f = rw (le-ltb room m h, le-ltb room n k, enough, e, f)

  -- a reply that is no refusal has as many answers as places count
  many : (l : List (Result Float Refusal)) → queries_in m n room d gap q numbers metres ≡ answers l → length l ≡ q.count
  unfolding queries_in ruled
  many l e = go ((ltb room m || ltb room n) || short) (not (in_range gap)) (not (sound_directory d)) e
    where
      go : (x y z : Bool)
          → cond x (refusal TooMany)
          (cond y (refusal SettingOutOfRange) (cond z (refusal RecordOutOfRange) (answers (places (query_at m n room d gap q) q.count)))) ≡ answers l
          → length l ≡ q.count
      go true y z e = absurd (let z : ◌≡◌ {A = ℕ} 0 1 = cc in omega arith)
      go false true z e = absurd (let z : ◌≡◌ {A = ℕ} 0 1 = cc in omega arith)
      go false false true e = absurd (let z : ◌≡◌ {A = ℕ} 0 1 = cc in omega arith)
      go false false false e = let k : l ≡ places (query_at m n room d gap q) q.count = cc in ap length k ∙ places-length (query_at m n room d gap q) q.count

  module _ (number : ℕ) (numbers' metres' : List ℕ) where
    -- what a reply leaves
    record Left : Type 0 where
      refused : (number ≡ 0 → ⊥) → (numbers' ≡ numbers) × (metres' ≡ metres)
      same_lengths : (length numbers' ≡ length numbers) × (length metres' ≡ length metres)
      past : (i : ℕ) → q.count ≤ i → (get_or numbers' i 0 ≡ get_or numbers i 0) × (get_or metres' i 0 ≡ get_or metres i 0)

    left : (o : Reply) → ((l : List (Result Float Refusal)) → o ≡ answers l → length l ≡ q.count) → Replies o number numbers metres numbers' metres' → Left
    left (refusal r) k a =
        record {
          refused = λ z. (a.numbers_after, a.metres_after);
          same_lengths = (ap length a.numbers_after, ap length a.metres_after);
          past = λ i h. (ap (λ (x : List ℕ). get_or x i 0) a.numbers_after, ap (λ (x : List ℕ). get_or x i 0) a.metres_after);
        }
    left (answers l) k a =
        record {
          refused = λ z. absurd (z a.number_is);
          same_lengths = (ap length a.numbers_after ∙ written-length number_after l numbers, ap length a.metres_after ∙ written-length pattern_after l metres);
          past = λ i h. (
            ap (λ (x : List ℕ). get_or x i 0) a.numbers_after ∙ written-past number_after l numbers i (omega (arith, k l refl)),
            ap (λ (x : List ℕ). get_or x i 0) a.metres_after ∙ written-past pattern_after l metres i (omega (arith, k l refl)),
          );
        }

    by-reply : Replies (queries_in m n room d gap q numbers metres) number numbers metres numbers' metres'
        → QueriesNumber m n room d gap q number numbers metres numbers' metres'
    by-reply a =
        let is : (o : Reply) → queries_in m n room d gap q numbers metres ≡ o → number ≡ answer_number (asking_of o) =
        λ o e. a.number_is ∙ ap (λ (x : Reply). answer_number (asking_of x)) e in
        let w = left (queries_in m n room d gap q numbers metres) many a in
        record {
          many-entries = λ h. is (refusal TooMany) (all_two (rw (lt-ltb room m h)));
          many-samples = λ h. is (refusal TooMany) (all_two (rw (lt-ltb room n h, either (ltb room m))));
          many-places = λ h.
              is (refusal TooMany)
              (all_two (rw (short-is q numbers metres, lt-ltb (place_room q numbers metres) q.count h) (either (ltb room m || ltb room n))));
          bad-gap = λ h k j e. is (refusal SettingOutOfRange) (all_three h k j e);
          not_sound = λ h k j e f. is (refusal RecordOutOfRange) (all-four h k j e f);
          answered = λ h k j e f. is (answers (places (query_at m n room d gap q) q.count)) (all-passed h k j e f);
          refused = w.refused;
          same_lengths = w.same_lengths;
          past = w.past;
        }

module _ (l : Blocks) (m n : ℕ) (gap : Float) (q : Asked) (numbers metres numbers' metres' : List ℕ) where
  -- by the contract of `zaqnuti_queries`
  pub queries_number : (number : ℕ) → Replies (queries_in m n (block_capacity l) (directory_in m n l) gap q numbers metres) number numbers metres numbers' metres'
      → QueriesNumber m n (room_of l) (directory_in m n l) gap q number numbers metres numbers' metres'
  queries_number number a =
      subst (λ (k : ℕ). QueriesNumber m n k (directory_in m n l) gap q number numbers metres numbers' metres') (same-room l)
      (by-reply m n (block_capacity l) (directory_in m n l) gap q numbers metres number numbers' metres' a)

  -- where the whole call answers 0, each place has the number of a query of its own
  pub place-number : Replies (queries_in m n (block_capacity l) (directory_in m n l) gap q numbers metres) 0 numbers metres numbers' metres' → (i : ℕ) → i < q.count
      → QueryNumber m n (room_of l) (directory_in m n l) gap (get_or q.constellations i 0) (get_or q.svids i 0) (get_or q.bands i 0) (get_or q.times i nan)
      (get_or numbers' i 0) (get_or metres i 0) (get_or metres' i 0)
  place-number a i h =
      query_number_lem l m n gap (get_or q.constellations i 0) (get_or q.svids i 0) (get_or q.bands i 0) (get_or q.times i nan)
      (get_or numbers' i 0) (get_or metres i 0) (get_or metres' i 0)
      (place-answers l m n gap q numbers metres numbers' metres' a i h)
