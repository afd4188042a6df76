-- The columns that a call of many queries leaves, and that the call gives what as many single queries give. Assumes nothing.
use Rattle.numeric.specs.Refusal.{answer_number, number_of, value_after}
use Rattle.numeric.specs.Order.{pattern_of}
use Rattle.std.specs.Prelude.{Result, Ok, Err, ⊤, MatchResult, IsOkAnd}
use mathlib.Core.Path.{◌≡◌, refl, sym, ap, ◌∙◌, subst}
use mathlib.Core.List.{List, [], ◌∷◌, ◌++◌}
use mathlib.Core.Bool.{Bool, true, false, cond, not, ◌||◌}
use Prim.Native.Nat.{ℕ, zero, suc, ◌+◌, ◌≤◌, ◌<◌}
use native.Mathlib.Numerals.{add-one}
use native.Mathlib.Omega.{arith}
use lib.ListN.{length, get_or, set}
use lib.Dec.{ltb}
use borrow.Author.Tests.{le-ltb, ltb-false}
use lib.Ieee.{Float}
use Rattle.lists.specs.Walk.{places}
use Rattle.lists.proofs.Walk.{places-length, places-at, or_no}
use Rattle.numeric.specs.Real.{in_range}
use Rattle.numeric.specs.declared.refusal.Refusal.{Refusal}
use Rattle.numeric.specs.declared.refusal.Refusal.TheVariants.{TooMany, SettingOutOfRange, RecordOutOfRange}
use Rattle.numeric.specs.Rules.{ruled}
use Rattle.corrections_directory.specs.Directory.{Directory, sound_directory}
use Rattle.corrections_query.specs.Query.{pattern_after, table_test, GivesFinite, PassedQuery}
use Rattle.corrections_queries.specs.Queries.{Asked, Reply, refusal, answers, places_short, query_at, queries_in, asking_of, with_answers, number_after, EachFinite, Replies}

-- ---- an answer whose correction is taken as its pattern
module _ {P : Float → ℕ → Type 0} (is : (x : Float) (y : ℕ) → P x y → y ≡ pattern_of x) where
  pub mapped-number : (r : Result Float Refusal) (m : Result ℕ Refusal) → MatchResult r (λ x. IsOkAnd m (P x)) (λ e. m ≡ Err e) → answer_number m ≡ answer_number r
  mapped-number (Ok x) (Ok y) h = refl
  mapped-number (Ok x) (Err e) h = absurd h
  mapped-number (Err e) m h = rw h

  pub mapped-pattern : (r : Result Float Refusal) (m : Result ℕ Refusal) (old : ℕ) → MatchResult r (λ x. IsOkAnd m (P x)) (λ e. m ≡ Err e) → value_after m old ≡ pattern_after r old
  mapped-pattern (Ok x) (Ok y) old h = is x y h
  mapped-pattern (Ok x) (Err e) old h = absurd h
  mapped-pattern (Err e) m old h = rw h

-- ---- a column with answers with_answers to it
module _ {A : Type 0} (f : Result Float Refusal → A → A) where
  pub written-length : (l : List (Result Float Refusal)) (xs : List A) → length (with_answers f l xs) ≡ length xs
  unfolding with_answers
  written-length [] xs = refl
  written-length (a ∷ l) [] = refl
  written-length (a ∷ l) (x ∷ xs) = ap suc (written-length l xs)

  pub written_at : (l : List (Result Float Refusal)) (xs : List A) (i : ℕ) (e : Result Float Refusal) (d : A) → i < length l → i < length xs → get_or (with_answers f l xs) i d ≡ f (get_or l i e) (get_or xs i d)
  unfolding with_answers
  written_at [] xs i e d h k = absurd (omega arith)
  written_at (a ∷ l) [] i e d h k = absurd (omega arith)
  written_at (a ∷ l) (x ∷ xs) zero e d h k = refl
  written_at (a ∷ l) (x ∷ xs) (suc i) e d h k = written_at l xs i e d (omega arith) (omega arith)

  -- one answer more
  more : (l : List (Result Float Refusal)) (a : Result Float Refusal) (xs : List A) (d : A) → set (with_answers f l xs) (length l) (f a (get_or (with_answers f l xs) (length l) d)) ≡ with_answers f (l ++ (a ∷ [])) xs
  unfolding with_answers
  more [] a [] d = refl
  more [] a (x ∷ xs) d = refl
  more (b ∷ l) a [] d = refl
  more (b ∷ l) a (x ∷ xs) d = ap (λ (z : List A). f b x ∷ z) (more l a xs d)

  pub written_next : (a : ℕ → (Result Float Refusal)) (i : ℕ) (xs₀ xs : List A) (d : A) (r : Result Float Refusal) (x : A) → xs ≡ with_answers f (places a i) xs₀ → r ≡ a i → x ≡ f r (get_or xs i d)
      → set xs i x ≡ with_answers f (places a (i + 1)) xs₀
  unfolding places
  written_next a i xs₀ xs d r x h e k = rw (add-one i, k, e, h) (at i (places-length a i))
    where
      at : (n : ℕ) → length (places a i) ≡ n → set (with_answers f (places a i) xs₀) n (f (a i) (get_or (with_answers f (places a i) xs₀) n d)) ≡ with_answers f (places a i ++ (a i ∷ [])) xs₀
      at n q = rw (← q) (more (places a i) (a i) xs₀ d)

finite-more : (l : List (Result Float Refusal)) (a : Result Float Refusal) → EachFinite l → GivesFinite a → EachFinite (l ++ (a ∷ []))
unfolding EachFinite
finite-more [] a h g = (g, tt)
finite-more (b ∷ l) a h g = (h.0, finite-more l a h.1 g)

finite-at : (l : List (Result Float Refusal)) (i : ℕ) (d : Result Float Refusal) → i < length l → EachFinite l → GivesFinite (get_or l i d)
unfolding EachFinite
finite-at [] i d k h = absurd (omega arith)
finite-at (a ∷ l) zero d k h = h.0
finite-at (a ∷ l) (suc i) d k h = finite-at l i d (omega arith) h.1

-- ---- the loop: a is the answer at each place, of which i are with_answers
pub record Filling (a : ℕ → (Result Float Refusal)) (count : ℕ) (numbers₀ : List ℕ) (metres₀ : List ℕ) (numbers : List ℕ) (metres : List ℕ) (i : ℕ) : Type 0 where
  pub within : i ≤ count
  pub numbers-so-far : numbers ≡ with_answers number_after (places a i) numbers₀
  pub metres_so-far : metres ≡ with_answers pattern_after (places a i) metres₀
  pub finite-so-far : EachFinite (places a i)

module _ (a : ℕ → (Result Float Refusal)) (count : ℕ) (numbers₀ : List ℕ) (metres₀ : List ℕ) where
  pub filling_start : Filling a count numbers₀ metres₀ numbers₀ metres₀ 0
  unfolding places with_answers EachFinite
  filling_start = record { within = omega arith; numbers-so-far = refl; metres_so-far = refl; finite-so-far = tt }

  module _ (numbers : List ℕ) (metres : List ℕ) (i : ℕ) (s : Filling a count numbers₀ metres₀ numbers metres i) where
    pub filling_numbers : length numbers ≡ length numbers₀
    filling_numbers = ap length s.numbers-so-far ∙ written-length number_after (places a i) numbers₀

    pub filling_metres : length metres ≡ length metres₀
    filling_metres = ap length s.metres_so-far ∙ written-length pattern_after (places a i) metres₀

    pub filling_next : i < count → (r : Result Float Refusal) (x y : ℕ) → r ≡ a i → GivesFinite r → x ≡ answer_number r → y ≡ pattern_after r (get_or metres i 0)
        → Filling a count numbers₀ metres₀ (set numbers i x) (set metres i y) (i + 1)
    unfolding places
    filling_next h r x y e g p q =
        record {
          within = omega arith;
          numbers-so-far = written_next number_after a i numbers₀ numbers 0 r x s.numbers-so-far e p;
          metres_so-far = written_next pattern_after a i metres₀ metres 0 r y s.metres_so-far e q;
          finite-so-far = rw (add-one i) (finite-more (places a i) (a i) s.finite-so-far (rw e at g));
        }

    pub filling_end : count ≤ i → Replies (answers (places a count)) 0 numbers₀ metres₀ numbers metres
    filling_end h =
        let z : i ≡ count = omega (arith, s.within) in
        rw (← z) (record { number_is = refl; numbers_after = s.numbers-so-far; metres_after = s.metres_so-far; all-finite = s.finite-so-far })

-- ---- columns that are long enough
pub record Long (q : Asked) (numbers metres : List ℕ) : Type 0 where
  pub in_c : q.count ≤ length q.constellations
  pub in-v : q.count ≤ length q.svids
  pub in_b : q.count ≤ length q.bands
  pub in-t : q.count ≤ length q.times
  pub in-numbers : q.count ≤ length numbers
  pub in_metres : q.count ≤ length metres

pub not_short : (q : Asked) (numbers metres : List ℕ) → places_short q numbers metres ≡ false → Long q numbers metres
unfolding places_short
not_short q numbers metres e =
    let h = or_no _ (ltb (length metres) q.count) e in
    let g = or_no _ (ltb (length numbers) q.count) h.0 in
    let f = or_no _ (ltb (length q.times) q.count) g.0 in
    let d = or_no _ (ltb (length q.bands) q.count) f.0 in
    let a = or_no (ltb (length q.constellations) q.count) (ltb (length q.svids) q.count) d.0 in
    record {
      in_c = ltb-false (length q.constellations) q.count a.0;
      in-v = ltb-false (length q.svids) q.count a.1;
      in_b = ltb-false (length q.bands) q.count d.1;
      in-t = ltb-false (length q.times) q.count f.1;
      in-numbers = ltb-false (length numbers) q.count g.1;
      in_metres = ltb-false (length metres) q.count h.1;
    }

-- ---- the reply, way by way
pub refused-reply : {o : Reply} (r : Refusal) (numbers : List ℕ) (metres : List ℕ) → o ≡ refusal r → (Err r ≡ asking_of o) × Replies o (number_of r) numbers metres numbers metres
refused-reply r numbers metres e = rw e (refl, record { number_is = refl; numbers_after = refl; metres_after = refl; all-finite = tt })

pub same-reply : {o p : Reply} {number : ℕ} {numbers : List ℕ} {metres : List ℕ} {numbers' : List ℕ} {metres' : List ℕ} → o ≡ p → Replies p number numbers metres numbers' metres' → Replies o number numbers metres numbers' metres'
same-reply e h = rw e h

pub answered-reply : {o : Reply} {l : List (Result Float Refusal)} {numbers : List ℕ} {metres : List ℕ} {numbers' : List ℕ} {metres' : List ℕ} → o ≡ answers l → Replies (answers l) 0 numbers metres numbers' metres'
    → (◌≡◌ {A = Result ⊤ Refusal} (Ok tt) (asking_of o)) × Replies o 0 numbers metres numbers' metres'
answered-reply e h = rw e (refl, h)

module _ (m n room : ℕ) (d : Directory) (gap : Float) (q : Asked) (numbers metres : List ℕ) where
  pub short-lent : places_short q numbers metres ≡ true → queries_in m n room d gap q numbers metres ≡ refusal TooMany
  unfolding queries_in ruled
  short-lent h = rw (h, either (ltb room m || ltb room n))
    where
      either : (w : Bool) → (w || true) ≡ true
      either true = refl
      either false = refl

  module _ (h : places_short q numbers metres ≡ false) where
    -- where a test of the table refuses
    pub table-refused : (r : Refusal) → Err r ≡ table_test m n room d gap → queries_in m n room d gap q numbers metres ≡ refusal r
    unfolding queries_in table_test ruled
    table-refused r e = rw h (go (places (query_at m n room d gap q) q.count) (ltb room m || ltb room n) (in_range gap) (sound_directory d) e)
      where
        go : (x : List (Result Float Refusal)) (w y s : Bool)
            → ◌≡◌ {A = Result ⊤ Refusal} (Err r) (cond w (Err TooMany) (cond (not y) (Err SettingOutOfRange) (cond (not s) (Err RecordOutOfRange) (Ok tt))))
            → cond (w || false) (refusal TooMany) (cond (not y) (refusal SettingOutOfRange) (cond (not s) (refusal RecordOutOfRange) (answers x))) ≡ refusal r
        go x true y s e = let z : TooMany ≡ r = cc in ap refusal z
        go x false false s e = let z : SettingOutOfRange ≡ r = cc in ap refusal z
        go x false true false e = let z : RecordOutOfRange ≡ r = cc in ap refusal z
        go x false true true e = cc

    -- where they all pass
    pub all-answered : PassedQuery m n room d gap → queries_in m n room d gap q numbers metres ≡ answers (places (query_at m n room d gap q) q.count)
    unfolding queries_in ruled
    all-answered p = rw (h, le-ltb room m p.few-entries, le-ltb room n p.few-samples, p.in-range, p.sound)

-- ---- one call gives what as many single queries give
module _ (m n room : ℕ) (d : Directory) (gap : Float) (q : Asked) (numbers metres : List ℕ) where
  -- where the call answers, its columns are long enough and its reply has the query at each place
  answering : asking_of (queries_in m n room d gap q numbers metres) ≡ (Ok tt)
      → (places_short q numbers metres ≡ false) × (queries_in m n room d gap q numbers metres ≡ answers (places (query_at m n room d gap q) q.count))
  unfolding queries_in ruled
  answering = go (ltb room m || ltb room n) (places_short q numbers metres) (not (in_range gap)) (not (sound_directory d))
    where
      all : Reply
      all = answers (places (query_at m n room d gap q) q.count)

      go : (w x y z : Bool) → asking_of (cond (w || x) (refusal TooMany) (cond y (refusal SettingOutOfRange) (cond z (refusal RecordOutOfRange) all))) ≡ (Ok tt)
          → (x ≡ false) × (cond (w || x) (refusal TooMany) (cond y (refusal SettingOutOfRange) (cond z (refusal RecordOutOfRange) all)) ≡ all)
      go true x y z e = cc
      go false true y z e = cc
      go false false true z e = cc
      go false false false true e = cc
      go false false false false e = (refl, refl)

  module _ (numbers' : List ℕ) (metres' : List ℕ) (e : (Ok tt) ≡ asking_of (queries_in m n room d gap q numbers metres)) (h : Replies (queries_in m n room d gap q numbers metres) 0 numbers metres numbers' metres') (i : ℕ) (k : i < q.count) where
    is : Replies (answers (places (query_at m n room d gap q) q.count)) 0 numbers metres numbers' metres'
    is = same-reply (sym (answering (sym e)).1) h

    long : Long q numbers metres
    long = not_short q numbers metres (answering (sym e)).0

    answer : (x : Result Float Refusal) → get_or (places (query_at m n room d gap q) q.count) i x ≡ query_at m n room d gap q i
    answer x = places-at (query_at m n room d gap q) q.count i x k

    nothing : Result Float Refusal
    nothing = Err TooMany

    inside : i < length (places (query_at m n room d gap q) q.count)
    inside = omega (arith, places-length (query_at m n room d gap q) q.count)

    -- the number of each place is that of the query there
    pub number_at : get_or numbers' i 0 ≡ answer_number (query_at m n room d gap q i)
    number_at =
        ap (λ (x : List ℕ). get_or x i 0) is.numbers_after ∙ written_at number_after (places (query_at m n room d gap q) q.count) numbers i nothing 0 inside (omega (arith, long.in-numbers)) ∙ ap answer_number (answer nothing)

    -- the pattern of its metres is that of the query there, and as they were where that is refused
    pub metres_at : get_or metres' i 0 ≡ pattern_after (query_at m n room d gap q i) (get_or metres i 0)
    metres_at =
        ap (λ (x : List ℕ). get_or x i 0) is.metres_after ∙ written_at pattern_after (places (query_at m n room d gap q) q.count) metres i nothing 0 inside (omega (arith, long.in_metres))
        ∙ ap (λ (a : Result Float Refusal). pattern_after a (get_or metres i 0)) (answer nothing)

    -- and every correction given is finite
    pub finite-there : GivesFinite (query_at m n room d gap q i)
    finite-there = subst GivesFinite (answer nothing) (finite-at (places (query_at m n room d gap q) q.count) i nothing inside is.all-finite)
