-- Just which answers request (vi) changed: those past a signal's last sample by less than 1e-6 s in the rounded difference. Assumes nothing.
use Rattle.std.specs.Prelude.{Result, Ok, Err}
use Rattle.numeric.specs.declared.refusal.Refusal.{Refusal}
use mathlib.Core.Path.{◌≡◌, refl, sym, ap, ◌∙◌}
use mathlib.Core.List.{List, [], ◌∷◌}
use mathlib.Core.Bool.{Bool, true, false, cond, not, and-false, or-true, ◌&&◌, ◌||◌}
use mathlib.Core.Logic.{◌⊎◌, inl, inr, ⊎_elim}
use Prim.Native.Nat.{ℕ, zero, suc, ◌+◌, ◌*◌, ◌^◌, ◌≤◌, ◌<◌}
use native.Mathlib.Omega.{arith}
use lib.Dec.{T, eqb, ltb}
use lib.ListN.{length, get_or}
use borrow.Author.Tests.{eqb-true, ltb-true, ltb-false, le-ltb}
use lib.Ieee.{Float, nan, inf, fin, lt, add, sub, neg, fits, binary64, of_bits}
use lib.Ieee.Scale.{finite}
use Rattle.lists.proofs.Walk.{or_no}
use Rattle.numeric.specs.Real.{abs, in_range}
use Rattle.numeric.proofs.RealLaws.{in-range-finite}
use Rattle.numeric.specs.declared.refusal.Refusal.TheVariants.{TooMany, SettingOutOfRange, RecordOutOfRange, NoCorrection}
use Rattle.signal.specs.Signal.{signal}
use Rattle.numeric.specs.Rules.{ruled}
use Rattle.corrections_table.specs.Table.{blank, series_of, signal_of, sound_table}
use Rattle.corrections_table.specs.declared.sample.Sample.{Sample}
use Rattle.corrections_table.proofs.Places.{place_of, time_key}
use Rattle.corrections_table.proofs.TableLaws.{SoundTable, sound-at, and_right}
use Rattle.corrections_table.proofs.UnitLaws.{earlier-of, never}
use Rattle.corrections_directory.specs.Directory.{Directory, flat, sound_directory}
use Rattle.corrections_directory.proofs.DirectoryLaws.{sound-flat}
use Rattle.corrections_query.specs.Query.{Found, missing, the, near, first_of, last_of, last_before, first_since, near_or, spanned, correction_rule, answer_in, answer_at, guarded, query_in, PassedQuery, Passes}
use Rattle.corrections_query.specs.Past.{former_rule, former_answer, query_before, is_of, JustPast}
use Rattle.corrections_query.proofs.FoundLaws.{earlier, later, earlier_series, later_series, first-none, last_none}
use Rattle.corrections_query.proofs.QueryLaws.{TimesHeld}

-- ---- the two rules, by what was found before the time and from it on
module _ (gap t : Float) where
  -- where there is a sample at or after the time, they agree
  with-since : (f : Found) (b : Sample) → correction_rule gap t f (the b) ≡ former_rule gap t f (the b)
  unfolding correction_rule near_or spanned former_rule
  with-since missing b = refl
  with-since (the a) b = refl

  -- where there is none, the old one refuses, and the new one gives the sample before where that is near
  alone : (f : Found) → former_rule gap t f missing ≡ Err NoCorrection
  unfolding former_rule
  alone f = refl

  close-by : (a : Sample) → near a.time t ≡ true → correction_rule gap t (the a) missing ≡ Ok a.correction
  unfolding correction_rule near_or spanned
  close-by a e = rw e

  far-off : (a : Sample) → near a.time t ≡ false → correction_rule gap t (the a) missing ≡ Err NoCorrection
  unfolding correction_rule near_or spanned
  far-off a e = rw e

  empty : correction_rule gap t missing missing ≡ Err NoCorrection
  unfolding correction_rule near_or spanned
  empty = refl

-- ---- the last sample of a signal, by its place
pub record LastAt (q : Sample → Bool) (l : List Sample) (a : Sample) : Type 0 where
  pub at : ℕ
  pub within : at < length l
  pub is : get_or l at blank ≡ a
  pub passes : q a ≡ true
  pub after : (j : ℕ) → at < j → j < length l → q (get_or l j blank) ≡ false

abbrev None : (Sample → Bool) → List Sample → Type 0
None q l = (j : ℕ) → j < length l → q (get_or l j blank) ≡ false

last-place : (q : Sample → Bool) (f : Found) (l : List Sample) (a : Sample) → last_of q f l ≡ the a → ((f ≡ the a) × None q l) ⊎ LastAt q l a
unfolding last_of
last-place q f [] a e = inl (e, λ j h. absurd (omega arith))
last-place q f (s ∷ l) a e = go (q s) refl (last-place q (cond (q s) (the s) f) l a e)
  where
    go : (x : Bool) → q s ≡ x → ((cond (q s) (the s) f ≡ the a) × None q l) ⊎ LastAt q l a → ((f ≡ the a) × None q (s ∷ l)) ⊎ LastAt q (s ∷ l) a
    go x p (inr r) =
        inr
        (record {
          at = suc r.at;
          within = omega (arith, r.within);
          is = r.is;
          passes = r.passes;
          after = later-on;
        })
      where
        later-on : (j : ℕ) → suc r.at < j → j < length (s ∷ l) → q (get_or (s ∷ l) j blank) ≡ false
        later-on zero h k = absurd (omega arith)
        later-on (suc j) h k = r.after j (omega arith) (omega arith)
    go true p (inl r) =
        let u : the s ≡ the a = rw p at r.0 in
        let z : s ≡ a = cc in
        inr (record { at = 0; within = omega arith; is = z; passes = rw (← z) p; after = later-on })
      where
        later-on : (j : ℕ) → 0 < j → j < length (s ∷ l) → q (get_or (s ∷ l) j blank) ≡ false
        later-on zero h k = absurd (omega arith)
        later-on (suc j) h k = r.1 j (omega arith)
    go false p (inl r) = inl (rw p at r.0, none)
      where
        none : (j : ℕ) → j < length (s ∷ l) → q (get_or (s ∷ l) j blank) ≡ false
        none zero k = p
        none (suc j) k = r.1 j (omega arith)

nothing : {A : Type 0} (a : Sample) → missing ≡ the a → A
nothing a e = absurd (let z : ◌≡◌ {A = ℕ} 0 1 = cc in omega arith)

last_found : (q : Sample → Bool) (l : List Sample) (a : Sample) → last_of q missing l ≡ the a → LastAt q l a
last_found q l a e = ⊎_elim (λ (w : (missing ≡ the a) × None q l). nothing a w.0) (λ (w : LastAt q l a). w) (last-place q missing l a e)

-- ---- no sample of the signal g is at or after t, and the last one before it, a, is near
record PastAll (ss : List Sample) (g : ℕ) (t : Float) (a : Sample) : Type 0 where
  none-since : first_since t (series_of g ss) ≡ missing
  last-before : last_before t (series_of g ss) ≡ the a
  close : near a.time t ≡ true

-- then the last one before t is the last one
last-of-all : (g : ℕ) (t : Float) (f : Found) (l : List Sample) → first_of (later g t) l ≡ missing → last_of (earlier g t) f l ≡ last_of (is_of g) f l
unfolding first_of last_of
last-of-all g t f [] e = refl
last-of-all g t f (s ∷ l) e = go (eqb (signal_of s) g) (lt s.time t) e (λ h k. last-of-all g t h l k)
  where
    go : (x y : Bool) → cond (x && not y) (the s) (first_of (later g t) l) ≡ missing → ((h : Found) → first_of (later g t) l ≡ missing → last_of (earlier g t) h l ≡ last_of (is_of g) h l)
        → last_of (earlier g t) (cond (x && y) (the s) f) l ≡ last_of (is_of g) (cond x (the s) f) l
    go true true k ih = ih (the s) k
    go true false k ih = nothing s (sym k)
    go false y k ih = ih f k

passed-last : (ss : List Sample) (g : ℕ) (t : Float) (a : Sample) → PastAll ss g t a → JustPast ss g t a
passed-last ss g t a p =
    let none : first_of (later g t) ss ≡ missing = sym (later_series g t ss) ∙ p.none-since in
    let last : last_of (earlier g t) missing ss ≡ the a = sym (earlier_series g t ss) ∙ p.last-before in
    record {
      last = sym (last-of-all g t missing ss none) ∙ last;
      past = and_right (is_of g a) (lt a.time t) (last_found (earlier g t) ss a last).passes;
      close = p.close;
    }

-- two samples of one signal, in the table's order, by their times
keys-le : (a b : Sample) → place_of a ≤ place_of b → signal_of a ≡ signal_of b → time_key a.time ≤ time_key b.time
keys-le a b h e = keys (signal_of a) (signal_of b) (time_key a.time) (time_key b.time) e h
  where
    keys : (g l j k : ℕ) → g ≡ l → g * 2 ^ 64 + j ≤ l * 2 ^ 64 + k → j ≤ k
    keys g l j k e r = omega arith

-- a table in order whose last sample of the signal is before t has none at or after t
last-passed : (ss : List Sample) (g : ℕ) (t : Float) (a : Sample) → T (fits binary64 t) → SoundTable ss → TimesHeld ss → JustPast ss g t a → PastAll ss g t a
unfolding TimesHeld
last-passed ss g t a ft s w p =
    record {
      none-since = later_series g t ss ∙ none;
      last-before = earlier_series g t ss ∙ last-of-all g t missing ss none ∙ p.last;
      close = p.close;
    }
  where
    la : LastAt (is_of g) ss a
    la = last_found (is_of g) ss a p.last

    each : (j : ℕ) → j < length ss → later g t (get_or ss j blank) ≡ false
    each j h = go (eqb (signal_of (get_or ss j blank)) g) refl
      where
        past : lt (get_or ss la.at blank).time t ≡ true
        past = rw la.is p.past

        go : (x : Bool) → eqb (signal_of (get_or ss j blank)) g ≡ x → (x && not (lt (get_or ss j blank).time t)) ≡ false
        go false e = refl
        go true e = by (ltb la.at j) refl
          where
            mine : signal_of (get_or ss la.at blank) ≡ g
            mine = rw la.is (eqb-true (signal_of a) g la.passes)

            by : (y : Bool) → ltb la.at j ≡ y → not (lt (get_or ss j blank).time t) ≡ false
            by true q = never (sym (la.after j (ltb-true la.at j q) h) ∙ e)
            by false q =
                let le = s.rising j la.at (ltb-false la.at j q) la.within in
                let keys = keys-le (get_or ss j blank) (get_or ss la.at blank) le (eqb-true (signal_of (get_or ss j blank)) g e ∙ sym mine) in
                rw (earlier-of (get_or ss j blank).time (get_or ss la.at blank).time t (w j h) (w la.at la.within) ft (s.times j h) (s.times la.at la.within) keys past)

    none : first_of (later g t) ss ≡ missing
    none = first-none (later g t) ss each

-- ---- for every table that columns hold, every gap limit, signal and time
module _ (ss : List Sample) (gap : Float) (c v b : ℕ) (t : Float) where
  -- the answers are equal where the time is not just past the signal's last sample, in order or not
  pub answer-kept : ((a : Sample) → JustPast ss (signal c v b) t a → ⊥) → answer_at ss gap c v b t ≡ former_answer ss gap c v b t
  unfolding answer_at answer_in former_answer
  answer-kept nay = go (last_before t (series_of (signal c v b) ss)) (first_since t (series_of (signal c v b) ss)) refl refl
    where
      go : (f h : Found) → last_before t (series_of (signal c v b) ss) ≡ f → first_since t (series_of (signal c v b) ss) ≡ h → correction_rule gap t f h ≡ former_rule gap t f h
      go f (the x) e k = with-since gap t f x
      go missing missing e k = empty gap t ∙ sym (alone gap t missing)
      go (the a) missing e k = test (near a.time t) refl
        where
          test : (x : Bool) → near a.time t ≡ x → correction_rule gap t (the a) missing ≡ former_rule gap t (the a) missing
          test true q = absurd (nay a (passed-last ss (signal c v b) t a record { none-since = k; last-before = e; close = q }))
          test false q = far-off gap t a q ∙ sym (alone gap t (the a))

  -- there the old one is 12, and the new one that sample's value
  pub answer-changed : T (fits binary64 t) → sound_table ss ≡ true → TimesHeld ss → (a : Sample) → JustPast ss (signal c v b) t a
      → (former_answer ss gap c v b t ≡ Err NoCorrection) × (answer_at ss gap c v b t ≡ Ok a.correction)
  unfolding answer_at answer_in former_answer
  answer-changed ft s w a j =
      let p = last-passed ss (signal c v b) t a ft (sound-at ss s) w j in
      (rw p.none-since (alone gap t (last_before t (series_of (signal c v b) ss))), rw (p.none-since, p.last-before) (close-by gap t a p.close))

-- ---- the call, for every directory, sound or not
module _ (m n room : ℕ) (d : Directory) (gap : Float) (c v b : ℕ) (t : Float) where
  -- what is asked of a query that 2 to 4 let pass
  passes-through : Passes m n room d gap t → (a : Result Float Refusal) → guarded (ltb room m || ltb room n) (sound_directory d) gap t a ≡ a
  unfolding guarded ruled
  passes-through p a = rw (le-ltb room m p.table.few-entries, le-ltb room n p.table.few-samples, p.table.in-range, p.table.sound, p.time)

  -- of one that they turn away nothing is asked
  turned-away : (Passes m n room d gap t → ⊥) → (x y : Result Float Refusal) → guarded (ltb room m || ltb room n) (sound_directory d) gap t x ≡ guarded (ltb room m || ltb room n) (sound_directory d) gap t y
  unfolding guarded ruled
  turned-away nay x y = go (ltb room m || ltb room n) (in_range gap) (sound_directory d) (in_range t || not (finite t)) refl refl refl refl
    where
      go : (e f g h : Bool) → (ltb room m || ltb room n) ≡ e → in_range gap ≡ f → sound_directory d ≡ g → (in_range t || not (finite t)) ≡ h
          → cond e (Err TooMany) (cond (not f) (Err SettingOutOfRange) (cond (not (g && h)) (Err RecordOutOfRange) x))
          ≡ cond e (Err TooMany) (cond (not f) (Err SettingOutOfRange) (cond (not (g && h)) (Err RecordOutOfRange) y))
      go true f g h p q r s = refl
      go false false g h p q r s = refl
      go false true false h p q r s = refl
      go false true true false p q r s = refl
      go false true true true p q r s =
          let k = or_no (ltb room m) (ltb room n) p in
          absurd
          (nay
          (record {
            table = record { few-entries = ltb-false room m k.0; few-samples = ltb-false room n k.1; in-range = q; sound = r };
            time = s;
          }))

  -- a query that 2 to 4 let pass gives the answer of the samples
  pub query_passed : Passes m n room d gap t → query_in m n room d gap c v b t ≡ answer_at (flat d) gap c v b t
  unfolding query_in
  query_passed p = passes-through p (answer_at (flat d) gap c v b t)

  -- what 2 to 4 turn away keeps its number
  pub query_refused : (Passes m n room d gap t → ⊥) → query_in m n room d gap c v b t ≡ query_before m n room d gap c v b t
  unfolding query_in query_before
  query_refused nay = turned-away nay (answer_at (flat d) gap c v b t) (former_answer (flat d) gap c v b t)

  -- where the time is not just past the signal's last sample, the answer is the old one
  pub query_kept : ((a : Sample) → JustPast (flat d) (signal c v b) t a → ⊥) → query_in m n room d gap c v b t ≡ query_before m n room d gap c v b t
  unfolding query_in query_before
  query_kept nay = ap (guarded (ltb room m || ltb room n) (sound_directory d) gap t) (answer-kept (flat d) gap c v b t nay)

  -- where it is and 2 to 4 pass, 12 became that sample's value
  pub query_changed : Passes m n room d gap t → T (fits binary64 t) → TimesHeld (flat d) → (a : Sample) → JustPast (flat d) (signal c v b) t a
      → (query_before m n room d gap c v b t ≡ Err NoCorrection) × (query_in m n room d gap c v b t ≡ Ok a.correction)
  unfolding query_in query_before
  query_changed p ft w a j =
      let k = answer-changed (flat d) gap c v b t ft (sound-flat d p.table.sound) w a j in
      (passes-through p (former_answer (flat d) gap c v b t) ∙ k.0, passes-through p (answer_at (flat d) gap c v b t) ∙ k.1)

-- ---- a time that is not finite
near-never : (x t : Float) → finite t ≡ false → near x t ≡ false
unfolding near abs sub add neg lt of_bits
near-never x (fin u n d) h = never (sym h)
near-never nan nan h = refl
near-never nan (inf u) h = refl
near-never (inf s) nan h = refl
near-never (inf true) (inf true) h = refl
near-never (inf true) (inf false) h = refl
near-never (inf false) (inf true) h = refl
near-never (inf false) (inf false) h = refl
near-never (fin s m e) nan h = refl
near-never (fin s m e) (inf u) h = refl

-- so it is the ends that decide
ends-decide : (gap t : Float) (f h : Found) → finite t ≡ false → correction_rule gap t f h ≡ spanned gap t f h
unfolding correction_rule near_or
ends-decide gap t missing missing n = refl
ends-decide gap t missing (the b) n = rw (near-never b.time t n)
ends-decide gap t (the a) missing n = rw (near-never a.time t n)
ends-decide gap t (the a) (the b) n = rw (near-never b.time t n, near-never a.time t n)

no-first : (gap t : Float) (f h : Found) → f ≡ missing → spanned gap t f h ≡ Err NoCorrection
unfolding spanned
no-first gap t f h e = rw e

no_last : (gap t : Float) (f h : Found) → h ≡ missing → spanned gap t f h ≡ Err NoCorrection
unfolding spanned
no_last gap t missing h e = refl
no_last gap t (the a) h e = rw e

-- nothing is before a NaN or before all numbers, and every number is before the infinity above all
before-nan : (x : Float) → lt x nan ≡ false
unfolding lt
before-nan nan = refl
before-nan (inf s) = refl
before-nan (fin s m e) = refl

before-all : (x : Float) → lt x (inf true) ≡ false
unfolding lt
before-all nan = refl
before-all (inf true) = refl
before-all (inf false) = refl
before-all (fin s m e) = refl

before_above : (x : Float) → finite x ≡ true → lt x (inf false) ≡ true
unfolding lt
before_above nan h = never h
before_above (inf s) h = never h
before_above (fin s m e) h = refl

-- of a sound table none is found on one of the two sides
pub answer-timeless : (ss : List Sample) (gap : Float) (c v b : ℕ) (t : Float) → sound_table ss ≡ true → finite t ≡ false → answer_at ss gap c v b t ≡ Err NoCorrection
unfolding answer_at answer_in
answer-timeless ss gap c v b t s n =
    let g = signal c v b in
    rw (earlier_series g t ss, later_series g t ss) (ends-decide gap t (last_of (earlier g t) missing ss) (first_of (later g t) ss) n ∙ side t n)
  where
    none_before : (u : Float) → ((x : Float) → lt x u ≡ false) → last_of (earlier (signal c v b) u) missing ss ≡ missing
    none_before u k = last_none (earlier (signal c v b) u) missing ss (λ j h. rw (k (get_or ss j blank).time) (and-false (is_of (signal c v b) (get_or ss j blank))))

    side : (u : Float) → finite u ≡ false → spanned gap u (last_of (earlier (signal c v b) u) missing ss) (first_of (later (signal c v b) u) ss) ≡ Err NoCorrection
    side (fin r m e) k = never (sym k)
    side nan k = no-first gap nan _ (first_of (later (signal c v b) nan) ss) (none_before nan before-nan)
    side (inf true) k = no-first gap (inf true) _ (first_of (later (signal c v b) (inf true)) ss) (none_before (inf true) before-all)
    side (inf false) k =
        no_last gap (inf false) (last_of (earlier (signal c v b) (inf false)) missing ss) _
        (first-none (later (signal c v b) (inf false)) ss
        (λ j h. rw (before_above (get_or ss j blank).time (in-range-finite (get_or ss j blank).time ((sound-at ss s).times j h))) (and-false (is_of (signal c v b) (get_or ss j blank)))))

-- the call: 12 once 2 to 4 pass
pub query_timeless : (m n room : ℕ) (d : Directory) (gap : Float) (c v b : ℕ) (t : Float) → PassedQuery m n room d gap → finite t ≡ false → query_in m n room d gap c v b t ≡ Err NoCorrection
query_timeless m n room d gap c v b t p e =
    query_passed m n room d gap c v b t (record { table = p; time = rw e (or-true (in_range t)) }) ∙ answer-timeless (flat d) gap c v b t (sound-flat d p.sound) e
