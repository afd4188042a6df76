-- The numbers of the calls, and one query as one place of many. Assumes nothing.
use Rattle.numeric.specs.Refusal.{answer_number}
use Rattle.std.specs.Prelude.{Result, Ok, Err, ⊤}
use mathlib.Core.Path.{◌≡◌, refl, sym, ap, subst, ◌∙◌}
use mathlib.Core.Bool.{Bool, true, false, not, ◌||◌, cond, ◌&&◌}
use mathlib.Core.List.{List, [], ◌∷◌}
use Prim.Native.Nat.{ℕ}
use native.Mathlib.Omega.{arith}
use lib.Dec.{ltb}
use lib.ListN.{get_or}
use lib.Ieee.{Float}
use Rattle.numeric.specs.Refusal.{number_of}
use Rattle.numeric.specs.declared.refusal.Refusal.{Refusal}
use Rattle.numeric.specs.declared.refusal.Refusal.TheVariants.{TooMany, SettingOutOfRange, RecordOutOfRange}
use Rattle.numeric.specs.Rules.{ruled}
use Rattle.corrections_directory.specs.Directory.{Directory, flat, sound_directory}
use lib.Ieee.Scale.{finite}
use Rattle.numeric.specs.Real.{in_range}
use Rattle.lists.specs.Walk.{places}
use Rattle.corrections_query.specs.Query.{query_in, pattern_after, GivesFinite, Answers, guarded, answer_at}
use Rattle.corrections_queries.specs.Queries.{Asked, Reply, refusal, answers, places_short, queries_in, asking_of, Replies, query_at}
use Rattle.corrections_queries.proofs.QueriesLaws.{number_at, metres_at, finite-there}

refused-of : (o : Reply) (r : Refusal) → Err r ≡ asking_of o → o ≡ refusal r
refused-of (refusal s) r e = let z : r ≡ s = cc in ap refusal (sym z)
refused-of (answers l) r e = cc

-- a call whose columns are long enough, or whose table is refused by 2, is refused as every single query is
each-refused : (m n room : ℕ) (d : Directory) (gap : Float) (q : Asked) (numbers metres : List ℕ)
    → ((ltb room m || ltb room n) || not (places_short q numbers metres)) ≡ true → (r : Refusal) → queries_in m n room d gap q numbers metres ≡ refusal r
    → (c' v' b' : ℕ) (t' : Float) → query_in m n room d gap c' v' b' t' ≡ Err r
unfolding queries_in query_in guarded ruled
each-refused m n room d gap q numbers metres h r e c' v' b' t' = go (ltb room m || ltb room n) (places_short q numbers metres) (not (in_range gap)) (sound_directory d) h e
  where
    go : (w x y z : Bool) → (w || not x) ≡ true → cond (w || x) (refusal TooMany) (cond y (refusal SettingOutOfRange) (cond (not z) (refusal RecordOutOfRange) (answers (places (query_at m n room d gap q) q.count)))) ≡ refusal r
        → cond w (Err TooMany) (cond y (Err SettingOutOfRange) (cond (not (z && (in_range t' || not (finite t')))) (Err RecordOutOfRange) (answer_at (flat d) gap c' v' b' t'))) ≡ Err r
    go true x y z p q = let k : TooMany ≡ r = cc in ap Err k
    go false true y z p q = cc
    go false false true z p q = let k : SettingOutOfRange ≡ r = cc in ap Err k
    go false false false false p q = let k : RecordOutOfRange ≡ r = cc in ap Err k
    go false false false true p q = cc

-- ---- one query is one place of many: x is the answer of the call inside
abbrev single : ℕ → ℕ → ℕ → Float → Asked
single c v b t = record { constellations = c ∷ []; svids = v ∷ []; bands = b ∷ []; times = t ∷ []; count = 1 }

module _ (m n room : ℕ) (d : Directory) (gap : Float) (c v b : ℕ) (t : Float) (k z : ℕ) where
  abbrev one : Reply
  one = queries_in m n room d gap (single c v b t) (k ∷ []) (z ∷ [])

  long : places_short (single c v b t) (k ∷ []) (z ∷ []) ≡ false
  unfolding places_short
  long = refl

  either : (x : Bool) → (x || true) ≡ true
  either true = refl
  either false = refl

  asked : ((ltb room m || ltb room n) || not (places_short (single c v b t) (k ∷ []) (z ∷ []))) ≡ true
  asked = rw long (either (ltb room m || ltb room n))

  pub one-refused : {x : Result ⊤ Refusal} (r : Refusal) {a : ℕ} (y : ℕ) → x ≡ Err r → a ≡ number_of r → x ≡ asking_of one
      → Answers (query_in m n room d gap c v b t) a y y
  one-refused r y e k' h =
      let q : query_in m n room d gap c v b t ≡ Err r =
      each-refused m n room d gap (single c v b t) (k ∷ []) (z ∷ []) asked r (refused-of one r (sym e ∙ h)) c v b t in
      rw q (record { number_is = k'; metres_are = refl; given-finite = tt })

  module _ {x : Result ⊤ Refusal} (numbers' : List ℕ) (metres' : List ℕ) (e : x ≡ (Ok tt)) (h : (x ≡ asking_of one) × Replies one (answer_number x) (k ∷ []) (z ∷ []) numbers' metres') where
    told : (Ok tt) ≡ asking_of one
    told = sym e ∙ h.0

    inside : Replies one 0 (k ∷ []) (z ∷ []) numbers' metres'
    inside = subst (λ (a : Result ⊤ Refusal). Replies one (answer_number a) (k ∷ []) (z ∷ []) numbers' metres') e h.1

    number_is : get_or numbers' 0 0 ≡ answer_number (query_in m n room d gap c v b t)
    number_is = number_at m n room d gap (single c v b t) (k ∷ []) (z ∷ []) numbers' metres' told inside 0 (omega arith)

    metres_are : get_or metres' 0 0 ≡ pattern_after (query_in m n room d gap c v b t) z
    metres_are = metres_at m n room d gap (single c v b t) (k ∷ []) (z ∷ []) numbers' metres' told inside 0 (omega arith)

    is_finite : GivesFinite (query_in m n room d gap c v b t)
    is_finite = finite-there m n room d gap (single c v b t) (k ∷ []) (z ∷ []) numbers' metres' told inside 0 (omega arith)

    pub one-answered : Answers (query_in m n room d gap c v b t) (get_or numbers' 0 0) z (get_or metres' 0 0)
    one-answered = record { number_is = number_is; metres_are = metres_are; given-finite = is_finite }
