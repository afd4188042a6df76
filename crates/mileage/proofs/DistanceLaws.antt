-- What a depot leans on, of the calls on words and for every list of epochs: each epoch is in one class, the distance does not depend on which epochs were refused,
-- set aside or standing, and where none was it is the trip's. Assumes nothing.
use Rattle.std.specs.Prelude.{Ok}
use mathlib.Core.Path.{◌≡◌, refl, sym, ap, ◌∙◌}
use mathlib.Core.List.{List, [], ◌∷◌, ◌++◌, map}
use mathlib.Core.Bool.{Bool, true, false, cond, not, ◌&&◌, ◌||◌, false≢true}
use Prim.Native.Nat.{ℕ, zero, suc, ◌+◌, ◌*◌, ◌/◌, ◌^◌, ◌≤◌, ◌<◌}
use native.Mathlib.Nat.{mul_comm, mul_right_comm, div-one, mul-one, mul-div-mul_right, mul-div_cancel}
use native.Mathlib.Omega.{arith}
use lib.Dec.{eqb, lit≤}
use lib.ListN.{length, take, get_or}
use borrow.Author.Tests.{lt-ltb, ne_eqb, ltb-true}
use lib.Ieee.{Float}
use Rattle.lists.specs.Walk.{collect, every}
use Rattle.lists.proofs.Walk.{and_both}
use Rattle.trip.specs.Measure.{measurable}
use Rattle.trip.specs.Trip.{Leg, carrier_millimetres, measurables, counting, narrow as trip-narrow}
use Rattle.trip.specs.Words.{Addition, leg_of as legIn, words_after_calls, counted_legs}
use Rattle.trip.proofs.HeldLaws.{calls-law}
use Rattle.mileage.proofs.MileageLaws.{narrow_epoch, Given, words-law, distance-law, counted-bound}
use Rattle.mileage.specs.Mileage.{is_refused, is_usable, is_aside, moves, length_of, PlacedEpoch, near_pulse, is_standing, is_counted, next_moves, no_epochs, in_places, sum, count_placed, mileage_report, mileage_of, scaled, distance_held, distance_of, is_taken, takens, taking}
use Rattle.mileage.specs.Words.{distance_words, called}
use Rattle.mileage.specs.declared.mileage.Epoch.{Epoch}
use Rattle.mileage.specs.declared.mileage.Report.{Report}

-- ---- 4. classes

-- how many classes an epoch is in
abbrev classes : Float → PlacedEpoch → ℕ
classes limit p =
    cond (is_refused p.epoch) 1 0 + cond (is_aside limit p.epoch) 1 0 + cond (is_counted limit p) 1 0 + cond (is_standing limit p) 1 0

one : (r u k : Bool) → cond r 1 0 + cond (not r && not (not r && u)) 1 0 + cond (not r && u && k) 1 0 + cond (not r && u && not k) 1 0 ≡ 1
one true u k = refl
one false true true = refl
one false true false = refl
one false false k = refl

-- each epoch is in exactly one class
pub one_class : (limit : Float) (p : PlacedEpoch) → classes limit p ≡ 1
unfolding is_aside is_usable is_counted is_standing
one_class limit p = one (is_refused p.epoch) _ (near_pulse p)

numbers-add : (limit : Float) (before : Bool) (es : List Epoch) → (let ps = in_places before es in
    count_placed (λ p. is_refused p.epoch) ps + count_placed (λ p. is_aside limit p.epoch) ps + count_placed (is_counted limit) ps + count_placed (is_standing limit) ps ≡ length es)
unfolding in_places sum
numbers-add limit before [] = refl
numbers-add limit before (e ∷ es) = omega (arith, numbers-add limit (moves e) es, one_class limit (record { before = before; epoch = e; after = next_moves es; last = no_epochs es }))

-- ---- 2. the distance

-- a / c = k / n: a pulse is worth as much whether it is counted or not
same-rate : (a b c k n : ℕ) → 0 < c → 0 < n → a * n ≡ k * c → a * b / c ≡ k * b / n
same-rate a b c k n p q h =
    let e : a * b * n ≡ k * b * c = mul_right_comm a b n ∙ ap (λ (z : ℕ). z * b) h ∙ mul_right_comm k c b in
    sym (mul-div-mul_right (a * b) c q) ∙ ap (λ (z : ℕ). z / (c * n)) e ∙ ap (λ (z : ℕ). k * b * c / z) (mul_comm c n) ∙ mul-div-mul_right (k * b) n p

module _ (limit : Float) (es : List Epoch) (g : Given limit es) (w : List ℕ) where
  -- the report of the epochs taken
  abbrev r : Report
  r = mileage_report limit (taking es)

  counted-distance : 0 < r.covered → distance_words (called limit w es) ≡ distance_held (scaled r.counted r.pulses r.covered)
  unfolding distance_of
  counted-distance p = distance-law limit es g w ∙ rw (ne_eqb r.covered 0 (λ (e : r.covered ≡ 0). omega arith))

  -- where the counted millimetres are k / n for each counted pulse, the distance is k / n for each pulse of the drive, rounded down
  pub rate-law : (k n : ℕ) → 0 < n → 0 < r.covered → r.counted * n ≡ k * r.covered → distance_words (called limit w es) ≡ distance_held (k * r.pulses / n)
  unfolding scaled
  rate-law k n q p h = counted-distance p ∙ ap distance_held (same-rate r.counted r.pulses r.covered k n p q h)

  pub pulse-law : (k : ℕ) → 0 < r.covered → r.counted ≡ k * r.covered → distance_words (called limit w es) ≡ distance_held (k * r.pulses)
  pulse-law k p h = rate-law k 1 (lit≤ tt) p (mul-one r.counted ∙ h) ∙ ap distance_held (div-one (k * r.pulses))

-- two drives with equal pulses and equal millimetres for each counted pulse have equal distances, whatever their limits and whatever was refused, set aside or standing
pub drives_law : (limit limit' : Float) (es es' : List Epoch) → Given limit es → Given limit' es' → (w w' : List ℕ)
    → (let a = mileage_report limit (taking es) in let b = mileage_report limit' (taking es') in
    0 < a.covered → 0 < b.covered → a.pulses ≡ b.pulses → a.counted * b.covered ≡ b.counted * a.covered → distance_words (called limit w es) ≡ distance_words (called limit' w' es'))
drives_law limit limit' es es' g g' w w' p q e h =
    let a = mileage_report limit (taking es) in
    let b = mileage_report limit' (taking es') in
    rate-law limit es g w b.counted b.covered q p h
    ∙ ap (λ (z : ℕ). distance_held (b.counted * z / b.covered)) e
    ∙ sym (rate-law limit' es' g' w' b.counted b.covered q q refl)

-- ---- 4. of the words

module _ (limit : Float) (es : List Epoch) (g : Given limit es) (w : List ℕ) where
  -- epochs, refused, set aside, counted and standing add up
  pub classes-law : (let v = called limit w es in let ps = in_places false (taking es) in
      get_or v 1 0 ≡ get_or v 2 0 + get_or v 3 0 + count_placed (is_counted limit) ps + count_placed (is_standing limit) ps)
  unfolding mileage_of mileage_report
  classes-law = rw (words-law limit es g w) (sym (numbers-add limit false (taking es)))

-- ---- 3. the trip's carrier total

abbrev leg_of : Epoch → Leg
leg_of e = record { displacement = e.displacement; pulses = e.pulses }

-- what a caller hands to the trip of an epoch
abbrev pub addition_of : Epoch → Addition
addition_of e = record { delta = e.displacement.x ∷ e.displacement.y ∷ e.displacement.z ∷ []; pulses = e.pulses }

legs_same : (es : List Epoch) → map legIn (map addition_of es) ≡ map leg_of es
unfolding legIn
legs_same [] = refl
legs_same (e ∷ es) = ap (λ (ls : List Leg). leg_of e ∷ ls) (legs_same es)

map-take : (n : ℕ) (es : List Epoch) → map leg_of (take n es) ≡ take n (map leg_of es)
map-take zero es = refl
map-take (suc n) [] = refl
map-take (suc n) (e ∷ es) = ap (λ (ls : List Leg). leg_of e ∷ ls) (map-take n es)

abbrev accepted : Epoch → Bool
accepted e = eqb e.refused 0

-- where no displacement is refused, a mileage takes the epochs that a trip does
same-takens : (es : List Epoch) → every accepted es ≡ true → map leg_of (takens es) ≡ measurables (map leg_of es)
unfolding takens measurables collect every is_taken is_refused
same-takens [] h = refl
same-takens (e ∷ es) h =
    let a = and_both (eqb e.refused 0) (every accepted es) h in
    rw a.0 (go (measurable e.displacement) (same-takens es a.1))
  where
    go : (b : Bool) → map leg_of (takens es) ≡ measurables (map leg_of es) → map leg_of (cond b (e ∷ []) [] ++ takens es) ≡ cond b (leg_of e ∷ []) [] ++ measurables (map leg_of es)
    go true i = ap (λ (ls : List Leg). leg_of e ∷ ls) i
    go false i = i

same-taking : (es : List Epoch) → every accepted es ≡ true → map leg_of (taking es) ≡ counting (map leg_of es)
unfolding taking counting
same-taking es h = map-take 65535 (takens es) ∙ ap (take 65535) (same-takens es h)

accepted-takens : (es : List Epoch) → every accepted es ≡ true → every accepted (takens es) ≡ true
unfolding takens collect every
accepted-takens [] h = refl
accepted-takens (e ∷ es) h =
    let a = and_both (eqb e.refused 0) (every accepted es) h in go (is_taken e) a.0 (accepted-takens es a.1)
  where
    go : (b : Bool) → accepted e ≡ true → every accepted (takens es) ≡ true → every accepted (cond b (e ∷ []) [] ++ takens es) ≡ true
    go true i j = rw i j
    go false i j = j

accepted-take : (n : ℕ) (es : List Epoch) → every accepted es ≡ true → every accepted (take n es) ≡ true
unfolding every
accepted-take zero es h = refl
accepted-take (suc n) [] h = refl
accepted-take (suc n) (e ∷ es) h = let a = and_both (eqb e.refused 0) (every accepted es) h in rw a.0 (accepted-take n es a.1)

cond-one : (b : Bool) → ◌≡◌ {A = ℕ} (cond b 1 0) 1 → b ≡ true
cond-one true h = refl
cond-one false h = absurd (omega arith)

-- where no epoch is refused, set aside or standing, all are counted
module _ (limit : Float) where
  abbrev uncounted : Bool → List Epoch → ℕ
  uncounted before es = let ps = in_places before es in count_placed (λ p. is_aside limit p.epoch) ps + count_placed (is_standing limit) ps

  is-counted : (p : PlacedEpoch) → accepted p.epoch ≡ true → cond (is_aside limit p.epoch) 1 0 + cond (is_standing limit p) 1 0 ≡ 0 → is_counted limit p ≡ true
  unfolding is_refused
  is-counted p a h = let one : classes limit p ≡ 1 = one_class limit p in cond-one (is_counted limit p) (omega (arith, rw a at one))

  abbrev head : Bool → Epoch → List Epoch → PlacedEpoch
  head before e es = record { before = before; epoch = e; after = next_moves es; last = no_epochs es }

  first_counted : (before : Bool) (e : Epoch) (es : List Epoch) → every accepted (e ∷ es) ≡ true → uncounted before (e ∷ es) ≡ 0 → is_counted limit (head before e es) ≡ true
  unfolding every in_places sum
  first_counted before e es a h = is-counted (head before e es) (and_both (accepted e) (every accepted es) a).0 (omega arith)

  all-counted : (f : Epoch → ℕ) (before : Bool) (es : List Epoch) → every accepted es ≡ true → uncounted before es ≡ 0 → sum (is_counted limit) f (in_places before es) ≡ sum (λ p. true) f (in_places before es)
  unfolding every in_places sum
  all-counted f before [] a h = refl
  all-counted f before (e ∷ es) a h =
      rw (first_counted before e es a h) (ap (λ (n : ℕ). f e + n) (all-counted f (moves e) es (and_both (accepted e) (every accepted es) a).1 (omega arith)))

  either : (a b : Bool) (p q : ℕ) → (a ≡ true → 0 < p) → (b ≡ true → 0 < q) → (a || b) ≡ true → 0 < p + q
  either true b p q f h i = omega (arith, f refl)
  either false b p q f h i = omega (arith, h i)

  -- the first epoch or the second has a pulse
  first-pulse : (e : Epoch) (es : List Epoch) → near_pulse (head false e es) ≡ true → 0 < e.pulses + sum (λ p. true) (λ e. e.pulses) (in_places (moves e) es)
  unfolding near_pulse next_moves in_places sum moves
  first-pulse e [] i = either (moves e) false e.pulses 0 (ltb-true 0 e.pulses) (λ h. absurd (false≢true h)) i
  first-pulse e (y ∷ es) i =
      either (moves e) (moves y) e.pulses (y.pulses + sum (λ p. true) (λ e. e.pulses) (in_places (moves y) es)) (ltb-true 0 e.pulses) (λ h. omega (arith, ltb-true 0 y.pulses h)) i

  some-pulse : (es : List Epoch) → every accepted es ≡ true → uncounted false es ≡ 0 → 0 < length es → 0 < sum (λ p. true) (λ e. e.pulses) (in_places false es)
  unfolding in_places sum
  some-pulse [] a h l = absurd (omega arith)
  some-pulse (e ∷ es) a h l = first-pulse e es (and_both (is_usable limit e) (near_pulse (head false e es)) (unfold is_counted in first_counted false e es a h)).1

-- where all pulses are counted
all-covered : (a b : ℕ) → 0 < b → a < 2 ^ 63 → distance_held (scaled a b b) ≡ Ok a
unfolding distance_held scaled
all-covered a b p h = rw (mul-div_cancel a p, lt-ltb a (2 ^ 63) h)

carrier-is : (before : Bool) (es : List Epoch) → sum (λ p. true) length_of (in_places before es) ≡ carrier_millimetres (map leg_of es)
unfolding in_places sum carrier_millimetres
carrier-is before [] = refl
carrier-is before (e ∷ es) = ap (λ (n : ℕ). length_of e + n) (carrier-is (moves e) es)

narrow_legs : (es : List Epoch) → every narrow_epoch es ≡ true → every trip-narrow (map leg_of es) ≡ true
unfolding every narrow_epoch trip-narrow
narrow_legs [] h = refl
narrow_legs (e ∷ es) h = let a = and_both (narrow_epoch e) (every narrow_epoch es) h in rw a.0 (narrow_legs es a.1)

module _ (limit : Float) (es : List Epoch) (g : Given limit es) (w : List ℕ) (a : every accepted es ≡ true) (u : uncounted limit false (taking es) ≡ 0) (l : 0 < length (taking es)) where
  accepted-all : every accepted (taking es) ≡ true
  unfolding taking
  accepted-all = accepted-take 65535 (takens es) (accepted-takens es a)

  all-pulses : (mileage_report limit (taking es)).covered ≡ (mileage_report limit (taking es)).pulses
  unfolding mileage_report
  all-pulses = all-counted limit (λ e. e.pulses) false (taking es) accepted-all u

  all_lengths : (mileage_report limit (taking es)).counted ≡ carrier_millimetres (counting (map leg_of es))
  unfolding mileage_report
  all_lengths = all-counted limit length_of false (taking es) accepted-all u ∙ carrier-is false (taking es) ∙ ap carrier_millimetres (same-taking es a)

  pulse : 0 < (mileage_report limit (taking es)).pulses
  unfolding mileage_report
  pulse = some-pulse limit (taking es) accepted-all u l

  -- where no epoch is refused or set aside and none stands, the distance is the trip's carrier total of the same epochs,
  pub carrier-law : distance_words (called limit w es) ≡ Ok (carrier_millimetres (counting (map leg_of es)))
  carrier-law =
      let c = mileage_report limit (taking es) in
      counted-distance limit es g w (rw all-pulses pulse)
      ∙ ap (λ (z : ℕ). distance_held (scaled c.counted c.pulses z)) all-pulses
      ∙ all-covered c.counted c.pulses pulse (omega (arith, counted-bound limit es g))
      ∙ ap Ok all_lengths

  -- which is word 2 of the trip after its start, whatever the words held, and the calls that add them to it
  pub trip_law : (rate : ℕ) → 0 < rate → rate ≤ 65535 → (before : List ℕ)
      → distance_words (called limit w es) ≡ Ok (get_or (words_after_calls rate before (map addition_of es)) 2 0)
  unfolding counted_legs
  trip_law rate p q before =
      let calls = map addition_of es in
      let n : every trip-narrow (map legIn calls) ≡ true = rw (legs_same es) (narrow_legs es g.pulses) in
      carrier-law
      ∙ ap (λ (ls : List Leg). Ok (carrier_millimetres (counting ls))) (sym (legs_same es))
      ∙ ap (λ (v : List ℕ). Ok (get_or v 2 0)) (sym (calls-law rate p q before calls n).words_are)
