-- The detectors' centre, and the pairs that the screen keeps. Assumes nothing.
use mathlib.Core.Path.{◌≡◌, ap, ◌∙◌}
use mathlib.Core.Bool.{Bool, true, false}
use mathlib.Core.List.{List, map}
use Prim.Native.Nat.{ℕ, ◌+◌, ◌≤◌, ◌<◌}
use native.Mathlib.Omega.{arith}
use lib.ListN.{length, take, set, get_or, length-map, length-take}
use lib.Ieee.{Float}
use Rattle.exact.specs.Float.{bits}
use Rattle.lists.specs.Walk.{collect}
use Rattle.lists.proofs.Walk.{Collecting, Collected, collecting-start, collecting-none, collecting-one, collecting-end}
use Rattle.median.specs.Sorted.{median_of}
use Rattle.median.specs.Centre.{centre_of}
use Rattle.median.proofs.MedianSigns.{median_few}
use Rattle.records.specs.Record.{keep}
use Rattle.records.specs.Screen.{detectors, centre, within, kept_within}
use Rattle.records.specs.Kept.{Kept}
use Rattle.records.specs.declared.pair.Pair.{Pair}
use Rattle.records.proofs.KeepLaws.{keep-yes, keep-no, collect-map}
use Rattle.records.proofs.PairLaws.{blank_pair}

-- the patterns of all n detectors have been put into d
pub centre-is : (ps : List Pair) (n i : ℕ) (d : List ℕ) → i ≤ n → n ≤ i → n ≤ 64 → take i d ≡ detectors (take i ps)
    → bits (median_of (take 64 (take n d))) ≡ centre (take n ps)
unfolding centre centre_of
centre-is ps n i d l g few h =
    let e : i ≡ n = omega arith in
    let k : take n d ≡ detectors (take n ps) = rw e at h in
    let short : length (detectors (take n ps)) ≤ 64 = simp (length-map, length-take) (omega arith) in
    rw (k, median_few (detectors (take n ps)) short)

-- a column of what g gives of the pairs that are kept
abbrev pub kept : {B : Type 0} → (Pair → B) → Float → Float → Pair → List B
kept g screen c q = map g (keep (within screen c) q)

abbrev pub Gathering : {B : Type 0} → (Pair → B) → Float → Float → List Pair → ℕ → List B → ℕ → ℕ → Type 0
Gathering g screen c xs n column k j = Collecting (kept g screen c) xs n 64 (collect (kept g screen c) (take n xs)) column k j

-- ---- the columns of the pairs that are kept
module _ (screen c : Float) (ps : List Pair) (n : ℕ) where
  -- j of the n pairs have been looked at, and k of them kept
  pub record Gathered (x y z : List Float) (constellation : List ℕ) (elevation observed : List Float) (k j : ℕ) : Type 0 where
    pub xs : Gathering (λ (q : Pair). q.unit.x) screen c ps n x k j
    pub ys : Gathering (λ (q : Pair). q.unit.y) screen c ps n y k j
    pub zs : Gathering (λ (q : Pair). q.unit.z) screen c ps n z k j
    pub constellations : Gathering (λ (q : Pair). q.constellation) screen c ps n constellation k j
    pub elevations : Gathering (λ (q : Pair). q.elevation) screen c ps n elevation k j
    pub observeds : Gathering (λ (q : Pair). q.observed) screen c ps n observed k j

  start : {B : Type 0} (g : Pair → B) (column : List B) → length column ≡ 64 → Gathering g screen c ps n column 0 0
  start g column e = collecting-start (kept g screen c) ps n 64 column e

  pub gathered-start : (x y z : List Float) (constellation : List ℕ) (elevation observed : List Float)
      → length x ≡ 64 → length y ≡ 64 → length z ≡ 64 → length constellation ≡ 64 → length elevation ≡ 64 → length observed ≡ 64 → Gathered x y z constellation elevation observed 0 0
  gathered-start x y z constellation elevation observed ex ey ez ec ee eo =
      record { xs = start _ x ex; ys = start _ y ey; zs = start _ z ez; constellations = start _ constellation ec; elevations = start _ elevation ee; observeds = start _ observed eo }

  module _ (fits : n ≤ length ps) (room : n ≤ 64) {x y z : List Float} {constellation : List ℕ} {elevation observed : List Float} {k j : ℕ}
      (h : Gathered x y z constellation elevation observed k j) where
    module _ (test : j < n) {r : Bool} (is : r ≡ within screen c (get_or ps j blank_pair)) where
      none : {B : Type 0} (g : Pair → B) {column : List B} → r ≡ false → Gathering g screen c ps n column k j → Gathering g screen c ps n column k (j + 1)
      none g e i = collecting-none (kept g screen c) ps n 64 fits room i blank_pair test (ap (map g) (keep-no (within screen c) (get_or ps j blank_pair) is e))

      pub gathered_none : r ≡ false → Gathered x y z constellation elevation observed k (j + 1)
      gathered_none e =
          record { xs = none _ e h.xs; ys = none _ e h.ys; zs = none _ e h.zs; constellations = none _ e h.constellations; elevations = none _ e h.elevations; observeds = none _ e h.observeds }

      one : {B : Type 0} (g : Pair → B) {column : List B} → r ≡ true → Gathering g screen c ps n column k j → Gathering g screen c ps n (set column k (g (get_or ps j blank_pair))) (k + 1) (j + 1)
      one g e i = collecting-one (kept g screen c) ps n 64 fits room i blank_pair test _ (ap (map g) (keep-yes (within screen c) (get_or ps j blank_pair) is e))

      pub gathered-one : r ≡ true
          → (let q = get_or ps j blank_pair in
          Gathered (set x k q.unit.x) (set y k q.unit.y) (set z k q.unit.z) (set constellation k q.constellation) (set elevation k q.elevation) (set observed k q.observed) (k + 1) (j + 1))
      gathered-one e =
          record { xs = one _ e h.xs; ys = one _ e h.ys; zs = one _ e h.zs; constellations = one _ e h.constellations; elevations = one _ e h.elevations; observeds = one _ e h.observeds }

    end : {B : Type 0} (g : Pair → B) {column : List B} → n ≤ j → Gathering g screen c ps n column k j → Collected (map g (kept_within screen c (take n ps))) column k n
    end g l i = rw (collect-map g (keep (within screen c)) (take n ps)) at (collecting-end (kept g screen c) ps n 64 fits room i l)

    pub gathered-end : n ≤ j → Kept (kept_within screen c (take n ps)) k x y z constellation elevation observed
    gathered-end l =
        let e = end (λ (q : Pair). q.unit.x) l h.xs in
        record {
          room = omega (arith, e.few);
          count = e.count ∙ simp length-map;
          constellation-long = h.constellations.long;
          observed-long = h.observeds.long;
          xs = e.all;
          ys = (end _ l h.ys).all;
          zs = (end _ l h.zs).all;
          constellations = (end _ l h.constellations).all;
          elevations = (end _ l h.elevations).all;
          observeds = (end _ l h.observeds).all;
        }
