-- The groups of an epoch, their clocks, and what a raw correction gives by the way that the code took. Assumes nothing.
use Rattle.std.specs.Prelude.{Option, Some, None}
use mathlib.Core.Path.{◌≡◌, refl, sym, ap, ◌∙◌}
use mathlib.Core.List.{List, [], ◌∷◌, ◌++◌}
use mathlib.Core.Bool.{Bool, true, false, cond}
use Prim.Native.Nat.{ℕ, ◌+◌, ◌≤◌, ◌<◌}
use native.Mathlib.Omega.{arith}
use borrow.Author.Tests.{lt-ltb, le-ltb, lt-leb, le-leb, eq-eqb, ne_eqb, ltb-true, ltb-false}
use lib.Dec.{ltb, eqb}
use lib.ListN.{length, get_or, take, set, length-map, length-set}
use lib.Seq.{take_all, get_or-set_same, get_or-set_other}
use lib.Ieee.{Float}
use Rattle.exact.specs.Float.{◌⊖◌, bits}
use Rattle.lists.specs.Walk.{collect}
use Rattle.numeric.specs.Order.{pattern_of}
use Rattle.median.specs.Sorted.{median_of}
use Rattle.corrections_table.specs.declared.sample.Sample.{Sample}
use Rattle.corrections_epoch.specs.Sample.{of_constellation, group, patterns_of, clock_of, kept, corrected_sample, corrected, sample_at}
use Rattle.corrections_epoch.specs.Steps.{clock_by}
use Rattle.corrections_epoch.specs.declared.raw.Raw.{Raw}

-- ---- a group

-- the pattern of a value where it is of the constellation c
abbrev pub pattern_in : ℕ → Raw → List ℕ
pattern_in c r = cond (eqb r.constellation c) (pattern_of r.value ∷ []) []

pub pattern_in_lem : (c : ℕ) (r : Raw) {p : ℕ} → r.constellation ≡ c → p ≡ pattern_of r.value → pattern_in c r ≡ p ∷ []
pattern_in_lem c r e i = rw (eq-eqb r.constellation c e, i)

pub pattern_out : (c : ℕ) (r : Raw) → (r.constellation ≡ c → ⊥) → pattern_in c r ≡ []
pattern_out c r ne = rw (ne_eqb r.constellation c ne)

pub group-patterns : (c : ℕ) (l : List Raw) → collect (pattern_in c) l ≡ patterns_of (group c l)
unfolding group collect
group-patterns c [] = refl
group-patterns c (r ∷ l) = go (eqb r.constellation c) (group-patterns c l)
  where
    go : (b : Bool) → collect (pattern_in c) l ≡ patterns_of (group c l) → cond b (pattern_of r.value ∷ []) [] ++ collect (pattern_in c) l ≡ patterns_of (cond b (r ∷ []) [] ++ collect (of_constellation c) l)
    go true e = ap (λ (m : List ℕ). pattern_of r.value ∷ m) e
    go false e = e

-- ---- the clock of a group, by the patterns of its values
pub clock-none : (v : List ℕ) → length v < 3 → None ≡ clock_by v
unfolding clock_by
clock-none v h = rw (lt-ltb (length v) 3 h)

pub clock-some : (v : List ℕ) → length v ≤ 64 → {b : ℕ} {x : Float} → 3 ≤ length v → b ≡ median_of (take 64 v) → x ≡ bits b → Some x ≡ clock_by v
unfolding clock_by
clock-some v few h e i = rw (le-ltb (length v) 3 h) (ap Some (i ∙ ap bits (e ∙ ap median_of (take_all 64 v few))))

clock-group : (g : List Raw) → clock_by (patterns_of g) ≡ cond (ltb (length g) 3) None (Some (clock_of g))
unfolding clock_by clock_of
clock-group g = ap (λ (k : ℕ). cond (ltb k 3) None (Some (bits (median_of (patterns_of g))))) (length-map g (λ (r : Raw). pattern_of r.value))

-- ---- what a raw correction gives
module _ (time max : Float) (raws : List Raw) (r : Raw) where
  pub sample-high : 8 ≤ r.constellation → sample_at time max raws r ≡ []
  unfolding sample_at
  sample-high h = rw (le-leb 8 r.constellation h)

  module _ (h : r.constellation < 8) {clock : Option Float} (ec : clock ≡ clock_by (patterns_of (group r.constellation raws))) where
    by-group : {l : List Sample} → (clock ≡ None → [] ≡ l) → (clock ≡ Some (clock_of (group r.constellation raws)) → corrected time max r (clock_of (group r.constellation raws)) ≡ l)
        → sample_at time max raws r ≡ l
    unfolding sample_at
    by-group {l} low high = rw (lt-leb 8 r.constellation h) (go (ltb (length g) 3) refl)
      where
        g : List Raw
        g = group r.constellation raws

        go : (t : Bool) → ltb (length g) 3 ≡ t → cond t [] (corrected time max r (clock_of g)) ≡ l
        go true e = low (ec ∙ clock-group g ∙ rw e)
        go false e = high (ec ∙ clock-group g ∙ rw e)

    pub sample-none : ((x : Float) → clock ≡ Some x → ⊥) → sample_at time max raws r ≡ []
    sample-none n = by-group (λ e. refl) (λ e. absurd (n _ e))

    module _ (x : Float) (some : clock ≡ Some x) {b : Bool} (eb : b ≡ kept max (r.value ⊖ x)) where
      pub sample-dropped : b ≡ false → sample_at time max raws r ≡ []
      unfolding corrected
      sample-dropped t = by-group (λ e. refl) (λ e. let s : clock_of (group r.constellation raws) ≡ x = cc in rw (s, sym eb ∙ t))

      pub sample-kept : b ≡ true → sample_at time max raws r ≡ corrected_sample time r (r.value ⊖ x) ∷ []
      unfolding corrected
      sample-kept t =
          by-group (λ e. absurd (let z : ◌≡◌ {A = ℕ} 0 1 = cc in omega arith))
          (λ e. let s : clock_of (group r.constellation raws) ≡ x = cc in rw (s, sym eb ∙ t))

-- ---- the clocks of the constellations below c
pub record Clocks (raws : List Raw) (clocks : List (Option Float)) (c : ℕ) : Type 0 where
  pub long : length clocks ≡ 8
  pub within : c ≤ 8
  pub so_far : (j : ℕ) → j < c → get_or clocks j None ≡ clock_by (patterns_of (group j raws))

pub clocks-more : (raws : List Raw) (clocks : List (Option Float)) (c : ℕ) (x : Option Float) → c < 8 → x ≡ clock_by (patterns_of (group c raws)) → Clocks raws clocks c → Clocks raws (set clocks c x) (c + 1)
clocks-more raws clocks c x h e k =
    record { long = length-set clocks c x ∙ k.long; within = omega arith; so_far = λ j l. go j (ltb j c) refl l }
  where
    room : c < length clocks
    room = omega (arith, k.long)

    go : (j : ℕ) (b : Bool) → ltb j c ≡ b → j < c + 1 → get_or (set clocks c x) j None ≡ clock_by (patterns_of (group j raws))
    go j true q l =
        let w : j < c = ltb-true j c q in
        let ne : j ≡ c → ⊥ = λ (z : j ≡ c). omega arith in
        get_or-set_other clocks c j x None ne ∙ k.so_far j w
    go j false q l =
        let w : c ≤ j = ltb-false j c q in
        let z : j ≡ c = omega arith in
        rw z (get_or-set_same clocks c x None room ∙ e)
