-- What a report says: the greatest difference is above none and is reached, first at its epoch. Assumes nothing.
use mathlib.Core.Path.{◌≡◌, refl, sym, ap, ◌∙◌}
use Prim.Native.Nat.{ℕ, zero, suc, ◌≤◌, ◌<◌}
use native.Mathlib.Omega.{arith}
use native.Mathlib.Decide.{dec_le}
use mathlib.Core.Bool.{Bool, true, false, cond}
use mathlib.Core.List.{List}
use lib.Dec.{ltb, eqb}
use lib.ListN.{length}
use borrow.Author.Tests.{ltb-true, ltb-false, eqb-true, eqb-false}
use Rattle.trip.specs.Trip.{Leg, difference_after, greatest, first_with, greatest_of, reached_of, report_of}
use Rattle.trip.proofs.TripLaws.{first_some}

-- ---- the greatest difference and its epoch

-- g is the greatest of f 1, .., f n, and k the first place that has it
pub record Greatest (f : ℕ → ℕ) (n g k : ℕ) : Type 0 where
  pub from : 0 < k
  pub upto : k ≤ n
  pub reaches : f k ≡ g
  pub bound : (j : ℕ) → 0 < j → j ≤ n → f j ≤ g
  pub earlier : (j : ℕ) → 0 < j → j < k → f j < g

bounds : (f : ℕ → ℕ) (n j : ℕ) → 0 < j → j ≤ n → f j ≤ greatest f n
unfolding greatest
bounds f zero j p l = absurd (omega arith)
bounds f (suc n) j p l = go (dec_le j n) (bounds f n j p)
  where
    go : Dec (j ≤ n) → (j ≤ n → f j ≤ greatest f n) → f j ≤ greatest f (suc n)
    go (yes h) ih = omega (arith, ih h)
    go (no h) ih = let e : j ≡ suc n = omega arith in rw e (omega arith)

-- what a place that is found is
record Found (f : ℕ → ℕ) (g n k : ℕ) : Type 0 where
  upto : k ≤ n
  reaches : f k ≡ g
  earlier : (j : ℕ) → 0 < j → j < k → f j ≡ g → ⊥

-- where none is found there is none
none : (f : ℕ → ℕ) (g n : ℕ) → first_with f g n ≡ 0 → (j : ℕ) → 0 < j → j ≤ n → f j ≡ g → ⊥
unfolding first_with
none f g zero e j p l h = omega arith
none f g (suc n) e j p l h = go (ltb 0 (first_with f g n)) refl (eqb (f (suc n)) g) refl e (λ z. none f g n z j p)
  where
    last : (f (suc n) ≡ g → ⊥) → Dec (j ≤ n) → (j ≤ n → f j ≡ g → ⊥) → ⊥
    last other (yes k) ih = ih k h
    last other (no k) ih = let q : j ≡ suc n = omega arith in other (ap f (sym q) ∙ h)

    go : (b : Bool) → ltb 0 (first_with f g n) ≡ b → (c : Bool) → eqb (f (suc n)) g ≡ c → cond b (first_with f g n) (cond c (suc n) 0) ≡ 0 → (first_with f g n ≡ 0 → j ≤ n → f j ≡ g → ⊥) → ⊥
    go true b c q e ih = let k : 0 < first_with f g n = ltb-true _ _ b in omega arith
    go false b true q e ih = omega arith
    go false b false q e ih =
        let k : first_with f g n ≤ 0 = ltb-false _ _ b in
        last (eqb-false _ _ q) (dec_le j n) (ih (omega arith))

found : (f : ℕ → ℕ) (g n : ℕ) → 0 < first_with f g n → Found f g n (first_with f g n)
unfolding first_with
found f g zero p = absurd (omega arith)
found f g (suc n) p = go (ltb 0 (first_with f g n)) refl (eqb (f (suc n)) g) refl p (found f g n)
  where
    go : (b : Bool) → ltb 0 (first_with f g n) ≡ b → (c : Bool) → eqb (f (suc n)) g ≡ c → 0 < cond b (first_with f g n) (cond c (suc n) 0) → (0 < first_with f g n → Found f g n (first_with f g n))
        → Found f g (suc n) (cond b (first_with f g n) (cond c (suc n) 0))
    go true e c q p ih = let i = ih (ltb-true _ _ e) in record { upto = omega (arith, i.upto); reaches = i.reaches; earlier = i.earlier }
    go false e false q p ih = absurd (omega arith)
    go false e true q p ih =
        record { upto = omega arith; reaches = eqb-true _ _ q; earlier = λ j h l. none f g n (omega (arith, ltb-false 0 (first_with f g n) e)) j h (omega arith) }

greatest-first : (f : ℕ → ℕ) (n : ℕ) → 0 < n → Greatest f n (greatest f n) (first_with f (greatest f n) n)
greatest-first f zero p = absurd (omega arith)
greatest-first f (suc n) p =
    let s = first_some f n in
    let r = found f (greatest f (suc n)) (suc n) s in
    record {
      from = s;
      upto = r.upto;
      reaches = r.reaches;
      bound = bounds f (suc n);
      earlier = λ j q l. below j (bounds f (suc n) j q (omega (arith, r.upto))) (r.earlier j q l);
    }
  where
    below : (j : ℕ) → f j ≤ greatest f (suc n) → (f j ≡ greatest f (suc n) → ⊥) → f j < greatest f (suc n)
    below j l h = omega arith

-- after at least one epoch
pub report-says : (rate : ℕ) (legs : List Leg) → 0 < length legs → Greatest (difference_after rate legs) (length legs) (report_of rate legs).greatest (report_of rate legs).reached
unfolding report_of greatest_of reached_of
report-says rate legs p = greatest-first (difference_after rate legs) (length legs) p
