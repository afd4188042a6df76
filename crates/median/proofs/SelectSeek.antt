-- A turn of the search for the number at a place. Assumes nothing.
use Prim.Native.Nat.{ℕ, ◌+◌, ◌-◌, ◌≤◌, ◌<◌, ◌^◌}
use native.Mathlib.Omega.{arith}
use mathlib.Core.Path.{◌≡◌, refl, sym, ap, ◌∙◌}
use mathlib.Core.List.{List}
use lib.ListN.{take, length}
use lib.Seq.{length-take-le}
use lib.Dec.{ltb}
use Rattle.median.specs.Sorted.{occurrences}
use Rattle.median.specs.Steps.{Unsigned, number_at, lows, highs, Front}
use Rattle.median.proofs.SelectSplit.{kept-each, placed-low, placed_same, placed-high, parts}

-- the number looked for is at place `at` of the first len of k, in ascending order
pub record Seeking (target : ℕ) (k : List ℕ) (len at : ℕ) : Type 0 where
  pub room : len ≤ 64
  pub inside : at < len
  pub long : length k ≡ 64
  pub plain : Unsigned (take len k)
  pub is : number_at at (take len k) ≡ target

-- where a search starts
pub seeking : {k : List ℕ} {n m : ℕ} → (m < n) × (n ≤ 64) × (length k ≡ 64) × Unsigned (take n k) → Seeking (number_at m (take n k)) k n m
seeking h = record { room = h.1; inside = h.0; long = h.2; plain = h.3; is = refl }

pub front_length : (l : List ℕ) (r : ℕ) (k : List ℕ) → Front l r k → r ≡ length l
front_length l r k f = sym (length-take-le r k (omega (arith, f.few, f.long))) ∙ ap length f.is

-- ---- one of the four lowest, or of the four highest

pub lowest-found : {target : ℕ} {k : List ℕ} {len at r : ℕ} → Seeking target k len at → r ≡ number_at at (take len k) → r ≡ target
lowest-found h e = e ∙ h.is

pub highest-found : {target : ℕ} {k : List ℕ} {len at r : ℕ} → Seeking target k len at → r ≡ number_at (len - 1 - (len - 1 - at)) (take len k) → r ≡ target
highest-found {k = k} {len = len} {at = at} h e =
    let i : len - 1 - (len - 1 - at) ≡ at = omega (arith, h.inside) in
    e ∙ ap (λ (m : ℕ). number_at m (take len k)) i ∙ h.is

-- ---- more numbers: a turn

-- `less` of them are below p
module _ {target : ℕ} {k : List ℕ} {len at : ℕ} (p : ℕ) {less : ℕ} (h : Seeking target k len at) (e : less ≡ length (lows p (take len k))) where
  sizes : length (lows p (take len k)) + occurrences p (take len k) + length (highs p (take len k)) ≡ len
  sizes = parts p (take len k) ∙ length-take-le len k (omega (arith, h.room, h.long))

  module _ {r : ℕ} {k' : List ℕ} where
    -- where p stands among them, each part has fewer
    pub low-fewer : 1 ≤ occurrences p (take len k) → Front (lows p (take len k)) r k' → r < len
    low-fewer some f = omega (arith, front_length (lows p (take len k)) r k' f, sizes)

    pub high-fewer : 1 ≤ occurrences p (take len k) → Front (highs p (take len k)) r k' → r < len
    high-fewer some f = omega (arith, front_length (highs p (take len k)) r k' f, sizes)

    pub high-most : Front (highs p (take len k)) r k' → r ≤ len
    high-most f = omega (arith, front_length (highs p (take len k)) r k' f, sizes)

    pub low_turn : at < less → Front (lows p (take len k)) r k' → Seeking target k' r at
    low_turn a f =
        let n : r ≡ length (lows p (take len k)) = front_length (lows p (take len k)) r k' f in
        record {
          room = f.few;
          inside = omega arith;
          long = f.long;
          plain = rw f.is (kept-each (λ (x : ℕ). x < 2 ^ 63) (λ (x : ℕ). ltb x p) (take len k) h.plain);
          is = rw f.is (sym (placed-low p at (take len k) (omega arith)) ∙ h.is);
        }

    pub high-turn : len - r ≤ at → Front (highs p (take len k)) r k' → Seeking target k' r (at - (len - r))
    high-turn a f =
        let n : r ≡ length (highs p (take len k)) = front_length (highs p (take len k)) r k' f in
        let m : at - (len - r) ≡ at - (length (lows p (take len k)) + occurrences p (take len k)) = omega (arith, sizes) in
        record {
          room = f.few;
          inside = omega (arith, sizes, h.inside);
          long = f.long;
          plain = rw f.is (kept-each (λ (x : ℕ). x < 2 ^ 63) (λ (x : ℕ). ltb p x) (take len k) h.plain);
          is = rw (f.is, m) (sym (placed-high p at (take len k) (omega (arith, sizes))) ∙ h.is);
        }

    pub found : less ≤ at → at < len - r → Front (highs p (take len k)) r k' → p ≡ target
    found a b f =
        let n : r ≡ length (highs p (take len k)) = front_length (highs p (take len k)) r k' f in
        sym (placed_same p at (take len k) (omega arith) (omega (arith, sizes))) ∙ h.is
