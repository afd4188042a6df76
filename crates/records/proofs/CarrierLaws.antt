-- The carriers of signals, states and floats: which they are, and the search for a partner. Assumes nothing.
use mathlib.Core.Path.{◌≡◌, refl, sym, ap, ◌∙◌}
use mathlib.Core.Bool.{Bool, true, false, ◌&&◌}
use mathlib.Core.List.{List, [], ◌∷◌}
use Prim.Native.Nat.{ℕ, ◌+◌, ◌≤◌, ◌<◌}
use native.Mathlib.Omega.{arith}
use lib.Dec.{eqb}
use lib.ListN.{length, get_or, set, take, drop}
use lib.Seq.{get_or-set_same, get_or-set_other}
use lib.IntN.{ℤ}
use Rattle.std.specs.Prelude.{Some, None}
use lib.Ieee.{Float}
use borrow.Author.Tests.{eqb-true, eqb-false, lt-ltb, le-ltb}
use Rattle.lists.proofs.Walk.{places-length, places-at, places-all, first-yes, first-no, first-end}
use Rattle.signal.proofs.SignalLaws.{same_digits}
use Rattle.numeric.specs.declared.vec3.Vec3.{Vec3}
use Rattle.records.specs.Record.{usable, same}
use Rattle.records.specs.Signals.{carrier_with, carrier_in, carriers_in}
use Rattle.records.specs.Pair.{pair_of, first_pair}
use Rattle.records.specs.Steps.{Finds}
use Rattle.records.specs.declared.record.Carrier.{Carrier}
use Rattle.records.proofs.RecordLaws.{blank}

module _ (ss : List ℕ) (ts : List ℤ) (fs : List Float) where
  pub carriers-long : length ss ≤ length (carriers_in ss ts fs)
  carriers-long = omega (arith, places-length (carrier_in ss ts fs) (length ss))

  pub carrier-is : {i : ℕ} → i < length ss → {r : Carrier} → r ≡ carrier_in ss ts fs i → r ≡ get_or (carriers_in ss ts fs) i blank
  carrier-is {i} h e = e ∙ sym (places-at (carrier_in ss ts fs) (length ss) i blank h)

  pub carriers-all : take (length ss) (carriers_in ss ts fs) ≡ carriers_in ss ts fs
  carriers-all = places-all (carrier_in ss ts fs) (length ss)

-- two carriers are of one satellite and signal where their signals are equal
pub same_by : (s t : ℕ) (p q : ℤ) (fs gs : List Float) (i j : ℕ) → eqb s t ≡ same (carrier_with s p fs i) (carrier_with t q gs j)
unfolding same carrier_with
same_by s t p q fs gs i j = same_digits s t

-- ---- the search for a partner: what is left of the previous carriers from place j on gives what all of them give

abbrev pub Sought : ℕ → List ℕ → List ℤ → List Float → ℕ → Type 0
Sought g ss ts fs j =
    (receiver : Vec3) (dt : Float) (state : ℤ) (gs : List Float) (i : ℕ) →
    first_pair receiver dt (drop j (take (length ss) (carriers_in ss ts fs))) (carrier_with g state gs i) ≡ first_pair receiver dt (carriers_in ss ts fs) (carrier_with g state gs i)

module _ (g : ℕ) (ss : List ℕ) (ts : List ℤ) (fs : List Float) where
  pub sought-start : Sought g ss ts fs 0
  sought-start receiver dt state gs i = ap (λ (l : List Carrier). first_pair receiver dt l (carrier_with g state gs i)) (carriers-all ss ts fs)

  module _ {j : ℕ} (t : j < length ss) {r : Bool} (inv : Sought g ss ts fs j) (e : r ≡ (eqb (get_or ss j 0) g && usable (carrier_in ss ts fs j))) where
    here : (state : ℤ) (gs : List Float) (i : ℕ) → r ≡ (same (get_or (carriers_in ss ts fs) j blank) (carrier_with g state gs i) && usable (get_or (carriers_in ss ts fs) j blank))
    here state gs i = e ∙ ap (λ (b : Bool). b && usable (carrier_in ss ts fs j)) (same_by (get_or ss j 0) g _ state fs gs j i) ∙ ap (λ (p : Carrier). same p (carrier_with g state gs i) && usable p) (carrier-is ss ts fs t refl)

    pub sought-next : r ≡ false → Sought g ss ts fs (j + 1)
    unfolding first_pair
    sought-next n receiver dt state gs i = first-no _ _ (carriers-long ss ts fs) j blank t _ _ [] (inv receiver dt state gs i) (here state gs i) n

    pub sought-here : r ≡ true → Finds g ss ts fs (Some j)
    unfolding first_pair
    sought-here y =
        record {
          within = t;
          found = λ receiver dt state gs i.
              (sym (first-yes _ _ (carriers-long ss ts fs) j blank t _ _ [] (inv receiver dt state gs i) (here state gs i) y) ∙ ap (λ (p : Carrier). pair_of receiver dt (carrier_with g state gs i) p ∷ []) (sym (carrier-is ss ts fs t refl)));
        }

  pub sought-end : {j : ℕ} → Sought g ss ts fs j → length ss ≤ j → Finds g ss ts fs None
  unfolding first_pair
  sought-end inv l =
      record {
        within = tt;
        found = λ receiver dt state gs i. sym (first-end _ _ (carriers-long ss ts fs) _ _ _ (inv receiver dt state gs i) l);
      }

-- ---- signals that are written one after the other

pub signals-next : (f : ℕ → ℕ) (ss : List ℕ) (i x : ℕ) → i < length ss → ((k : ℕ) → k < i → get_or ss k 0 ≡ f k) → x ≡ f i → (k : ℕ) → k < i + 1 → get_or (set ss i x) k 0 ≡ f k
signals-next f ss i x room below here k l = go (eqb k i) refl
  where
    go : (t : Bool) → eqb k i ≡ t → get_or (set ss i x) k 0 ≡ f k
    go true e = let q = eqb-true k i e in rw q (get_or-set_same ss i x 0 room ∙ here)
    go false e = let q = eqb-false k i e in get_or-set_other ss i k x 0 q ∙ below k (omega arith)
