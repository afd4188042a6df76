-- Carriers that are written one after the other as signals, states and floats. Assumes nothing.
use mathlib.Core.Path.{◌≡◌, refl, ◌∙◌}
use mathlib.Core.Bool.{Bool, true, false}
use mathlib.Core.List.{List, [], ◌∷◌}
use Prim.Native.Nat.{ℕ, zero, suc, ◌+◌, ◌*◌, ◌^◌, ◌<◌}
use native.Mathlib.Omega.{arith}
use lib.Dec.{eqb}
use lib.ListN.{length, get_or, set, length-set}
use lib.Seq.{get_or-set_same, get_or-set_other}
use lib.IntN.{ℤ, pos}
use lib.Ieee.{Float, nan}
use borrow.Author.Tests.{eqb-true, eqb-false}
use Rattle.signal.specs.Signal.{signal}
use Rattle.signal.proofs.SignalLaws.{constellation-is, svid-is, band-is, signal-small}
use Rattle.records.specs.Signals.{carrier_with, carrier_in}
use Rattle.records.specs.Steps.{Put, Laid}
use Rattle.records.specs.declared.record.Carrier.{Carrier}

-- six floats of a carrier, stored one after the other from place a on
module _ (f : List Float) (a : ℕ) (x : Carrier) where
  abbrev f1 : List Float
  f1 = set f a x.adr

  abbrev f2 : List Float
  f2 = set f1 (a + 1) x.satellite.x

  abbrev f3 : List Float
  f3 = set f2 (a + 2) x.satellite.y

  abbrev f4 : List Float
  f4 = set f3 (a + 3) x.satellite.z

  abbrev f5 : List Float
  f5 = set f4 (a + 4) x.elevation

  abbrev f6 : List Float
  f6 = set f5 (a + 5) x.rate

  l1 : length f1 ≡ length f
  l1 = length-set f a x.adr

  o1 : (j : ℕ) → (j ≡ a → ⊥) → get_or f1 j nan ≡ get_or f j nan
  o1 j h = get_or-set_other f a j x.adr nan h

  l2 : length f2 ≡ length f
  l2 = length-set f1 (a + 1) x.satellite.x ∙ l1

  o2 : (j : ℕ) → (j ≡ a + 1 → ⊥) → get_or f2 j nan ≡ get_or f1 j nan
  o2 j h = get_or-set_other f1 (a + 1) j x.satellite.x nan h

  l3 : length f3 ≡ length f
  l3 = length-set f2 (a + 2) x.satellite.y ∙ l2

  o3 : (j : ℕ) → (j ≡ a + 2 → ⊥) → get_or f3 j nan ≡ get_or f2 j nan
  o3 j h = get_or-set_other f2 (a + 2) j x.satellite.y nan h

  l4 : length f4 ≡ length f
  l4 = length-set f3 (a + 3) x.satellite.z ∙ l3

  o4 : (j : ℕ) → (j ≡ a + 3 → ⊥) → get_or f4 j nan ≡ get_or f3 j nan
  o4 j h = get_or-set_other f3 (a + 3) j x.satellite.z nan h

  l5 : length f5 ≡ length f
  l5 = length-set f4 (a + 4) x.elevation ∙ l4

  o5 : (j : ℕ) → (j ≡ a + 4 → ⊥) → get_or f5 j nan ≡ get_or f4 j nan
  o5 j h = get_or-set_other f4 (a + 4) j x.elevation nan h

  six-long : length f6 ≡ length f
  six-long = length-set f5 (a + 5) x.rate ∙ l5

  o6 : (j : ℕ) → (j ≡ a + 5 → ⊥) → get_or f6 j nan ≡ get_or f5 j nan
  o6 j h = get_or-set_other f5 (a + 5) j x.rate nan h

  six-other : (j : ℕ) → j < a → get_or f6 j nan ≡ get_or f j nan
  six-other j h = o6 j (omega arith) ∙ o5 j (omega arith) ∙ o4 j (omega arith) ∙ o3 j (omega arith) ∙ o2 j (omega arith) ∙ o1 j (omega arith)

  module _ (room : a + 5 < length f) where
    six-0 : get_or f6 a nan ≡ x.adr
    six-0 = o6 a (omega arith) ∙ o5 a (omega arith) ∙ o4 a (omega arith) ∙ o3 a (omega arith) ∙ o2 a (omega arith) ∙ get_or-set_same f a x.adr nan (omega arith)

    six-1 : get_or f6 (a + 1) nan ≡ x.satellite.x
    six-1 = o6 (a + 1) (omega arith) ∙ o5 (a + 1) (omega arith) ∙ o4 (a + 1) (omega arith) ∙ o3 (a + 1) (omega arith) ∙ get_or-set_same f1 (a + 1) x.satellite.x nan (omega (arith, l1))

    six-2 : get_or f6 (a + 2) nan ≡ x.satellite.y
    six-2 = o6 (a + 2) (omega arith) ∙ o5 (a + 2) (omega arith) ∙ o4 (a + 2) (omega arith) ∙ get_or-set_same f2 (a + 2) x.satellite.y nan (omega (arith, l2))

    six-3 : get_or f6 (a + 3) nan ≡ x.satellite.z
    six-3 = o6 (a + 3) (omega arith) ∙ o5 (a + 3) (omega arith) ∙ get_or-set_same f3 (a + 3) x.satellite.z nan (omega (arith, l3))

    six-4 : get_or f6 (a + 4) nan ≡ x.elevation
    six-4 = o6 (a + 4) (omega arith) ∙ get_or-set_same f4 (a + 4) x.elevation nan (omega (arith, l4))

    six-5 : get_or f6 (a + 5) nan ≡ x.rate
    six-5 = get_or-set_same f5 (a + 5) x.rate nan (omega (arith, l5))

module _ (ss : List ℕ) (ts : List ℤ) (fs : List Float) (i : ℕ) (x : Carrier) (signals-are : length ss ≡ 64) (states-are : length ts ≡ 64) (floats-are : length fs ≡ 384) (few : i < 64) (cl : x.constellation < 2 ^ 8) (vl : x.svid < 2 ^ 16) (bl : x.band < 2 ^ 32) where
  abbrev own : ℕ
  own = signal x.constellation x.svid x.band

  lower : (k : ℕ) → k < i → carrier_in (set ss i own) (set ts i x.state) (f6 fs (6 * i) x) k ≡ carrier_in ss ts fs k
  unfolding carrier_with
  lower k l =
      rw (
        get_or-set_other ss i k own 0 (omega arith),
        get_or-set_other ts i k x.state (pos 0) (omega arith),
        six-other fs (6 * i) x (6 * k) (omega arith),
        six-other fs (6 * i) x (6 * k + 1) (omega arith),
        six-other fs (6 * i) x (6 * k + 1 + 1) (omega arith),
        six-other fs (6 * i) x (6 * k + 1 + 2) (omega arith),
        six-other fs (6 * i) x (6 * k + 4) (omega arith),
        six-other fs (6 * i) x (6 * k + 5) (omega arith),
      )

  mine : get_or (set ss i own) i 0 ≡ own
  mine = get_or-set_same ss i own 0 (omega (arith, signals-are))

  at-it : carrier_in (set ss i own) (set ts i x.state) (f6 fs (6 * i) x) i ≡ x
  unfolding carrier_with
  at-it =
      let room : 6 * i + 5 < length fs = omega (arith, floats-are) in
      let y : 6 * i + 1 + 1 ≡ 6 * i + 2 = omega arith in
      let z : 6 * i + 1 + 2 ≡ 6 * i + 3 = omega arith in
      rw (
        y,
        z,
        mine,
        constellation-is x.constellation x.svid x.band vl bl,
        svid-is x.constellation x.svid x.band vl bl,
        band-is x.constellation x.svid x.band vl bl,
        get_or-set_same ts i x.state (pos 0) (omega (arith, states-are)),
        six-0 fs (6 * i) x room,
        six-1 fs (6 * i) x room,
        six-2 fs (6 * i) x room,
        six-3 fs (6 * i) x room,
        six-4 fs (6 * i) x room,
        six-5 fs (6 * i) x room,
      )

  pub put_is : Put x i ss ts fs (set ss i own) (set ts i x.state) (f6 fs (6 * i) x)
  put_is =
      record {
        signals-long = length-set ss i own;
        states-long = length-set ts i x.state;
        floats-long = six-long fs (6 * i) x;
        signal-small = rw mine (signal-small x.constellation x.svid x.band vl bl cl);
        here = at-it;
        signals-below = λ k l. get_or-set_other ss i k own 0 (omega arith);
        below = lower;
      }

-- one carrier more
pub laid_next : {xs : List Carrier} {i : ℕ} {ss ss' : List ℕ} {ts ts' : List ℤ} {fs fs' : List Float} {x : Carrier} → Laid xs i ss ts fs → ((d : Carrier) → x ≡ get_or xs i d) → Put x i ss ts fs ss' ts' fs' → Laid xs (i + 1) ss' ts' fs'
laid_next {xs} {i} {ss} {ss'} {ts} {ts'} {fs} {fs'} {x} h e p =
    record {
      signals-long = p.signals-long ∙ h.signals-long;
      states-long = p.states-long ∙ h.states-long;
      floats-long = p.floats-long ∙ h.floats-long;
      small = λ k l. tiny k l (eqb k i) refl;
      all = λ k l d. go k l d (eqb k i) refl;
    }
  where
    tiny : (k : ℕ) → k < i + 1 → (t : Bool) → eqb k i ≡ t → get_or ss' k 0 < 2 ^ 56
    tiny k l true q = let j = eqb-true k i q in rw j p.signal-small
    tiny k l false q = let n = eqb-false k i q in rw (p.signals-below k (omega arith)) (h.small k (omega arith))

    go : (k : ℕ) → k < i + 1 → (d : Carrier) → (t : Bool) → eqb k i ≡ t → carrier_in ss' ts' fs' k ≡ get_or xs k d
    go k l d true q = let j = eqb-true k i q in rw j (p.here ∙ e d)
    go k l d false q = let n = eqb-false k i q in p.below k (omega arith) ∙ h.all k (omega arith) d

-- within a list no default matters
pub get_d_any : (xs : List Carrier) (i : ℕ) (d e : Carrier) → i < length xs → get_or xs i d ≡ get_or xs i e
get_d_any [] i d e l = absurd (omega arith)
get_d_any (x ∷ xs) zero d e l = refl
get_d_any (x ∷ xs) (suc i) d e l = get_d_any xs i d e (omega arith)
