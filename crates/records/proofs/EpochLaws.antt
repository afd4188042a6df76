-- Signals, states and floats that an epoch was written into are that epoch: one by value, or one of columns. Assumes nothing.
use mathlib.Core.Path.{◌≡◌, refl, ap, ◌∙◌}
use mathlib.Core.List.{List, [], ◌∷◌}
use Prim.Native.Nat.{ℕ, zero, suc, ◌*◌, ◌^◌, ◌≤◌, ◌<◌}
use native.Mathlib.Omega.{arith}
use lib.ListN.{length, get_or, take}
use lib.Seq.{length-take-le}
use lib.IntN.{ℤ, pos}
use lib.Ieee.{Float}
use Rattle.lists.specs.Walk.{places}
use Rattle.lists.proofs.Walk.{places-all, places-take, places-ext}
use Rattle.signal.proofs.SignalLaws.{constellation-is, svid-is, band-is, signal-small}
use Rattle.records.specs.Record.{counted_carriers}
use Rattle.records.specs.Carriers.{carrier_columns, carrier_at, epoch_of}
use Rattle.records.specs.Signals.{carrier_with, carrier_in, epoch_in, SignalsFit}
use Rattle.records.specs.Steps.{Signalled, Laid}
use Rattle.records.specs.declared.record.Carrier.{Carrier}
use Rattle.records.specs.declared.record.Epoch.{Epoch}
use Rattle.records.proofs.RecordLaws.{blank}

get_d_take : (ss : List ℕ) (n k : ℕ) → k < n → get_or (take n ss) k 0 ≡ get_or ss k 0
get_d_take ss zero k l = absurd (omega arith)
get_d_take [] (suc n) k l = refl
get_d_take (s ∷ ss) (suc n) zero l = refl
get_d_take (s ∷ ss) (suc n) (suc k) l = get_d_take ss n k (omega arith)

module _ (ss : List ℕ) (ts : List ℤ) (fs : List Float) (n : ℕ) (long : length ss ≡ 64) (few : n ≤ 64) where
  pub cut-count : length (take n ss) ≡ n
  cut-count = length-take-le n ss (omega (arith, long))

  -- the first n signals fit
  pub cut_fits : n ≤ length ts → 6 * n ≤ length fs → ((i : ℕ) → i < n → get_or ss i 0 < 2 ^ 56) → SignalsFit (take n ss) ts fs
  cut_fits t f small =
      record {
        few = rw cut-count few;
        states = rw cut-count t;
        floats = rw cut-count f;
        signals = λ i l. let m : i < n = rw cut-count at l in rw (get_d_take ss n i m) (small i m);
      }

  -- and are the epoch of what each of them is
  pub cut-is : (g : ℕ → Carrier) → ((i : ℕ) → i < n → carrier_in ss ts fs i ≡ g i) → epoch_in (take n ss) ts fs ≡ record { count = n; carriers = places g n }
  cut-is g all =
      rw cut-count
      (ap (λ (cs : List Carrier). record { count = n; carriers = cs })
      (places-ext (carrier_in (take n ss) ts fs) g n (λ k l. ap (λ (s : ℕ). carrier_with s (get_or ts k (pos 0)) fs k) (get_d_take ss n k l) ∙ all k l)))

-- the columns of an epoch: its signals with its states and floats are the epoch
module _ (cs vs bs : List ℕ) (ts : List ℤ) (fs : List Float) (n : ℕ) (ss : List ℕ) (h : Signalled cs vs bs n ss) (few : n ≤ 64) where
  pub signalled-fits : n ≤ length ts → 6 * n ≤ length fs → SignalsFit (take n ss) ts fs
  signalled-fits t f = cut_fits ss ts fs n h.long few t f (λ i l. rw (h.all i l) (signal-small (get_or cs i 0) (get_or vs i 0) (get_or bs i 0) (h.svid i l) (h.band i l) (h.constellation i l)))

  carrier-at-is : (i : ℕ) → i < n → carrier_in ss ts fs i ≡ carrier_at (carrier_columns cs vs bs ts fs) i
  unfolding carrier_with carrier_at
  carrier-at-is i l = rw (h.all i l, constellation-is (get_or cs i 0) (get_or vs i 0) (get_or bs i 0) (h.svid i l) (h.band i l), svid-is (get_or cs i 0) (get_or vs i 0) (get_or bs i 0) (h.svid i l) (h.band i l), band-is (get_or cs i 0) (get_or vs i 0) (get_or bs i 0) (h.svid i l) (h.band i l))

  pub signalled-is : epoch_in (take n ss) ts fs ≡ epoch_of (carrier_columns cs vs bs ts fs) n
  signalled-is = cut-is ss ts fs n h.long few (carrier_at (carrier_columns cs vs bs ts fs)) carrier-at-is

-- an epoch by value
module _ (e : Epoch) (ss : List ℕ) (ts : List ℤ) (fs : List Float) (h : Laid e.carriers e.count ss ts fs) (few : e.count ≤ 64) (long : length e.carriers ≡ 64) where
  pub laid-fits : SignalsFit (take e.count ss) ts fs
  laid-fits = cut_fits ss ts fs e.count h.signals-long few (omega (arith, h.states-long)) (omega (arith, h.floats-long)) h.small

  pub laid-count : length (take e.count ss) ≡ e.count
  laid-count = cut-count ss ts fs e.count h.signals-long few

  pub laid-counted : counted_carriers (epoch_in (take e.count ss) ts fs) ≡ counted_carriers e
  laid-counted =
      ap counted_carriers (cut-is ss ts fs e.count h.signals-long few (λ k. get_or e.carriers k blank) (λ k l. h.all k l blank))
      ∙ places-all (λ k. get_or e.carriers k blank) e.count
      ∙ places-take e.carriers blank e.count (omega (arith, few, long))
