-- Columns that fit, and columns that do not. Assumes nothing.
use Rattle.std.specs.Prelude.{Result, Err}
use Rattle.numeric.specs.declared.refusal.Refusal.{Refusal}
use Rattle.tdcp.specs.declared.displacement.RatedDelta.{RatedDelta}
use mathlib.Core.Path.{◌≡◌, sym, ◌∙◌}
use mathlib.Core.Bool.{Bool, true, false}
use mathlib.Core.List.{List}
use Prim.Native.Nat.{ℕ, ◌*◌, ◌^◌, ◌≤◌, ◌<◌}
use native.Mathlib.Omega.{arith}
use lib.ListN.{length, get_or, take}
use lib.Seq.{length-take-le}
use lib.IntN.{ℤ}
use lib.Ieee.{Float}
use borrow.Author.Tests.{leb-true}
use Rattle.lists.proofs.Walk.{and_both}
use Rattle.numeric.specs.declared.refusal.Refusal.TheVariants.{TooMany}
use Rattle.records.specs.Carriers.{CarrierColumns, carrier_columns, epoch_of, epoch_fits}
use Rattle.records.specs.Signals.{epoch_in, SignalsFit}
use Rattle.records.proofs.EpochLaws.{signalled-fits, signalled-is}
use Rattle.tdcp.specs.Rated.{answered_of}
use Rattle.tdcp_columns.specs.Displacement.{Lent, lent_input}
use Rattle.tdcp_columns.specs.Steps.{FitInto, columns_answered}

-- what the test of lengths tells
pub record CarrierRoom (c : CarrierColumns) (n : ℕ) : Type 0 where
  pub few : n ≤ 64
  pub constellation : n ≤ length c.constellation
  pub svid : n ≤ length c.svid
  pub band : n ≤ length c.band
  pub state : n ≤ length c.state
  pub floats : 6 * n ≤ length c.floats

pub carriers-room : (c : CarrierColumns) (n : ℕ) {b : Bool} → b ≡ epoch_fits c n → b ≡ true → CarrierRoom c n
unfolding epoch_fits
carriers-room c n is e =
    let p = and_both _ _ (sym is ∙ e) in
    let q = and_both _ _ p.0 in
    let r = and_both _ _ q.0 in
    let s = and_both _ _ r.0 in
    let t = and_both _ _ s.0 in
    record {
      few = leb-true _ _ t.0;
      constellation = leb-true _ _ t.1;
      svid = leb-true _ _ s.1;
      band = leb-true _ _ r.1;
      state = leb-true _ _ q.1;
      floats = leb-true _ _ p.1;
    }

-- columns that fit, with their signals beside their states and floats
module _ (cs vs bs : List ℕ) (ts : List ℤ) (fs : List Float) (n : ℕ) {r : Bool} {ss : List ℕ} (h : FitInto (carrier_columns cs vs bs ts fs) n r ss) (t : r ≡ true) where
  room : CarrierRoom (carrier_columns cs vs bs ts fs) n
  room = carriers-room (carrier_columns cs vs bs ts fs) n h.fits t

  pub into-long : n ≤ length ss
  into-long = omega (arith, room.few, (h.signalled t).long)

  pub into-count : length (take n ss) ≡ n
  into-count = length-take-le n ss into-long

  pub into-fits : SignalsFit (take n ss) ts fs
  into-fits = signalled-fits cs vs bs ts fs n ss (h.signalled t) room.few room.state room.floats

  pub into-is : epoch_in (take n ss) ts fs ≡ epoch_of (carrier_columns cs vs bs ts fs) n
  into-is = signalled-is cs vs bs ts fs n ss (h.signalled t) room.few

module _ (wanted : Bool) (l : Lent) {a : Bool} (is : a ≡ epoch_fits l.previous l.previous-count) where
  pub not_first : a ≡ false → Err TooMany ≡ columns_answered wanted l
  unfolding columns_answered
  not_first e = rw (← is, e)

  module _ {b : Bool} (is' : b ≡ epoch_fits l.current l.current-count) (t : a ≡ true) where
    pub not-second : b ≡ false → Err TooMany ≡ columns_answered wanted l
    unfolding columns_answered
    not-second e = rw (← is, ← is', t, e)

    pub both-fit : {d : Result RatedDelta Refusal} → b ≡ true → d ≡ answered_of wanted (lent_input l) → d ≡ columns_answered wanted l
    unfolding columns_answered
    both-fit u q = q ∙ rw (← is, ← is', t, u)
