-- Arrays that were filled place by place from columns, and columns that are long enough. Assumes nothing.
use mathlib.Core.Path.{◌≡◌, sym, ◌∙◌}
use mathlib.Core.Bool.{true}
use mathlib.Core.List.{List}
use Prim.Native.Nat.{ℕ, ◌*◌, ◌≤◌}
use native.Mathlib.Omega.{arith}
use lib.ListN.{length, take}
use lib.Seq.{take_all}
use borrow.Author.Tests.{leb-true}
use Rattle.lists.proofs.Walk.{places-length, and_both}
use Rattle.lists.specs.Walk.{places, Holds}
use Rattle.lists.proofs.Filling.{Filling, filled}
use Rattle.wls_columns.specs.Columns.{RowColumns, rows_fit, ObservationColumns, observations_fit}

module _ {A : Type 0} (f : ℕ → A) (n : ℕ) (array : List A) (few : n ≤ 64) {count i : ℕ} (h : Filling f n array count i) where
  pub filling_end : n ≤ i → Holds count array (places f n)
  filling_end t = rw h.count-is (record { room = few; count = sym (places-length f n); all = filled f n array h t })

-- an array that holds the first n places counts what the list of them counts
module _ {A : Type 0} (f : ℕ → A) (n : ℕ) {count : ℕ} {array : List A} (h : Holds count array (places f n)) where
  pub held-count : count ≡ n
  held-count = h.count ∙ places-length f n

  pub held_all : take count array ≡ take n (places f n)
  held_all = h.all ∙ sym (take_all n (places f n) (omega (arith, places-length f n)))

-- ---- what the tests of lengths tell

pub record RowRoom (c : RowColumns) (n : ℕ) : Type 0 where
  pub few : n ≤ 64
  pub units : 3 * n ≤ length c.units
  pub clocks : n ≤ length c.clocks
  pub residuals : n ≤ length c.residuals
  pub sigmas : n ≤ length c.sigmas

pub rows-room : (c : RowColumns) (n : ℕ) → rows_fit c n ≡ true → RowRoom c n
unfolding rows_fit
rows-room c n e =
    let p = and_both _ _ e in
    let q = and_both _ _ p.0 in
    let r = and_both _ _ q.0 in
    let s = and_both _ _ r.0 in
    record {
      few = leb-true _ _ s.0;
      units = leb-true _ _ s.1;
      clocks = leb-true _ _ r.1;
      residuals = leb-true _ _ q.1;
      sigmas = leb-true _ _ p.1;
    }

pub record ObservationRoom (c : ObservationColumns) (n : ℕ) : Type 0 where
  pub few : n ≤ 64
  pub constellation : n ≤ length c.constellation
  pub floats : 5 * n ≤ length c.floats

pub observations-room : (c : ObservationColumns) (n : ℕ) → observations_fit c n ≡ true → ObservationRoom c n
unfolding observations_fit
observations-room c n e =
    let p = and_both _ _ e in
    let q = and_both _ _ p.0 in
    record { few = leb-true _ _ q.0; constellation = leb-true _ _ q.1; floats = leb-true _ _ p.1 }
