-- What 16 lets pass: the bounds of a mileage, as facts about its numbers. Assumes nothing.
use mathlib.Core.Path.{◌≡◌, refl, sym, ◌∙◌}
use Prim.Native.Nat.{◌+◌, ◌*◌, ◌≤◌}
use native.Mathlib.Omega.{arith}
use lib.Dec.{leb}
use mathlib.Core.Bool.{Bool, true, false, ◌&&◌, false≢true}
use borrow.Author.Tests.{le-leb, leb-true}
use Rattle.lists.proofs.Walk.{and_both}
use Rattle.numeric.specs.Real.{in_range}
use Rattle.mileage.specs.Mileage.{sound_mileage}
use Rattle.mileage.specs.declared.mileage.Mileage.{Mileage}

pub record Bounds (m : Mileage) : Type 0 where
  pub few : m.epochs ≤ 65535
  pub classes : m.refused + m.aside ≤ m.epochs
  pub far : m.counted + m.standing + m.waiting ≤ 1000000 * m.epochs
  pub pulses : m.pulses ≤ 65535 * m.epochs
  pub covered : m.covered ≤ m.pulses
  pub moved : m.moved ≤ 1
  pub ranged : in_range m.limit ≡ true

pub bounds : (m : Mileage) → sound_mileage m ≡ true → Bounds m
unfolding sound_mileage
bounds m h =
    let f = and_both _ _ h in
    let e = and_both _ _ f.0 in
    let d = and_both _ _ e.0 in
    let c = and_both _ _ d.0 in
    let b = and_both _ _ c.0 in
    let a = and_both _ _ b.0 in
    record {
      few = leb-true _ _ a.0;
      classes = leb-true _ _ a.1;
      far = leb-true _ _ b.1;
      pulses = leb-true _ _ c.1;
      covered = leb-true _ _ d.1;
      moved = leb-true _ _ e.1;
      ranged = f.1;
    }

pub bounded : (m : Mileage) → Bounds m → sound_mileage m ≡ true
unfolding sound_mileage
bounded m b = rw (le-leb _ _ b.few, le-leb _ _ b.classes, le-leb _ _ b.far, le-leb _ _ b.pulses, le-leb _ _ b.covered, le-leb _ _ b.moved, b.ranged)

-- a mileage without them is not sound
pub unsound : (m : Mileage) → (Bounds m → ⊥) → false ≡ sound_mileage m
unsound m f = go (sound_mileage m) (bounds m)
  where
    go : (b : Bool) → (b ≡ true → Bounds m) → false ≡ b
    go true g = absurd (f (g refl))
    go false g = refl

-- ---- the code's first test, which keeps the sums of the second from overflowing

abbrev pub is_small : Mileage → Bool
is_small m =
    leb m.epochs 65535
    && leb m.refused 65535
    && leb m.aside 65535
    && leb m.counted 281474976710655
    && leb m.standing 281474976710655
    && leb m.waiting 281474976710655

module _ (m : Mileage) where
  pub record Small : Type 0 where
    pub epochs : m.epochs ≤ 65535
    pub refused : m.refused ≤ 65535
    pub aside : m.aside ≤ 65535
    pub counted : m.counted ≤ 281474976710655
    pub standing : m.standing ≤ 281474976710655
    pub waiting : m.waiting ≤ 281474976710655

  pub small : is_small m ≡ true → Small
  small h =
      let e = and_both _ _ h in
      let d = and_both _ _ e.0 in
      let c = and_both _ _ d.0 in
      let b = and_both _ _ c.0 in
      let a = and_both _ _ b.0 in
      record {
        epochs = leb-true _ _ a.0;
        refused = leb-true _ _ a.1;
        aside = leb-true _ _ b.1;
        counted = leb-true _ _ c.1;
        standing = leb-true _ _ d.1;
        waiting = leb-true _ _ e.1;
      }

  bounds-small : Bounds m → is_small m ≡ true
  bounds-small b =
      rw (
        le-leb m.epochs 65535 b.few,
        le-leb m.refused 65535 (omega arith),
        le-leb m.aside 65535 (omega arith),
        le-leb m.counted 281474976710655 (omega arith),
        le-leb m.standing 281474976710655 (omega arith),
        le-leb m.waiting 281474976710655 (omega arith),
      )

  -- a mileage that fails it is not sound
  pub not_small : is_small m ≡ false → false ≡ sound_mileage m
  not_small h = unsound m (λ b. false≢true (sym h ∙ bounds-small b))
