-- What a current carrier gives, by the way that the code took. Assumes nothing.
use mathlib.Core.Path.{◌≡◌, refl, sym, ◌∙◌}
use mathlib.Core.List.{List, []}
use mathlib.Core.Bool.{Bool, true, false, cond, ◌&&◌}
use Prim.Native.Nat.{ℕ}
use native.Mathlib.Omega.{arith}
use Rattle.lists.specs.Walk.{collect}
use Rattle.lists.proofs.Walk.{and_both}
use lib.Ieee.{Float, nan, le}
use Rattle.numeric.specs.declared.vec3.Vec3.{Vec3}
use Rattle.records.specs.Record.{usable}
use Rattle.records.specs.City.{certified, certified_of, looked}
use Rattle.records.specs.Steps.{looked_at}
use Rattle.records.specs.Pair.{first_pair, pair_at, pairs_of}
use Rattle.records.specs.declared.record.Carrier.{Carrier}
use Rattle.records.specs.declared.pair.Pair.{Pair}
use Rattle.records.specs.declared.pair.Profile.{Profile}
use Rattle.records.specs.declared.pair.Profile.TheVariants.{General, City}
use Rattle.records.proofs.KeepLaws.{collect-kept}

-- what the logic has for a read past the end of an array of pairs
abbrev pub blank_pair : Pair
blank_pair = record { unit = record { x = nan; y = nan; z = nan }; constellation = 0; elevation = nan; observed = nan; detector = nan; range = nan; previous_range = nan }

-- what a current carrier gives that is looked at, and none that is not
abbrev pub given_by : Vec3 → Float → Float → Profile → List Carrier → Carrier → List Pair
given_by receiver mask dt profile previous c = cond (looked_at profile c) (pair_at receiver mask dt previous c) []

module _ (receiver : Vec3) (mask dt : Float) (profile : Profile) (previous : List Carrier) (c : Carrier) {r : Bool} (is : r ≡ ((usable c && le mask c.elevation) && (looked_at profile c))) where
  pub pair-tried : {ps : List Pair} → r ≡ true → first_pair receiver dt previous c ≡ ps → given_by receiver mask dt profile previous c ≡ ps
  unfolding pair_at
  pair-tried t e =
      let both = and_both (usable c && le mask c.elevation) (looked_at profile c) (sym is ∙ t) in
      rw (both.1, both.0) e

  pub pair_not : r ≡ false → given_by receiver mask dt profile previous c ≡ []
  unfolding pair_at
  pair_not t = go (usable c && le mask c.elevation) (looked_at profile c) (sym is ∙ t)
    where
      go : (a b : Bool) → (a && b) ≡ false → cond b (cond a (first_pair receiver dt previous c) []) [] ≡ []
      go true true e = absurd (let z : ◌≡◌ {A = ℕ} 0 1 = cc in omega arith)
      go true false e = refl
      go false true e = refl
      go false false e = refl

-- the pairs of the carriers that are looked at
pub pairs-looked : (receiver : Vec3) (mask dt : Float) (profile : Profile) (previous current : List Carrier) → collect (given_by receiver mask dt profile previous) current ≡ pairs_of receiver mask dt previous (looked profile current)
unfolding pairs_of certified_of
pairs-looked receiver mask dt General previous current = refl
pairs-looked receiver mask dt (City band) previous current = sym (collect-kept (pair_at receiver mask dt previous) (certified band) current)
