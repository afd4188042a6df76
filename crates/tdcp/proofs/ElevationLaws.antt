-- Misreading 3, masking previous carriers: two previous epochs that differ only in elevations which 4 lets pass give one displacement. Assumes nothing.
use mathlib.Core.Path.{◌≡◌, refl, sym, ap, ◌∙◌, fun_ext}
use mathlib.Core.Bool.{cond, ◌&&◌}
use mathlib.Core.List.{List, [], ◌∷◌, map}
use lib.Ieee.{Float, le}
use Rattle.exact.specs.Float.{+0}
use Rattle.lists.specs.Walk.{every, first, collect}
use Rattle.numeric.specs.declared.vec3.Vec3.{Vec3}
use Rattle.records.specs.Record.{counted_carriers, sound_carrier, usable, same}
use Rattle.records.specs.Pair.{pair_of, first_pair, pair_at, pairs_of}
use Rattle.records.specs.declared.record.Carrier.{Carrier}
use Rattle.records.specs.declared.record.Epoch.{Epoch}
use Rattle.records.specs.declared.pair.Pair.{Pair}
use Rattle.tdcp.specs.Valid.{epoch_rules}
use Rattle.tdcp.specs.Displacement.{general, displacement_of}
use Rattle.tdcp.specs.declared.displacement.Settings.{Settings}

-- a carrier without its elevation
abbrev pub level : Carrier → Carrier
level c =
    record {
      constellation = c.constellation;
      svid = c.svid;
      band = c.band;
      adr = c.adr;
      state = c.state;
      satellite = c.satellite;
      elevation = +0;
      rate = c.rate;
    }

pair-level : (receiver : Vec3) (dt : Float) (c : Carrier) (ps : List Carrier) → first_pair receiver dt (map level ps) c ≡ first_pair receiver dt ps c
unfolding first_pair first same usable pair_of
pair-level receiver dt c [] = refl
pair-level receiver dt c (p ∷ ps) = ap (cond (same p c && usable p) (pair_of receiver dt c p ∷ [])) (pair-level receiver dt c ps)

pairs-level : (receiver : Vec3) (mask dt : Float) (ps cs : List Carrier) → pairs_of receiver mask dt (map level ps) cs ≡ pairs_of receiver mask dt ps cs
unfolding pairs_of pair_at
pairs-level receiver mask dt ps cs = ap (λ (f : Carrier → List Pair). collect (λ c. cond (usable c && le mask c.elevation) (f c) []) cs) (fun_ext (λ c. pair-level receiver dt c ps))

pub elevations-aside : (p q current : Epoch) (dt : Float) (receiver : Vec3) (settings : Settings) → p.count ≡ q.count → map level (counted_carriers p) ≡ map level (counted_carriers q)
    → every sound_carrier (counted_carriers p) ≡ every sound_carrier (counted_carriers q) → displacement_of (general p current dt receiver settings) ≡ displacement_of (general q current dt receiver settings)
unfolding displacement_of epoch_rules
elevations-aside p q current dt receiver settings n e s =
    let one : pairs_of receiver settings.mask dt (counted_carriers p) (counted_carriers current) ≡ pairs_of receiver settings.mask dt (counted_carriers q) (counted_carriers current) =
    sym (pairs-level receiver settings.mask dt (counted_carriers p) (counted_carriers current)) ∙ ap (λ (ps : List Carrier). pairs_of receiver settings.mask dt ps (counted_carriers current)) e
    ∙ pairs-level receiver settings.mask dt (counted_carriers q) (counted_carriers current) in
    rw (s, one, n)
