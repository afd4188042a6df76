-- The carrier pairs of two epochs (docs/SCOPE.md, "Displacement"; tdcp.rs). Definitions only.
use Rattle.std.specs.Prelude.{◌≡◌, Bool, not, cond, ◌&&◌, List, [], ◌∷◌, take, Float}
use Rattle.std.specs.Float.Ieee.{le}
use Rattle.exact.specs.Float.{◌⊕◌, ◌⊖◌, ◌⊗◌, bits}
use Rattle.lists.specs.Walk.{every, first, collect, Holds}
use Rattle.numeric.specs.Sight.{sight_of, on_receiver}
use Rattle.numeric.specs.declared.vec3.Vec3.{Vec3}
use Rattle.records.specs.Record.{usable, same}
use Rattle.records.specs.declared.record.Carrier.{Carrier}
use Rattle.records.specs.declared.pair.Pair.{Pair}
use Rattle.records.specs.declared.pair.Pairs.{Pairs}

-- 0.5
abbrev pub half : Float
half = bits 0x3FE0_0000_0000_0000

-- What the current carrier c and the previous carrier p give a receiver, dt seconds apart: `observed` is the phase change less the geometric one,
-- `detector` the phase change less what the mean of the two rates predicts, and the ranges are those of the two satellite places.
unfoldable pub pair_of : Vec3 → Float → Carrier → Carrier → Pair
pair_of receiver dt c p =
    let now = sight_of c.satellite receiver in
    let then = sight_of p.satellite receiver in
    let phase = c.adr ⊖ p.adr in
    record {
      unit = record { x = now.x; y = now.y; z = now.z };
      constellation = c.constellation;
      elevation = c.elevation;
      observed = phase ⊖ (now.range ⊖ then.range);
      detector = phase ⊖ half ⊗ (c.rate ⊕ p.rate) ⊗ dt;
      range = now.range;
      previous_range = then.range;
    }

-- the pair of c and the first usable previous carrier of equal constellation, svid and band, if there is one; the previous elevation isn't tested
unfoldable pub first_pair : Vec3 → Float → List Carrier → Carrier → List Pair
first_pair receiver dt previous c = first (λ p. same p c && usable p) (λ p. pair_of receiver dt c p ∷ []) [] previous

-- what a current carrier gives: that pair, if it is usable itself and at or above the mask
unfoldable pub pair_at : Vec3 → Float → Float → List Carrier → Carrier → List Pair
pair_at receiver mask dt previous c = cond (usable c && le mask c.elevation) (first_pair receiver dt previous c) []

-- the pairs of two epochs, in the order of the current carriers
unfoldable pub pairs_of : Vec3 → Float → Float → List Carrier → List Carrier → List Pair
pairs_of receiver mask dt previous current = collect (pair_at receiver mask dt previous) current

-- 15 lets a pair pass: neither of its ranges is zero or not finite
unfoldable pub seen : Pair → Bool
seen q = not (on_receiver q.range) && not (on_receiver q.previous_range)

-- the counted pairs
abbrev pub counted_pairs : Pairs → List Pair
counted_pairs p = take p.count p.pair

-- what the code has of the pairs ps: they are the first of its array, and whether 15 lets each pass
pub record Paired (r : Pairs) (ps : List Pair) : Type 0 where
  pub held : Holds r.count r.pair ps
  pub all_seen : r.seen ≡ every seen ps
