-- The carriers of an epoch as columns of numbers, place by place. Definitions only.
use Rattle.std.specs.Prelude.{ℕ, ◌+◌, ◌*◌, Bool, ◌&&◌, List, leb, get_or, length, ℤ, pos, Float}
use Rattle.std.specs.Float.{nan}
use Rattle.lists.specs.Walk.{places}
use Rattle.numeric.specs.Vec3.{vector_at}
use Rattle.records.specs.declared.record.Carrier.{Carrier}
use Rattle.records.specs.declared.record.Epoch.{Epoch}

-- six floats for each carrier (adr, x, y, z, elevation, rate), and one number in each other column
pub record CarrierColumns : Type 0 where
  pub constellation : List ℕ
  pub svid : List ℕ
  pub band : List ℕ
  pub state : List ℤ
  pub floats : List Float

abbrev pub carrier_columns : List ℕ → List ℕ → List ℕ → List ℤ → List Float → CarrierColumns
carrier_columns constellation svid band state floats = record { constellation = constellation; svid = svid; band = band; state = state; floats = floats }

-- carrier i
unfoldable pub carrier_at : CarrierColumns → ℕ → Carrier
carrier_at c i =
    record {
      constellation = get_or c.constellation i 0;
      svid = get_or c.svid i 0;
      band = get_or c.band i 0;
      adr = get_or c.floats (6 * i) nan;
      state = get_or c.state i (pos 0);
      satellite = vector_at c.floats (6 * i + 1);
      elevation = get_or c.floats (6 * i + 4) nan;
      rate = get_or c.floats (6 * i + 5) nan;
    }

-- the first n carriers
abbrev pub carriers_of : CarrierColumns → ℕ → List Carrier
carriers_of c n = places (carrier_at c) n

abbrev pub epoch_of : CarrierColumns → ℕ → Epoch
epoch_of c n = record { count = n; carriers = carriers_of c n }

-- n is at most 64, and no column is shorter than n carriers need
unfoldable pub epoch_fits : CarrierColumns → ℕ → Bool
epoch_fits c n =
    leb n 64 && leb n (length c.constellation) && leb n (length c.svid) && leb n (length c.band) && leb n (length c.state)
    && leb (6 * n) (length c.floats)
