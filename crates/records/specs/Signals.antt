-- The carriers of an epoch as signals, states and floats, place by place. Definitions only.
use Rattle.std.specs.Prelude.{ℕ, ◌+◌, ◌*◌, ◌^◌, ◌<◌, ◌≤◌, List, get_or, length, ℤ, pos, Float}
use Rattle.std.specs.Float.{nan}
use Rattle.lists.specs.Walk.{places}
use Rattle.numeric.specs.Vec3.{vector_at}
use Rattle.signal.specs.Signal.{constellation_in, svid_in, band_in}
use Rattle.records.specs.declared.record.Carrier.{Carrier}
use Rattle.records.specs.declared.record.Epoch.{Epoch}

-- the carrier of a signal and a state, with the six floats at place 6 * i
unfoldable pub carrier_with : ℕ → ℤ → List Float → ℕ → Carrier
carrier_with s state fs i =
    record {
      constellation = constellation_in s;
      svid = svid_in s;
      band = band_in s;
      adr = get_or fs (6 * i) nan;
      state = state;
      satellite = vector_at fs (6 * i + 1);
      elevation = get_or fs (6 * i + 4) nan;
      rate = get_or fs (6 * i + 5) nan;
    }

abbrev pub carrier_in : List ℕ → List ℤ → List Float → ℕ → Carrier
carrier_in ss ts fs i = carrier_with (get_or ss i 0) (get_or ts i (pos 0)) fs i

-- the carriers, as many as there are signals
abbrev pub carriers_in : List ℕ → List ℤ → List Float → List Carrier
carriers_in ss ts fs = places (carrier_in ss ts fs) (length ss)

abbrev pub epoch_in : List ℕ → List ℤ → List Float → Epoch
epoch_in ss ts fs = record { count = length ss; carriers = carriers_in ss ts fs }

-- there are at most 64 signals, each of them one, and for each a state and six floats
pub record SignalsFit (ss : List ℕ) (ts : List ℤ) (fs : List Float) : Type 0 where
  pub few : length ss ≤ 64
  pub states : length ss ≤ length ts
  pub floats : 6 * length ss ≤ length fs
  pub signals : (i : ℕ) → i < length ss → get_or ss i 0 < 2 ^ 56
