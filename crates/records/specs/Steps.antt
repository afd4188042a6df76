-- What only contracts of inner functions cite. Definitions only.
use Rattle.std.specs.Prelude.{ℕ, ◌+◌, ◌*◌, ◌^◌, ◌<◌, Bool, true, List, [], ◌∷◌, Option, Some, None, IfSome, ◌≡◌, get_or, length, Float, ℤ}
use Rattle.std.specs.Borrow.{Bor}
use Rattle.lists.specs.Memory.{before, LentNumbers, LentFloats}
use Rattle.lists.specs.Walk.{places}
use Rattle.records.specs.declared.record.Carrier.{Carrier}
use Rattle.records.specs.declared.pair.Profile.{Profile}
use Rattle.records.specs.declared.pair.Profile.TheVariants.{General, City}
use Rattle.records.specs.City.{certified}
use Rattle.std.specs.Float.{nan}
use Rattle.records.specs.declared.pair.Pair.{Pair}
use Rattle.numeric.specs.declared.vec3.Vec3.{Vec3}
use Rattle.records.specs.Signals.{carrier_with, carrier_in, carriers_in}
use Rattle.records.specs.Pair.{pair_of, first_pair}
use Rattle.signal.specs.Signal.{signal}

-- whether the profile has the carrier looked at
abbrev pub looked_at : Profile → Carrier → Bool
looked_at General c = true
looked_at (City band) c = certified band c

-- pair i of the columns, without its detector and ranges, which no round asks for
abbrev pub pair_in : List Float → List Float → List Float → List ℕ → List Float → List Float → ℕ → Pair
pair_in x y z constellation elevation observed i =
    record {
      unit = record { x = get_or x i nan; y = get_or y i nan; z = get_or z i nan };
      constellation = get_or constellation i 0;
      elevation = get_or elevation i nan;
      observed = get_or observed i nan;
      detector = nan;
      range = nan;
      previous_range = nan;
    }

-- as many pairs as there are observed numbers
abbrev pub pairs_in : List Float → List Float → List Float → List ℕ → List Float → List Float → List Pair
pairs_in x y z constellation elevation observed = places (pair_in x y z constellation elevation observed) (length observed)

-- the pairs of lent columns
abbrev pub lent_pairs : LentFloats → LentFloats → LentFloats → LentNumbers → LentFloats → LentFloats → List Pair
lent_pairs x y z constellation elevation observed = pairs_in (before x) (before y) (before z) (before constellation) (before elevation) (before observed)

-- what the place of a partner gives, if there is one
abbrev pub pair_with : (ℕ → Pair) → Option ℕ → List Pair
pair_with f None = []
pair_with f (Some j) = f j ∷ []

-- r is where the first previous carrier stands that is usable and of the signal g, if there is one
pub record Finds (g : ℕ) (ss : List ℕ) (ts : List ℤ) (fs : List Float) (r : Option ℕ) : Type 0 where
  pub within : IfSome r (λ j. j < length ss)
  pub found :
      (receiver : Vec3) (dt : Float) (state : ℤ) (gs : List Float) (i : ℕ) →
      first_pair receiver dt (carriers_in ss ts fs) (carrier_with g state gs i) ≡ pair_with (λ j. pair_of receiver dt (carrier_with g state gs i) (carrier_in ss ts fs j)) r

-- the first n of 64 signals are those of the columns, whose numbers fit their types
pub record Signalled (cs vs bs : List ℕ) (n : ℕ) (ss : List ℕ) : Type 0 where
  pub long : length ss ≡ 64
  pub constellation : (i : ℕ) → i < n → get_or cs i 0 < 2 ^ 8
  pub svid : (i : ℕ) → i < n → get_or vs i 0 < 2 ^ 16
  pub band : (i : ℕ) → i < n → get_or bs i 0 < 2 ^ 32
  pub all : (i : ℕ) → i < n → get_or ss i 0 ≡ signal (get_or cs i 0) (get_or vs i 0) (get_or bs i 0)

-- place i holds the carrier c, and those before it hold what they held
pub record Put (c : Carrier) (i : ℕ) (ss : List ℕ) (ts : List ℤ) (fs : List Float) (ss' : List ℕ) (ts' : List ℤ) (fs' : List Float) : Type 0 where
  pub signals-long : length ss' ≡ length ss
  pub states-long : length ts' ≡ length ts
  pub floats-long : length fs' ≡ length fs
  pub signal-small : get_or ss' i 0 < 2 ^ 56
  pub here : carrier_in ss' ts' fs' i ≡ c
  pub signals-below : (k : ℕ) → k < i → get_or ss' k 0 ≡ get_or ss k 0
  pub below : (k : ℕ) → k < i → carrier_in ss' ts' fs' k ≡ carrier_in ss ts fs k

-- 64 signals and states and their floats; the first n are those of xs
pub record Laid (xs : List Carrier) (n : ℕ) (ss : List ℕ) (ts : List ℤ) (fs : List Float) : Type 0 where
  pub signals-long : length ss ≡ 64
  pub states-long : length ts ≡ 64
  pub floats-long : length fs ≡ 384
  pub small : (i : ℕ) → i < n → get_or ss i 0 < 2 ^ 56
  pub all : (i : ℕ) → i < n → (d : Carrier) → carrier_in ss ts fs i ≡ get_or xs i d
