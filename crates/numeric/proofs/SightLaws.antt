-- A line of sight, step by step, and where it is refused. Assumes nothing.
use Rattle.std.specs.Prelude.{Ok, Err}
use mathlib.Core.Path.{◌≡◌, refl}
use mathlib.Core.Bool.{Bool, true, false, cond}
use Prim.Native.Nat.{ℕ}
use native.Mathlib.Omega.{arith}
use lib.Ieee.{Float, nan, inf, eq, of_bits, of_int}
use Rattle.exact.specs.Float.{+0, bits, whole}
use Rattle.numeric.specs.Vec3.{sub, norm}
use Rattle.numeric.specs.Sight.{gap, along, sight_of, on_receiver, geometry}
use Rattle.numeric.specs.declared.vec3.Vec3.{Vec3}
use Rattle.numeric.specs.declared.refusal.Refusal.{Refusal}
use Rattle.numeric.specs.declared.refusal.Refusal.TheVariants.{OnReceiver}
use Rattle.numeric.specs.declared.sight.Sight.{Sight}

-- the distance of the two places, the way that the turn leaves, its length, and the line of sight along it
pub sight-is : (satellite receiver : Vec3) {u d : Vec3} {distance range : Float} {s : Sight} → u ≡ sub satellite receiver → distance ≡ norm u → d ≡ gap satellite receiver distance → range ≡ norm d → s ≡ along d range → s ≡ sight_of satellite receiver
unfolding sight_of
sight-is satellite receiver e₁ e₂ e₃ e₄ e₅ = rw (e₅, e₄, e₃, e₂, e₁)

-- ---- 15

-- a line of sight whose range is zero or not finite is refused, and every other is given
module _ (satellite receiver : Vec3) {s : Sight} (e : s ≡ sight_of satellite receiver) where
  pub not_given_lem : on_receiver s.range ≡ true → Err OnReceiver ≡ geometry satellite receiver
  unfolding geometry
  not_given_lem h = rw (rw e at h)

  pub given : on_receiver s.range ≡ false → Ok s ≡ geometry satellite receiver
  unfolding geometry
  given h = rw (e, rw e at h)

-- what is seen is the line of sight, and its range is neither zero nor not finite
pub record Sighted (satellite receiver : Vec3) (s : Sight) : Type 0 where
  pub sight : s ≡ sight_of satellite receiver
  pub range : on_receiver (sight_of satellite receiver).range ≡ false

module _ (satellite receiver : Vec3) where
  pub refused-by : {r : Refusal} → geometry satellite receiver ≡ Err r → (r ≡ OnReceiver) × (on_receiver (sight_of satellite receiver).range ≡ true)
  unfolding geometry
  refused-by {r} e = go (on_receiver (sight_of satellite receiver).range) refl e
    where
      go : (b : Bool) → on_receiver (sight_of satellite receiver).range ≡ b → cond b (Err OnReceiver) (Ok (sight_of satellite receiver)) ≡ Err r
          → (r ≡ OnReceiver) × (on_receiver (sight_of satellite receiver).range ≡ true)
      go true h q = (cc, h)
      go false h q = absurd (let z : ◌≡◌ {A = ℕ} 0 1 = cc in omega arith)

  pub seen_by : {s : Sight} → geometry satellite receiver ≡ Ok s → Sighted satellite receiver s
  unfolding geometry
  seen_by {s} e = go (on_receiver (sight_of satellite receiver).range) refl e
    where
      go : (b : Bool) → on_receiver (sight_of satellite receiver).range ≡ b → cond b (Err OnReceiver) (Ok (sight_of satellite receiver)) ≡ Ok s → Sighted satellite receiver s
      go true h q = absurd (let z : ◌≡◌ {A = ℕ} 0 1 = cc in omega arith)
      go false h q = record { sight = cc; range = h }

-- both zeros, both infinities and a NaN; 1 is a range
pub ranges : (on_receiver +0 ≡ true) × (on_receiver (bits 0x8000_0000_0000_0000) ≡ true) × (on_receiver (inf false) ≡ true) × (on_receiver (inf true) ≡ true) × (on_receiver nan ≡ true) × (on_receiver (whole 1) ≡ false)
unfolding on_receiver eq of_bits of_int
ranges = (refl, refl, refl, refl, refl, refl)
