-- What the trial of a carrier's state hands to a displacement, and the trials of a track to the smoother. Definitions only.
use Rattle.std.specs.Prelude.{Result, Ok, Err}
use Rattle.numeric.specs.declared.refusal.Refusal.{Refusal}
use Rattle.tdcp.specs.declared.displacement.Delta.{Delta}
use Rattle.std.specs.Prelude.{◌≡◌, List, ℕ, ℤ, length, replicate, Float}
use Rattle.lists.specs.Memory.{before, after, LentNumbers}
use Rattle.exact.specs.Float.{+0, 1·0, bits}
use Rattle.numeric.specs.declared.vec3.Vec3.{Vec3}
use Rattle.tdcp.specs.Displacement.{Input, general}
use Rattle.records.specs.declared.record.Carrier.{Carrier}
use Rattle.records.specs.declared.record.Epoch.{Epoch}
use Rattle.track_pass.specs.Input.{trajectory}
use Rattle.track_smooth.specs.Answer.{Tracked, track_of, track_answer, track_result_after}
use Rattle.numeric.specs.Refusal.{answer_number}
use Rattle.track_smooth.specs.Trials.{usual, one_anchor, no_link}

-- 10
abbrev pub ten : Float
ten = bits 0x4024_0000_0000_0000

abbrev pub origin : Vec3
origin = record { x = +0; y = +0; z = +0 }

-- a metre from the receiver
abbrev pub place : Vec3
place = record { x = 1·0; y = +0; z = +0 }

-- a carrier in the state z, at the mask
abbrev pub carrier_in : ℤ → Carrier
carrier_in z = record { constellation = 1; svid = 5; band = 1575; adr = +0; state = z; satellite = place; elevation = ten; rate = +0 }

abbrev pub epoch_in : ℤ → Epoch
epoch_in z = record { count = 6; carriers = replicate 64 (carrier_in z) }

-- six of them at either epoch, a second apart, and zero rounds
abbrev pub six_in : ℤ → Input
six_in z =
    general (epoch_in z) (epoch_in z) 1·0 origin
    (record { screen = bits 0x3FE0_0000_0000_0000; sigma_a = 1·0; sigma_b = +0; huber = 1·0; mask = ten; rounds = 0; agreement = +0 })

-- how many pairs are used, 0 where the displacement is refused
abbrev pub used_of : Result Delta Refusal → ℕ
used_of (Ok d) = d.used
used_of (Err r) = 0

-- the number of the answer t, and its result
pub record Tells (t : Tracked) (r : List ℕ) (number : ℕ) (r' : List ℕ) : Type 0 where
  pub number_is : number ≡ answer_number (track_answer t)
  pub result-is : r' ≡ track_result_after t r

-- those of n epochs with one anchor and no link
abbrev pub OneAnchor : ℕ → (result work : LentNumbers) → ℕ → Type 0
OneAnchor n result work number =
    Tells (track_of (trajectory n one_anchor no_link) usual (length (before result)) (length (before work))) (before result) number (after result)
