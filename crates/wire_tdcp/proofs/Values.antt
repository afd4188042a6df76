-- Worked values: the numbers of answers that the slices' lengths decide. Assumes nothing.
use Rattle.numeric.specs.Refusal.{answer_number}
use mathlib.Core.Path.{◌≡◌, refl}
use mathlib.Core.List.{[], ◌∷◌}
use Prim.Native.Nat.{◌*◌}
use lib.Ieee.{Float}
use lib.ListN.{replicate}
use Rattle.numeric.specs.declared.vec3.Vec3.{Vec3}
use Rattle.numeric.specs.Rules.{ruled}
use Rattle.tdcp.specs.declared.displacement.Settings.{Settings}
use Rattle.wire_tdcp.specs.Displacement.{handed, record_rules, records_displaced}

module _ (dt : Float) (receiver : Vec3) (settings : Settings) where
  -- a current slice that is no whole records, whatever the result's length: 21 before 2
  pub current_not_whole : answer_number (records_displaced (handed [] (1 ∷ []) dt receiver settings) []) ≡ 21
  unfolding records_displaced record_rules ruled
  current_not_whole = refl

  -- 65 records before, one byte too many now: 21 of either slice comes before 2
  pub not_whole-first : answer_number (records_displaced (handed (replicate (59 * 65) 0) (replicate 60 0) dt receiver settings) (replicate 40 0)) ≡ 21
  unfolding records_displaced record_rules ruled
  not_whole-first = refl

  pub many-records : answer_number (records_displaced (handed (replicate (59 * 65) 0) [] dt receiver settings) (replicate 40 0)) ≡ 2
  unfolding records_displaced record_rules ruled
  many-records = refl

  -- 39 bytes for the result
  pub short-result : answer_number (records_displaced (handed [] [] dt receiver settings) (replicate 39 0)) ≡ 2
  unfolding records_displaced record_rules ruled
  short-result = refl
