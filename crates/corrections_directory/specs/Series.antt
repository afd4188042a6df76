-- How far a time lies in one satellite's block. Definitions only.
use Rattle.std.specs.Prelude.{ℕ, suc, cond, List, [], ◌∷◌, Float}
use Rattle.std.specs.Float.Ieee.{lt}
use Rattle.corrections_table.specs.declared.sample.Sample.{Sample}

-- how many samples at the front of a series are before the time t
unfoldable pub front : Float → List Sample → ℕ
front t [] = 0
front t (s ∷ l) = cond (lt s.time t) (suc (front t l)) 0
