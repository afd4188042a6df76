-- The rule of before request (vi), line by line as it was written. Definitions only.
use Rattle.std.specs.Prelude.{Result, Ok, Err}
use Rattle.numeric.specs.declared.refusal.Refusal.{Refusal}
use Rattle.std.specs.Prelude.{ℕ, suc, ◌-◌, cond, ◌&&◌, ◌||◌, List, [], ◌∷◌, eqb, ltb, length, get_or, Float}
use Rattle.std.specs.Float.Ieee.{lt}
use Rattle.exact.specs.Float.{◌⊕◌, ◌⊖◌, ◌⊗◌, ◌⊘◌, bits}
use Rattle.numeric.specs.Real.{abs}
use Rattle.numeric.specs.declared.refusal.Refusal.TheVariants.{NoCorrection}
use Rattle.corrections_table.specs.Table.{blank}
use Rattle.corrections_table.specs.declared.sample.Sample.{Sample}

-- how many samples at the head of a series are before t (Rust's `partition_point`)
unfoldable pub partition_point : Float → List Sample → ℕ
partition_point t [] = 0
partition_point t (s ∷ l) = cond (lt s.time t) (suc (partition_point t l)) 0

-- the correction at the time t from one satellite's series, line by line as `Corrections::at` has it
unfoldable pub former_at : List Sample → Float → Float → Result Float Refusal
former_at l gap t =
    let microsecond = bits 0x3EB0_C6F7_A0B5_ED8D in
    let i = partition_point t l in
    let a = get_or l (i - 1) blank in
    let b = get_or l i blank in
    cond (ltb i (length l) && lt (abs (b.time ⊖ t)) microsecond) (Ok b.correction)
    (cond (eqb i 0 || eqb i (length l)) (Err NoCorrection)
    (cond (lt (abs (a.time ⊖ t)) microsecond) (Ok a.correction)
    (cond (lt gap (b.time ⊖ a.time)) (Err NoCorrection)
    (Ok (a.correction ⊕ (t ⊖ a.time) ⊘ (b.time ⊖ a.time) ⊗ (b.correction ⊖ a.correction))))))
