-- The columns of new samples. Definitions only.
use Rattle.std.specs.Prelude.{ℕ, ◌≡◌}
use Rattle.corrections_directory.specs.Lent.{FloatSlice, Slice}
use Rattle.corrections_add.specs.declared.samples.NewSamples.{NewSamples}

-- the struct has these columns, and this count
pub record IsColumns (k : ℕ) (c v b : Slice) (t x : FloatSlice) (w : NewSamples) : Type 0 where
  pub count-is : w.count ≡ k
  pub constellation-is : w.constellation ≡ c
  pub svid-is : w.svid ≡ v
  pub band-is : w.band ≡ b
  pub time-is : w.time ≡ t
  pub metres-is : w.metres ≡ x
