-- `corrections_forget::retain::trim` meets its contract. Assumes nothing.
use mathlib.Core.List.{List}
use Prim.Native.Nat.{ℕ}
use Rattle.corrections_directory.specs.Directory.{floats, lent_blocks}
use Rattle.corrections_forget.specs.Steps.{Fit}
use Rattle.corrections_forget.proofs.PatternLaws.{Beyond}
use Rattle.corrections_forget.proofs.TrimLaws.{Trimming}
use Rattle.corrections_forget.proofs.retain.trim.Given as goal

abbrev pub invariant-loop-i : goal.invariant-loop-i
invariant-loop-i l = ((dc dv db : List ℕ) (n : ℕ) → Fit l.blocks n (lent_blocks dc dv db l.initial.block_first l.initial.block_samples (floats l.initial.table_time) (floats l.initial.table_metres)) → Trimming l.time l.blocks n (lent_blocks dc dv db l.initial.block_first l.initial.block_samples (floats l.initial.table_time) (floats l.initial.table_metres)) l.block_first l.block_samples (floats l.table_time) (floats l.table_metres) l.i l.place)
    × (Beyond l.initial.table_time l.table_time l.place × Beyond l.initial.table_metres l.table_metres l.place)
