-- What the columns hold after a drop. Assumes nothing.
use Rattle.std.specs.Prelude.{Ok}
use mathlib.Core.Path.{◌≡◌, ap, ◌∙◌}
use Prim.Native.Nat.{ℕ}
use lib.Ieee.{Float}
use Rattle.corrections_directory.specs.Directory.{Blocks, Directory, block_capacity, directory_in, directory_of, flat}
use Rattle.corrections_directory.proofs.DirectoryLaws.{flat-directory}
use Rattle.corrections_directory.proofs.ColumnLaws.{blocks-hold}
use Rattle.corrections_forget.specs.Forget.{Forgets, ForgetOutcome, forget, forget_in, leaves, test_in}

-- ---- the columns hold what is left, with the same m entries
pub columns-hold : {o : ForgetOutcome} {number m n n' : ℕ} {l l' : Blocks} → Forgets o number m n n' l l' → (d : Directory) → o ≡ leaves d → directory_in m n' l' ≡ d
columns-hold {o} {number} {m} {n} {n'} {l} {l'} f d e =
    let g : Forgets (leaves d) number m n n' l l' = rw e at f in
    ap (λ (k : Blocks). directory_in m n' k) g.columns ∙ rw (g.entries-stay, g.count) (blocks-hold d l)

-- where no number is met, the columns stand for what is retained of the samples that they stood for
pub left-flat : {number m n n' : ℕ} {l l' : Blocks} (time : Float) → Forgets (forget_in m n (block_capacity l) (directory_in m n l) time) number m n n' l l' → test_in m n (block_capacity l) (directory_in m n l) time ≡ (Ok tt)
    → flat (directory_in m n' l') ≡ forget time (flat (directory_in m n l))
left-flat {number} {m} {n} {n'} {l} {l'} time f e =
    ap flat (columns-hold f (directory_of (forget time (flat (directory_in m n l)))) passed) ∙ flat-directory (forget time (flat (directory_in m n l)))
  where
    passed : forget_in m n (block_capacity l) (directory_in m n l) time ≡ leaves (directory_of (forget time (flat (directory_in m n l))))
    passed = unfold forget_in in rw e
