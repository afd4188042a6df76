-- Rules are checked in order, and the first that applies refuses (docs/REFUSALS.md). Definitions only.
use Rattle.std.specs.Prelude.{Bool, cond, List, [], ◌∷◌}
use Rattle.numeric.specs.declared.refusal.Refusal.{Refusal}

-- a refusal, and whether it applies
pub record Rule : Type 0 where
  pub refusal : Refusal
  pub applies : Bool

abbrev pub rule : Refusal → Bool → Rule
rule r b = record { refusal = r; applies = b }

-- what `refused` gives of the first rule that applies, and a where none does
unfoldable pub ruled : {A : Type 0} → (Refusal → A) → List Rule → A → A
ruled refused [] a = a
ruled refused (r ∷ rs) a = cond r.applies (refused r.refusal) (ruled refused rs a)
