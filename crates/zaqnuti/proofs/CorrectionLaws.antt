-- The answers of the entry points of the corrections, from those of the calls inside. Assumes nothing.
use Rattle.numeric.specs.Refusal.{answer_number}
use Rattle.std.specs.Prelude.{Result, ⊤}
use Rattle.numeric.specs.declared.refusal.Refusal.{Refusal}
use mathlib.Core.Path.{◌≡◌, sym, ap, ◌∙◌}
use mathlib.Core.List.{List}
use Prim.Native.Nat.{ℕ}
use Rattle.corrections_table.specs.Widen.{bands_after}

-- the bands of an old table
module _ (n : ℕ) (narrow wide wide' : List ℕ) (o : Result ⊤ Refusal) {r : Result ⊤ Refusal} (e : r ≡ o) (h : wide' ≡ bands_after r n narrow wide) where
  pub widens-number : (x : Result ⊤ Refusal) (number : ℕ) → r ≡ x → number ≡ answer_number x → (number ≡ answer_number o) × (wide' ≡ bands_after o n narrow wide)
  widens-number x number f g = (g ∙ ap answer_number (sym f ∙ e), h ∙ ap (λ (z : Result ⊤ Refusal). bands_after z n narrow wide) e)
