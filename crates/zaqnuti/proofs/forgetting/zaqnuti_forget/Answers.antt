-- `zaqnuti::forgetting::zaqnuti_forget` meets its contract. Assumes nothing.
use Rattle.std.specs.Prelude.{Result, Ok, Err}
use mathlib.Core.Path.{◌≡◌, refl, ◌∙◌}
use Prim.Native.Nat.{ℕ}
use Rattle.numeric.specs.Refusal.{value_after}
use Rattle.numeric.specs.declared.refusal.Refusal.{Refusal}
use Rattle.corrections_forget.specs.Forget.{count_after}
use Rattle.zaqnuti.proofs.forgetting.zaqnuti_forget.Goals as goal

left : (a : Result ℕ Refusal) (n : ℕ) → value_after a n ≡ count_after a n
left (Ok k) n = refl
left (Err r) n = refl

pub returns : goal.returns
returns c = rw (c.put.ensures.0, c.put.ensures.1 ∙ left c.forget-answer.result c.args.table_count.now) c.forget-answer.ensures.1
