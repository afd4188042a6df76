-- Rules in checking order: what a call that tests them in parts knows. Assumes nothing.
use Rattle.std.specs.Prelude.{Result, Ok, Err, ⊤}
use mathlib.Core.Path.{◌≡◌, refl, sym, ap, ◌∙◌}
use mathlib.Core.List.{List, [], ◌∷◌, ◌++◌}
use mathlib.Core.Bool.{Bool, true, false, cond}
use Prim.Native.Nat.{ℕ, ◌+◌, ◌≤◌}
use native.Mathlib.Omega.{arith}
use borrow.Author.Tests.{ltb-false}
use Rattle.numeric.specs.declared.refusal.Refusal.{Refusal}
use Rattle.numeric.specs.Rules.{Rule, ruled}
use Rattle.estimate_rounds.specs.Rules.{row_rules}

-- what a check says
abbrev pub checked : List Rule → Result ⊤ Refusal
checked rs = ruled Err rs (Ok tt)

module _ {A : Type 0} (f : Refusal → A) (a : A) where
  -- what a call answers after a check
  answer : Result ⊤ Refusal → A
  answer (Err r) = f r
  answer (Ok tt) = a

  answer-is : (rs : List Rule) → ruled f rs a ≡ answer (checked rs)
  unfolding ruled answer
  answer-is [] = refl
  answer-is (r ∷ rs) = go r.applies (answer-is rs)
    where
      go : (b : Bool) → ruled f rs a ≡ answer (checked rs) → cond b (f r.refusal) (ruled f rs a) ≡ answer (cond b (Err r.refusal) (checked rs))
      go true ih = refl
      go false ih = ih

  pub refused-by : (rs : List Rule) {r : Refusal} → Err r ≡ checked rs → f r ≡ ruled f rs a
  unfolding answer
  refused-by rs e = sym (answer-is rs ∙ ap answer (sym e))

  pub passed-by : (rs : List Rule) → (Ok tt) ≡ checked rs → ruled f rs a ≡ a
  unfolding answer
  passed-by rs e = answer-is rs ∙ ap answer (sym e)

  -- an answer that is no refusal has passed
  pub passed-of : (rs : List Rule) {b : A} → ruled f rs a ≡ b → ((r : Refusal) → f r ≡ b → ⊥) → (Ok tt) ≡ checked rs
  passed-of rs {b} h ne = go (checked rs) refl
    where
      go : (v : Result ⊤ Refusal) → checked rs ≡ v → (Ok tt) ≡ v
      go (Err r) e = absurd (ne r (refused-by rs (sym e) ∙ h))
      go (Ok tt) e = refl

-- ---- what has been passed

-- the rule at the head does not apply, and the others have been passed
pub head_passed : (r : Rule) (rs : List Rule) → (Ok tt) ≡ checked (r ∷ rs) → (r.applies ≡ false) × ((Ok tt) ≡ checked rs)
unfolding ruled
head_passed r rs e = go r.applies refl e
  where
    go : (b : Bool) → r.applies ≡ b → (Ok tt) ≡ cond b (Err r.refusal) (checked rs) → (r.applies ≡ false) × ((Ok tt) ≡ checked rs)
    go true h e = let z : ◌≡◌ {A = ℕ} 0 1 = cc in absurd (omega arith)
    go false h e = (h, e)

pub append-passed : (rs ss : List Rule) → (Ok tt) ≡ checked (rs ++ ss) → (Ok tt) ≡ checked ss
append-passed [] ss e = e
append-passed (r ∷ rs) ss e = append-passed rs ss (head_passed r (rs ++ ss) e).1

pub append-first : (rs ss : List Rule) → (Ok tt) ≡ checked (rs ++ ss) → (Ok tt) ≡ checked rs
unfolding ruled
append-first [] ss e = refl
append-first (r ∷ rs) ss e = let h = head_passed r (rs ++ ss) e in rw h.0 (append-first rs ss h.1)

-- what rules 8 and 9 leave
pub record Enough (rows slots : ℕ) : Type 0 where
  pub redundant : 4 + slots ≤ rows
  pub few-slots : slots ≤ 6

pub rows-passed : (rows slots : ℕ) → (Ok tt) ≡ checked (row_rules rows slots) → Enough rows slots
unfolding row_rules
rows-passed rows slots e =
    let a = head_passed _ _ e in
    let b = head_passed _ _ a.1 in
    record { redundant = ltb-false rows (4 + slots) a.0; few-slots = ltb-false 6 slots b.0 }
