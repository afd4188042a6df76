-- The block in which the last of the first i samples lies, as i falls. Assumes nothing.
use mathlib.Core.Path.{◌≡◌, refl, sym, ap, ◌∙◌}
use mathlib.Core.List.{List, [], ◌∷◌}
use mathlib.Core.Bool.{true}
use Prim.Native.Nat.{ℕ, zero, suc, ◌+◌, ◌-◌, ◌≤◌, ◌<◌}
use native.Mathlib.Omega.{arith}
use lib.ListN.{length, get_or}
use borrow.Author.Tests.{eqb-true}
use Rattle.corrections_directory.specs.Directory.{Entry, tiles}
use Rattle.corrections_directory.specs.Steps.{no_entry}
use Rattle.corrections_directory.proofs.SoundLaws.{tiles-at}
use Rattle.corrections_directory.proofs.EntryLaws.{tiles-first, tiles-next, tiles-last}

-- of the first e entries the last holds the last of the first i samples
pub record Cursor (es : List Entry) (e i : ℕ) : Type 0 where
  pub few : e ≤ length es
  pub none : e ≡ 0 → i ≡ 0
  pub from : 0 < e → (get_or es (e - 1) no_entry).start < i
  pub to : 0 < e → i ≤ (get_or es (e - 1) no_entry).start + (get_or es (e - 1) no_entry).count

pub cursor-some : (es : List Entry) (e i : ℕ) → Cursor es e i → 0 < i → 0 < e
cursor-some es zero i c h = absurd (omega (arith, c.none refl))
cursor-some es (suc e) i c h = omega arith

module _ (n : ℕ) where
  pub cursor-start : (es : List Entry) → tiles 0 n es ≡ true → Cursor es (length es) n
  cursor-start [] t = record { few = omega arith; none = λ q. sym (eqb-true 0 n (unfold tiles in t)); from = λ h. absurd (omega arith); to = λ h. absurd (omega arith) }
  cursor-start (e ∷ es) t =
      let k = length es in
      let z : suc k - 1 ≡ k = omega arith in
      let l = tiles-last 0 n (e ∷ es) k t refl in
      let i = tiles-at 0 n (e ∷ es) k t (omega arith) in
      record { few = omega arith; none = λ q. absurd (omega arith); from = λ h. rw z (omega (arith, l, i.filled)); to = λ h. rw z (omega (arith, l)) }

  module _ (es : List Entry) (t : tiles 0 n es ≡ true) (e i : ℕ) (c : Cursor es e i) (h : 0 < i) where
    -- the block has more samples before
    pub cursor-stay : (r : ℕ) → r ≤ i → (get_or es (e - 1) no_entry).start < r → Cursor es e r
    cursor-stay r l m =
        let p = cursor-some es e i c h in
        record { few = c.few; none = λ q. absurd (omega arith); from = λ k. m; to = λ k. let a = c.to k in omega arith }

    -- the block was left
    pub cursor-leave : (r : ℕ) → (get_or es (e - 1) no_entry).start ≡ r → Cursor es (e - 1) r
    cursor-leave r q = go e refl
      where
        p : 0 < e
        p = cursor-some es e i c h

        go : (k : ℕ) → e ≡ k → Cursor es (e - 1) r
        go zero z = absurd (omega (arith, p))
        go (suc zero) z =
            let y : e - 1 ≡ 0 = omega arith in
            let s : (get_or es 0 no_entry).start ≡ 0 = tiles-first 0 n es t (omega (arith, c.few, z)) in
            let w : r ≡ 0 = sym q ∙ ap (λ (j : ℕ). (get_or es j no_entry).start) y ∙ s in
            record { few = omega (arith, c.few); none = λ r. w; from = λ k. absurd (omega arith); to = λ k. absurd (omega arith) }
        go (suc (suc x)) z =
            let y : e - 1 ≡ suc x = omega arith in
            let v : e - 1 - 1 ≡ x = omega arith in
            let s : (get_or es (suc x) no_entry).start ≡ (get_or es x no_entry).start + (get_or es x no_entry).count = tiles-next 0 n es x t (omega (arith, c.few, z)) in
            let w : r ≡ (get_or es x no_entry).start + (get_or es x no_entry).count = sym q ∙ ap (λ (j : ℕ). (get_or es j no_entry).start) y ∙ s in
            let f = tiles-at 0 n es x t (omega (arith, c.few, z)) in
            record { few = omega (arith, c.few); none = λ r. absurd (omega arith); from = λ k. rw v (omega (arith, w, f.filled)); to = λ k. rw v (omega (arith, w)) }
