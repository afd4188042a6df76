-- The loop that finds where the fields of a line begin. Assumes nothing.
use mathlib.Core.Path.{◌≡◌, refl, sym, ap, subst, ◌∙◌}
use mathlib.Core.List.{List, []}
use mathlib.Core.Bool.{false}
use Prim.Native.Nat.{ℕ, suc, ◌+◌, ◌-◌, ◌≤◌, ◌<◌}
use native.Mathlib.Nat.{add-zero}
use native.Mathlib.Decide.{dec_lt}
use native.Mathlib.Omega.{arith}
use lib.Dec.{T, eqb}
use borrow.Author.Tests.{eq-eqb, ne_eqb}
use lib.ListN.{length, get_or, take, drop, set, length-drop, length-set}
use lib.Seq.{get_or-set_same, get_or-set_other, get_or-drop, drop-drop}
use Rattle.std.specs.Prelude.{Some, None}
use Rattle.line_form.specs.Split.{split, field}
use Rattle.line_form.specs.Steps.{count_before, Part, FieldsOf}
use Rattle.line_form.proofs.SplitLaws.{split-some, part-last, part-next, part-head, found-le}

-- the fields before k are found, and the field k begins at `at`
pub record Parting (line from : List ℕ) (at k : ℕ) : Type 0 where
  pub within : at ≤ length line
  pub few : k ≤ 10
  pub long : length from ≡ 12
  pub here : get_or from k 0 ≡ at
  pub rest : split 44 (drop at line) ≡ drop k (split 44 line)
  pub part : (j : ℕ) → j < k → Part line from j

pub parting_start : (line from : List ℕ) → length from ≡ 12 → get_or from 0 0 ≡ 0 → Parting line from 0 0
parting_start line from l z = record { within = omega arith; few = omega arith; long = l; here = z; rest = refl; part = λ j h. absurd (omega arith) }

-- a place that is stored further on leaves a part as it is
part-kept : (line from : List ℕ) (j i v : ℕ) → j + 1 < i → Part line from j → Part line (set from i v) j
part-kept line from j i v h p =
    let a : get_or (set from i v) j 0 ≡ get_or from j 0 = get_or-set_other from i j v 0 (λ e. omega arith) in
    let b : get_or (set from i v) (j + 1) 0 ≡ get_or from (j + 1) 0 = get_or-set_other from i (j + 1) v 0 (λ e. omega arith) in
    record {
      order = omega (arith, p.order);
      end = omega (arith, p.end);
      bytes = ap (λ (x : ℕ). take (x - 1 - get_or (set from i v) j 0) (drop (get_or (set from i v) j 0) line)) b ∙ ap (λ (x : ℕ). take (get_or from (j + 1) 0 - 1 - x) (drop x line)) a ∙ p.bytes;
    }

module _ (line from : List ℕ) (at k r : ℕ) (inv : Parting line from at k) (is : r ≡ at + count_before 44 (drop at line)) where
  le : r ≤ length line
  le = found-le 44 line at r inv.within is

  at≤ : at ≤ r
  at≤ = omega arith

  is_field : take (r - at) (drop at line) ≡ field line k
  is_field = sym (part-head 44 line at r inv.within is) ∙ ap (λ (ps : List (List ℕ)). get_or ps 0 []) inv.rest ∙ get_or-drop k (split 44 line) 0 [] ∙ ap (λ (x : ℕ). get_or (split 44 line) x []) (add-zero k)

  -- the part k, once the next place is stored
  new : (i : ℕ) → i ≡ k + 1 → Part line (set from i (r + 1)) k
  new i e =
      let a : get_or (set from i (r + 1)) k 0 ≡ at = get_or-set_other from i k (r + 1) 0 (λ q. omega arith) ∙ inv.here in
      let b : get_or (set from i (r + 1)) (k + 1) 0 ≡ r + 1 = ap (λ (x : ℕ). get_or (set from i (r + 1)) x 0) (sym e) ∙ get_or-set_same from i (r + 1) 0 (omega (arith, inv.long, inv.few)) in
      let n : r + 1 - 1 - at ≡ r - at = omega arith in
      record {
        order = omega (arith, a, b, at≤);
        end = omega (arith, b, le);
        bytes = ap (λ (x : ℕ). take (x - 1 - get_or (set from i (r + 1)) k 0) (drop (get_or (set from i (r + 1)) k 0) line)) b ∙ ap (λ (x : ℕ). take (r + 1 - 1 - x) (drop x line)) a ∙ ap (λ (x : ℕ). take x (drop at line)) n ∙ is_field;
      }

  all : (i : ℕ) → i ≡ k + 1 → (j : ℕ) → j < k + 1 → Part line (set from i (r + 1)) j
  all i e j h = go (dec_lt j k)
    where
      go : Dec (j < k) → Part line (set from i (r + 1)) j
      go (yes l) = part-kept line from j i (r + 1) (omega arith) (inv.part j l)
      go (no l) =
          let q : k ≡ j = omega arith in
          rw q at (new i e)

  count : length (split 44 (drop at line)) ≡ length (split 44 line) - k
  count = ap length inv.rest ∙ length-drop k (split 44 line)

  pub parting_more : k < 10 → (r ≡ length line → ⊥) → Parting line (set from (k + 1) (r + 1)) (r + 1) (k + 1)
  parting_more l ne =
      let lt : r < length line = omega (arith, le) in
      record {
        within = omega arith;
        few = omega arith;
        long = length-set from (k + 1) (r + 1) ∙ inv.long;
        here = get_or-set_same from (k + 1) (r + 1) 0 (omega (arith, inv.long));
        rest =
            ap (drop 1) (sym (part-next 44 line at r inv.within is lt) ∙ inv.rest) ∙ drop-drop 1 k (split 44 line);
        part = λ j h. all (k + 1) refl j h;
      }

  -- too few fields
  pub parting_few : k < 10 → r ≡ length line → FieldsOf line None
  parting_few l e =
      let c : length (split 44 line) - k ≡ 1 = sym count ∙ ap length (part-last 44 line at r inv.within is e) in
      ne_eqb (length (split 44 line)) 11 (λ h. omega arith)

  -- the last field
  pub parting_end : 10 ≤ k → r ≡ length line → FieldsOf line (Some (set from 11 (r + 1)))
  parting_end l z =
      let t : k ≡ 10 = omega (arith, inv.few) in
      let c : length (split 44 line) - k ≡ 1 = sym count ∙ ap length (part-last 44 line at r inv.within is z) in
      (eq-eqb (length (split 44 line)) 11 (omega (arith, inv.few)), record { part = λ j g. all 11 (omega arith) j (omega arith) })

  -- too many
  pub parting_many : 10 ≤ k → (r ≡ length line → ⊥) → FieldsOf line None
  parting_many l ne =
      let q : r < length line = omega (arith, le) in
      let c : length (split 44 line) - k ≡ suc (length (split 44 (drop (r + 1) line))) = sym count ∙ ap length (part-next 44 line at r inv.within is q) in
      ne_eqb (length (split 44 line)) 11 (λ h. omega (arith, inv.few, split-some 44 (drop (r + 1) line)))
