-- The line that answers a text, beside the call on columns that hold its carriers. Assumes nothing.
use Rattle.numeric.specs.Refusal.{answer_number}
use Rattle.std.specs.Prelude.{Result, Ok, Err}
use Rattle.numeric.specs.declared.refusal.Refusal.{Refusal}
use Rattle.tdcp.specs.declared.displacement.Delta.{Delta}
use mathlib.Core.Path.{◌≡◌, refl, sym, ap, ◌∙◌}
use mathlib.Core.Bool.{Bool, true, false, ◌&&◌, ◌||◌}
use mathlib.Core.List.{List, [], ◌∷◌}
use Prim.Native.Nat.{ℕ, ◌≤◌, ◌<◌}
use borrow.Author.Tests.{lt-leb, ne_eqb, ltb-true, ltb-false}
use lib.Dec.{ltb}
use Rattle.lists.proofs.Walk.{places-all}
use Rattle.numeric.specs.Refusal.{number_of}
use Rattle.numeric.proofs.RefusalLaws.{not-zero}
use Rattle.numeric.proofs.OrderLaws.{pattern_bits}
use Rattle.lists.specs.Memory.{before, after, LentNumbers}
use Rattle.records.specs.Carriers.{CarrierColumns, carrier_at, epoch_of, epoch_fits}
use Rattle.records.specs.declared.pair.Profile.TheVariants.{General}
use Rattle.numeric.specs.Rules.{ruled}
use Rattle.tdcp.specs.Valid.{epoch_rules}
use Rattle.tdcp.specs.Displacement.{Input, displacement_of}
use Rattle.tdcp.proofs.CountedLaws.{displacement-counted}
use Rattle.line_form.specs.Text.{is_text, text_input, displacement_in}
use Rattle.line_form.specs.Print.{digits_text, digit_count, answer_text}
use Rattle.line_form.specs.Answer.{answer_line}
use Rattle.tdcp_columns.specs.Displacement.{Lent, lent, is_fit, columns_displaced, delta_after, counts_after, DisplacementAnswers}
use Rattle.displacement_laws.specs.Line.{Columned, line_by}
use Rattle.displacement_laws.proofs.NeverLaws.{never-one}

-- R,1 where the text is too long or breaks the form
pub line-broken : (text : List ℕ) → is_text text ≡ false → answer_line text ≡ 82 ∷ 44 ∷ 49 ∷ 10 ∷ []
unfolding answer_line displacement_in digits_text digit_count
line-broken text e = rw e

line-by : (x : Result Delta Refusal) (delta₀ counts₀ : List ℕ) {number : ℕ} {delta counts : List ℕ} → number ≡ answer_number x → delta ≡ delta_after x delta₀ → counts ≡ counts_after x counts₀
    → answer_text x ≡ line_by number counts delta
line-by (Err r) delta₀ counts₀ n d c = rw (n, ne_eqb (number_of r) 0 (not-zero r))
line-by (Ok v) delta₀ counts₀ n d c = rw (n, d, c, pattern_bits v.delta.x, pattern_bits v.delta.y, pattern_bits v.delta.z)

too_many_lem : (c : CarrierColumns) (n : ℕ) → 64 < n → epoch_fits c n ≡ false
unfolding epoch_fits
too_many_lem c n h = rw (lt-leb n 64 h)

module _ (text : List ℕ) (formed : is_text text ≡ true) {previous : CarrierColumns} {m : ℕ} {current : CarrierColumns} {n : ℕ}
    (p : Columned (text_input text).previous previous m) (c : Columned (text_input text).current current n) where
  abbrev i : Input
  i = text_input text

  -- the columns, with the numbers of the text's first line
  abbrev pub asked : Lent
  asked = lent previous m current n i.since i.receiver i.settings General

  few : m ≤ 64 → n ≤ 64 → columns_displaced asked ≡ displacement_of i
  unfolding columns_displaced text_input
  few a b =
      rw (p.fits a, c.fits b)
      (displacement-counted (epoch_of previous m) i.previous (epoch_of current n) i.current i.since i.receiver i.settings General p.count c.count
      (places-all (carrier_at previous) m ∙ p.carriers a) (places-all (carrier_at current) n ∙ c.carriers b))

  many : (ltb 64 m || ltb 64 n) ≡ true → is_fit asked ≡ false → columns_displaced asked ≡ displacement_of i
  unfolding columns_displaced displacement_of epoch_rules ruled
  many h f = rw (f, ← p.count, ← c.count, h)

  same : columns_displaced asked ≡ displacement_of i
  same = go (ltb 64 m) refl (ltb 64 n) refl
    where
      go : (a : Bool) → ltb 64 m ≡ a → (b : Bool) → ltb 64 n ≡ b → columns_displaced asked ≡ displacement_of i
      go true e b h = many (rw e) (rw (too_many_lem previous m (ltb-true 64 m e)))
      go false e true h = many (rw (e, h)) (second (epoch_fits previous m) (too_many_lem current n (ltb-true 64 n h)))
        where
          second : (f : Bool) → epoch_fits current n ≡ false → (f && epoch_fits current n) ≡ false
          second true q = q
          second false q = refl
      go false e false h = few (ltb-false 64 m e) (ltb-false 64 n h)

  line-is : answer_line text ≡ answer_text (columns_displaced asked)
  unfolding answer_line displacement_in
  line-is = rw formed (ap answer_text (sym same))

  module _ {number : ℕ} {delta counts : LentNumbers} (answers : DisplacementAnswers asked number delta counts) where
    columns-line : answer_line text ≡ line_by number (after counts) (after delta)
    columns-line = line-is ∙ line-by (columns_displaced asked) (before delta) (before counts) answers.leaves.number_is answers.leaves.delta-is answers.leaves.counts-are

    -- the call is never refused by 1
    pub line_not_one : number ≡ 1 → ⊥
    line_not_one e = never-one i (ap answer_number (sym same) ∙ sym answers.leaves.number_is ∙ e)

-- otherwise the printed line of the call on columns that hold its carriers, with the numbers of its first line
pub line-columns : (text : List ℕ) → is_text text ≡ true → {previous : CarrierColumns} {m : ℕ} {current : CarrierColumns} {n : ℕ}
    → Columned (text_input text).previous previous m → Columned (text_input text).current current n → {number : ℕ} {delta counts : LentNumbers}
    → (let i = text_input text in DisplacementAnswers (lent previous m current n i.since i.receiver i.settings General) number delta counts) → answer_line text ≡ line_by number (after counts) (after delta)
line-columns text formed p c answers = columns-line text formed p c answers
