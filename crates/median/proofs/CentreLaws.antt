-- What the public call asks of the centre and the scale. Assumes nothing.
use Rattle.numeric.specs.Refusal.{answer_number}
use Rattle.std.specs.Prelude.{Result, Ok, Err}
use Rattle.numeric.specs.declared.refusal.Refusal.{Refusal}
use Prim.Native.Nat.{ℕ, ◌≤◌, ◌<◌}
use native.Mathlib.Nat.{not-suc-le-zero}
use native.Mathlib.Omega.{arith}
use mathlib.Core.Path.{◌≡◌, ◌∙◌, refl, ap}
use mathlib.Core.Bool.{Bool, true, false, cond}
use mathlib.Core.List.{List, [], ◌∷◌}
use lib.Dec.{ltb}
use lib.ListN.{length}
use lib.Ieee.{Float, div, of_int, of_bits}
use borrow.Author.Tests.{lt-ltb, le-ltb}
use Rattle.exact.specs.Float.{◌⊕◌, ◌⊗◌, +0, 1·0, bits}
use Rattle.numeric.specs.declared.refusal.Refusal.TheVariants.{TooMany}
use Rattle.median.specs.Sorted.{median_of, occurrences}
use Rattle.median.specs.Centre.{centre_of, deviations_of, mad_factor, least_scale, scale_of, centre_and_scale_of, centre_scale_of, centre_floats, Centred}
use Rattle.median.specs.declared.centre.CentreScale.{CentreScale}
use Rattle.median.proofs.SortedLaws.{median_element}

-- number and values follow the answer
pub centred : {xs : List ℕ} {r : Result CentreScale Refusal} → r ≡ centre_scale_of xs → Centred xs r
centred e = record { answer = e; number_is = ap answer_number e; floats-are = ap centre_floats e }

-- more than 64 residuals
pub centre-refused : (xs : List ℕ) → 64 < length xs → Err TooMany ≡ centre_scale_of xs
unfolding centre_scale_of
centre-refused xs h = rw (lt-ltb 64 (length xs) h)

-- no residuals
pub centre-none : (xs : List ℕ) → length xs ≡ 0 → Ok (record { centre = +0; scale = 1·0 }) ≡ centre_scale_of xs
unfolding centre_scale_of centre_and_scale_of
centre-none [] h = refl
centre-none (x ∷ xs) h = absurd (omega arith)

-- 1.4826 and 1e-6, as a compiler reads them
pub mad_factor_lem : mad_factor ≡ bits 0x3FF7_B8BA_C710_CB29
unfolding div of_int of_bits
mad_factor_lem = refl

pub least-scale : least_scale ≡ bits 0x3EB0_C6F7_A0B5_ED8D
unfolding div of_int of_bits
least-scale = refl

-- one to 64 residuals: c is the centre, and d the deviation at place len/2
pub centre-some : (xs : List ℕ) (c d : Float) → 0 < length xs → length xs ≤ 64 → c ≡ bits (median_of xs) → d ≡ bits (median_of (deviations_of c xs))
    → Ok (record { centre = c; scale = bits 0x3FF7_B8BA_C710_CB29 ⊗ d ⊕ bits 0x3EB0_C6F7_A0B5_ED8D }) ≡ centre_scale_of xs
unfolding centre_scale_of centre_and_scale_of scale_of centre_of
centre-some [] c d p h e f = absurd (not-suc-le-zero p)
centre-some (x ∷ xs) c d p h e f =
    let g : d ≡ bits (median_of (deviations_of (bits (median_of (x ∷ xs))) (x ∷ xs))) = f ∙ ap (λ (y : Float). bits (median_of (deviations_of y (x ∷ xs)))) e in
    rw (le-ltb 64 (length (x ∷ xs)) h, g, e, ← mad_factor_lem, ← least-scale)

-- The centre that the call gives of residuals is one of them.
pub centre-element : (xs : List ℕ) (c : CentreScale) → 0 < length xs → Ok c ≡ centre_scale_of xs → (0 < occurrences (median_of xs) xs) × (c.centre ≡ bits (median_of xs))
unfolding centre_scale_of centre_and_scale_of centre_of
centre-element [] c p e = absurd (not-suc-le-zero p)
centre-element (x ∷ xs) c p e = (median_element (x ∷ xs) p, go (ltb 64 (length (x ∷ xs))) e)
  where
    go : (b : Bool) → Ok c ≡ cond b (Err TooMany) (Ok (record { centre = bits (median_of (x ∷ xs)); scale = scale_of (x ∷ xs) })) → c.centre ≡ bits (median_of (x ∷ xs))
    go true f = absurd (let z : ◌≡◌ {A = ℕ} 0 1 = cc in omega arith)
    go false f = let q : c ≡ record { centre = bits (median_of (x ∷ xs)); scale = scale_of (x ∷ xs) } = cc in ap (λ (y : CentreScale). y.centre) q
