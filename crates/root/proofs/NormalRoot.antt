-- The root of a positive normal number from its bits, once its digits are found. Assumes nothing.
use Rattle.std.proofs.Common.{◌≡◌, ℕ, ◌+◌, ◌*◌, ◌/◌, ◌%◌, ◌^◌, ◌<◌, ◌≤◌, sym, refl, ap, ◌∙◌, subst, arith}
use lib.Ieee.{binary64, of_bits}
use Rattle.root.specs.Root.{NearestWhole, root_of}
use Rattle.root.proofs.Parts.{normal-parts}
use Rattle.root.proofs.RootLaws.{Wide, wide, result}

-- what the root is taken of
pub room : (b : ℕ) → Wide (b % 2 ^ 52 + 2 ^ 52) ((b / 2 ^ 52 + 51) % 2)
room b = wide (b % 2 ^ 52 + 2 ^ 52) ((b / 2 ^ 52 + 51) % 2) (omega arith) (omega arith) (omega arith)

-- the exponent of the root, and its digits without the leading one
joined : (b n : ℕ) → ((b / 2 ^ 52 + 51) / 2 + 485) * 2 ^ 52 + (n % 2 ^ 52 + 2 ^ 52) ≡ (b / 2 ^ 52 + 1023) / 2 * 2 ^ 52 + n % 2 ^ 52
joined b n = omega arith

-- the root has the digits of n
pub found : (b n w : ℕ) → 2 ^ 52 ≤ b → b < 0x7ff0_0000_0000_0000 → w ≡ (b % 2 ^ 52 + 2 ^ 52) * (1 + (b / 2 ^ 52 + 51) % 2) → NearestWhole (w * 2 ^ 52) (n % 2 ^ 52 + 2 ^ 52)
    → of_bits binary64 ((b / 2 ^ 52 + 1023) / 2 * 2 ^ 52 + n % 2 ^ 52) ≡ root_of (of_bits binary64 b)
found b n w l h e d =
    let q = n % 2 ^ 52 + 2 ^ 52 in
    ap (of_bits binary64) (sym (joined b n))
    ∙ (result (of_bits binary64 b) (b % 2 ^ 52 + 2 ^ 52) (b / 2 ^ 52 + 51) q (normal-parts b (b % 2 ^ 52 + 2 ^ 52) l h refl) (subst (λ (z : ℕ). NearestWhole (z * 2 ^ 52) q) e d)).is
