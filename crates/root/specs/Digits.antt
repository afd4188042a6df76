-- The digits of a root, one after the other, and what the proofs of `sqrt` say of the parts of a float. Root.antt says what a root is. Definitions only.
use Rattle.std.specs.Prelude.{ℕ, zero, suc, ◌+◌, ◌-◌, ◌*◌, ◌/◌, ◌%◌, ◌^◌, false, cond, nat_le, Float}
use Rattle.std.specs.Float.Ieee.{size, odd}

-- the whole part of √n for an n below 4 ^ b, digit by digit
unfoldable pub isqrt : ℕ → ℕ → ℕ
isqrt zero n = 0
isqrt (suc b) n = let s = 2 * isqrt b (n / 4) in cond (nat_le ((s + 1) * (s + 1)) n) (s + 1) s

-- the whole number nearest to √n, from its whole part s: s + 1 where n is above s * s + s, which is the whole part of (s + 1/2) ^ 2
abbrev pub nearest_root : ℕ → ℕ → ℕ
nearest_root n s = cond (nat_le n (s * s + s)) s (s + 1)

-- The root of m * 2 ^ y / 2 ^ 1126, for an m of 53 digits. n is m * 2 ^ 52 or m * 2 ^ 53, by whether y is even.
unfoldable pub root_parts : ℕ → ℕ → Float
unfolding isqrt odd
root_parts m y =
    let n = m * 2 ^ (52 + y % 2) in
    odd 53 false (nearest_root n (isqrt 53 n)) (y / 2 + 485) 1074

-- the root of a / 2 ^ 1074 for an a above 0
unfoldable pub root_units : ℕ → Float
unfolding root_parts size
root_units a = let y = size a - 1 in root_parts (a * 2 ^ 52 / 2 ^ y) y
