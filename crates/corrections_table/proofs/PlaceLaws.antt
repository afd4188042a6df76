-- The table's order is the order by constellation, then svid, then band, then time in total_order. Assumes nothing.
use mathlib.Core.Path.{◌≡◌, sym, ◌∙◌}
use mathlib.Core.Bool.{◌&&◌, ◌||◌}
use Prim.Native.Nat.{ℕ, ◌+◌, ◌*◌, ◌^◌, ◌<◌}
use native.Mathlib.Omega.{arith}
use lib.Dec.{ltb, eqb}
use Rattle.corrections_table.specs.Table.{time_before, stands_before}
use Rattle.corrections_table.specs.declared.sample.Sample.{Sample}
use Rattle.corrections_table.proofs.Lex.{lex}
use Rattle.corrections_table.proofs.Places.{time_key, key-lt, earlier-key, before-place}

digits : (c v b k : ℕ) → ((c * 2 ^ 16 + v) * 2 ^ 32 + b) * 2 ^ 64 + k ≡ c * 2 ^ 112 + (v * 2 ^ 96 + (b * 2 ^ 64 + k))
digits c v b k = omega arith

-- a and b as the columns hold them
pub place-order : (a b : Sample) → a.svid < 2 ^ 16 → b.svid < 2 ^ 16 → a.band < 2 ^ 32 → b.band < 2 ^ 32
    → stands_before a b
    ≡ (ltb a.constellation b.constellation
    || (eqb a.constellation b.constellation
    && (ltb a.svid b.svid
    || (eqb a.svid b.svid
    && (ltb a.band b.band
    || (eqb a.band b.band && time_before a.time b.time))))))
place-order a b va vb ba bb =
    let j = time_key a.time in
    let k = time_key b.time in
    let jl : j < 2 ^ 64 = key-lt a.time in
    let kl : k < 2 ^ 64 = key-lt b.time in
    before-place a b
    ∙ rw (
      digits a.constellation a.svid a.band j,
      digits b.constellation b.svid b.band k,
      sym (lex a.constellation b.constellation (a.svid * 2 ^ 96 + (a.band * 2 ^ 64 + j)) (b.svid * 2 ^ 96 + (b.band * 2 ^ 64 + k)) (2 ^ 112) (omega arith) (omega arith)),
      sym (lex a.svid b.svid (a.band * 2 ^ 64 + j) (b.band * 2 ^ 64 + k) (2 ^ 96) (omega arith) (omega arith)),
      sym (lex a.band b.band j k (2 ^ 64) jl kl),
      earlier-key a.time b.time,
    )
