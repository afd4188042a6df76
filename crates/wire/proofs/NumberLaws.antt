-- Numbers and their bytes, both ways, and the turns of the loops that read and write them. Assumes nothing.
use mathlib.Core.Path.{◌≡◌, refl, sym, ap, ap₂, ◌∙◌}
use mathlib.Core.Bool.{Bool, true, false, cond}
use mathlib.Core.List.{List, [], ◌∷◌}
use Prim.Native.Nat.{ℕ, zero, suc, ◌+◌, ◌-◌, ◌*◌, ◌/◌, ◌%◌, ◌^◌, ◌≤◌, ◌<◌}
use native.Mathlib.Nat.{pow-le-pow_right}
use native.Mathlib.Omega.{arith}
use lib.Dec.{ltb}
use borrow.Author.Tests.{lt-ltb, le-ltb, ltb-true, ltb-false}
use lib.ListN.{length, get_or, take, drop, set, length-drop, length-set}
use lib.Seq.{drop-cons, sets, length-take-le, get_or-drop}
use lib.IntN.{ℤ, pos, negsuc}
use mir.Syntax.{w32}
use mir.Val.{SFits, to_z, of_z}
use mir.Facts.{to_z_pos, to_z-neg}
use Rattle.records.specs.Record.{unsigned}
use Rattle.wire.specs.Number.{bytes_in, number_in, number_at, signed, Bytes}

-- ---- bytes

bytes-none : Bytes []
bytes-none = record { byte = λ k. omega arith }

bytes-cons : (x : ℕ) (s : List ℕ) → x < 256 → Bytes s → Bytes (x ∷ s)
bytes-cons x s h b = record { byte = at }
  where
    at : (k : ℕ) → get_or (x ∷ s) k 0 < 256
    at zero = h
    at (suc k) = b.byte k

bytes-tail : (x : ℕ) (s : List ℕ) → Bytes (x ∷ s) → Bytes s
bytes-tail x s b = record { byte = λ k. b.byte (suc k) }

pub bytes_drop : (n : ℕ) (s : List ℕ) → Bytes s → Bytes (drop n s)
bytes_drop n s b = record { byte = λ k. rw (get_or-drop n s k 0) (b.byte (n + k)) }

pub bytes_take : (n : ℕ) (s : List ℕ) → Bytes s → Bytes (take n s)
bytes_take zero s b = bytes-none
bytes_take (suc n) [] b = bytes-none
bytes_take (suc n) (x ∷ s) b = bytes-cons x (take n s) (b.byte 0) (bytes_take n s (bytes-tail x s b))

-- ---- a number and its bytes

-- the number that is written is read again
pub read_number_lem : (w n : ℕ) → n < 256 ^ w → number_in (bytes_in w n) ≡ n
unfolding bytes_in number_in
read_number_lem zero n l = omega arith
read_number_lem (suc w) n l =
    let m : n / 256 < 256 ^ w = omega arith in
    let e = read_number_lem w (n / 256) m in
    omega (arith, e)

-- the bytes that are read are written again
pub written-number : (s : List ℕ) → Bytes s → bytes_in (length s) (number_in s) ≡ s
unfolding bytes_in number_in
written-number [] b = refl
written-number (x ∷ s) b =
    let h = b.byte 0 in
    let m = number_in s in
    let r : (x + 256 * m) % 256 ≡ x = omega arith in
    let q : (x + 256 * m) / 256 ≡ m = omega arith in
    ap₂ (λ (a k : ℕ). a ∷ bytes_in (length s) k) r q ∙ ap (λ (t : List ℕ). x ∷ t) (written-number s (bytes-tail x s b))

-- one byte more below a number
turn_small : (j n x : ℕ) → n < 256 ^ j → x < 256 → n * 256 + x < 256 ^ suc j
turn_small j n x h l = omega arith

number_small : (s : List ℕ) → Bytes s → number_in s < 256 ^ length s
unfolding number_in
number_small [] b = omega arith
number_small (x ∷ s) b =
    let t = turn_small (length s) (number_in s) x (number_small s (bytes-tail x s b)) (b.byte 0) in
    let g : x + 256 * number_in s < 256 ^ suc (length s) = omega arith in
    g

module _ (s : List ℕ) (b : Bytes s) (at w : ℕ) (room : at + w ≤ length s) where
  part-long : length (take w (drop at s)) ≡ w
  part-long = length-take-le w (drop at s) (simp length-drop (omega arith))

  pub written-part : bytes_in w (number_at s at w) ≡ take w (drop at s)
  written-part = ap (λ (k : ℕ). bytes_in k (number_at s at w)) (sym part-long) ∙ written-number (take w (drop at s)) (bytes_take w (drop at s) (bytes_drop at s b))

  pub part_small : number_at s at w < 256 ^ w
  part_small = rw part-long at (number_small (take w (drop at s)) (bytes_take w (drop at s) (bytes_drop at s b)))

-- ---- reading: the number of the last i bytes of the part

pub record Reading (s : List ℕ) (at w i n : ℕ) : Type 0 where
  pub few : i ≤ w
  pub so_far : n ≡ number_at s (at + (w - i)) i
  pub small : n < 256 ^ i

pub reading-start : (s : List ℕ) (at w : ℕ) → Reading s at w 0 0
unfolding number_in
reading-start s at w = record { few = omega arith; so_far = refl; small = omega arith }

pub reading-end : {s : List ℕ} {at w i n : ℕ} → Reading s at w i n → w ≤ i → (n ≡ number_at s at w) × (n < 256 ^ w)
reading-end {s} {at} {w} {i} {n} h l =
    let e : i ≡ w = omega (arith, h.few) in
    let a : at + (w - i) ≡ at = omega arith in
    (h.so_far ∙ ap₂ (λ (k j : ℕ). number_at s k j) a e, rw e at h.small)

-- a byte fits 64 bits
pub byte_fits : {x : ℕ} → x < 256 → x < 2 ^ 64
byte_fits l = omega arith

-- what a turn has still fits them
pub turn-fits : {s : List ℕ} {at w i n : ℕ} (x : ℕ) → Reading s at w i n → w ≤ 8 → i < w → x < 256 → n * 256 + x < 2 ^ 64
turn-fits {s} {at} {w} {i} {n} x h e l b =
    let m = turn_small i n x h.small b in
    let q : suc i ≤ 8 = omega arith in
    let p : 256 ^ suc i ≤ 256 ^ 8 = pow-le-pow_right (omega arith) q in
    omega (arith, m, p)

pub reading-more : {s : List ℕ} {at w i n : ℕ} → Reading s at w i n → at + w ≤ length s → i < w → get_or s (at + (w - 1 - i)) 0 < 256
    → Reading s at w (i + 1) (n * 256 + get_or s (at + (w - 1 - i)) 0)
unfolding number_in
reading-more {s} {at} {w} {i} {n} h room l b =
    let k = at + (w - 1 - i) in
    let e : at + (w - (i + 1)) ≡ k = omega arith in
    let f : suc k ≡ at + (w - i) = omega arith in
    let g : i + 1 ≡ suc i = omega arith in
    let d = drop-cons s k 0 (omega arith) in
    record {
      few = omega arith;
      so_far =
          rw (e, g, d, f)
          (let q = h.so_far in omega (arith, q));
      small = rw g (turn_small i n (get_or s k 0) h.small b);
    }

-- ---- writing: what is left to store from place i of the part on

pub record Writing (out₀ : List ℕ) (at w n : ℕ) (out : List ℕ) (i rest : ℕ) : Type 0 where
  pub few : i ≤ w
  pub long : length out ≡ length out₀
  pub to_do : sets out (at + i) (bytes_in (w - i) rest) ≡ sets out₀ at (bytes_in w n)

pub writing_start : (out : List ℕ) (at w n : ℕ) → Writing out at w n out 0 n
writing_start out at w n =
    let a : at + 0 ≡ at = omega arith in
    let b : w - 0 ≡ w = omega arith in
    record { few = omega arith; long = refl; to_do = rw (a, b) }

module _ {out₀ : List ℕ} {at w n : ℕ} {out : List ℕ} {i rest : ℕ} (h : Writing out₀ at w n out i rest) where
  pub writing_more : i < w → Writing out₀ at w n (set out (at + i) (rest % 256)) (i + 1) (rest / 256)
  unfolding bytes_in
  writing_more l =
      let e : w - i ≡ suc (w - (i + 1)) = omega arith in
      let f : at + (i + 1) ≡ suc (at + i) = omega arith in
      record { few = omega arith; long = length-set out (at + i) (rest % 256) ∙ h.long; to_do = rw f (rw e at h.to_do) }

  pub writing-end : w ≤ i → out ≡ sets out₀ at (bytes_in w n)
  unfolding bytes_in
  writing-end l = let e : w - i ≡ 0 = omega arith in rw e at h.to_do

-- ---- signed numbers

-- what the bits of a signed number are, and what number the bits are
pub bits-are : (z : ℤ) → of_z w32 z ≡ unsigned z
unfolding unsigned
bits-are (pos n) = refl
bits-are (negsuc n) = refl

pub signed-is : (n : ℕ) → n < 2 ^ 32 → to_z w32 n ≡ signed n
unfolding signed
signed-is n h = go (ltb n (2 ^ 31)) refl
  where
    go : (b : Bool) → ltb n (2 ^ 31) ≡ b → to_z w32 n ≡ cond b (pos n) (negsuc (2 ^ 32 - suc n))
    go true e = to_z_pos w32 (ltb-true n (2 ^ 31) e)
    go false e =
        let l = ltb-false n (2 ^ 31) e in
        let q : n ≡ 2 ^ 32 - suc (2 ^ 32 - suc n) = omega arith in
        ap (to_z w32) q ∙ to_z-neg w32 (2 ^ 32 - suc n) (omega arith)

-- signed and back, and back and signed
pub unsigned_signed : (n : ℕ) → n < 2 ^ 32 → unsigned (signed n) ≡ n
unfolding signed unsigned
unsigned_signed n h = go (ltb n (2 ^ 31)) refl
  where
    go : (b : Bool) → ltb n (2 ^ 31) ≡ b → unsigned (cond b (pos n) (negsuc (2 ^ 32 - suc n))) ≡ n
    go true e = refl
    go false e = omega arith

pub signed-unsigned : (z : ℤ) → SFits w32 z → signed (unsigned z) ≡ z
unfolding signed unsigned
signed-unsigned (pos n) h = let l : n < 2 ^ 31 = h.sfits in rw (lt-ltb n (2 ^ 31) l)
signed-unsigned (negsuc n) h =
    let l : n < 2 ^ 31 = h.sfits in
    let e : 2 ^ 32 - suc (2 ^ 32 - suc n) ≡ n = omega arith in
    rw (le-ltb (2 ^ 32 - suc n) (2 ^ 31) (omega arith)) (ap negsuc e)

pub unsigned_small : (z : ℤ) → SFits w32 z → unsigned z < 2 ^ 32
unfolding unsigned
unsigned_small (pos n) h = let l : n < 2 ^ 31 = h.sfits in omega arith
unsigned_small (negsuc n) h = omega arith
