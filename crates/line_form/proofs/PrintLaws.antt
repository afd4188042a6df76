-- Laws of bytes written one after the other, and of the digits of a number. Assumes nothing.
use mathlib.Core.Path.{◌≡◌, refl, sym, ap, subst, subst₂, ◌∙◌}
use mathlib.Core.List.{List, [], ◌∷◌, ◌++◌, append_assoc, append-nil}
use Prim.Native.Nat.{ℕ, zero, suc, ◌+◌, ◌-◌, ◌/◌, ◌%◌, ◌^◌, ◌≤◌, ◌<◌}
use native.Mathlib.Nat.{add-zero, le_of_lt}
use native.Mathlib.Numerals.{add-one}
use native.Mathlib.Omega.{arith}
use borrow.Author.Tests.{lt-ltb, le-ltb}
use lib.ListN.{length, take, drop, set, length-append, length-drop, length-set, take-append-drop}
use lib.Seq.{take_at, drop_at, drop-drop, take-set-le, set_split, append_snoc, length-take-le}
use Rattle.line_form.specs.Print.{glyph, digits_text, digit_count, decimal_text}
use Rattle.line_form.specs.Steps.{overwritten, PutBytes}

pub length_digits : (b k n : ℕ) → length (digits_text b k n) ≡ k
unfolding digits_text
length_digits b zero n = refl
length_digits b (suc k) n = length-append (digits_text b k (n / b)) (glyph (n % b) ∷ []) ∙ (let e = length_digits b k (n / b) in omega (arith, e))

drop-set : (d : List ℕ) (n g : ℕ) → n < length d → drop n (set d n g) ≡ g ∷ drop (suc n) d
drop-set d n g l = ap (drop n) (set_split d n g l) ∙ drop_at (take n d) (g ∷ drop (suc n) d) n (length-take-le n d (le_of_lt l))

module _ (d : List ℕ) (at : ℕ) where
  pub written_none : overwritten d at [] ≡ d
  written_none = ap (λ (l : List ℕ). l ++ drop (at + 0) d) (append-nil (take at d)) ∙ ap (λ (n : ℕ). take at d ++ drop n d) (add-zero at) ∙ take-append-drop at d

  module _ (xs : List ℕ) (h : at + length xs ≤ length d) where
    front : length (take at d ++ xs) ≡ at + length xs
    front = length-append (take at d) xs ∙ ap (λ (n : ℕ). n + length xs) (length-take-le at d (omega arith))

    pub length-written : length (overwritten d at xs) ≡ length d
    length-written = length-append (take at d ++ xs) (drop (at + length xs) d) ∙ (let e = length-drop (at + length xs) d in omega (arith, front, e))

    pub written-written : (ys : List ℕ) → overwritten (overwritten d at xs) (at + length xs) ys ≡ overwritten d at (xs ++ ys)
    written-written ys =
        let n = at + length xs in
        let back = drop n d in
        let all = (take at d ++ xs) ++ back in
        let m : n + length ys ≡ at + length (xs ++ ys) = omega (arith, length-append xs ys) in
        ap (λ (l : List ℕ). (l ++ ys) ++ drop (n + length ys) all) (take_at (take at d ++ xs) back n front)
        ∙ ap (λ (l : List ℕ). ((take at d ++ xs) ++ ys) ++ l) (sym (drop-drop (length ys) n all) ∙ ap (drop (length ys)) (drop_at (take at d ++ xs) back n front) ∙ drop-drop (length ys) n d)
        ∙ ap (λ (l : List ℕ). l ++ drop (n + length ys) d) (append_assoc (take at d) xs ys)
        ∙ ap (λ (j : ℕ). (take at d ++ (xs ++ ys)) ++ drop j d) m

  -- the last byte first
  pub written-set : (xs : List ℕ) (g k : ℕ) → length xs ≡ k → at + k < length d → overwritten (set d (at + k) g) at xs ≡ overwritten d at (xs ++ (g ∷ []))
  written-set xs g k e l =
      let d' = set d (at + k) g in
      let m : suc (at + k) ≡ at + length (xs ++ (g ∷ [])) = omega (arith, length-append xs (g ∷ [])) in
      ap (λ (t : List ℕ). (t ++ xs) ++ drop (at + length xs) d') (take-set-le at d (at + k) g (omega arith))
      ∙ ap (λ (j : ℕ). (take at d ++ xs) ++ drop (at + j) d') e
      ∙ ap (λ (t : List ℕ). (take at d ++ xs) ++ t) (drop-set d (at + k) g l)
      ∙ sym (append_snoc (take at d ++ xs) g (drop (suc (at + k)) d))
      ∙ ap (λ (t : List ℕ). t ++ drop (suc (at + k)) d) (append_assoc (take at d) xs (g ∷ []))
      ∙ ap (λ (j : ℕ). (take at d ++ (xs ++ (g ∷ []))) ++ drop j d) m

  set-written : (g : ℕ) → at < length d → set d at g ≡ overwritten d at (g ∷ [])
  set-written g l = set_split d at g l ∙ sym (append_snoc (take at d) g (drop (suc at) d)) ∙ ap (λ (j : ℕ). (take at d ++ (g ∷ [])) ++ drop j d) (sym (add-one at))

  pub put-set : (g : ℕ) → at < length d → PutBytes d (set d at g) at (g ∷ []) (at + 1)
  put-set g l = record { bytes = set-written g l; next = refl; room = omega arith }

pub put-put : {d a b xs ys : List ℕ} {at r q : ℕ} → PutBytes d a at xs r → PutBytes a b r ys q → PutBytes d b at (xs ++ ys) q
put-put {d} {a} {b} {xs} {ys} {at} {r} {q} p p' =
    let l : at + length xs ≤ length d = omega (arith, p.next, p.room) in
    let e : length a ≡ length d = ap length p.bytes ∙ length-written d at xs l in
    record {
      bytes = p'.bytes ∙ ap (λ (n : ℕ). overwritten a n ys) p.next ∙ ap (λ (t : List ℕ). overwritten t (at + length xs) ys) p.bytes ∙ written-written d at xs l ys;
      next = omega (arith, p.next, p'.next, length-append xs ys);
      room = omega (arith, p'.room);
    }

-- ---- digits from the last to the first
pub record Spelling (d : List ℕ) (at k b n : ℕ) (a : List ℕ) (i rest : ℕ) : Type 0 where
  pub few : i ≤ k
  pub long : length a ≡ length d
  pub same : overwritten a at (digits_text b i rest) ≡ overwritten d at (digits_text b k n)

module _ (d : List ℕ) (at k b n : ℕ) where
  pub spelling_start : Spelling d at k b n d k n
  spelling_start = record { few = omega arith; long = refl; same = refl }

  module _ (a : List ℕ) (i rest : ℕ) (inv : Spelling d at k b n a i rest) where
    pub spelling_more : 0 < i → at + k ≤ length d → (v : ℕ) → v ≡ glyph (rest % b) → Spelling d at k b n (set a (at + (i - 1)) v) (i - 1) (rest / b)
    unfolding digits_text
    spelling_more l h v e =
        let j = i - 1 in
        let s : suc j ≡ i = omega arith in
        let f : at + j < length a = omega (arith, inv.few, inv.long) in
        record {
          few = omega (arith, inv.few);
          long = length-set a (at + j) v ∙ inv.long;
          same =
              written-set a at (digits_text b j (rest / b)) v j (length_digits b j (rest / b)) f
              ∙ ap (λ (x : ℕ). overwritten a at (digits_text b j (rest / b) ++ (x ∷ []))) e
              ∙ ap (λ (x : ℕ). overwritten a at (digits_text b x rest)) s
              ∙ inv.same;
        }

    pub spelling_end : i ≤ 0 → a ≡ overwritten d at (digits_text b k n)
    unfolding digits_text
    spelling_end l =
        let z : 0 ≡ i = omega arith in
        sym (written_none a at) ∙ ap (λ (x : ℕ). overwritten a at (digits_text b x rest)) z ∙ inv.same

-- ---- how many digits
pub record Placing (n j rest : ℕ) : Type 0 where
  pub few : j ≤ 20
  pub small : rest < 10 ^ (20 - j)
  pub same : j + digit_count (20 - j) rest ≡ digit_count 20 n

places-one : (f m : ℕ) → m < 10 → digit_count f m ≡ 1
unfolding digit_count
places-one zero m l = refl
places-one (suc f) m l = simp (lt-ltb m 10 l)

places-more : (f m : ℕ) → 10 ≤ m → digit_count (suc f) m ≡ suc (digit_count f (m / 10))
unfolding digit_count
places-more f m l = simp (le-ltb m 10 l)

pub placing-start : (n : ℕ) → n < 2 ^ 64 → Placing n 0 n
placing-start n h = record { few = omega arith; small = omega arith; same = omega arith }

module _ (n j rest : ℕ) (inv : Placing n j rest) where
  pub placing-end : rest < 10 → j + 1 ≡ digit_count 20 n
  placing-end l = omega (arith, inv.same, places-one (20 - j) rest l)

  pub placing-more : 10 ≤ rest → Placing n (j + 1) (rest / 10)
  placing-more l = go (20 - j) refl inv.small inv.same
    where
      go : (f : ℕ) → 20 - j ≡ f → rest < 10 ^ f → j + digit_count f rest ≡ digit_count 20 n → Placing n (j + 1) (rest / 10)
      go zero e s q = absurd (omega arith)
      go (suc f) e s q =
          let g : f ≡ 20 - (j + 1) = omega arith in
          let small : rest / 10 < 10 ^ f = omega arith in
          let same : j + 1 + digit_count f (rest / 10) ≡ digit_count 20 n = omega (arith, places-more f rest l) in
          record {
            few = omega arith;
            small = rw g at small;
            same = rw g at same;
          }

-- digits, and a byte after them
pub put-spell : (d a : List ℕ) (at k j b n g r : ℕ) → a ≡ overwritten d at (digits_text b k n) → k ≡ j → r ≡ at + k + 1 → r ≤ length d
    → PutBytes d (set a (at + k) g) at (digits_text b j n ++ (g ∷ [])) r
put-spell d a at k j b n g r e q f l =
    let ds = digits_text b k n in
    let m : at + length ds ≡ at + k = ap (λ (i : ℕ). at + i) (length_digits b k n) in
    let h : at + length ds ≤ length d = omega arith in
    let long : length a ≡ length d = ap length e ∙ length-written d at ds h in
    let p : PutBytes d a at ds (at + k) = record { bytes = e; next = sym m; room = omega arith } in
    let s : PutBytes d (set a (at + k) g) at (ds ++ (g ∷ [])) (at + k + 1) = put-put p (put-set a (at + k) g (omega arith)) in
    subst₂ (λ (i x : ℕ). PutBytes d (set a (at + k) g) at (digits_text b i n ++ (g ∷ [])) x) q (sym f) s

-- the number of a refusal, by what the code has of it
pub put_refused : {d a : List ℕ} {n : ℕ} (m k : ℕ) → m ≡ k → PutBytes d a 0 ((82 ∷ 44 ∷ []) ++ (decimal_text m ++ (10 ∷ []))) n → PutBytes d a 0 ((82 ∷ 44 ∷ []) ++ (decimal_text k ++ (10 ∷ []))) n
put_refused {d} {a} {n} m k e p = subst (λ (x : ℕ). PutBytes d a 0 ((82 ∷ 44 ∷ []) ++ (decimal_text x ++ (10 ∷ []))) n) e p
