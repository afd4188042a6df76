-- A loop that goes along the first n elements of an array, i from 0 up, by what is left to do: the invariant says that the definition at what is left,
-- `drop i (take n xs)`, joined to what the code has so far, is w, the definition at the whole. Each lemma is one turn, at the element x that stands at i, or the end.
-- d is what the logic has for a read past the end of the array. Assumes nothing.
use mathlib.Core.Path.{◌≡◌, refl, sym, ap, ◌∙◌}
use mathlib.Core.List.{List, [], ◌∷◌, ◌++◌, map, map-append, append_assoc, append-nil}
use mathlib.Core.Bool.{Bool, true, false, ◌&&◌, ◌||◌}
use Prim.Native.Nat.{ℕ, zero, suc, ◌+◌, ◌≤◌, ◌<◌}
use native.Mathlib.Numerals.{add-one}
use native.Mathlib.Omega.{arith}
use lib.Dec.{ltb}
use lib.ListN.{length, get_or, take, drop, set, length-append, length-map, length-set, drop_of_length-le, get_or-append}
use lib.Seq.{drop-cons, get_or_at, get_or-take, length-take-le, take_all, take-suc, take-suc-set}
use borrow.Author.Tests.{ltb-true, ltb-false}
use Rattle.lists.specs.Walk.{every, first, collect, fold, places}

-- the length of an array of structs that is a field, from what owning it tells: `search length-mapped`
pub length-mapped : {X Y : Type 0} (f : X → Y) (l : List X) (n : ℕ) → length (map f l) ≡ n → length l ≡ n
length-mapped f l n e = sym (length-map l f) ∙ e

module _ {A : Type 0} (xs : List A) (n : ℕ) (fits : n ≤ length xs) (i : ℕ) where
  left : List A
  left = drop i (take n xs)

  pub left_end : n ≤ i → drop i (take n xs) ≡ []
  left_end l = drop_of_length-le (take n xs) {i = i} (simp length-take-le l)

  pub every-end : (p : A → Bool) {w : Bool} → every p (drop i (take n xs)) ≡ w → n ≤ i → true ≡ w
  unfolding every
  every-end p inv l = rw (left_end l) at inv

  pub first-end : {B : Type 0} (p : A → Bool) (f : A → B) {b w : B} → first p f b (drop i (take n xs)) ≡ w → n ≤ i → b ≡ w
  unfolding first
  first-end p f inv l = rw (left_end l) at inv

  pub collect-end : {B : Type 0} (f : A → List B) (out : List B) {w : List B} → out ++ collect f (drop i (take n xs)) ≡ w → n ≤ i → out ≡ w
  unfolding collect
  collect-end f out inv l = sym (append-nil out) ∙ (rw (left_end l) at inv)

  pub fold_end : {S : Type 0} (g : S → A → S) {s w : S} → fold g s (drop i (take n xs)) ≡ w → n ≤ i → s ≡ w
  unfolding fold
  fold_end g inv l = rw (left_end l) at inv

  module _ (d : A) (l : i < n) where
    pub left_at : drop i (take n xs) ≡ get_or xs i d ∷ drop (i + 1) (take n xs)
    left_at =
        let k : i < length (take n xs) = rw length-take-le l in
        rw (add-one, drop-cons (take n xs) i d, get_or-take)

    -- every
    module _ (p : A → Bool) {w r : Bool} (inv : every p (drop i (take n xs)) ≡ w) (is : r ≡ p (get_or xs i d)) where
      pub every-yes : r ≡ true → every p (drop (i + 1) (take n xs)) ≡ w
      unfolding every
      every-yes t = cc (ap (every p) left_at)

      pub every-no : r ≡ false → false ≡ w
      unfolding every
      every-no t = cc (ap (every p) left_at)

    -- first
    module _ {B : Type 0} (p : A → Bool) (f : A → B) (b : B) {w : B} {r : Bool} (inv : first p f b (drop i (take n xs)) ≡ w) (is : r ≡ p (get_or xs i d)) where
      pub first-yes : r ≡ true → f (get_or xs i d) ≡ w
      unfolding first
      first-yes t = cc (ap (first p f b) left_at)

      pub first-no : r ≡ false → first p f b (drop (i + 1) (take n xs)) ≡ w
      unfolding first
      first-no t = cc (ap (first p f b) left_at)

    -- collect: the first k of out are what was collected so far
    module _ {B : Type 0} (f : A → List B) (out : List B) (k : ℕ) {w : List B} (inv : take k out ++ collect f (drop i (take n xs)) ≡ w) where
      pub collect-none : f (get_or xs i d) ≡ [] → take k out ++ collect f (drop (i + 1) (take n xs)) ≡ w
      unfolding collect
      collect-none e = cc (ap (collect f) left_at)

      pub collect-one : (q : B) → f (get_or xs i d) ≡ q ∷ [] → k < length out → take (k + 1) (set out k q) ++ collect f (drop (i + 1) (take n xs)) ≡ w
      unfolding collect
      collect-one q e room = rw (add-one k, take-suc-set out k q room, append_assoc) (cc (ap (collect f) left_at))

    -- fold
    pub fold-turn : {S : Type 0} (g : S → A → S) (s : S) {w : S} → fold g s (drop i (take n xs)) ≡ w → fold g (g s (get_or xs i d)) (drop (i + 1) (take n xs)) ≡ w
    unfolding fold
    fold-turn g s inv = sym (ap (fold g s) left_at) ∙ inv

-- ---- the whole invariant of a loop that collects into an array of `size` elements, of which k are filled
pub record Collecting {A B : Type 0} (f : A → List B) (xs : List A) (n size : ℕ) (w out : List B) (k i : ℕ) : Type 0 where
  pub within : i ≤ n
  pub few : k ≤ i
  pub long : length out ≡ size
  pub so_far : take k out ++ collect f (drop i (take n xs)) ≡ w

pub record Collected {B : Type 0} (w out : List B) (k n : ℕ) : Type 0 where
  pub few : k ≤ n
  pub count : k ≡ length w
  pub all : take k out ≡ w

module _ {A B : Type 0} (f : A → List B) (xs : List A) (n size : ℕ) where
  pub collecting-start : (out : List B) → length out ≡ size → Collecting f xs n size (collect f (take n xs)) out 0 0
  collecting-start out e = record { within = omega arith; few = omega arith; long = e; so_far = refl }

  module _ (fits : n ≤ length xs) (room : n ≤ size) {w out : List B} {k i : ℕ} (inv : Collecting f xs n size w out k i) where
    pub collecting-end : n ≤ i → Collected w out k n
    collecting-end l =
        let e = collect-end xs n fits i f (take k out) inv.so_far l in
        let h : k ≤ length out = omega (arith, inv) in
        record { few = omega (arith, inv); count = sym (length-take-le k out h) ∙ ap length e; all = e }

    module _ (d : A) (l : i < n) where
      pub collecting-none : f (get_or xs i d) ≡ [] → Collecting f xs n size w out k (i + 1)
      collecting-none e =
          record { within = omega arith; few = omega (arith, inv); long = inv.long; so_far = collect-none xs n fits i d l f out k inv.so_far e }

      pub collecting-one : (q : B) → f (get_or xs i d) ≡ q ∷ [] → Collecting f xs n size w (set out k q) (k + 1) (i + 1)
      collecting-one q e =
          let h : k < length out = omega (arith, inv) in
          record { within = omega arith; few = omega (arith, inv); long = length-set out k q ∙ inv.long; so_far = collect-one xs n fits i d l f out k inv.so_far q e h }

-- ---- the list of what f gives of the first places
module _ {A : Type 0} (f : ℕ → A) where
  pub places-length : (k : ℕ) → length (places f k) ≡ k
  unfolding places
  places-length zero = refl
  places-length (suc k) = length-append (places f k) (f k ∷ []) ∙ rw (places-length k) (add-one k)

  pub places-at : (k i : ℕ) (d : A) → i < k → get_or (places f k) i d ≡ f i
  unfolding places
  places-at zero i d h = absurd (omega arith)
  places-at (suc k) i d h = go (ltb i k) refl (places-at k i d)
    where
      go : (x : Bool) → ltb i k ≡ x → (i < k → get_or (places f k) i d ≡ f i) → get_or (places f k ++ (f k ∷ [])) i d ≡ f i
      go true e below =
          let l : i < k = ltb-true i k e in
          get_or-append (places f k) (f k ∷ []) d i (omega (arith, places-length k)) ∙ below l
      go false e below =
          let z : i ≡ k = omega (arith, ltb-false i k e) in
          rw z (get_or_at (places f k) (f k) [] d k (places-length k))

  pub places-all : (k : ℕ) → take k (places f k) ≡ places f k
  places-all k = take_all k (places f k) (omega (arith, places-length k))

module _ {A : Type 0} where
  pub places-map : {B : Type 0} (g : A → B) (f : ℕ → A) (n : ℕ) → map g (places f n) ≡ places (λ k. g (f k)) n
  unfolding places
  places-map g f zero = refl
  places-map g f (suc n) = rw (map-append, places-map g f n)

  pub places-take : (xs : List A) (d : A) (n : ℕ) → n ≤ length xs → places (λ k. get_or xs k d) n ≡ take n xs
  unfolding places
  places-take xs d zero h = refl
  places-take xs d (suc n) h = rw (take-suc xs n d h, places-take xs d n (omega arith))

  pub places-ext : (f g : ℕ → A) (n : ℕ) → ((k : ℕ) → k < n → f k ≡ g k) → places f n ≡ places g n
  unfolding places
  places-ext f g zero e = refl
  places-ext f g (suc n) e = rw (places-ext f g n (λ k h. e k (omega arith)), e n (omega arith))

-- ---- tests that are joined
pub or_no : (a b : Bool) → (a || b) ≡ false → (a ≡ false) × (b ≡ false)
or_no false b e = (refl, e)
or_no true b e = absurd (let z : ◌≡◌ {A = ℕ} 0 1 = cc in omega arith)

pub and_both : (a b : Bool) → (a && b) ≡ true → (a ≡ true) × (b ≡ true)
and_both true b e = (refl, e)
and_both false b e = absurd (let z : ◌≡◌ {A = ℕ} 0 1 = cc in omega arith)
