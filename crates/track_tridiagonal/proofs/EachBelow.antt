-- A test of each of the first n, one at a time. Assumes nothing.
use mathlib.Core.Path.{◌≡◌, refl, sym, ◌∙◌, ap}
use mathlib.Core.Bool.{Bool, true, false, ◌&&◌}
use Prim.Native.Nat.{ℕ, zero, suc, ◌+◌, ◌-◌, ◌<◌}
use mathlib.Core.Logic.{◌⊎◌, inl, inr, ⊎_elim}
use native.Mathlib.Nat.{add-zero, add-suc, eq-or-lt_of_le}
use native.Mathlib.Numerals.{add-one}
use native.Mathlib.Omega.{arith}
use Rattle.track_tridiagonal.specs.Tridiagonal.{each_below}

pub each_none : (f : ℕ → Bool) → each_below f 0 ≡ true
unfolding each_below
each_none f = refl

pub each_next : (f : ℕ → Bool) (k : ℕ) (b : Bool) → each_below f k ≡ true → f k ≡ b → each_below f (k + 1) ≡ b
unfolding each_below
each_next f k b h e = rw (add-one, h, e)

falls : (f : ℕ → Bool) (k j : ℕ) → each_below f k ≡ false → each_below f (k + j) ≡ false
unfolding each_below
falls f k zero h = rw add-zero h
falls f k (suc j) h = rw (add-suc, falls f k j h)

-- one that fails is enough
pub each_not : (f : ℕ → Bool) (k n : ℕ) → k < n → f k ≡ false → each_below f k ≡ true → each_below f n ≡ false
each_not f k n h e s =
    let g : k + 1 + (n - (k + 1)) ≡ n = omega arith in
    ap (each_below f) (sym g) ∙ falls f (k + 1) (n - (k + 1)) (each_next f k false s e)

pub each_same : (f g : ℕ → Bool) (n : ℕ) → ((k : ℕ) → k < n → f k ≡ g k) → each_below f n ≡ each_below g n
unfolding each_below
each_same f g zero h = refl
each_same f g (suc n) h = rw (each_same f g n (λ k l. h k (omega arith)), h n (omega arith))

pub left-true : (a b : Bool) → a && b ≡ true → a ≡ true
left-true true b h = refl
left-true false b h = h

pub right-true : (a b : Bool) → a && b ≡ true → b ≡ true
right-true true b h = h
right-true false b h = let z : ◌≡◌ {A = ℕ} 0 1 = cc in absurd (omega arith)

pub each_at : (f : ℕ → Bool) (n : ℕ) → each_below f n ≡ true → (k : ℕ) → k < n → f k ≡ true
unfolding each_below
each_at f zero h k l = absurd (omega arith)
each_at f (suc n) h k l = ⊎_elim
    (λ e. let q : k ≡ n = omega arith in ap f q ∙ right-true (each_below f n) (f n) h)
    (λ g. each_at f n (left-true (each_below f n) (f n) h) k (omega arith))
    (eq-or-lt_of_le l)

pub each-stop : (f : ℕ → Bool) (k n : ℕ) → each_below f k ≡ true → k < n → f k ≡ false → false ≡ each_below f n
each-stop f k n s h e = sym (each_not f k n h e s)

pub each_all : (f : ℕ → Bool) (k n : ℕ) → each_below f k ≡ true → k ≡ n → true ≡ each_below f n
each_all f k n s e = sym s ∙ ap (each_below f) e

-- by its places
pub each_of : (f : ℕ → Bool) (n : ℕ) → ((k : ℕ) → k < n → f k ≡ true) → each_below f n ≡ true
unfolding each_below
each_of f zero h = refl
each_of f (suc n) h = rw (each_of f n (λ k l. h k (omega arith)), h n (omega arith))

pub each-fails : (f : ℕ → Bool) (k n : ℕ) → k < n → f k ≡ false → each_below f n ≡ false
each-fails f k n h e = go (each_below f n) refl
  where
    go : (b : Bool) → each_below f n ≡ b → each_below f n ≡ false
    go true t = let z : ◌≡◌ {A = Bool} true false = sym (each_at f n t k h) ∙ e in t ∙ z
    go false t = t

-- one of three tests fails
pub first-fails : (a b c : Bool) → a ≡ false → (a && (b && c)) ≡ false
first-fails a b c e = rw e

pub second-fails : (a b c : Bool) → b ≡ false → (a && (b && c)) ≡ false
second-fails true b c e = rw e
second-fails false b c e = refl

pub third-fails : (a b c : Bool) → c ≡ false → (a && (b && c)) ≡ false
third-fails true true c e = e
third-fails true false c e = refl
third-fails false b c e = refl

pub all_three : (a b c : Bool) → a ≡ true → b ≡ true → c ≡ true → (a && (b && c)) ≡ true
all_three a b c e f g = rw (e, f, g)

-- which of three tests fails
pub who-fails : (a b c : Bool) → (a && (b && c)) ≡ false → (a ≡ false) ⊎ ((b ≡ false) ⊎ (c ≡ false))
who-fails true true c e = inr (inr e)
who-fails true false c e = inr (inl refl)
who-fails false b c e = inl refl
