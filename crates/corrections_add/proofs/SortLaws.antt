-- New samples may be sorted before they are added: the table is the same. Assumes nothing.
use mathlib.Core.Path.{◌≡◌, refl, sym, ap, ◌∙◌}
use mathlib.Core.List.{List, [], ◌∷◌, ◌++◌, append-nil}
use mathlib.Core.Bool.{Bool, true, false, cond, not}
use Prim.Native.Nat.{ℕ, suc, ◌≤◌, ◌<◌}
use native.Mathlib.Nat.{lt_of_lt_of_le}
use native.Mathlib.Omega.{arith}
use lib.Dec.{leb}
use lib.ListN.{length, get_or}
use borrow.Author.Tests.{ltb-true, ltb-false, leb-true, lt-ltb, le-ltb}
use Rattle.lists.specs.Walk.{every}
use Rattle.corrections_table.specs.Table.{blank, signal_of, stands_before}
use Rattle.corrections_table.specs.Add.{insert, insert_all}
use Rattle.corrections_table.specs.declared.sample.Sample.{Sample}
use Rattle.corrections_table.proofs.TableLaws.{and_left, and_right}
use Rattle.corrections_table.proofs.Places.{place_of, rises, before-place}
use Rattle.corrections_table.proofs.SeriesLaws.{insert-rises}

-- ---- the order by its numbers
module _ (a b : Sample) where
  pub before-lt : stands_before a b ≡ true → place_of a < place_of b
  before-lt e = ltb-true (place_of a) (place_of b) (sym (before-place a b) ∙ e)

  pub before-le : stands_before a b ≡ false → place_of b ≤ place_of a
  before-le e = ltb-false (place_of a) (place_of b) (sym (before-place a b) ∙ e)

  pub lt-before : place_of a < place_of b → stands_before a b ≡ true
  lt-before h = before-place a b ∙ lt-ltb (place_of a) (place_of b) h

  pub le-before : place_of b ≤ place_of a → stands_before a b ≡ false
  le-before h = before-place a b ∙ le-ltb (place_of a) (place_of b) h

  -- a lower signal decides
  pub signal-before : signal_of a < signal_of b → stands_before a b ≡ true
  unfolding stands_before
  signal-before h = rw (lt-ltb (signal_of a) (signal_of b) h)

  -- so does a higher one
  pub signal-after : signal_of b < signal_of a → stands_before a b ≡ false
  unfolding stands_before
  signal-after h = rw (le-ltb (signal_of a) (signal_of b) (native.Mathlib.Nat.le_of_lt h), borrow.Author.Tests.ne_eqb (signal_of a) (signal_of b) (λ (z : signal_of a ≡ signal_of b). omega arith))

-- ---- what holds of each of the samples
pub every-all : (q : Sample → Bool) (l : List Sample) → ((x : ℕ) → x < length l → q (get_or l x blank) ≡ true) → every q l ≡ true
unfolding every
every-all q [] h = refl
every-all q (a ∷ l) h = rw (h 0 (omega arith)) (every-all q l (λ x k. h (suc x) (omega arith)))

pub every_append : (q : Sample → Bool) (l m : List Sample) → every q l ≡ true → every q m ≡ true → every q (l ++ m) ≡ true
unfolding every
every_append q [] m h k = k
every_append q (a ∷ l) m h k = rw (and_left (q a) _ h) (every_append q l m (and_right (q a) _ h) k)

every-insert : (q : Sample → Bool) (s : Sample) (t : List Sample) → q s ≡ true → every q t ≡ true → every q (insert s t) ≡ true
unfolding every insert
every-insert q s [] r e = rw r
every-insert q s (a ∷ t) r e = go (stands_before s a) (every-insert q s t r (and_right (q a) _ e))
  where
    go : (x : Bool) → every q (insert s t) ≡ true → every q (cond x (s ∷ a ∷ t) (a ∷ insert s t)) ≡ true
    go true i = rw r e
    go false i = rw (and_left (q a) _ e) i

pub every-insert_all : (q : Sample → Bool) (t ss : List Sample) → every q t ≡ true → every q ss ≡ true → every q (insert_all t ss) ≡ true
unfolding every insert_all
every-insert_all q t [] e r = e
every-insert_all q t (s ∷ ss) e r = every-insert_all q (insert s t) ss (every-insert q s t (and_left (q s) _ r) e) (and_right (q s) _ r)

-- ---- samples in either order
swap : (s a : Sample) → place_of s < place_of a → (t : List Sample) → insert a (insert s t) ≡ insert s (insert a t)
unfolding insert
swap s a h [] = rw (le-before a s (native.Mathlib.Nat.le_of_lt h), lt-before s a h)
swap s a h (x ∷ t) = go (stands_before s x) (stands_before a x) refl refl (swap s a h t)
  where
    go : (p q : Bool) → stands_before s x ≡ p → stands_before a x ≡ q → insert a (insert s t) ≡ insert s (insert a t) → insert a (cond p (s ∷ x ∷ t) (x ∷ insert s t)) ≡ insert s (cond q (a ∷ x ∷ t) (x ∷ insert a t))
    go true true e f ih = rw (le-before a s (native.Mathlib.Nat.le_of_lt h), f, lt-before s a h)
    go true false e f ih = rw (le-before a s (native.Mathlib.Nat.le_of_lt h), f, e)
    go false true e f ih = absurd (omega (arith, h, before-le s x e, before-lt a x f))
    go false false e f ih = rw (f, e, ih)

-- s before samples that all stand after it
before-all : (s : Sample) (t v : List Sample) → every (stands_before s) v ≡ true → insert_all (insert s t) v ≡ insert s (insert_all t v)
unfolding insert_all every
before-all s t [] h = refl
before-all s t (a ∷ v) h =
    ap (λ (m : List Sample). insert_all m v) (swap s a (before-lt s a (and_left (stands_before s a) _ h)) t) ∙ before-all s (insert a t) v (and_right (stands_before s a) _ h)

pub rises-after : (s : Sample) (p : ℕ) (v : List Sample) → place_of s < p → rises p v ≡ true → every (stands_before s) v ≡ true
unfolding rises every
rises-after s p [] h r = refl
rises-after s p (a ∷ v) h r =
    let k : place_of s < place_of a = lt_of_lt_of_le h (leb-true p (place_of a) (and_left _ _ r)) in
    rw (lt-before s a k) (rises-after s (place_of a) v k (and_right (leb p (place_of a)) _ r))

-- one sample more among sorted ones is the same as one sample more after them
among : (s : Sample) (t : List Sample) (p : ℕ) (v : List Sample) → rises p v ≡ true → insert_all t (insert s v) ≡ insert s (insert_all t v)
unfolding insert_all insert
among s t p [] r = refl
among s t p (a ∷ v) r = go (stands_before s a) refl (among s (insert a t) (place_of a) v rest)
  where
    rest : rises (place_of a) v ≡ true
    rest = and_right (leb p (place_of a)) (rises (place_of a) v) (unfold rises in r)

    go : (x : Bool) → stands_before s a ≡ x → insert_all (insert a t) (insert s v) ≡ insert s (insert_all (insert a t) v) → insert_all t (cond x (s ∷ a ∷ v) (a ∷ insert s v)) ≡ insert s (insert_all t (a ∷ v))
    go true e ih = before-all s t (a ∷ v) (first (rises-after s (place_of a) v (before-lt s a e) rest))
      where
        first : every (stands_before s) v ≡ true → every (stands_before s) (a ∷ v) ≡ true
        first k = unfold every in rw e k
    go false e ih = ih

sort_into : (t v ss : List Sample) → rises 0 v ≡ true → insert_all t (insert_all v ss) ≡ insert_all (insert_all t v) ss
unfolding insert_all
sort_into t v [] r = refl
sort_into t v (s ∷ ss) r = sort_into t (insert s v) ss (insert-rises 0 s v (omega arith) r) ∙ ap (λ (m : List Sample). insert_all m ss) (among s t 0 v r)

-- for every table and every list of new samples
pub sorted-first : (t ss : List Sample) → insert_all t (insert_all [] ss) ≡ insert_all t ss
sorted-first t ss = sort_into t [] ss (unfold rises in refl) ∙ ap (λ (m : List Sample). insert_all m ss) (none t)
  where
    none : (t : List Sample) → insert_all t [] ≡ t
    none t = unfold insert_all in refl

-- ---- a table in two parts

-- samples that stand before all of the second part go into the first
insert-left : (s : Sample) (l b : List Sample) → every (stands_before s) b ≡ true → insert s (l ++ b) ≡ insert s l ++ b
unfolding insert every
insert-left s [] [] h = refl
insert-left s [] (a ∷ b) h = rw (and_left (stands_before s a) _ h)
insert-left s (x ∷ l) b h = go (stands_before s x) (insert-left s l b h)
  where
    go : (p : Bool) → insert s (l ++ b) ≡ insert s l ++ b → cond p (s ∷ x ∷ l ++ b) (x ∷ insert s (l ++ b)) ≡ cond p (s ∷ x ∷ l) (x ∷ insert s l) ++ b
    go true ih = refl
    go false ih = ap (λ (m : List Sample). x ∷ m) ih

pub insert_all-left : (l b v : List Sample) → every (λ s. every (stands_before s) b) v ≡ true → insert_all (l ++ b) v ≡ insert_all l v ++ b
unfolding insert_all every
insert_all-left l b [] h = refl
insert_all-left l b (s ∷ v) h = ap (λ (m : List Sample). insert_all m v) (insert-left s l b (and_left _ _ h)) ∙ insert_all-left (insert s l) b v (and_right (every (stands_before s) b) _ h)

-- those that stand before none of the first part go into the second
insert-right : (s : Sample) (l b : List Sample) → every (λ a. not (stands_before s a)) l ≡ true → insert s (l ++ b) ≡ l ++ insert s b
unfolding insert every
insert-right s [] b h = refl
insert-right s (x ∷ l) b h =
    rw (borrow.Author.Tests.not-true (stands_before s x) (and_left _ _ h)) (ap (λ (m : List Sample). x ∷ m) (insert-right s l b (and_right (not (stands_before s x)) _ h)))

pub insert_all-right : (l b v : List Sample) → every (λ s. every (λ a. not (stands_before s a)) l) v ≡ true → insert_all (l ++ b) v ≡ l ++ insert_all b v
unfolding insert_all every
insert_all-right l b [] h = refl
insert_all-right l b (s ∷ v) h = ap (λ (m : List Sample). insert_all m v) (insert-right s l b (and_left _ _ h)) ∙ insert_all-right l (insert s b) v (and_right (every (λ a. not (stands_before s a)) l) _ h)

-- a sample that stands before none goes to the end
pub insert-end : (s : Sample) (l : List Sample) → every (λ a. not (stands_before s a)) l ≡ true → insert s l ≡ l ++ (s ∷ [])
insert-end s l h = ap (insert s) (sym (append-nil l)) ∙ insert-right s l [] h ∙ ap (λ (m : List Sample). l ++ m) (unfold insert in refl)
