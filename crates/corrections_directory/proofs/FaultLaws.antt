-- A directory is sound just where it has none of the faults that request (ix) lists. Assumes nothing.
use mathlib.Core.Path.{◌≡◌, refl}
use mathlib.Core.List.{List, [], ◌∷◌}
use mathlib.Core.Bool.{Bool, true, false}
use mathlib.Core.Logic.{inl, inr}
use Prim.Native.Nat.{ℕ, suc, ◌+◌, ◌≤◌, ◌<◌}
use native.Mathlib.Nat.{le_trans}
use native.Mathlib.Omega.{arith}
use lib.Dec.{eqb, ltb}
use lib.ListN.{length}
use borrow.Author.Tests.{ltb-true, ltb-false, eqb-true, le-leb, lt-ltb, eq-eqb}
use Rattle.corrections_directory.specs.Directory.{Entry, Directory, signal_in, ascends, tiles, sound_directory}
use Rattle.corrections_directory.specs.Faults.{EachEntry, Some, Pairs, Covers, Faultless}
use Rattle.corrections_directory.proofs.DirectoryLaws.{sound-parts, tiles-le, tiles-start, tiles-count, tiles-rest, ascends-low, ascends-rest}

all_map : {P Q : Entry → Type 0} (es : List Entry) → ((e : Entry) → P e → Q e) → EachEntry P es → EachEntry Q es
all_map [] f a = tt
all_map (e ∷ es) f a = (f e a.0, all_map es f a.1)

pairs-map : {R S : Entry → Entry → Type 0} (es : List Entry) → ((e f : Entry) → R e f → S e f) → Pairs R es → Pairs S es
pairs-map [] h a = tt
pairs-map (e ∷ es) h a = (all_map es (h e) a.0, pairs-map es h a.1)

all_any : {P : Entry → Type 0} (es : List Entry) → ((e : Entry) → P e) → EachEntry P es
all_any [] f = tt
all_any (e ∷ es) f = (f e, all_any es f)

-- ---- what a sound directory has
above : (p : ℕ) (es : List Entry) → ascends p es ≡ true → EachEntry (λ e. p ≤ signal_in e) es
above p [] a = tt
above p (e ∷ es) a =
    let l : p ≤ signal_in e = ascends-low e es p a in
    (l, all_map es (λ f h. omega arith) (above (suc (signal_in e)) es (ascends-rest e es p a)))

rising : (p : ℕ) (es : List Entry) → ascends p es ≡ true → Pairs (λ e f. signal_in e < signal_in f) es
rising p [] a = tt
rising p (e ∷ es) a = (above (suc (signal_in e)) es (ascends-rest e es p a), rising (suc (signal_in e)) es (ascends-rest e es p a))

module _ (n : ℕ) where
  filled_of : (place : ℕ) (es : List Entry) → tiles place n es ≡ true → EachEntry (λ e. 0 < e.count) es
  filled_of place [] t = tt
  filled_of place (e ∷ es) t = (tiles-count e es place n t, filled_of (place + e.count) es (tiles-rest e es place n t))

  inside_of : (place : ℕ) (es : List Entry) → tiles place n es ≡ true → EachEntry (λ e. e.start + e.count ≤ n) es
  inside_of place [] t = tt
  inside_of place (e ∷ es) t =
      (omega (arith, tiles-start e es place n t, tiles-le (place + e.count) n es (tiles-rest e es place n t)), inside_of (place + e.count) es (tiles-rest e es place n t))

  from : (place : ℕ) (es : List Entry) → tiles place n es ≡ true → EachEntry (λ e. place ≤ e.start) es
  from place [] t = tt
  from place (e ∷ es) t =
      (omega (arith, tiles-start e es place n t), all_map es (λ f h. omega arith) (from (place + e.count) es (tiles-rest e es place n t)))

  -- each block ends before a later one starts
  after : (place : ℕ) (es : List Entry) → tiles place n es ≡ true → Pairs (λ e f. e.start + e.count ≤ f.start) es
  after place [] t = tt
  after place (e ∷ es) t =
      let s : e.start ≡ place = tiles-start e es place n t in
      (all_map es (λ f h. omega arith) (from (place + e.count) es (tiles-rest e es place n t)), after (place + e.count) es (tiles-rest e es place n t))

  covered : (place : ℕ) (es : List Entry) → tiles place n es ≡ true → (k : ℕ) → place ≤ k → k < n → Some (Covers k) es
  covered place [] t k l h = absurd (omega (arith, eqb-true place n (unfold tiles in t)))
  covered place (e ∷ es) t k l h = go (ltb k (place + e.count)) refl (λ u. covered (place + e.count) es (tiles-rest e es place n t) k u h)
    where
      s : e.start ≡ place
      s = tiles-start e es place n t

      go : (x : Bool) → ltb k (place + e.count) ≡ x → (place + e.count ≤ k → Some (Covers k) es) → Some (Covers k) (e ∷ es)
      go true q later = inl (omega (arith, s), omega (arith, s, ltb-true k (place + e.count) q))
      go false q later = inr (later (ltb-false k (place + e.count) q))

pub sound_faultless : (d : Directory) → sound_directory d ≡ true → Faultless d
sound_faultless d h =
    let p = sound-parts d h in
    let n = length d.readings in
    record {
      in_reach = p.in_reach;
      ascending = pairs-map d.entries (λ e f l. omega arith) (rising 0 d.entries p.ascending);
      once = pairs-map d.entries (λ e f l q. omega arith) (rising 0 d.entries p.ascending);
      filled = filled_of n 0 d.entries p.tiled;
      same-order = pairs-map d.entries (λ e f l. omega arith) (after n 0 d.entries p.tiled);
      apart = pairs-map d.entries (λ e f l k a b. omega arith) (after n 0 d.entries p.tiled);
      gapless = λ k l. covered n 0 d.entries p.tiled k (omega arith) l;
      inside = inside_of n 0 d.entries p.tiled;
      ordered = p.ordered;
    }

-- ---- and the other way round
ascends-of : (p : ℕ) (es : List Entry) → EachEntry (λ e. p ≤ signal_in e) es → Pairs (λ e f. signal_in e ≤ signal_in f) es → Pairs (λ e f. signal_in e ≡ signal_in f → ⊥) es → ascends p es ≡ true
unfolding ascends
ascends-of p [] l a o = refl
ascends-of p (e ∷ es) l a o = rw (le-leb p (signal_in e) l.0) (ascends-of (suc (signal_in e)) es (next es a.0 o.0) a.1 o.1)
  where
    next : (es : List Entry) → EachEntry (λ f. signal_in e ≤ signal_in f) es → EachEntry (λ f. signal_in e ≡ signal_in f → ⊥) es → EachEntry (λ f. suc (signal_in e) ≤ signal_in f) es
    next [] a o = tt
    next (f ∷ es) a o = (let u = a.0 in let v = o.0 in omega arith, next es a.1 o.1)

-- blocks that start at c or later hold no place before it
some-from : (k c : ℕ) (es : List Entry) → EachEntry (λ f. c ≤ f.start) es → Some (Covers k) es → c ≤ k
some-from k c [] a s = absurd s
some-from k c (f ∷ es) a (inl h) = le_trans a.0 h.0
some-from k c (f ∷ es) a (inr s) = some-from k c es a.1 s

-- a later block that shares no place with e starts where e ends, or after that
beyond : (e : Entry) (es : List Entry) → EachEntry (λ f. 0 < f.count) es → EachEntry (λ f. e.start ≤ f.start) es → EachEntry (λ f. (k : ℕ) → Covers k e → Covers k f → ⊥) es → EachEntry (λ f. e.start + e.count ≤ f.start) es
beyond e [] c o a = tt
beyond e (f ∷ es) c o a = (go (ltb f.start (e.start + e.count)) refl, beyond e es c.1 o.1 a.1)
  where
    go : (x : Bool) → ltb f.start (e.start + e.count) ≡ x → e.start + e.count ≤ f.start
    go true q =
        let u : 0 < f.count = c.0 in
        absurd (a.0 f.start (o.0, ltb-true f.start (e.start + e.count) q) (omega arith, omega arith))
    go false q = ltb-false f.start (e.start + e.count) q

tiles-of : (n place : ℕ) (es : List Entry) → place ≤ n → EachEntry (λ e. place ≤ e.start) es → EachEntry (λ e. 0 < e.count) es → Pairs (λ e f. e.start ≤ f.start) es → Pairs (λ e f. (k : ℕ) → Covers k e → Covers k f → ⊥) es
    → ((k : ℕ) → place ≤ k → k < n → Some (Covers k) es) → EachEntry (λ e. e.start + e.count ≤ n) es → tiles place n es ≡ true
unfolding tiles
tiles-of n place [] l from c o a g i = go (ltb place n) refl
  where
    go : (x : Bool) → ltb place n ≡ x → eqb place n ≡ true
    go true q = absurd (g place (native.Mathlib.Nat.le_refl place) (ltb-true place n q))
    go false q = eq-eqb place n (omega (arith, ltb-false place n q))
tiles-of n place (e ∷ es) l from c o a g i =
    rw (eq-eqb e.start place start, lt-ltb 0 e.count c.0)
    (tiles-of n (place + e.count) es (omega (arith, i.0, start)) (all_map es (λ f h. omega (arith, start)) (beyond e es c.1 o.0 a.0)) c.1 o.1 a.1 rest i.1)
  where
    first : Some (Covers place) (e ∷ es) → e.start ≤ place
    first (inl h) = h.0
    first (inr s) = some-from place e.start es o.0 s

    start : e.start ≡ place
    start = omega (arith, from.0, first (g place (native.Mathlib.Nat.le_refl place) (omega (arith, from.0, c.0, i.0))))

    others : (k : ℕ) → place + e.count ≤ k → Some (Covers k) (e ∷ es) → Some (Covers k) es
    others k h (inl q) = absurd (omega (arith, q, start))
    others k h (inr s) = s

    rest : (k : ℕ) → place + e.count ≤ k → k < n → Some (Covers k) es
    rest k h m = others k h (g k (omega arith) m)

pub faultless_sound : (d : Directory) → Faultless d → sound_directory d ≡ true
unfolding sound_directory
faultless_sound d f =
    rw (
      f.in_reach,
      ascends-of 0 d.entries (all_any d.entries (λ e. omega arith)) f.ascending f.once,
      tiles-of (length d.readings) 0 d.entries (omega arith) (all_any d.entries (λ e. omega arith)) f.filled f.same-order f.apart (λ k a b. f.gapless k b) f.inside,
    )
    f.ordered
