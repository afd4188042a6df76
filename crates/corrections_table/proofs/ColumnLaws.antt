-- The columns: a row, and one row more. Assumes nothing.
use mathlib.Core.Path.{◌≡◌, refl, sym, ap, ◌∙◌}
use mathlib.Core.List.{List, [], ◌∷◌}
use mathlib.Core.Bool.{Bool, true, false, cond}
use Prim.Native.Nat.{ℕ, zero, suc, ◌+◌, ◌-◌, ◌≤◌, ◌<◌, min}
use native.Mathlib.Nat.{not-suc-le-zero, le_of_suc-le-suc}
use native.Mathlib.Numerals.{add-one}
use native.Mathlib.Omega.{arith}
use lib.ListN.{length, get_or, take, drop, set, length-set}
use lib.Seq.{drop-drop, get_or-set_other}
use lib.Ieee.{Float, nan}
use Rattle.corrections_table.specs.Table.{Columns, beside, blank, stands_before, rows, table_of}
use Rattle.corrections_table.specs.Add.{insert, insert_all}
use Rattle.corrections_table.specs.Steps.{InsertedAll, opened, past, pushed, spot_of}
use Rattle.corrections_table.specs.declared.sample.Sample.{Sample}

-- ---- rows

both-suc : (a b : ℕ) → min (suc a) (suc b) ≡ suc (min a b)
both-suc a b = omega arith

beside-length : (cs vs bs : List ℕ) (ts xs : List Float) → length (beside cs vs bs ts xs) ≡ min (length cs) (min (length vs) (min (length bs) (min (length ts) (length xs))))
unfolding beside
beside-length [] vs bs ts xs = omega arith
beside-length (c ∷ cs) [] bs ts xs = omega arith
beside-length (c ∷ cs) (v ∷ vs) [] ts xs = omega arith
beside-length (c ∷ cs) (v ∷ vs) (b ∷ bs) [] xs = omega arith
beside-length (c ∷ cs) (v ∷ vs) (b ∷ bs) (t ∷ ts) [] = omega arith
beside-length (c ∷ cs) (v ∷ vs) (b ∷ bs) (t ∷ ts) (x ∷ xs) = simp both-suc (ap suc (beside-length cs vs bs ts xs))

beside_at : (cs vs bs : List ℕ) (ts xs : List Float) (i : ℕ) → i < length (beside cs vs bs ts xs)
    → ◌≡◌ {A = Sample} (record { constellation = get_or cs i 0; svid = get_or vs i 0; band = get_or bs i 0; time = get_or ts i nan; correction = get_or xs i nan }) (get_or (beside cs vs bs ts xs) i blank)
unfolding beside
beside_at [] vs bs ts xs i h = absurd (not-suc-le-zero h)
beside_at (c ∷ cs) [] bs ts xs i h = absurd (not-suc-le-zero h)
beside_at (c ∷ cs) (v ∷ vs) [] ts xs i h = absurd (not-suc-le-zero h)
beside_at (c ∷ cs) (v ∷ vs) (b ∷ bs) [] xs i h = absurd (not-suc-le-zero h)
beside_at (c ∷ cs) (v ∷ vs) (b ∷ bs) (t ∷ ts) [] i h = absurd (not-suc-le-zero h)
beside_at (c ∷ cs) (v ∷ vs) (b ∷ bs) (t ∷ ts) (x ∷ xs) zero h = refl
beside_at (c ∷ cs) (v ∷ vs) (b ∷ bs) (t ∷ ts) (x ∷ xs) (suc i) h = beside_at cs vs bs ts xs i (le_of_suc-le-suc h)

-- the place i is in every column
pub record Within (i : ℕ) (l : Columns) : Type 0 where
  pub in_c : i < length l.constellations
  pub in-v : i < length l.svids
  pub in_b : i < length l.bands
  pub in-t : i < length l.times
  pub in-x : i < length l.corrections

-- columns of the same lengths
pub record Alike (l l' : Columns) : Type 0 where
  pub long-c : length l'.constellations ≡ length l.constellations
  pub long-v : length l'.svids ≡ length l.svids
  pub long-b : length l'.bands ≡ length l.bands
  pub long-t : length l'.times ≡ length l.times
  pub long-x : length l'.corrections ≡ length l.corrections

pub alike_same : (l : Columns) → Alike l l
alike_same l = record { long-c = refl; long-v = refl; long-b = refl; long-t = refl; long-x = refl }

pub alike_next : {l l' l'' : Columns} → Alike l l' → Alike l' l'' → Alike l l''
alike_next a b =
    record {
      long-c = b.long-c ∙ a.long-c;
      long-v = b.long-v ∙ a.long-v;
      long-b = b.long-b ∙ a.long-b;
      long-t = b.long-t ∙ a.long-t;
      long-x = b.long-x ∙ a.long-x;
    }

module _ (l : Columns) where
  pub rows-length : length (rows l) ≡ min (length l.constellations) (min (length l.svids) (min (length l.bands) (min (length l.times) (length l.corrections))))
  unfolding rows
  rows-length = beside-length l.constellations l.svids l.bands l.times l.corrections

  pub rows-times : (n : ℕ) → n ≤ length (rows l) → n ≤ length l.times
  rows-times n h = omega (arith, rows-length)

  pub rows_short : length (rows l) ≤ length l.constellations
  rows_short = go (min (length l.svids) (min (length l.bands) (min (length l.times) (length l.corrections)))) rows-length
    where
      go : (k : ℕ) → length (rows l) ≡ min (length l.constellations) k → length (rows l) ≤ length l.constellations
      go k e = omega arith

  pub rows-within : (i : ℕ) → i < length (rows l) → Within i l
  rows-within i h = go (rw rows-length at h)
    where
      go : i < min (length l.constellations) (min (length l.svids) (min (length l.bands) (min (length l.times) (length l.corrections)))) → Within i l
      go k = record { in_c = omega arith; in-v = omega arith; in_b = omega arith; in-t = omega arith; in-x = omega arith }

  pub rows_at : (i : ℕ) → i < length (rows l)
      → ◌≡◌ {A = Sample} (record { constellation = get_or l.constellations i 0; svid = get_or l.svids i 0; band = get_or l.bands i 0; time = get_or l.times i nan; correction = get_or l.corrections i nan }) (get_or (rows l) i blank)
  unfolding rows
  rows_at i h = beside_at l.constellations l.svids l.bands l.times l.corrections i h

-- columns of the same lengths have as many rows
pub rows_alike : (l l' : Columns) → Alike l l' → length (rows l') ≡ length (rows l)
rows_alike l l' a = rows-length l' ∙ rw (a.long-c, a.long-v, a.long-b, a.long-t, a.long-x) (sym (rows-length l))

-- ---- one element more in a column

module _ {A : Type 0} where
  pushed-length : (v : A) (k : ℕ) (l : List A) → length (pushed v k l) ≡ length l
  unfolding pushed
  pushed-length v k [] = refl
  pushed-length v zero (x ∷ xs) = refl
  pushed-length v (suc k) (x ∷ xs) = ap suc (pushed-length x k xs)

  pub opened-length : (p k : ℕ) (v : A) (l : List A) → length (opened p k v l) ≡ length l
  unfolding opened pushed
  opened-length zero k v l = pushed-length v k l
  opened-length (suc p) k v [] = refl
  opened-length (suc p) k v (x ∷ xs) = ap suc (opened-length p k v xs)

  -- v at the place n, and none moved up
  opened-start : (l : List A) (n : ℕ) (v : A) → set l n v ≡ opened n 0 v l
  unfolding opened pushed
  opened-start [] zero v = refl
  opened-start [] (suc n) v = refl
  opened-start (x ∷ xs) zero v = refl
  opened-start (x ∷ xs) (suc n) v = ap (λ (l : List A). x ∷ l) (opened-start xs n v)

  -- one more moved up
  opened-set : (l : List A) (j k : ℕ) (z v : A) → set (opened (suc j) k (get_or l j z) l) j v ≡ opened j (suc k) v l
  unfolding opened pushed
  opened-set [] zero k z v = refl
  opened-set [] (suc j) k z v = refl
  opened-set (x ∷ xs) zero k z v = refl
  opened-set (x ∷ xs) (suc j) k z v = ap (λ (l : List A). x ∷ l) (opened-set xs j k z v)

  opened_get_d : (l : List A) (p k j : ℕ) (v z : A) → j < p → get_or (opened p k v l) j z ≡ get_or l j z
  unfolding opened pushed
  opened_get_d l zero k j v z h = absurd (not-suc-le-zero h)
  opened_get_d [] (suc p) k j v z h = refl
  opened_get_d (x ∷ xs) (suc p) k zero v z h = refl
  opened_get_d (x ∷ xs) (suc p) k (suc j) v z h = opened_get_d xs p k j v z (le_of_suc-le-suc h)

  -- the loop's invariant: any v written at i makes the column that v belongs into
  pub record Opening (p n : ℕ) (l d : List A) (i : ℕ) : Type 0 where
    pub from : p ≤ i
    pub to : i ≤ n
    pub long : length d ≡ length l
    pub gives : (v : A) → set d i v ≡ opened i (n - i) v l

  pub opening-start : (p n : ℕ) (l : List A) → p ≤ n → Opening p n l l n
  opening-start p n l h =
      record { from = h; to = omega arith; long = refl; gives = λ v. let e : n - n ≡ 0 = omega arith in rw e (opened-start l n v) }

  module _ {p n : ℕ} {l d : List A} {i : ℕ} (inv : Opening p n l d i) where
    -- the element w below i is written there
    pub opening-next : (w : A) → w ≡ get_or d (i - 1) w → p < i → Opening p n l (set d (i - 1 + 1) w) (i - 1)
    opening-next w is h = go (i - 1) (omega arith) is (omega arith)
      where
        go : (j : ℕ) → i ≡ suc j → w ≡ get_or d j w → p ≤ j → Opening p n l (set d (j + 1) w) j
        go j e r h =
            let ne : j ≡ i → ⊥ = λ (q : j ≡ i). omega arith in
            let same : w ≡ get_or l j w =
            r ∙ sym (get_or-set_other d i j w w ne) ∙ ap (λ (m : List A). get_or m j w) (inv.gives w) ∙ opened_get_d l i (n - i) j w w (omega arith) in
            let s : suc (n - i) ≡ n - j = omega (arith, inv.to) in
            let f : j + 1 ≡ i = omega arith in
            record {
              from = h;
              to = omega (arith, inv.to);
              long = length-set d (j + 1) w ∙ inv.long;
              gives =
                  λ v.
                  ap (λ (q : ℕ). set (set d q w) j v) f
                  ∙ ap (λ (m : List A). set m j v) (inv.gives w)
                  ∙ ap (λ (x : A). set (opened i (n - i) x l) j v) same
                  ∙ ap (λ (q : ℕ). set (opened q (n - i) (get_or l j w) l) j v) e
                  ∙ opened-set l j (n - i) w v
                  ∙ ap (λ (k : ℕ). opened j k v l) s;
            }

    pub opening-end : (x : A) → i ≤ p → set d p x ≡ opened p (n - p) x l
    opening-end x h =
        let e : i ≡ p = omega (arith, inv.from) in
        ap (λ (q : ℕ). set d q x) (sym e) ∙ inv.gives x ∙ ap (λ (q : ℕ). opened q (n - q) x l) e

  -- ---- what lies past the new count
  drop-pushed : (v : A) (k : ℕ) (l : List A) → drop (suc k) (pushed v k l) ≡ drop (suc k) l
  unfolding pushed
  drop-pushed v k [] = refl
  drop-pushed v zero (x ∷ xs) = refl
  drop-pushed v (suc k) (x ∷ xs) = drop-pushed x k xs

  drop-opened : (p k : ℕ) (v : A) (l : List A) → drop p (opened p k v l) ≡ pushed v k (drop p l)
  unfolding opened pushed
  drop-opened zero k v l = refl
  drop-opened (suc p) k v [] = refl
  drop-opened (suc p) k v (x ∷ xs) = drop-opened p k v xs

  pub past-opened : (p n : ℕ) (v : A) (l : List A) → p ≤ n → drop (n + 1) (opened p (n - p) v l) ≡ drop (n + 1) l
  past-opened p n v l h =
      let e : n + 1 ≡ p + suc (n - p) = omega arith in
      rw (e, ← (drop-drop (suc (n - p)) p (opened p (n - p) v l)), drop-opened p (n - p) v l, drop-pushed v (n - p) (drop p l), drop-drop (suc (n - p)) p l)

  take-pushed : (v : A) (n : ℕ) (l : List A) → n < length l → take (suc n) (pushed v n l) ≡ v ∷ take n l
  unfolding pushed
  take-pushed v n [] h = absurd (not-suc-le-zero h)
  take-pushed v zero (x ∷ xs) h = refl
  take-pushed v (suc n) (x ∷ xs) h = ap (λ (l : List A). v ∷ l) (take-pushed x n xs (le_of_suc-le-suc h))

-- ---- the rows of the columns with one element more

beside-pushed : (k c v b : ℕ) (t x : Float) (cs vs bs : List ℕ) (ts xs : List Float)
    → beside (pushed c k cs) (pushed v k vs) (pushed b k bs) (pushed t k ts) (pushed x k xs) ≡ pushed (record { constellation = c; svid = v; band = b; time = t; correction = x }) k (beside cs vs bs ts xs)
unfolding beside pushed
beside-pushed k c v b t x [] vs bs ts xs = refl
beside-pushed zero c v b t x (c₁ ∷ cs) [] bs ts xs = refl
beside-pushed zero c v b t x (c₁ ∷ cs) (v₁ ∷ vs) [] ts xs = refl
beside-pushed zero c v b t x (c₁ ∷ cs) (v₁ ∷ vs) (b₁ ∷ bs) [] xs = refl
beside-pushed zero c v b t x (c₁ ∷ cs) (v₁ ∷ vs) (b₁ ∷ bs) (t₁ ∷ ts) [] = refl
beside-pushed zero c v b t x (c₁ ∷ cs) (v₁ ∷ vs) (b₁ ∷ bs) (t₁ ∷ ts) (x₁ ∷ xs) = refl
beside-pushed (suc k) c v b t x (c₁ ∷ cs) [] bs ts xs = refl
beside-pushed (suc k) c v b t x (c₁ ∷ cs) (v₁ ∷ vs) [] ts xs = refl
beside-pushed (suc k) c v b t x (c₁ ∷ cs) (v₁ ∷ vs) (b₁ ∷ bs) [] xs = refl
beside-pushed (suc k) c v b t x (c₁ ∷ cs) (v₁ ∷ vs) (b₁ ∷ bs) (t₁ ∷ ts) [] = refl
beside-pushed (suc k) c v b t x (c₁ ∷ cs) (v₁ ∷ vs) (b₁ ∷ bs) (t₁ ∷ ts) (x₁ ∷ xs) =
    ap (λ (l : List Sample). record { constellation = c; svid = v; band = b; time = t; correction = x } ∷ l) (beside-pushed k c₁ v₁ b₁ t₁ x₁ cs vs bs ts xs)

beside-opened : (p k c v b : ℕ) (t x : Float) (cs vs bs : List ℕ) (ts xs : List Float)
    → beside (opened p k c cs) (opened p k v vs) (opened p k b bs) (opened p k t ts) (opened p k x xs) ≡ opened p k (record { constellation = c; svid = v; band = b; time = t; correction = x }) (beside cs vs bs ts xs)
unfolding beside opened pushed
beside-opened zero k c v b t x cs vs bs ts xs = beside-pushed k c v b t x cs vs bs ts xs
beside-opened (suc p) k c v b t x [] vs bs ts xs = refl
beside-opened (suc p) k c v b t x (c₁ ∷ cs) [] bs ts xs = refl
beside-opened (suc p) k c v b t x (c₁ ∷ cs) (v₁ ∷ vs) [] ts xs = refl
beside-opened (suc p) k c v b t x (c₁ ∷ cs) (v₁ ∷ vs) (b₁ ∷ bs) [] xs = refl
beside-opened (suc p) k c v b t x (c₁ ∷ cs) (v₁ ∷ vs) (b₁ ∷ bs) (t₁ ∷ ts) [] = refl
beside-opened (suc p) k c v b t x (c₁ ∷ cs) (v₁ ∷ vs) (b₁ ∷ bs) (t₁ ∷ ts) (x₁ ∷ xs) =
    ap (λ (l : List Sample). record { constellation = c₁; svid = v₁; band = b₁; time = t₁; correction = x₁ } ∷ l) (beside-opened p k c v b t x cs vs bs ts xs)

-- ---- the table with one sample more

pub spot-le : (s : Sample) (l : List Sample) → spot_of s l ≤ length l
unfolding spot_of
spot-le s [] = omega arith
spot-le s (a ∷ l) = go (stands_before s a) (spot-le s l)
  where
    go : (t : Bool) → spot_of s l ≤ length l → cond t 0 (suc (spot_of s l)) ≤ suc (length l)
    go true h = omega arith
    go false h = omega arith

insert-opened : (s : Sample) (n : ℕ) (l : List Sample) (k : ℕ) → n < length l → spot_of s (take n l) + k ≡ n
    → take (suc n) (opened (spot_of s (take n l)) k s l) ≡ insert s (take n l)
unfolding spot_of insert opened pushed
insert-opened s n [] k h e = absurd (not-suc-le-zero h)
insert-opened s zero (a ∷ l) k h e = let z : k ≡ 0 = omega arith in rw z
insert-opened s (suc n) (a ∷ l) k h e = go (stands_before s a) refl e (insert-opened s n l k (le_of_suc-le-suc h))
  where
    go : (t : Bool) → stands_before s a ≡ t → cond t 0 (suc (spot_of s (take n l))) + k ≡ suc n
        → (spot_of s (take n l) + k ≡ n → take (suc n) (opened (spot_of s (take n l)) k s l) ≡ insert s (take n l))
        → take (suc (suc n)) (opened (cond t 0 (suc (spot_of s (take n l)))) k s (a ∷ l)) ≡ cond t (s ∷ a ∷ take n l) (a ∷ insert s (take n l))
    go true q e ih = let z : k ≡ suc n = omega arith in rw z (ap (λ (m : List Sample). s ∷ m) (take-pushed a n l (le_of_suc-le-suc h)))
    go false q e ih = ap (λ (m : List Sample). a ∷ m) (ih (omega arith))

pub spot-within : (n p : ℕ) (s : Sample) (l : Columns) → n < length (rows l) → p ≡ spot_of s (table_of n l) → p ≤ n
spot-within n p s l h e = omega (arith, e, spot-le s (take n (rows l)), lib.Seq.length-take-le n (rows l) (omega arith))

-- the columns with s at the place p, the k samples from there on moved up by one
abbrev pub opened_all : ℕ → ℕ → Sample → Columns → Columns
opened_all p k s l =
    record {
      constellations = opened p k s.constellation l.constellations;
      svids = opened p k s.svid l.svids;
      bands = opened p k s.band l.bands;
      times = opened p k s.time l.times;
      corrections = opened p k s.correction l.corrections;
    }

rows-opened : (p k : ℕ) (s : Sample) (l : Columns) → rows (opened_all p k s l) ≡ opened p k s (rows l)
unfolding rows
rows-opened p k s l = beside-opened p k s.constellation s.svid s.band s.time s.correction l.constellations l.svids l.bands l.times l.corrections

rest-opened : (p n : ℕ) (s : Sample) (l : Columns) → p ≤ n → past (n + 1) (opened_all p (n - p) s l) ≡ past (n + 1) l
rest-opened p n s l b =
    rw (
      past-opened p n s.constellation l.constellations b,
      past-opened p n s.svid l.svids b,
      past-opened p n s.band l.bands b,
      past-opened p n s.time l.times b,
      past-opened p n s.correction l.corrections b,
    )

-- the sample s was put into the n samples of the table
abbrev pub Inserted : ℕ → Sample → Columns → Columns → Type 0
Inserted n s = InsertedAll n 1 (s ∷ [])

pub inserted : (n p : ℕ) (s : Sample) (l : Columns) → n < length (rows l) → p ≡ spot_of s (table_of n l) → Inserted n s l (opened_all p (n - p) s l)
unfolding insert_all
inserted n p s l h e =
    let b = spot-within n p s l h e in
    record {
      table = rw (add-one, rows-opened p (n - p) s l, e) (insert-opened s n (rows l) (n - spot_of s (take n (rows l))) h (omega (arith, e)));
      rest = rest-opened p n s l b;
    }
