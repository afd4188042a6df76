-- Samples of typed columns have svids of 16 bits and bands of 32. Assumes nothing.
use mathlib.Core.Path.{◌≡◌, refl}
use mathlib.Core.List.{List, [], ◌∷◌, ◌++◌, map}
use mathlib.Core.Bool.{Bool, true, false, cond, ◌&&◌, ◌||◌}
use Prim.Native.Nat.{ℕ, zero, suc, ◌^◌, ◌<◌}
use lib.Dec.{leb, ltb}
use lib.ListN.{length, get_or, take, drop}
use borrow.Author.Tests.{lt-ltb}
use lib.Ieee.{Float}
use Rattle.exact.specs.Float.{◌⊖◌}
use Rattle.lists.specs.Walk.{collect, every, first, places}
use Rattle.numeric.specs.declared.vec3.Vec3.{Vec3}
use Rattle.corrections_table.specs.Table.{stands_before}
use Rattle.corrections_table.specs.Add.{insert, insert_all}
use Rattle.corrections_table.specs.declared.sample.Sample.{Sample}
use Rattle.corrections_table.proofs.TableLaws.{and_left, and_right}
use Rattle.corrections_directory.specs.Directory.{Blocks, Entry, Reading, block, directory_in, entries_in, entry_rows, flat, readings_in, sample_of}
use Rattle.corrections_directory.proofs.NarrowLaws.{narrow}
use Rattle.corrections_epoch.specs.Raw.{enabled, first_raw, raw_at, raw_of, raws_of, is_state_of}
use Rattle.corrections_epoch.specs.Sample as Samples
use Rattle.corrections_epoch.specs.Sample.{clock_of, corrected, epoch_samples, group, kept, sample_at, samples_of}
use Rattle.corrections_epoch.specs.declared.raw.Raw.{Raw}
use Rattle.corrections_epoch.specs.declared.record.Range.{Range}
use Rattle.corrections_epoch.specs.declared.record.Settings.{Settings}
use Rattle.corrections_epoch.specs.declared.record.State.{State}
use Rattle.corrections_epoch_columns.specs.Epoch.{range_at}
use Rattle.corrections_laws.specs.Calls.{Epoch, new_samples}
use Rattle.corrections_laws.specs.Typed.{Typed, u16, u32}

every_append : {A : Type 0} (p : A → Bool) (xs ys : List A) → every p xs ≡ true → every p ys ≡ true → every p (xs ++ ys) ≡ true
unfolding every
every_append p [] ys e f = f
every_append p (x ∷ xs) ys e f = rw (and_left (p x) _ e) (every_append p xs ys (and_right (p x) _ e) f)

every-collect : {A B : Type 0} (p : B → Bool) (q : A → Bool) (f : A → List B) (l : List A) → ((x : A) → q x ≡ true → every p (f x) ≡ true) → every q l ≡ true → every p (collect f l) ≡ true
unfolding every collect
every-collect p q f [] h e = refl
every-collect p q f (x ∷ l) h e = every_append p (f x) (collect f l) (h x (and_left (q x) _ e)) (every-collect p q f l h (and_right (q x) _ e))

-- ---- a directory's samples
narrow_entry : Entry → Bool
narrow_entry e = narrow (sample_of e (record { time = lib.Ieee.nan; correction = lib.Ieee.nan }))

entries-narrow : (m : ℕ) (cs vs bs fs ns : List ℕ) → ((i : ℕ) → get_or vs i 0 < 2 ^ 16) → ((i : ℕ) → get_or bs i 0 < 2 ^ 32) → every narrow_entry (take m (entry_rows cs vs bs fs ns)) ≡ true
unfolding entry_rows every narrow narrow_entry
entries-narrow zero cs vs bs fs ns h k = refl
entries-narrow (suc m) [] vs bs fs ns h k = refl
entries-narrow (suc m) (c ∷ cs) [] bs fs ns h k = refl
entries-narrow (suc m) (c ∷ cs) (v ∷ vs) [] fs ns h k = refl
entries-narrow (suc m) (c ∷ cs) (v ∷ vs) (b ∷ bs) [] ns h k = refl
entries-narrow (suc m) (c ∷ cs) (v ∷ vs) (b ∷ bs) (f ∷ fs) [] h k = refl
entries-narrow (suc m) (c ∷ cs) (v ∷ vs) (b ∷ bs) (f ∷ fs) (n ∷ ns) h k =
    rw (lt-ltb v (2 ^ 16) (h 0), lt-ltb b (2 ^ 32) (k 0)) (entries-narrow m cs vs bs fs ns (λ i. h (suc i)) (λ i. k (suc i)))

block-narrow : (e : Entry) (rs : List Reading) → narrow_entry e ≡ true → every narrow (map (sample_of e) rs) ≡ true
unfolding every narrow narrow_entry
block-narrow e [] h = refl
block-narrow e (r ∷ rs) h = rw h (block-narrow e rs h)

pub flat-narrow : (m n : ℕ) (l : Blocks) → Typed (u16 l.svids ∷ u32 l.bands ∷ []) → every narrow (flat (directory_in m n l)) ≡ true
unfolding flat block
flat-narrow m n l t =
    every-collect narrow narrow_entry _ (take m (entries_in l)) (λ e h. block-narrow e (take e.count (drop e.start (take n (readings_in l)))) h) (entries-narrow m l.constellations l.svids l.bands l.firsts l.counts t.0 t.1.0)

taken : {A : Type 0} (p : A → Bool) (i : ℕ) (l : List A) → every p l ≡ true → every p (take i l) ≡ true
unfolding every
taken p zero l e = refl
taken p (suc i) [] e = refl
taken p (suc i) (x ∷ l) e = rw (and_left (p x) _ e) (taken p i l (and_right (p x) _ e))

-- ---- an epoch's samples, for every test of svid and band
module _ (test : ℕ → ℕ → Bool) where
  abbrev by : Sample → Bool
  by s = test s.svid s.band

  abbrev by_range : Range → Bool
  by_range r = test r.svid r.band

  abbrev by_raw : Raw → Bool
  by_raw r = test r.svid r.band

  ranges-pass : (k : ℕ) (rc rv rb : List ℕ) (rp : List Float) → ((i : ℕ) → test (get_or rv i 0) (get_or rb i 0) ≡ true) → every by_range (places (range_at rc rv rb rp) k) ≡ true
  unfolding places every
  ranges-pass zero rc rv rb rp h = refl
  ranges-pass (suc k) rc rv rb rp h = every_append by_range (places (range_at rc rv rb rp) k) (range_at rc rv rb rp k ∷ []) (ranges-pass k rc rv rb rp h) (rw (h k))

  -- what a range gives has the range's svid and band
  found-pass : (base rover : Vec3) (r : Range) (l : List State) → by_range r ≡ true → every by_raw (first (is_state_of r) (λ s. raw_of base rover r s ∷ []) [] l) ≡ true
  unfolding first every
  found-pass base rover r [] h = refl
  found-pass base rover r (s ∷ l) h = either (is_state_of r s) (found-pass base rover r l h)
    where
      either : (x : Bool) → every by_raw (first (is_state_of r) (λ s. raw_of base rover r s ∷ []) [] l) ≡ true → every by_raw (cond x (raw_of base rover r s ∷ []) (first (is_state_of r) (λ s. raw_of base rover r s ∷ []) [] l)) ≡ true
      either true k = rw h
      either false k = k

  raw-pass : (set : Settings) (base rover : Vec3) (states : List State) (r : Range) → by_range r ≡ true → every by_raw (raw_at set base rover states r) ≡ true
  unfolding raw_at first_raw every
  raw-pass set base rover states r h = go (enabled set r.constellation)
    where
      go : (x : Bool) → every by_raw (cond x (first (is_state_of r) (λ s. raw_of base rover r s ∷ []) [] states) []) ≡ true
      go true = found-pass base rover r states h
      go false = refl

  sample-pass : (time max : Float) (raws : List Raw) (r : Raw) → by_raw r ≡ true → every by (sample_at time max raws r) ≡ true
  unfolding sample_at corrected every
  sample-pass time max raws r h = go (leb 8 r.constellation || ltb (length (group r.constellation raws)) 3) (kept max (r.value ⊖ clock_of (group r.constellation raws)))
    where
      go : (x y : Bool) → every by (cond x [] (cond y (Samples.corrected_sample time r (r.value ⊖ clock_of (group r.constellation raws)) ∷ []) [])) ≡ true
      go true y = refl
      go false true = rw h
      go false false = refl

  pub new-pass : (e : Epoch) → ((i : ℕ) → test (get_or e.range-svids i 0) (get_or e.range-bands i 0) ≡ true) → every by (new_samples e) ≡ true
  unfolding epoch_samples samples_of raws_of
  new-pass e t =
      every-collect by by_raw _ _ (λ r h. sample-pass e.time e.settings.max_correction _ r h)
      (every-collect by_raw by_range _ _ (λ r h. raw-pass e.settings e.base e.rover _ r h)
      (taken by_range e.ranges (places (range_at e.range-constellations e.range-svids e.range-bands e.pseudoranges) e.ranges)
      (ranges-pass e.ranges e.range-constellations e.range-svids e.range-bands e.pseudoranges t)))

pub new-narrow : (e : Epoch) → Typed (u16 e.range-svids ∷ u32 e.range-bands ∷ []) → every narrow (new_samples e) ≡ true
unfolding narrow
new-narrow e t = new-pass (λ v b. ltb v (2 ^ 16) && ltb b (2 ^ 32)) e (λ i. rw (lt-ltb (get_or e.range-svids i 0) (2 ^ 16) (t.0 i), lt-ltb (get_or e.range-bands i 0) (2 ^ 32) (t.1.0 i)))

-- ---- samples put into a table
insert-pass : (p : Sample → Bool) (s : Sample) (t : List Sample) → p s ≡ true → every p t ≡ true → every p (insert s t) ≡ true
unfolding every insert
insert-pass p s [] r e = rw r
insert-pass p s (a ∷ t) r e = go (stands_before s a) (insert-pass p s t r (and_right (p a) _ e))
  where
    go : (x : Bool) → every p (insert s t) ≡ true → every p (cond x (s ∷ a ∷ t) (a ∷ insert s t)) ≡ true
    go true i = rw r e
    go false i = rw (and_left (p a) _ e) i

pub insert_all-pass : (p : Sample → Bool) (t ss : List Sample) → every p ss ≡ true → every p t ≡ true → every p (insert_all t ss) ≡ true
unfolding every insert_all
insert_all-pass p t [] r e = e
insert_all-pass p t (s ∷ ss) r e = insert_all-pass p (insert s t) ss (and_right (p s) _ r) (insert-pass p s t (and_left (p s) _ r) e)
