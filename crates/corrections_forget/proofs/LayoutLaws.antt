-- Forgetting in a directory, block by block: each block is cut at its front, and the directory keeps its entries. Assumes nothing.
use mathlib.Core.Path.{◌≡◌, refl, sym, ap, ◌∙◌}
use mathlib.Core.List.{List, [], ◌∷◌, ◌++◌, map, map-append}
use mathlib.Core.Bool.{Bool, true, false, cond, ◌&&◌, ◌||◌}
use Prim.Native.Nat.{ℕ, zero, suc, ◌+◌, ◌-◌, ◌<◌}
use native.Mathlib.Omega.{arith}
use lib.Dec.{T, leb}
use lib.ListN.{length, take, drop, length-drop, length-map}
use lib.Seq.{length-take-le}
use lib.Ieee.{Float, fits, binary64}
use Rattle.lists.specs.Walk.{collect, every}
use Rattle.corrections_table.specs.Table.{ranged, signal_of, sorted, sound_table}
use Rattle.corrections_table.specs.declared.sample.Sample.{Sample}
use Rattle.corrections_table.proofs.TableLaws.{and_left, and_right}
use Rattle.corrections_directory.specs.Directory.{Entry, Reading, Directory, ascends, block, block_times, directory_of, entries_from, flat, in_order, reading_of, sample_of, signal_in, sound_directory, tiles, timely}
use Rattle.corrections_directory.specs.Series.{front}
use Rattle.corrections_directory.proofs.SeriesLaws.{series_above}
use Rattle.corrections_directory.proofs.DirectoryLaws.{block-keyed, keyed, run, readings-map, sound-parts, sound-flat, tiles-le, tiles-start, tiles-count, tiles-rest, ascends-rest}
use Rattle.corrections_directory.proofs.BlockLaws.{front-le}
use Rattle.corrections_query.specs.Query.{sample_before}
use Rattle.corrections_query.proofs.QueryLaws.{TimesHeld}
use Rattle.corrections_forget.specs.Forget.{earlier, some, forget, laid, retained, trimmed}
use Rattle.corrections_forget.proofs.ForgetLaws.{some_series}
use Rattle.corrections_forget.proofs.BlockLaws.{Only, forget-block, held_all, held_all_lem}

-- ---- parts laid one after the other
abbrev Filled : (Entry → List Reading) → List Entry → Type 0
Filled part [] = Unit {0}
Filled part (e ∷ es) = (0 < length (part e)) × Filled part es

abbrev samples_in : (Entry → List Reading) → Entry → List Sample
samples_in part e = map (sample_of e) (part e)

module _ (part : Entry → List Reading) where
  laid-ascends : (p place : ℕ) (es : List Entry) → ascends p es ≡ true → ascends p (laid part place es) ≡ true
  unfolding ascends laid
  laid-ascends p place [] a = refl
  laid-ascends p place (e ∷ es) a = rw (and_left (leb p (signal_in e)) _ a) (laid-ascends (suc (signal_in e)) (place + length (part e)) es (and_right (leb p (signal_in e)) _ a))

  laid-entries : (p place : ℕ) (es : List Entry) → ascends p es ≡ true → Filled part es → entries_from place (collect (samples_in part) es) ≡ laid part place es
  unfolding collect laid
  laid-entries p place [] a f = unfold entries_from in refl
  laid-entries p place (e ∷ es) a f = go (part e) refl (laid-entries (suc (signal_in e)) (place + length (part e)) es (ascends-rest e es p a) f.1)
    where
      go : (l : List Reading) → part e ≡ l → entries_from (place + length (part e)) (collect (samples_in part) es) ≡ laid part (place + length (part e)) es
          → entries_from place (map (sample_of e) l ++ collect (samples_in part) es) ≡ record { constellation = e.constellation; svid = e.svid; band = e.band; start = place; count = length (part e) } ∷ laid part (place + length (part e)) es
      go [] q i = absurd (omega (arith, f.0, ap length q))
      go (r ∷ l) q i =
          let n : length (part e) ≡ suc (length l) = ap length q in
          rw n (run e place r l (collect (samples_in part) es) (laid part (place + suc (length l)) es) (rw n at i) (laid-ascends (suc (signal_in e)) (place + suc (length l)) es (ascends-rest e es p a)))

  laid-readings : (es : List Entry) → map reading_of (collect (samples_in part) es) ≡ collect part es
  unfolding collect
  laid-readings [] = refl
  laid-readings (e ∷ es) = map-append reading_of (samples_in part e) (collect (samples_in part) es) ∙ rw (readings-map e (part e), laid-readings es)

-- ---- forgetting, block by block
only-block : (e : Entry) (rs : List Reading) → Only (signal_in e) (map (sample_of e) rs)
only-block e [] = tt
only-block e (r ∷ rs) = (refl, only-block e rs)

some-append : (test : Sample → Bool) (xs ys : List Sample) → some test ys ≡ false → some test (xs ++ ys) ≡ some test xs
unfolding some
some-append test [] ys h = h
some-append test (x ∷ xs) ys h = ap (λ (b : Bool). test x || b) (some-append test xs ys h)

module _ (time : Float) where
  forget-append : (g : ℕ) (xs ys : List Sample) → Only g xs → some (earlier g time) ys ≡ false → forget time (xs ++ ys) ≡ forget time xs ++ forget time ys
  unfolding forget
  forget-append g [] ys o h = refl
  forget-append g (x ∷ xs) ys o h =
      ap (λ (b : Bool). cond (sample_before time x && b) (forget time (xs ++ ys)) (x ∷ forget time (xs ++ ys))) (some-append (earlier (signal_of x) time) xs ys none)
      ∙ go (sample_before time x && some (earlier (signal_of x) time) xs) (forget-append g xs ys o.1 h)
    where
      none : some (earlier (signal_of x) time) ys ≡ false
      none = ap (λ (k : ℕ). some (earlier k time) ys) o.0 ∙ h

      go : (b : Bool) → forget time (xs ++ ys) ≡ forget time xs ++ forget time ys → cond b (forget time (xs ++ ys)) (x ∷ forget time (xs ++ ys)) ≡ cond b (forget time xs) (x ∷ forget time xs) ++ forget time ys
      go true ih = ih
      go false ih = ap (λ (m : List Sample). x ∷ m) ih

  none_above : (rs : List Reading) (g p : ℕ) (es : List Entry) → g < p → ascends p es ≡ true → some (earlier g time) (collect (block rs) es) ≡ false
  none_above rs g p es l a = sym (some_series g time (collect (block rs) es)) ∙ rw (series_above rs g p es l a) (unfold some in refl)

  forget-blocks : (rs : List Reading) (p : ℕ) (es : List Entry) → ascends p es ≡ true → forget time (collect (block rs) es) ≡ collect (λ e. forget time (block rs e)) es
  unfolding collect
  forget-blocks rs p [] a = unfold forget in refl
  forget-blocks rs p (e ∷ es) a =
      forget-append (signal_in e) (block rs e) (collect (block rs) es) (only e) (none_above rs (signal_in e) (suc (signal_in e)) es (omega arith) (ascends-rest e es p a))
      ∙ ap (λ (m : List Sample). forget time (block rs e) ++ m) (forget-blocks rs (suc (signal_in e)) es (ascends-rest e es p a))
    where
      only : (e : Entry) → Only (signal_in e) (block rs e)
      only e = unfold block in only-block e (take e.count (drop e.start rs))

  -- ---- what is retained
  map-drop : (e : Entry) (n : ℕ) (rs : List Reading) → drop n (map (sample_of e) rs) ≡ map (sample_of e) (drop n rs)
  map-drop e zero rs = refl
  map-drop e (suc n) [] = refl
  map-drop e (suc n) (r ∷ rs) = map-drop e n rs

  every-left : (test : Sample → Bool) (xs ys : List Sample) → every test (xs ++ ys) ≡ true → every test xs ≡ true
  unfolding every
  every-left test [] ys h = refl
  every-left test (x ∷ xs) ys h = rw (and_left (test x) _ h) (every-left test xs ys (and_right (test x) _ h))

  every-right : (test : Sample → Bool) (xs ys : List Sample) → every test (xs ++ ys) ≡ true → every test ys ≡ true
  unfolding every
  every-right test [] ys h = h
  every-right test (x ∷ xs) ys h = every-right test xs ys (and_right (test x) _ h)

  module _ (ft : T (fits binary64 time)) (rs : List Reading) where
    block-retained : (e : Entry) → keyed 0 (block rs e) ≡ true → every ranged (block rs e) ≡ true → held_all (block rs e) ≡ true → forget time (block rs e) ≡ samples_in (retained time rs) e
    unfolding block
    block-retained e t r w =
        forget-block time ft (signal_in e) 0 (block rs e) (only-block e (take e.count (drop e.start rs))) t r w
        ∙ map-drop e (front time (block rs e) - 1) (take e.count (drop e.start rs))

    blocks-retained : (es : List Entry) → in_order rs es ≡ true → every ranged (collect (block rs) es) ≡ true → held_all (collect (block rs) es) ≡ true
        → collect (λ e. forget time (block rs e)) es ≡ collect (samples_in (retained time rs)) es
    unfolding collect every held_all
    blocks-retained [] o r w = refl
    blocks-retained (e ∷ es) o r w =
        rw (
          block-retained e (sym (block-keyed rs e) ∙ and_left (timely (block_times rs e)) _ o) (every-left ranged (block rs e) (collect (block rs) es) r) (every-left (λ s. fits binary64 s.time) (block rs e) (collect (block rs) es) w),
          blocks-retained es (and_right (timely (block_times rs e)) _ o) (every-right ranged (block rs e) (collect (block rs) es) r) (every-right (λ s. fits binary64 s.time) (block rs e) (collect (block rs) es) w),
        )

    -- a block never empties
    retained-filled : (place : ℕ) (es : List Entry) → tiles place (length rs) es ≡ true → Filled (retained time rs) es
    unfolding block
    retained-filled place [] t = tt
    retained-filled place (e ∷ es) t = (some_left, retained-filled (place + e.count) es (tiles-rest e es place (length rs) t))
      where
        X : List Reading
        X = take e.count (drop e.start rs)

        whole : length X ≡ e.count
        whole = length-take-le e.count (drop e.start rs) (omega (arith, length-drop e.start rs, tiles-start e es place (length rs) t, tiles-le (place + e.count) (length rs) es (tiles-rest e es place (length rs) t)))

        some_left : 0 < length (drop (front time (map (sample_of e) X) - 1) X)
        some_left =
            rw (length-drop (front time (map (sample_of e) X) - 1) X)
            (omega (arith, whole, tiles-count e es place (length rs) t, front-le time (map (sample_of e) X), length-map X (sample_of e)))

every-ranged : (d : Directory) → sound_directory d ≡ true → every ranged (collect (block d.readings) d.entries) ≡ true
every-ranged d h = and_left (every ranged (collect (block d.readings) d.entries)) (sorted (collect (block d.readings) d.entries)) (unfold flat sound_table in sound-flat d h)

-- for every sound directory of the format's times
pub forget-trimmed : (time : Float) (d : Directory) → T (fits binary64 time) → sound_directory d ≡ true → TimesHeld (flat d) → directory_of (forget time (flat d)) ≡ trimmed time d
unfolding flat directory_of trimmed
forget-trimmed time d ft h held =
    let w : held_all (collect (block d.readings) d.entries) ≡ true = held_all_lem (collect (block d.readings) d.entries) held in
    let p = sound-parts d h in
    let r = every-ranged d h in
    let e : forget time (collect (block d.readings) d.entries) ≡ collect (samples_in (retained time d.readings)) d.entries =
    forget-blocks time d.readings 0 d.entries p.ascending ∙ blocks-retained time ft d.readings d.entries p.ordered r w in
    rw (e, laid-entries (retained time d.readings) 0 0 d.entries p.ascending (retained-filled time ft d.readings 0 d.entries p.tiled), laid-readings (retained time d.readings) d.entries)
