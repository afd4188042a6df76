-- The answer of a table that has passed its tests, joined to that of its directory. Assumes nothing.
use Rattle.std.specs.Prelude.{Result, Err}
use Rattle.numeric.specs.declared.refusal.Refusal.{Refusal}
use mathlib.Core.Path.{◌≡◌, sym, ap, ◌∙◌, subst⁻¹}
use mathlib.Core.List.{List, [], ◌∷◌}
use mathlib.Core.Bool.{Bool, true, false, not, ◌||◌}
use Prim.Native.Nat.{ℕ, ◌+◌, ◌-◌, ◌≤◌, ◌<◌}
use native.Mathlib.Omega.{arith}
use lib.Dec.{T}
use lib.ListN.{length, get_or, take}
use lib.Seq.{length-take-le}
use lib.Ieee.{Float, nan, fits, binary64}
use lib.Ieee.Scale.{finite}
use borrow.Author.Tests.{eqb-true, le-ltb}
use Rattle.numeric.specs.Real.{in_range}
use Rattle.numeric.specs.declared.refusal.Refusal.TheVariants.{NoCorrection, RecordOutOfRange}
use Rattle.signal.specs.Signal.{signal}
use Rattle.numeric.specs.Rules.{ruled}
use Rattle.corrections_table.specs.Table.{series_of}
use Rattle.corrections_directory.specs.Directory.{Blocks, Entry, block, block_capacity, directory_in, entries_in, flat, readings_in, tiles}
use Rattle.corrections_directory.specs.Steps.{no_entry, Filled, InSignals, signal_at}
use Rattle.corrections_directory.proofs.ColumnLaws.{entries-length}
use Rattle.corrections_directory.proofs.DirectoryLaws.{sound-flat, sound-parts, tiles-rest}
use Rattle.corrections_query.specs.Query.{GivesFinite, PassedQuery, answer_at, answer_in, guarded, query_in}
use Rattle.corrections_query.specs.Steps.{Answerable, BlockAnswer, Falling, LastUpTo, SignalsSplit, answer_for, directory_for, is_before, samples_of}
use Rattle.corrections_query.proofs.BlockLaws.{answer-none, answer-some}
use Rattle.corrections_query.proofs.FiniteLaws.{answer-finite}
use Rattle.corrections_query.proofs.PlaceLaws.{block-found, block-other, block-whole, falling-signals, falling-times, filled, held-flat, inside, is, no_block}

-- ---- entries that tile so many places count as many samples
tiles-sum : (place n : ℕ) (es : List Entry) → tiles place n es ≡ true → n ≡ place + samples_of es
unfolding samples_of
tiles-sum place n [] t = let e : place ≡ n = eqb-true place n (unfold tiles in t) in omega arith
tiles-sum place n (e ∷ es) t = let h = tiles-sum (place + e.count) n es (tiles-rest e es place n t) in omega (arith, h)

-- ---- a query that has passed its tests has the answer of its table
module _ (m n : ℕ) (l : Blocks) (gap : Float) (p : PassedQuery m n (block_capacity l) (directory_in m n l) gap) where
  few : (m ≤ length (entries_in l)) × (n ≤ length (readings_in l))
  few = (omega (arith, p.few-entries), omega (arith, p.few-samples))

  sum_is : n ≡ samples_of (take m (entries_in l))
  sum_is =
      let t : tiles 0 n (take m (entries_in l)) ≡ true = rw (length-take-le n (readings_in l) few.1) at (sound-parts (directory_in m n l) p.sound).tiled in
      let h = tiles-sum 0 n (take m (entries_in l)) t in
      omega (arith, h)

  pub answerable : Answerable m l
  answerable = record { few-entries = few.0; few-samples = rw (← sum_is) few.1; sound = rw (← sum_is) p.sound }

  pub answered : (c v b : ℕ) (t : Float) → answer_for m l gap (signal c v b) t ≡ query_in m n (block_capacity l) (directory_in m n l) gap c v b t
  unfolding answer_for query_in answer_at guarded ruled
  answered c v b t = rw (← sum_is, le-ltb (block_capacity l) m p.few-entries, le-ltb (block_capacity l) n p.few-samples, p.in-range, p.sound)

-- ---- the answer of such a table, way by way
module _ (m : ℕ) (l : Blocks) (ok : Answerable m l) where
  pub entry_in : (i : ℕ) → i < m → InSignals l.constellations l.svids l.bands i × ((i < length l.firsts) × (i < length l.counts))
  entry_in i h =
      let k = entries-length l.constellations l.svids l.bands l.firsts l.counts in
      let f = ok.few-entries in
      ((omega (arith, k, f), (omega (arith, k, f), omega (arith, k, f))), (omega (arith, k, f), omega (arith, k, f)))

  pub search_for : (g : ℕ) → 0 < m → SignalsSplit l.constellations l.svids l.bands g 0 m
  search_for g h =
      record {
        some = h;
        inside = (entry_in (m - 1) (omega arith)).0;
        falling = falling-signals m (samples_of (take m (entries_in l))) l ok.few-entries ok.few-samples ok.sound g;
      }

  module _ (i : ℕ) (h : i < m) where
    within : get_or l.firsts i 0 + get_or l.counts i 0 ≤ samples_of (take m (entries_in l))
    within = inside m (samples_of (take m (entries_in l))) l ok.few-entries ok.few-samples ok.sound i h

    pub block_in : Filled (length (readings_in l)) (get_or l.firsts i 0) (get_or l.counts i 0)
    block_in =
        let w = within in
        let f = ok.few-samples in
        record { filled = filled m (samples_of (take m (entries_in l))) l ok.few-entries ok.few-samples ok.sound i h; inside = omega (arith, w, f) }

    pub block_falls : ((j : ℕ) → T (fits binary64 (get_or l.times j nan))) → (t : Float) → T (fits binary64 t)
        → Falling (is_before l.times t) (get_or l.firsts i 0) (get_or l.firsts i 0 + get_or l.counts i 0)
    block_falls held t ft = falling-times m (samples_of (take m (entries_in l))) l ok.few-entries ok.few-samples ok.sound i h held t ft

  module _ (gap : Float) (g : ℕ) (t : Float) {x y : Bool} (ex : x ≡ in_range t) (ey : y ≡ finite t) where
    pub late : not (x || not y) ≡ true → Err RecordOutOfRange ≡ answer_for m l gap g t
    unfolding answer_for ruled
    late z = rw (← ex, ← ey, z)

    module _ (z : not (x || not y) ≡ false) where
      timed : answer_in (series_of g (flat (directory_for m l))) gap t ≡ answer_for m l gap g t
      unfolding answer_for ruled
      timed = rw (← ex, ← ey, z)

      pub none-for : m ≡ 0 → Err NoCorrection ≡ answer_for m l gap g t
      none-for e =
          answer-none (directory_for m l) ok.sound gap g t
          (no_block m (samples_of (take m (entries_in l))) l ok.few-entries ok.few-samples ok.sound g (λ j h q. let z : ⊥ = omega (arith, h, e) in z))
          ∙ timed

      module _ (e : ℕ) (last : LastUpTo l.constellations l.svids l.bands g 0 m e) where
        pub other-for : (signal_at l.constellations l.svids l.bands e ≡ g → ⊥) → Err NoCorrection ≡ answer_for m l gap g t
        other-for ne =
            answer-none (directory_for m l) ok.sound gap g t
            (block-other m (samples_of (take m (entries_in l))) l ok.few-entries ok.few-samples ok.sound g e last.below last.split ne)
            ∙ timed

        pub found-for : signal_at l.constellations l.svids l.bands e ≡ g → (r : Result Float Refusal) → BlockAnswer (readings_in l) (get_or l.firsts e 0) (get_or l.counts e 0) gap t r
            → ((j : ℕ) → T (fits binary64 (get_or l.times j nan))) → T (fits binary64 t) → (r ≡ answer_for m l gap g t) × GivesFinite r
        found-for q r b held ft =
            let k = samples_of (take m (entries_in l)) in
            let at = is m k l ok.few-entries ok.few-samples ok.sound e last.below in
            let f : (get_or (entries_in l) e no_entry).start ≡ get_or l.firsts e 0 = sym (ap (λ (x : Entry). x.start) at) in
            let c : (get_or (entries_in l) e no_entry).count ≡ get_or l.counts e 0 = sym (ap (λ (x : Entry). x.count) at) in
            let w = within e last.below in
            let whole = block-whole (readings_in l) k (get_or (entries_in l) e no_entry) ok.few-samples (omega (arith, f, c, w)) in
            let here : r ≡ answer_in (series_of g (flat (directory_for m l))) gap t =
            b.is (get_or (entries_in l) e no_entry) f c
            ∙ ap (λ (s : List _). answer_in s gap t) whole
            ∙ answer-some (directory_for m l) ok.sound gap g t (block (take k (readings_in l)) (get_or (entries_in l) e no_entry)) (block-found m k l ok.few-entries ok.few-samples ok.sound g e last.below last.split q) in
            (here ∙ timed, subst⁻¹ GivesFinite here (answer-finite (flat (directory_for m l)) gap g t (sound-flat (directory_for m l) ok.sound) (held-flat m k l ok.few-entries ok.few-samples ok.sound held) ft))
