-- The entries of a sorted table, block by block, as they are written. Assumes nothing.
use mathlib.Core.Path.{◌≡◌, refl, sym, ap, ◌∙◌}
use mathlib.Core.List.{List, [], ◌∷◌, ◌++◌, map, map-append, append_assoc}
use mathlib.Core.Bool.{Bool, true, false, not, ◌||◌}
use Prim.Native.Nat.{ℕ, suc, ◌+◌, ◌-◌, ◌^◌, ◌≤◌, ◌<◌}
use native.Mathlib.Numerals.{add-one}
use native.Mathlib.Omega.{arith}
use lib.Dec.{eqb}
use lib.ListN.{length, get_or, take, drop, set, length-append, length-drop, length-map, length-set, take-append-drop}
use lib.Ieee.{Float, nan}
use lib.Seq.{drop-cons, length-take-le, set_at, take_all, take-take}
use borrow.Author.Tests.{eq-eqb, eqb-true, eqb-false}
use Rattle.lists.specs.Walk.{every}
use Rattle.corrections_table.specs.Table.{blank, lent_samples, ranged, rows, signal_of, sorted, sound_table, table_of}
use Rattle.corrections_table.specs.Add.{insert_all}
use Rattle.corrections_table.specs.declared.sample.Sample.{Sample}
use Rattle.corrections_table.proofs.ColumnLaws.{rows_at, rows-length}
use Rattle.corrections_table.proofs.TableLaws.{and_right}
use Rattle.corrections_table.proofs.UnitLaws.{never}
use Rattle.corrections_table.proofs.Places.{rises, sorted_rises}
use Rattle.corrections_directory.specs.Directory.{Blocks, Entry, column_of, entries_from, is_mine, lent_blocks, signal_in}
use Rattle.corrections_directory.specs.Rearrange.{entries_with}
use Rattle.corrections_directory.proofs.DirectoryLaws.{Same, same_of}
use Rattle.corrections_directory.proofs.NarrowLaws.{Narrow}
use Rattle.corrections_add.proofs.LastLaws.{group-mine, last_block, mine-by-signal, new-below, signals-rise}
use Rattle.corrections_add.proofs.OwnLaws.{Room}
use Rattle.corrections_add.proofs.PlaceLaws.{entries-fewer}
use Rattle.corrections_convert.specs.Steps.{Run, SameAt, Signals, lent_entries}

-- ---- one row more in a column
pub column-more : {R A : Type 0} (f : R → A) (l : List R) (r : R) (d : List A) (z : A) (m : ℕ) → length l ≡ m → m < length d → set (column_of f l d) m (f r) ≡ column_of f (l ++ (r ∷ [])) d
column-more f l r d z m e h =
    let n : length (l ++ (r ∷ [])) ≡ suc m = length-append l (r ∷ []) ∙ rw e (add-one m) in
    let q : drop (length l) d ≡ get_or d m z ∷ drop (suc m) d = ap (λ (k : ℕ). drop k d) e ∙ drop-cons d m z h in
    rw q
    (set_at (map f l) (get_or d m z) (drop (suc m) d) (f r) m (length-map l f ∙ e)
    ∙ rw n (sym (ap (λ (x : List _). x ++ drop (suc m) d) (map-append f l (r ∷ [])) ∙ append_assoc (map f l) (f r ∷ []) (drop (suc m) d))))

pub column-length : {R A : Type 0} (f : R → A) (l : List R) (d : List A) → length l ≤ length d → length (column_of f l d) ≡ length d
column-length f l d h = length-append (map f l) (drop (length l) d) ∙ rw (length-map l f, length-drop (length l) d) (omega arith)

-- ---- the table t of n samples, whose signals lie in the columns
rising : {cs vs bs : List ℕ} {n : ℕ} {t : List Sample} → Signals cs vs bs n t → rises 0 t ≡ true
rising {t = t} s = sym (sorted_rises t) ∙ s.in_order

-- the first i samples are filed in m entries, and the next begins a block
pub record FiledUp (t : List Sample) (n : ℕ) (dc₀ dv₀ db₀ df₀ dn₀ dc dv db df dn : List ℕ) (m i : ℕ) : Type 0 where
  pub within : i ≤ n
  pub count : length (entries_from 0 (take i t)) ≡ m
  pub in_c : dc ≡ column_of (λ (e : Entry). e.constellation) (entries_from 0 (take i t)) dc₀
  pub in-v : dv ≡ column_of (λ (e : Entry). e.svid) (entries_from 0 (take i t)) dv₀
  pub in_b : db ≡ column_of (λ (e : Entry). e.band) (entries_from 0 (take i t)) db₀
  pub in_f : df ≡ column_of (λ (e : Entry). e.start) (entries_from 0 (take i t)) df₀
  pub in-n : dn ≡ column_of (λ (e : Entry). e.count) (entries_from 0 (take i t)) dn₀
  pub fresh : 0 < i → i < n → signal_of (get_or t (i - 1) blank) < signal_of (get_or t i blank)

pub filed-start : (t : List Sample) (n : ℕ) (dc dv db df dn : List ℕ) → FiledUp t n dc dv db df dn dc dv db df dn 0 0
unfolding entries_from
filed-start t n dc dv db df dn =
    record { within = omega arith; count = refl; in_c = refl; in-v = refl; in_b = refl; in_f = refl; in-n = refl; fresh = λ p q. absurd (omega arith) }

module _ {cs vs bs : List ℕ} {n : ℕ} {t : List Sample} (s : Signals cs vs bs n t) {i r : ℕ} (run : Run cs vs bs i n r) where
  -- the entry of the block
  entry : Entry
  entry = record { constellation = get_or cs i 0; svid = get_or vs i 0; band = get_or bs i 0; start = i; count = r - i }

  narrow-entry : Narrow (get_or vs i 0) (get_or bs i 0)
  narrow-entry = (s.svids-fit i, s.bands-fit i)

  narrow_at : (x : ℕ) → x < n → Narrow (get_or t x blank).svid (get_or t x blank).band
  narrow_at x h = (rw (← (s.svids x h)) (s.svids-fit x), rw (← (s.bands x h)) (s.bands-fit x))

  mine : (x : ℕ) → i ≤ x → x < r → is_mine (get_or t x blank) (record { constellation = get_or cs i 0; svid = get_or vs i 0; band = get_or bs i 0; start = i; count = r - i }) ≡ true
  mine x a b =
      let q = run.same x a b in
      let h : x < n = omega (arith, run.within) in
      rw (
        eq-eqb (get_or t x blank).constellation (get_or cs i 0) (sym (s.constellations x h) ∙ q.0),
        eq-eqb (get_or t x blank).svid (get_or vs i 0) (sym (s.svids x h) ∙ q.1.0),
        eq-eqb (get_or t x blank).band (get_or bs i 0) (sym (s.bands x h) ∙ q.1.1),
      )

  signal-at : (x : ℕ) → i ≤ x → x < r → signal_of (get_or t x blank) ≡ signal_of (get_or t i blank)
  signal-at x a b =
      let q = run.same x a b in
      let h : x < n = omega (arith, run.within) in
      let k : i < n = omega (arith, run.within, run.some) in
      rw (← (s.constellations x h), ← (s.svids x h), ← (s.bands x h), q.0, q.1.0, q.1.1, s.constellations i k, s.svids i k, s.bands i k)

  -- one block more
  pub block_more : (0 < i → signal_of (get_or t (i - 1) blank) < signal_of (get_or t i blank)) → entries_from 0 (take r t) ≡ entries_from 0 (take i t) ++ (record { constellation = get_or cs i 0; svid = get_or vs i 0; band = get_or bs i 0; start = i; count = r - i } ∷ [])
  unfolding insert_all
  block_more fresh =
      let e : Entry = record { constellation = get_or cs i 0; svid = get_or vs i 0; band = get_or bs i 0; start = i; count = r - i } in
      let k : i < n = omega (arith, run.within, run.some) in
      let g : signal_in e ≡ signal_of (get_or t i blank) = rw (s.constellations i k, s.svids i k, s.bands i k) in
      let a : length (take i t) ≡ i = length-take-le i t (omega (arith, s.count)) in
      let b : length (drop i (take r t)) ≡ r - i = length-drop i (take r t) ∙ ap (λ (x : ℕ). x - i) (length-take-le r t (omega (arith, s.count, run.within))) in
      let parts : take r t ≡ take i t ++ drop i (take r t) = sym (ap (λ (m : List Sample). m ++ drop i (take r t)) (sym (take-take i r t (omega (arith, run.some)))) ∙ take-append-drop i (take r t)) in
      let w = last_block e (take i t) (drop i (take r t)) [] [] (new-below (signal_in e) t i (rising s) (omega (arith, s.count)) (λ p. rw g (fresh p))) (unfold every in refl) (group-mine e t i r (omega (arith, s.count, run.within)) mine) (unfold every in refl) (omega (arith, b, run.some)) in
      let x : length (take i t) + 0 ≡ i = omega (arith, a) in
      let y : length (drop i (take r t)) + 0 ≡ r - i = omega (arith, b) in
      ap (entries_from 0) parts ∙ w ∙ rw (x, y)

  -- the next sample is of a higher signal
  pub fresh-next : r < n → signal_of (get_or t (r - 1) blank) < signal_of (get_or t r blank)
  fresh-next h =
      let e : Entry = record { constellation = get_or cs i 0; svid = get_or vs i 0; band = get_or bs i 0; start = i; count = r - i } in
      let k : i < n = omega (arith, run.within, run.some) in
      let g : signal_in e ≡ signal_of (get_or t i blank) = rw (s.constellations i k, s.svids i k, s.bands i k) in
      let l : signal_of (get_or t (r - 1) blank) ≤ signal_of (get_or t r blank) = signals-rise t (r - 1) r (rising s) (omega arith) (omega (arith, s.count)) in
      let q : signal_of (get_or t (r - 1) blank) ≡ signal_of (get_or t i blank) = signal-at (r - 1) (omega (arith, run.some)) (omega (arith, run.some)) in
      let ne : signal_of (get_or t (r - 1) blank) ≡ signal_of (get_or t r blank) → ⊥ =
      λ z. run.other h (back (same_of (get_or t r blank) e (mine-by-signal (get_or t r blank) e (narrow_at r h) narrow-entry (sym z ∙ q ∙ sym g)))) in
      omega arith
    where
      back : Same (get_or t r blank) (record { constellation = get_or cs i 0; svid = get_or vs i 0; band = get_or bs i 0; start = i; count = r - i }) → (get_or cs r 0 ≡ get_or cs i 0) × ((get_or vs r 0 ≡ get_or vs i 0) × (get_or bs r 0 ≡ get_or bs i 0))
      back w = (s.constellations r h ∙ w.constellations, (s.svids r h ∙ w.svids, s.bands r h ∙ w.bands))

  module _ {dc₀ dv₀ db₀ df₀ dn₀ dc dv db df dn : List ℕ} {m : ℕ} (inv : FiledUp t n dc₀ dv₀ db₀ df₀ dn₀ dc dv db df dn m i)
      (rc : n ≤ length dc₀) (rv : n ≤ length dv₀) (rb : n ≤ length db₀) (rf : n ≤ length df₀) (rn : n ≤ length dn₀) where
    pub few : m < n
    few = omega (arith, inv.count, entries-fewer 0 (take i t), length-take-le i t (omega (arith, s.count, run.within, run.some)), run.within, run.some)

    pub filed-turn : FiledUp t n dc₀ dv₀ db₀ df₀ dn₀ (set dc m (get_or cs i 0)) (set dv m (get_or vs i 0)) (set db m (get_or bs i 0)) (set df m i) (set dn m (r - i)) (m + 1) r
    filed-turn =
        let es = entries_from 0 (take i t) in
        let e : Entry = record { constellation = get_or cs i 0; svid = get_or vs i 0; band = get_or bs i 0; start = i; count = r - i } in
        let k : i < n = omega (arith, run.within, run.some) in
        let q = block_more (λ p. inv.fresh p k) in
        record {
          within = run.within;
          count = ap length q ∙ length-append es (e ∷ []) ∙ ap (λ (x : ℕ). x + 1) inv.count;
          in_c = rw (q, inv.in_c) (column-more (λ (e : Entry). e.constellation) es e dc₀ 0 m inv.count (omega (arith, few)));
          in-v = rw (q, inv.in-v) (column-more (λ (e : Entry). e.svid) es e dv₀ 0 m inv.count (omega (arith, few)));
          in_b = rw (q, inv.in_b) (column-more (λ (e : Entry). e.band) es e db₀ 0 m inv.count (omega (arith, few)));
          in_f = rw (q, inv.in_f) (column-more (λ (e : Entry). e.start) es e df₀ 0 m inv.count (omega (arith, few)));
          in-n = rw (q, inv.in-n) (column-more (λ (e : Entry). e.count) es e dn₀ 0 m inv.count (omega (arith, few)));
          fresh = λ p h. fresh-next h;
        }

-- all samples are filed
pub filed-end : {t : List Sample} {n : ℕ} {dc₀ dv₀ db₀ df₀ dn₀ dc dv db df dn : List ℕ} {m i : ℕ} (ts xs : List Float) → FiledUp t n dc₀ dv₀ db₀ df₀ dn₀ dc dv db df dn m i → length t ≡ n → n ≤ i
    → (m ≡ length (entries_from 0 t)) × (lent_blocks dc dv db df dn ts xs ≡ entries_with (entries_from 0 t) (lent_blocks dc₀ dv₀ db₀ df₀ dn₀ ts xs))
filed-end {t} {n} {m = m} {i = i} ts xs inv e h =
    let q : take i t ≡ t = take_all i t (omega arith) in
    (rw q at (sym inv.count), rw (inv.in_c, inv.in-v, inv.in_b, inv.in_f, inv.in-n, q))

-- ---- the loop: the first i samples are filed in m entries, whatever table the signals are of
pub record FilingUp (cs vs bs : List ℕ) (n : ℕ) (dc₀ dv₀ db₀ df₀ dn₀ dc dv db df dn : List ℕ) (m i : ℕ) : Type 0 where
  pub within : i ≤ n
  pub fewer : m ≤ i
  pub long-c : length dc ≡ length dc₀
  pub long-v : length dv ≡ length dv₀
  pub long-b : length db ≡ length db₀
  pub long-f : length df ≡ length df₀
  pub long-n : length dn ≡ length dn₀
  pub filed : (t : List Sample) → Signals cs vs bs n t → FiledUp t n dc₀ dv₀ db₀ df₀ dn₀ dc dv db df dn m i

pub filing-start : (cs vs bs : List ℕ) (n : ℕ) (dc dv db df dn : List ℕ) → FilingUp cs vs bs n dc dv db df dn dc dv db df dn 0 0
filing-start cs vs bs n dc dv db df dn =
    record { within = omega arith; fewer = omega arith; long-c = refl; long-v = refl; long-b = refl; long-f = refl; long-n = refl; filed = λ t s. filed-start t n dc dv db df dn }

module _ {cs vs bs : List ℕ} {n : ℕ} {dc₀ dv₀ db₀ df₀ dn₀ dc dv db df dn : List ℕ} {m i : ℕ} (inv : FilingUp cs vs bs n dc₀ dv₀ db₀ df₀ dn₀ dc dv db df dn m i) where
  pub filing-turn : {r : ℕ} → Run cs vs bs i n r → Room n dc₀ dv₀ db₀ df₀ dn₀
      → FilingUp cs vs bs n dc₀ dv₀ db₀ df₀ dn₀ (set dc m (get_or cs i 0)) (set dv m (get_or vs i 0)) (set db m (get_or bs i 0)) (set df m i) (set dn m (r - i)) (m + 1) r
  filing-turn {r} run room =
      let f = inv.fewer in
      let w = run.some in
      record {
        within = run.within;
        fewer = omega (arith, f, w);
        long-c = length-set dc m (get_or cs i 0) ∙ inv.long-c;
        long-v = length-set dv m (get_or vs i 0) ∙ inv.long-v;
        long-b = length-set db m (get_or bs i 0) ∙ inv.long-b;
        long-f = length-set df m i ∙ inv.long-f;
        long-n = length-set dn m (r - i) ∙ inv.long-n;
        filed = λ t s. filed-turn s run (inv.filed t s) room.in-dc room.in-dv room.in-db room.in_df room.in_dn;
      }

  pub filing-end : n ≤ i → (t : List Sample) → Signals cs vs bs n t
      → (m ≡ length (entries_from 0 t)) × (lent_entries dc dv db df dn ≡ entries_with (entries_from 0 t) (lent_entries dc₀ dv₀ db₀ df₀ dn₀))
  filing-end h t s = filed-end [] [] (inv.filed t s) s.count h

-- the same beside a table's times and corrections
pub filed-beside : (dc dv db df dn : List ℕ) {dc' dv' db' df' dn' : List ℕ} (es : List Entry) (ts xs : List Float) → lent_entries dc' dv' db' df' dn' ≡ entries_with es (lent_entries dc dv db df dn)
    → lent_blocks dc' dv' db' df' dn' ts xs ≡ entries_with es (lent_blocks dc dv db df dn ts xs)
filed-beside dc dv db df dn es ts xs e = ap (λ (l : Blocks). lent_blocks l.constellations l.svids l.bands l.firsts l.counts ts xs) e

-- ---- from the columns
module _ (cs vs bs : List ℕ) (ts xs : List Float) (n : ℕ) (h : n ≤ length (rows (lent_samples cs vs bs ts xs))) where
  pub signals-by : sound_table (table_of n (lent_samples cs vs bs ts xs)) ≡ true → ((x : ℕ) → get_or vs x 0 < 2 ^ 16) → ((x : ℕ) → get_or bs x 0 < 2 ^ 32) → Signals cs vs bs n (table_of n (lent_samples cs vs bs ts xs))
  signals-by ok fv fb =
      record {
        count = length-take-le n (rows (lent_samples cs vs bs ts xs)) h;
        constellations = λ x l. ap (λ (s : Sample). s.constellation) (row x l);
        svids = λ x l. ap (λ (s : Sample). s.svid) (row x l);
        bands = λ x l. ap (λ (s : Sample). s.band) (row x l);
        in_order = and_right (every ranged (table_of n (lent_samples cs vs bs ts xs))) (sorted (table_of n (lent_samples cs vs bs ts xs))) (unfold sound_table in ok);
        svids-fit = fv;
        bands-fit = fb;
      }
    where
      row : (x : ℕ) → x < n → ◌≡◌ {A = Sample} (record { constellation = get_or cs x 0; svid = get_or vs x 0; band = get_or bs x 0; time = get_or ts x nan; correction = get_or xs x nan }) (get_or (table_of n (lent_samples cs vs bs ts xs)) x blank)
      row x l = rows_at (lent_samples cs vs bs ts xs) x (omega arith) ∙ sym (lib.Seq.get_or-take n (rows (lent_samples cs vs bs ts xs)) x blank l)

-- ---- a run, sample by sample
abbrev pub SameUp : List ℕ → List ℕ → List ℕ → ℕ → ℕ → Type 0
SameUp cs vs bs i j = (x : ℕ) → i ≤ x → x < j → SameAt cs vs bs x i

module _ (cs vs bs : List ℕ) (i j : ℕ) where
  pub same_first : SameUp cs vs bs i (i + 1)
  same_first x a b = let z : x ≡ i = omega arith in rw z (refl, (refl, refl))

  pub same_more : SameUp cs vs bs i j → ((not (eqb (get_or cs j 0) (get_or cs i 0)) || not (eqb (get_or vs j 0) (get_or vs i 0))) || not (eqb (get_or bs j 0) (get_or bs i 0))) ≡ false → SameUp cs vs bs i (j + 1)
  same_more s q x a b = go (eqb x j) refl
    where
      go : (y : Bool) → eqb x j ≡ y → SameAt cs vs bs x i
      go true w = let z : x ≡ j = eqb-true x j w in rw z (parts (eqb (get_or cs j 0) (get_or cs i 0)) (eqb (get_or vs j 0) (get_or vs i 0)) (eqb (get_or bs j 0) (get_or bs i 0)) refl refl refl q)
        where
          parts : (k l m : Bool) → eqb (get_or cs j 0) (get_or cs i 0) ≡ k → eqb (get_or vs j 0) (get_or vs i 0) ≡ l → eqb (get_or bs j 0) (get_or bs i 0) ≡ m → ((not k || not l) || not m) ≡ false → SameAt cs vs bs j i
          parts true true true u v w q = (eqb-true _ _ u, (eqb-true _ _ v, eqb-true _ _ w))
          parts true true false u v w q = never (sym q)
          parts true false m u v w q = never (sym q)
          parts false l m u v w q = never (sym q)
      go false w = let z = eqb-false x j w in s x a (omega arith)

  pub other_at : ((not (eqb (get_or cs j 0) (get_or cs i 0)) || not (eqb (get_or vs j 0) (get_or vs i 0))) || not (eqb (get_or bs j 0) (get_or bs i 0))) ≡ true → SameAt cs vs bs j i → ⊥
  other_at q s = never (rw (eq-eqb (get_or cs j 0) (get_or cs i 0) s.0, eq-eqb (get_or vs j 0) (get_or vs i 0) s.1.0, eq-eqb (get_or bs j 0) (get_or bs i 0) s.1.1) at q)

pub rows-within-n : (cs vs bs : List ℕ) (ts xs : List Float) (n : ℕ) → n ≤ length (rows (lent_samples cs vs bs ts xs)) → (n ≤ length cs) × ((n ≤ length vs) × (n ≤ length bs))
rows-within-n cs vs bs ts xs n h = let z = rows-length (lent_samples cs vs bs ts xs) in (omega arith, (omega arith, omega arith))
