-- The last entry as the code finds it. Assumes nothing.
use mathlib.Core.Path.{◌≡◌, refl, sym, ap, ◌∙◌}
use mathlib.Core.List.{List, [], ◌∷◌, ◌++◌}
use mathlib.Core.Bool.{Bool, true, false}
use Prim.Native.Nat.{ℕ, zero, suc, ◌+◌, ◌-◌, ◌^◌, ◌≤◌, ◌<◌}
use native.Mathlib.Omega.{arith}
use lib.Dec.{eqb, ltb}
use lib.ListN.{length, get_or, take, length-append}
use borrow.Author.Tests.{eqb-true, eqb-false, ltb-true, ltb-false}
use Rattle.signal.specs.Signal.{signal}
use Rattle.corrections_table.specs.Table.{blank, signal_of}
use Rattle.corrections_table.specs.declared.sample.Sample.{Sample}
use Rattle.corrections_table.proofs.Places.{rises, sorted_rises}
use Rattle.corrections_directory.specs.Directory.{Entry, Reading, ascends, entries_from, entry_rows, is_mine, signal_in}
use Rattle.corrections_directory.specs.Steps.{no_entry}
use Rattle.corrections_directory.proofs.NarrowLaws.{Narrow}
use Rattle.corrections_directory.proofs.ColumnLaws.{entries-length, entry-at}
use Rattle.corrections_add.specs.Steps.{LastOf, Lies, NewLast, OfSignals, OwnFrom, blocks_up_to, entries_up_to, last_entry}
use Rattle.corrections_add.specs.declared.entries.Last.{Last}
use Rattle.corrections_add.proofs.LastLaws.{entry_at, last-new, last-old, lies_fewer, mine-by-signal, signals-rise}

-- ---- the new samples of one signal, from the last down
abbrev pub Own : List ℕ → List ℕ → List ℕ → ℕ → ℕ → ℕ → Type 0
Own cs vs bs g a j = (x : ℕ) → a ≤ x → x < j → signal (get_or cs x 0) (get_or vs x 0) (get_or bs x 0) ≡ g

-- ---- for a list of samples that the columns stand for
module _ {cs vs bs : List ℕ} {k : ℕ} {u : List Sample} (o : OfSignals cs vs bs k u) where
  pub signal-of : (x : ℕ) → x < k → signal_of (get_or u x blank) ≡ signal (get_or cs x 0) (get_or vs x 0) (get_or bs x 0)
  signal-of x h = rw (o.constellations x h, o.svids x h, o.bands x h)

  rising : rises 0 u ≡ true
  rising = sym (sorted_rises u) ∙ o.in_order

  pub narrow_at : ((x : ℕ) → get_or vs x 0 < 2 ^ 16) → ((x : ℕ) → get_or bs x 0 < 2 ^ 32) → (x : ℕ) → x < k → Narrow (get_or u x blank).svid (get_or u x blank).band
  narrow_at fv fb x h = (rw (o.svids x h) (fv x), rw (o.bands x h) (fb x))

  -- the one before those of a signal, which none of the first j is above, is below it
  lower : (g a j : ℕ) → OwnFrom cs vs bs g a j → j ≤ k → (0 < j → signal_of (get_or u (j - 1) blank) ≤ g) → 0 < a → signal_of (get_or u (a - 1) blank) < g
  lower g a j w h top p =
      let l : signal_of (get_or u (a - 1) blank) ≤ signal_of (get_or u (j - 1) blank) = signals-rise u (a - 1) (j - 1) rising (omega (arith, w.within)) (omega (arith, w.within, o.count)) in
      let m = top (omega (arith, w.within)) in
      let ne : signal_of (get_or u (a - 1) blank) ≡ g → ⊥ = λ q. w.other p (sym (signal-of (a - 1) (omega (arith, w.within))) ∙ q) in
      omega arith

  mine-of : (e : Entry) (a j : ℕ) → OwnFrom cs vs bs (signal_in e) a j → j ≤ k → Narrow e.svid e.band → ((x : ℕ) → get_or vs x 0 < 2 ^ 16) → ((x : ℕ) → get_or bs x 0 < 2 ^ 32) → (x : ℕ) → a ≤ x → x < j → is_mine (get_or u x blank) e ≡ true
  mine-of e a j w h ne fv fb x l m =
      mine-by-signal (get_or u x blank) e (narrow_at fv fb x (omega arith)) ne (signal-of x (omega arith) ∙ w.own x l m)

  module _ (rs : List Reading) (es : List Entry) (ae : ascends 0 es ≡ true) where
    -- an old block with the new samples of its satellite
    pub old-is : (i a j : ℕ) → Lies rs es (suc i) → j ≤ k → OwnFrom cs vs bs (signal_in (get_or es i no_entry)) a j → (0 < j → signal_of (get_or u (j - 1) blank) ≤ signal_in (get_or es i no_entry)) → Narrow (get_or es i no_entry).svid (get_or es i no_entry).band
        → ((x : ℕ) → get_or vs x 0 < 2 ^ 16) → ((x : ℕ) → get_or bs x 0 < 2 ^ 32)
        → entries_up_to rs es u (suc i) j ≡ entries_up_to rs es u i a ++ (entry_at (get_or es i no_entry) ((get_or es i no_entry).start + a) ((get_or es i no_entry).count + (j - a)) ∷ [])
    old-is i a j l h w top ne fv fb =
        last-old rs es u ae rising i a j l w.within (omega (arith, o.count)) (lower (signal_in (get_or es i no_entry)) a j w h top) (mine-of (get_or es i no_entry) a j w h ne fv fb)

    -- a block of new samples alone
    pub new_is : (e : Entry) (i a j : ℕ) → i ≤ length es → 0 < j → j ≤ k → signal_in e ≡ signal_of (get_or u (j - 1) blank) → OwnFrom cs vs bs (signal_in e) a j → (0 < i → signal_in (get_or es (i - 1) no_entry) < signal_in e) → Narrow e.svid e.band
        → ((x : ℕ) → get_or vs x 0 < 2 ^ 16) → ((x : ℕ) → get_or bs x 0 < 2 ^ 32)
        → (a < j) × (entries_up_to rs es u i j ≡ entries_up_to rs es u i a ++ (entry_at e (length (blocks_up_to rs es i) + a) (j - a) ∷ []))
    new_is e i a j hi hj h q w high ne fv fb =
        let some : a < j = fewer (eqb a j) refl in
        (some, last-new rs es u ae rising e i a j hi some (omega (arith, o.count)) high (lower (signal_in e) a j w h (λ p. rw q (native.Mathlib.Nat.le_refl (signal_of (get_or u (j - 1) blank))))) (mine-of e a j w h ne fv fb))
      where
        fewer : (b : Bool) → eqb a j ≡ b → a < j
        fewer true z =
            let y : a ≡ j = eqb-true a j z in
            let x : a - 1 ≡ j - 1 = omega arith in
            absurd (w.other (omega arith) (rw x (sym (signal-of (j - 1) (omega arith)) ∙ sym q)))
        fewer false z = let ne = eqb-false a j z in omega (arith, w.within)

    -- ---- as many entries as there are old ones at least
    pub nothing-new : (i : ℕ) → Lies rs es i → entries_up_to rs es u i 0 ≡ take i es
    nothing-new zero l = unfold Rattle.lists.specs.Walk.collect Rattle.corrections_table.specs.Add.insert_all entries_from in refl
    nothing-new (suc i) l =
        last-old rs es u ae rising i 0 0 l (omega arith) (omega arith) (λ p. absurd (omega arith)) (λ x p q. absurd (omega arith))
        ∙ rw (nothing-new i (lies_fewer i (omega arith) l)) (same (get_or es i no_entry) ∙ sym (lib.Seq.take-suc es i no_entry l.few))
      where
        same : (e : Entry) → take i es ++ (entry_at e (e.start + 0) (e.count + (0 - 0)) ∷ []) ≡ take i es ++ (e ∷ [])
        same e = let a : e.start + 0 ≡ e.start = omega arith in let b : e.count + (0 - 0) ≡ e.count = omega arith in rw (a, b)

-- the new samples of a signal begin somewhere
record Begins (cs vs bs : List ℕ) (g j : ℕ) : Type 0 where
  a : ℕ
  is : OwnFrom cs vs bs g a j

begins : (cs vs bs : List ℕ) (g j : ℕ) → Begins cs vs bs g j
begins cs vs bs g zero = record { a = 0; is = record { within = omega arith; own = λ x l m. absurd (omega arith); other = λ p e. omega arith } }
begins cs vs bs g (suc j) = go (eqb (signal (get_or cs j 0) (get_or vs j 0) (get_or bs j 0)) g) refl (begins cs vs bs g j)
  where
    go : (b : Bool) → eqb (signal (get_or cs j 0) (get_or vs j 0) (get_or bs j 0)) g ≡ b → Begins cs vs bs g j → Begins cs vs bs g (suc j)
    go true q r = record { a = r.a; is = record { within = omega (arith, r.is.within); own = λ x l m. one x l m (eqb x j) refl; other = r.is.other } }
      where
        one : (x : ℕ) → r.a ≤ x → x < suc j → (y : Bool) → eqb x j ≡ y → signal (get_or cs x 0) (get_or vs x 0) (get_or bs x 0) ≡ g
        one x l m true w = let z : x ≡ j = eqb-true x j w in rw z (eqb-true _ _ q)
        one x l m false w = let z = eqb-false x j w in r.is.own x l (omega arith)
    go false q r =
        let z : suc j - 1 ≡ j = omega arith in
        record { a = suc j; is = record { within = omega arith; own = λ x l m. absurd (omega arith); other = λ p e. eqb-false _ _ q (rw z at e) } }

length-end : {A : Type 0} (l m : List A) (x : A) → l ≡ m ++ (x ∷ []) → length l ≡ length m + 1
length-end l m x e = ap length e ∙ length-append m (x ∷ [])

-- there are as many entries as old blocks at least
module _ {cs vs bs : List ℕ} {k : ℕ} {u : List Sample} (o : OfSignals cs vs bs k u) (rs : List Reading) (es : List Entry) (ae : ascends 0 es ≡ true) (fv : (x : ℕ) → get_or vs x 0 < 2 ^ 16) (fb : (x : ℕ) → get_or bs x 0 < 2 ^ 32)
    (ne : (x : ℕ) → x < length es → Narrow (get_or es x no_entry).svid (get_or es x no_entry).band) where
  step : (f i j : ℕ) → ((x y : ℕ) → x + y ≤ f → Lies rs es x → y ≤ k → x ≤ length (entries_up_to rs es u x y)) → i + j ≤ suc f → Lies rs es i → j ≤ k → i ≤ length (entries_up_to rs es u i j)
  step f zero j ih h l q = omega arith
  step f (suc i) zero ih h l q = rw (nothing-new o rs es ae (suc i) l) (omega (arith, lib.Seq.length-take-le (suc i) es l.few))
  step f (suc i) (suc j) ih h l q = go (ltb (signal_in (get_or es i no_entry)) (signal_of (get_or u j blank))) refl
    where
      z : suc j - 1 ≡ j
      z = omega arith

      go : (b : Bool) → ltb (signal_in (get_or es i no_entry)) (signal_of (get_or u j blank)) ≡ b → suc i ≤ length (entries_up_to rs es u (suc i) (suc j))
      go false w =
          let g = begins cs vs bs (signal_in (get_or es i no_entry)) (suc j) in
          let s = old-is o rs es ae i g.a (suc j) l q g.is (λ p. rw z (ltb-false _ _ w)) (ne i l.few) fv fb in
          let n = length-end (entries_up_to rs es u (suc i) (suc j)) (entries_up_to rs es u i g.a) (entry_at (get_or es i no_entry) ((get_or es i no_entry).start + g.a) ((get_or es i no_entry).count + (suc j - g.a))) s in
          omega (arith, n, ih i g.a (omega (arith, g.is.within)) (lies_fewer i (omega arith) l) (omega (arith, g.is.within)))
      go true w =
          let e : Entry = record { constellation = (get_or u j blank).constellation; svid = (get_or u j blank).svid; band = (get_or u j blank).band; start = 0; count = 0 } in
          let g = begins cs vs bs (signal_in e) (suc j) in
          let y : suc i - 1 ≡ i = omega arith in
          let s = new_is o rs es ae e (suc i) g.a (suc j) l.few (omega arith) q (rw z) g.is (λ p. rw y (ltb-true _ _ w)) (narrow_at o fv fb j q) fv fb in
          let n = length-end (entries_up_to rs es u (suc i) (suc j)) (entries_up_to rs es u (suc i) g.a) (entry_at e (length (blocks_up_to rs es (suc i)) + g.a) (suc j - g.a)) s.1 in
          omega (arith, n, ih (suc i) g.a (omega (arith, s.0)) l (omega (arith, s.0)))

  pub enough : (f i j : ℕ) → i + j ≤ f → Lies rs es i → j ≤ k → i ≤ length (entries_up_to rs es u i j)
  enough zero i j h l q = omega arith
  enough (suc f) i j h l q = step f i j (λ x y p m n. enough f x y p m n) h l q

-- ---- what the code finds

-- the directory's columns have room for m entries
pub record Room (m : ℕ) (dc dv db df dn : List ℕ) : Type 0 where
  pub in-dc : m ≤ length dc
  pub in-dv : m ≤ length dv
  pub in-db : m ≤ length db
  pub in_df : m ≤ length df
  pub in_dn : m ≤ length dn

pub room_of_lem : (m : ℕ) (dc dv db df dn : List ℕ) → m ≤ length (entry_rows dc dv db df dn) → Room m dc dv db df dn
room_of_lem m dc dv db df dn h =
    let a = entries-length dc dv db df dn in
    record { in-dc = omega (arith, a); in-dv = omega (arith, a); in-db = omega (arith, a); in_df = omega (arith, a); in_dn = omega (arith, a) }

-- the entry at a place of the columns
pub row_at : (dc dv db df dn : List ℕ) (m : ℕ) → m ≤ length (entry_rows dc dv db df dn) → (x : ℕ) → x < m
    → ◌≡◌ {A = Entry} (record { constellation = get_or dc x 0; svid = get_or dv x 0; band = get_or db x 0; start = get_or df x 0; count = get_or dn x 0 }) (get_or (take m (entry_rows dc dv db df dn)) x no_entry)
row_at dc dv db df dn m h x l = entry-at dc dv db df dn x (omega arith) ∙ sym (lib.Seq.get_or-take m (entry_rows dc dv db df dn) x no_entry l)

module _ (es : List Entry) (ae : ascends 0 es ≡ true) (cs vs bs : List ℕ) (i j end : ℕ) (r : Last) where
  -- a block of new samples alone
  pub found-new : NewLast cs vs bs i j end r → i ≤ length es → 0 < j → j ≤ end → (0 < i → signal_in (get_or es (i - 1) no_entry) < signal (get_or cs (j - 1) 0) (get_or vs (j - 1) 0) (get_or bs (j - 1) 0)) → LastOf es cs vs bs i j end r
  found-new n hi hj he high =
      let own = n.own in
      let some : r.samples < j = fewer (eqb r.samples j) refl in
      record {
        fewer-entries = omega (arith, n.entries-is);
        fewer-samples = own.within;
        fewer = omega (arith, n.entries-is, some);
        tail = let z : r.first ≡ end - (j - r.samples) = ap (λ (f : Entry). f.start) n.entry-is in omega (arith, some);
        last = λ rs u k l o h q.
            let e : Entry = record { constellation = get_or cs (j - 1) 0; svid = get_or vs (j - 1) 0; band = get_or bs (j - 1) 0; start = 0; count = 0 } in
            let w = new_is o rs es ae e i r.samples j hi hj h (sym (signal-of o (j - 1) (omega arith))) own high (n.svids-fit (j - 1), n.bands-fit (j - 1)) n.svids-fit n.bands-fit in
            let z : length (blocks_up_to rs es i) + r.samples ≡ end - (j - r.samples) = omega (arith, q, some) in
            record {
              entries-are = rw (n.entry-is, n.entries-is) (w.1 ∙ ap (λ (m : ℕ). entries_up_to rs es u i r.samples ++ (entry_at e m (j - r.samples) ∷ [])) z);
              first-is = rw n.entries-is (z ∙ sym (ap (λ (f : Entry). f.start) n.entry-is));
            };
      }
    where
      fewer : (b : Bool) → eqb r.samples j ≡ b → r.samples < j
      fewer true z =
          let y : r.samples ≡ j = eqb-true r.samples j z in
          let x : r.samples - 1 ≡ j - 1 = omega arith in
          absurd (n.own.other (omega arith) (rw x))
      fewer false z = let ne = eqb-false r.samples j z in omega (arith, n.own.within)

  -- an old block, with the new samples of its satellite, or with none
  pub found-old : {c v b f m : ℕ} → 0 < i → i ≤ length es → 0 < j → ◌≡◌ {A = Entry} (record { constellation = c; svid = v; band = b; start = f; count = m }) (get_or es (i - 1) no_entry)
      → OwnFrom cs vs bs (signal c v b) r.samples j → signal (get_or cs (j - 1) 0) (get_or vs (j - 1) 0) (get_or bs (j - 1) 0) ≤ signal c v b → Narrow v b → ((x : ℕ) → get_or vs x 0 < 2 ^ 16) → ((x : ℕ) → get_or bs x 0 < 2 ^ 32)
      → r.entries ≡ i - 1 → last_entry r ≡ record { constellation = c; svid = v; band = b; start = f + r.samples; count = m + (j - r.samples) } → LastOf es cs vs bs i j end r
  found-old {c} {v} {b} {f} {m} hi le hj at own top nar fv fb ne el =
      record {
        fewer-entries = omega (arith, ne);
        fewer-samples = own.within;
        fewer = omega (arith, ne, own.within);
        tail = let z : r.first ≡ f + r.samples = ap (λ (f : Entry). f.start) el in omega arith;
        last = λ rs u k l o h q.
            let z : suc (i - 1) ≡ i = omega arith in
            let e : signal c v b ≡ signal_in (get_or es (i - 1) no_entry) = rw (← at) in
            let w = old-is o rs es ae (i - 1) r.samples j (rw z l) h (rw (← e) own) (λ p. rw (signal-of o (j - 1) (omega arith), ← e) top) (rw (← at) nar) fv fb in
            record {
              entries-are = rw (el, ne) (ap (λ (n : ℕ). entries_up_to rs es u n j) (sym z) ∙ w ∙ rw (← at));
              first-is = rw ne (ap (λ (n : ℕ). n + r.samples) (l.starts (i - 1) (omega arith)) ∙ (rw (← at) (sym (ap (λ (f : Entry). f.start) el))));
            };
      }
