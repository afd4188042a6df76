-- The entries of a directory with new samples, turn by turn: how many there are, and the columns that hold them. Assumes nothing.
use mathlib.Core.Path.{◌≡◌, refl, sym, ap, ◌∙◌}
use mathlib.Core.List.{List, [], ◌∷◌, ◌++◌, map, map-append}
use mathlib.Core.Bool.{true}
use Prim.Native.Nat.{ℕ, zero, suc, ◌+◌, ◌-◌, ◌^◌, ◌≤◌, ◌<◌}
use native.Mathlib.Nat.{not-suc-le-zero, le_of_suc-le-suc}
use native.Mathlib.Omega.{arith}
use lib.Dec.{leb}
use lib.ListN.{length, get_or, take, set, length-append, length-map}
use lib.Seq.{get_or-take, length-take-le, take-take}
use Rattle.lists.specs.Walk.{collect}
use Rattle.corrections_table.specs.Add.{insert_all}
use Rattle.corrections_table.specs.declared.sample.Sample.{Sample}
use Rattle.corrections_table.proofs.TableLaws.{and_left, and_right}
use Rattle.corrections_directory.specs.Directory.{Entry, Reading, ascends, block, column_of, entries_from, entry_rows, reading_of, signal_in}
use Rattle.corrections_directory.specs.Steps.{no_entry}
use Rattle.corrections_directory.proofs.DirectoryLaws.{readings-from}
use Rattle.corrections_directory.proofs.SoundLaws.{tiles-at}
use Rattle.corrections_add.specs.Steps.{LastIs, LastOf, Lies, OfSignals, Tiled, blocks_up_to, entries_up_to, last_entry}
use Rattle.corrections_add.specs.declared.entries.Last.{Last}
use Rattle.corrections_add.proofs.FillLaws.{Filling, filling_start, filling_turn, filling_end}
use Rattle.corrections_add.proofs.LastLaws.{lies_fewer, lies-of}
use Rattle.corrections_add.proofs.OwnLaws.{nothing-new, row_at}

-- ---- the first entries of a list of them
pub ascends-take : (p : ℕ) (es : List Entry) (i : ℕ) → ascends p es ≡ true → ascends p (take i es) ≡ true
unfolding ascends
ascends-take p es zero a = refl
ascends-take p [] (suc i) a = refl
ascends-take p (e ∷ es) (suc i) a = rw (and_left (leb p (signal_in e)) _ a) (ascends-take (suc (signal_in e)) es i (and_right (leb p (signal_in e)) _ a))

module _ (rs : List Reading) (es : List Entry) (i : ℕ) where
  upto_take : (x : ℕ) → x ≤ i → blocks_up_to rs (take i es) x ≡ blocks_up_to rs es x
  upto_take x h = ap (collect (block rs)) (take-take x i es h)

  entries-take : (u : List Sample) (x y : ℕ) → x ≤ i → entries_up_to rs (take i es) u x y ≡ entries_up_to rs es u x y
  entries-take u x y h = ap (λ (m : List Sample). entries_from 0 (insert_all m (take y u))) (upto_take x h)

  lies-take : Lies rs es i → Lies rs (take i es) i
  lies-take l =
      record {
        few = omega (arith, length-take-le i es l.few);
        starts = λ x h. ap length (upto_take x (omega arith)) ∙ l.starts x h ∙ sym (ap (λ (e : Entry). e.start) (get_or-take i es x no_entry h));
        ends = λ x h. rw (get_or-take i es x no_entry h) (l.ends x h);
        filled = λ x h. rw (get_or-take i es x no_entry h) (l.filled x h);
      }

-- what was found in the first i entries is the last of them all
pub last-for : {es p : List Entry} {cs vs bs : List ℕ} {i j end : ℕ} {r : Last} → LastOf p cs vs bs i j end r → p ≡ take i es
    → (rs : List Reading) (u : List Sample) (k : ℕ) → Lies rs es i → OfSignals cs vs bs k u → j ≤ k → length (blocks_up_to rs es i) + j ≡ end → LastIs rs es u i j r
last-for {es} {p} {cs} {vs} {bs} {i} {j} {end} {r} f e rs u k l o h q =
    let g : LastOf (take i es) cs vs bs i j end r = rw (← e) f in
    let w = g.last rs u k (lies-take rs es i l) o h (ap (λ (m : List Sample). length m + j) (upto_take rs es i i (omega arith)) ∙ q) in
    record {
      entries-are = sym (entries-take rs es i u i j (omega arith)) ∙ w.entries-are ∙ ap (λ (m : List Entry). m ++ (last_entry r ∷ [])) (entries-take rs es i u r.entries r.samples f.fewer-entries);
      first-is = ap (λ (m : List Sample). length m + r.samples) (sym (upto_take rs es i r.entries f.fewer-entries)) ∙ w.first-is;
    }

-- ---- how many there are
pub record Counting (es : List Entry) (cs vs bs : List ℕ) (m n k i j end count : ℕ) : Type 0 where
  pub old : i ≤ m
  pub new : j ≤ k
  pub tail : j ≤ end
  pub few : count + (i + j) ≤ m + k
  pub made : (rs : List Reading) (u : List Sample) → length rs ≡ n → OfSignals cs vs bs k u → (length (blocks_up_to rs es i) + j ≡ end) × (length (entries_up_to rs es u m k) ≡ length (entries_up_to rs es u i j) + count)

-- ---- entries that tile
module _ {dc dv db df dn : List ℕ} {m n : ℕ} (t : Tiled dc dv db df dn m n) where
  pub long : length (take m (entry_rows dc dv db df dn)) ≡ m
  long = length-take-le m (entry_rows dc dv db df dn) t.few

  pub lies : (rs : List Reading) → length rs ≡ n → Lies rs (take m (entry_rows dc dv db df dn)) m
  lies rs h = rw long at (lies-of rs (take m (entry_rows dc dv db df dn)) (rw h t.tiling))

  pub blocks-all : (rs : List Reading) → length rs ≡ n → length (blocks_up_to rs (take m (entry_rows dc dv db df dn)) m) ≡ n
  blocks-all rs h =
      let es = take m (entry_rows dc dv db df dn) in
      ap (λ (l : List Entry). length (collect (block rs) l)) (take-take m m (entry_rows dc dv db df dn) (omega arith))
      ∙ sym (length-map (collect (block rs) es) reading_of) ∙ ap length (readings-from rs 0 es (rw h t.tiling)) ∙ h

  -- the numbers of the last of the first i entries are those of their columns, and they do not wrap
  pub last_fits : (i j k : ℕ) → i ≤ m → j ≤ k → n + k < 2 ^ 64 → 0 < i → (get_or df (i - 1) 0 + j < 2 ^ 64) × (get_or dn (i - 1) 0 + j < 2 ^ 64)
  last_fits i j k h l f p =
      let at = row_at dc dv db df dn m t.few (i - 1) (omega arith) in
      let w = tiles-at 0 n (take m (entry_rows dc dv db df dn)) (i - 1) t.tiling (omega (arith, long)) in
      let a : get_or df (i - 1) 0 ≡ (get_or (take m (entry_rows dc dv db df dn)) (i - 1) no_entry).start = ap (λ (e : Entry). e.start) at in
      let b : get_or dn (i - 1) 0 ≡ (get_or (take m (entry_rows dc dv db df dn)) (i - 1) no_entry).count = ap (λ (e : Entry). e.count) at in
      (omega (arith, w.within), omega (arith, w.within))

  module _ (cs vs bs : List ℕ) (k : ℕ) where
    pub counting-start : Counting (take m (entry_rows dc dv db df dn)) cs vs bs m n k m k (n + k) 0
    counting-start =
        record {
          old = omega arith;
          new = omega arith;
          tail = omega arith;
          few = omega arith;
          made = λ rs u h o. (ap (λ (x : ℕ). x + k) (blocks-all rs h), omega arith);
        }

    module _ {i j end count : ℕ} (inv : Counting (take m (entry_rows dc dv db df dn)) cs vs bs m n k i j end count) where
      pub counting-turn : {r : Last} {p : List Entry} → LastOf p cs vs bs i j end r → p ≡ take i (take m (entry_rows dc dv db df dn)) → Counting (take m (entry_rows dc dv db df dn)) cs vs bs m n k r.entries r.samples r.first (count + 1)
      counting-turn {r} {p} f e =
          record {
            old = omega (arith, inv.old, f.fewer-entries);
            new = omega (arith, inv.new, f.fewer-samples);
            tail = f.tail;
            few = omega (arith, inv.few, f.fewer);
            made = λ rs u h o.
                let w = last-for f e rs u k (lies_fewer i inv.old (lies rs h)) o inv.new (inv.made rs u h o).0 in
                let l : length (entries_up_to rs (take m (entry_rows dc dv db df dn)) u i j) ≡ length (entries_up_to rs (take m (entry_rows dc dv db df dn)) u r.entries r.samples) + 1 =
                ap length w.entries-are ∙ length-append (entries_up_to rs (take m (entry_rows dc dv db df dn)) u r.entries r.samples) (last_entry r ∷ []) in
                (w.first-is, omega (arith, (inv.made rs u h o).1));
          }

      pub counting-end : j ≤ 0 → (rs : List Reading) (u : List Sample) → length rs ≡ n → OfSignals cs vs bs k u → count + i ≡ length (entries_up_to rs (take m (entry_rows dc dv db df dn)) u m k)
      counting-end h rs u q o =
          let z : j ≡ 0 = omega arith in
          let l : length (entries_up_to rs (take m (entry_rows dc dv db df dn)) u i j) ≡ i =
          ap (λ (x : ℕ). length (entries_up_to rs (take m (entry_rows dc dv db df dn)) u i x)) z ∙ ap length (nothing-new o rs (take m (entry_rows dc dv db df dn)) t.ascending i (lies_fewer i inv.old (lies rs q))) ∙ length-take-le i (take m (entry_rows dc dv db df dn)) (omega (arith, inv.old, long)) in
          omega (arith, (inv.made rs u q o).1)

-- ---- the columns that hold them

-- the fields of the first entries are what their columns have
pub record Fields (m : ℕ) (dc dv db df dn : List ℕ) (es : List Entry) : Type 0 where
  pub cs-are : map (λ (e : Entry). e.constellation) es ≡ take m dc
  pub vs-are : map (λ (e : Entry). e.svid) es ≡ take m dv
  pub bs-are : map (λ (e : Entry). e.band) es ≡ take m db
  pub fs-are : map (λ (e : Entry). e.start) es ≡ take m df
  pub ns-are : map (λ (e : Entry). e.count) es ≡ take m dn

pub fields-of : (m : ℕ) (dc dv db df dn : List ℕ) → m ≤ length (entry_rows dc dv db df dn) → Fields m dc dv db df dn (take m (entry_rows dc dv db df dn))
unfolding entry_rows
fields-of zero dc dv db df dn h = record { cs-are = refl; vs-are = refl; bs-are = refl; fs-are = refl; ns-are = refl }
fields-of (suc m) [] dv db df dn h = absurd (not-suc-le-zero h)
fields-of (suc m) (c ∷ dc) [] db df dn h = absurd (not-suc-le-zero h)
fields-of (suc m) (c ∷ dc) (v ∷ dv) [] df dn h = absurd (not-suc-le-zero h)
fields-of (suc m) (c ∷ dc) (v ∷ dv) (b ∷ db) [] dn h = absurd (not-suc-le-zero h)
fields-of (suc m) (c ∷ dc) (v ∷ dv) (b ∷ db) (f ∷ df) [] h = absurd (not-suc-le-zero h)
fields-of (suc m) (c ∷ dc) (v ∷ dv) (b ∷ db) (f ∷ df) (n ∷ dn) h =
    let r = fields-of m dc dv db df dn (le_of_suc-le-suc h) in
    record {
      cs-are = ap (λ (l : List ℕ). c ∷ l) r.cs-are;
      vs-are = ap (λ (l : List ℕ). v ∷ l) r.vs-are;
      bs-are = ap (λ (l : List ℕ). b ∷ l) r.bs-are;
      fs-are = ap (λ (l : List ℕ). f ∷ l) r.fs-are;
      ns-are = ap (λ (l : List ℕ). n ∷ l) r.ns-are;
    }

-- columns whose fronts are the same have the same first entries
pub rows-front : (i : ℕ) (dc dv db df dn dc' dv' db' df' dn' : List ℕ) → take i dc' ≡ take i dc → take i dv' ≡ take i dv → take i db' ≡ take i db → take i df' ≡ take i df → take i dn' ≡ take i dn
    → take i (entry_rows dc' dv' db' df' dn') ≡ take i (entry_rows dc dv db df dn)
rows-front i dc dv db df dn dc' dv' db' df' dn' a b c d e =
    front i dc' dv' db' df' dn' ∙ rw (a, b, c, d, e) (sym (front i dc dv db df dn))
  where
    front : (i : ℕ) (cs vs bs fs ns : List ℕ) → take i (entry_rows cs vs bs fs ns) ≡ entry_rows (take i cs) (take i vs) (take i bs) (take i fs) (take i ns)
    front zero cs vs bs fs ns = unfold entry_rows in refl
    front (suc i) [] vs bs fs ns = unfold entry_rows in refl
    front (suc i) (c ∷ cs) [] bs fs ns = unfold entry_rows in refl
    front (suc i) (c ∷ cs) (v ∷ vs) [] fs ns = unfold entry_rows in refl
    front (suc i) (c ∷ cs) (v ∷ vs) (b ∷ bs) [] ns = unfold entry_rows in refl
    front (suc i) (c ∷ cs) (v ∷ vs) (b ∷ bs) (f ∷ fs) [] = unfold entry_rows in refl
    front (suc i) (c ∷ cs) (v ∷ vs) (b ∷ bs) (f ∷ fs) (n ∷ ns) = step c v b f n (front i cs vs bs fs ns)
      where
        step : (c v b f n : ℕ) → take i (entry_rows cs vs bs fs ns) ≡ entry_rows (take i cs) (take i vs) (take i bs) (take i fs) (take i ns)
            → take (suc i) (entry_rows (c ∷ cs) (v ∷ vs) (b ∷ bs) (f ∷ fs) (n ∷ ns)) ≡ entry_rows (take (suc i) (c ∷ cs)) (take (suc i) (v ∷ vs)) (take (suc i) (b ∷ bs)) (take (suc i) (f ∷ fs)) (take (suc i) (n ∷ ns))
        step c v b f n q = unfold entry_rows in ap (λ (l : List Entry). record { constellation = c; svid = v; band = b; start = f; count = n } ∷ l) q

map-take : {A : Type 0} (f : Entry → A) (i : ℕ) (l : List Entry) → map f (take i l) ≡ take i (map f l)
map-take f zero l = refl
map-take f (suc i) [] = refl
map-take f (suc i) (s ∷ l) = rw (map-take f i l)

-- one column of the entries: i old blocks and j new samples are left, and the entries from w on are in place
abbrev pub Column : (Entry → ℕ) → List ℕ → List ℕ → List Entry → List Entry → ℕ → ℕ → Type 0
Column f d₀ d all left i w = Filling d₀ d (column_of f all d₀) (map f left) i w

pub record Writing (dc₀ dv₀ db₀ df₀ dn₀ dc dv db df dn : List ℕ) (all left : List Entry) (i w : ℕ) : Type 0 where
  pub in_c : Column (λ (e : Entry). e.constellation) dc₀ dc all left i w
  pub in-v : Column (λ (e : Entry). e.svid) dv₀ dv all left i w
  pub in_b : Column (λ (e : Entry). e.band) db₀ db all left i w
  pub in_f : Column (λ (e : Entry). e.start) df₀ df all left i w
  pub in-n : Column (λ (e : Entry). e.count) dn₀ dn all left i w

module _ (f : Entry → ℕ) (d₀ : List ℕ) (all : List Entry) where
  pub column-start : (i w : ℕ) → w ≡ length all → Column f d₀ d₀ all all i w
  column-start i w h = rw h (filling_start d₀ (map f all) i (length all) (length-map all f))

  pub column-turn : {d : List ℕ} {left : List Entry} {i w : ℕ} → Column f d₀ d all left i w → (e : Entry) (less : List Entry) (i' : ℕ) → left ≡ less ++ (e ∷ []) → i' ≤ i → i' < w → w ≤ length d₀ → Column f d₀ (set d (w - 1) (f e)) all less i' (w - 1)
  column-turn c e less i' q h k l = filling_turn 0 c (f e) (map f less) i' (ap (map f) q ∙ map-append f less (e ∷ [])) h k l

  pub column-end : {d : List ℕ} {left : List Entry} {i m : ℕ} → Column f d₀ d all left i i → (es : List Entry) → left ≡ take i es → i ≤ m → map f es ≡ take m d₀ → d ≡ column_of f all d₀
  column-end {d} {left} {i} {m} c es q h k = filling_end 0 c (ap (map f) q ∙ map-take f i es ∙ ap (take i) k ∙ take-take i m d₀ h) refl
