-- The columns of entries with those of new samples, turn by turn. Assumes nothing.
use mathlib.Core.Path.{◌≡◌, sym, ap, ◌∙◌}
use mathlib.Core.List.{List, [], ◌∷◌}
use Prim.Native.Nat.{ℕ, ◌+◌, ◌-◌, ◌^◌, ◌≤◌, ◌<◌}
use native.Mathlib.Omega.{arith}
use lib.ListN.{length, get_or, take, set, replicate, length-append, length-map, length-replicate}
use lib.Seq.{take-take}
use Rattle.corrections_table.specs.declared.sample.Sample.{Sample}
use Rattle.corrections_directory.specs.Directory.{Entry, Reading, entry_rows}
use Rattle.corrections_directory.specs.Steps.{no_entry}
use Rattle.corrections_directory.proofs.NarrowLaws.{Narrow}
use Rattle.corrections_directory.proofs.ColumnLaws.{entries-length, no_reading}
use Rattle.corrections_add.specs.Steps.{EntriesMerged, LastIs, LastOf, OfSignals, SomeSignals, Tiled, blocks_up_to, entries_up_to, last_entry}
use Rattle.corrections_add.specs.declared.entries.Last.{Last}
use Rattle.corrections_add.proofs.LastLaws.{lies_fewer}
use Rattle.corrections_add.proofs.OwnLaws.{enough, nothing-new, room_of_lem, row_at}
use Rattle.corrections_add.proofs.CountLaws.{Writing, blocks-all, column-end, column-start, column-turn, fields-of, last-for, lies, long, rows-front}

-- i old blocks and j new samples are left, which end at `end`, and the entries from w on are in place
pub record Placing (cs vs bs : List ℕ) (m n k count : ℕ) (dc₀ dv₀ db₀ df₀ dn₀ dc dv db df dn : List ℕ) (i j end w : ℕ) : Type 0 where
  pub old : i ≤ m
  pub new : j ≤ k
  pub tail : j ≤ end
  pub high : w ≤ count
  pub made : (rs : List Reading) (u : List Sample) → length rs ≡ n → OfSignals cs vs bs k u
      → (length (blocks_up_to rs (take m (entry_rows dc₀ dv₀ db₀ df₀ dn₀)) i) + j ≡ end)
      × Writing dc₀ dv₀ db₀ df₀ dn₀ dc dv db df dn (entries_up_to rs (take m (entry_rows dc₀ dv₀ db₀ df₀ dn₀)) u m k) (entries_up_to rs (take m (entry_rows dc₀ dv₀ db₀ df₀ dn₀)) u i j) i w

module _ {cs vs bs dc₀ dv₀ db₀ df₀ dn₀ : List ℕ} {m n : ℕ} (t : Tiled dc₀ dv₀ db₀ df₀ dn₀ m n) (k count : ℕ) where
  pub placing-start : ((rs : List Reading) (u : List Sample) → length rs ≡ n → OfSignals cs vs bs k u → count ≡ length (entries_up_to rs (take m (entry_rows dc₀ dv₀ db₀ df₀ dn₀)) u m k))
      → Placing cs vs bs m n k count dc₀ dv₀ db₀ df₀ dn₀ dc₀ dv₀ db₀ df₀ dn₀ m k (n + k) count
  placing-start q =
      record {
        old = omega arith;
        new = omega arith;
        tail = omega arith;
        high = omega arith;
        made = λ rs u h o.
            let all = entries_up_to rs (take m (entry_rows dc₀ dv₀ db₀ df₀ dn₀)) u m k in
            let e = q rs u h o in (
              ap (λ (x : ℕ). x + k) (blocks-all t rs h),
              record {
                in_c = column-start (λ (e : Entry). e.constellation) dc₀ all m count e;
                in-v = column-start (λ (e : Entry). e.svid) dv₀ all m count e;
                in_b = column-start (λ (e : Entry). e.band) db₀ all m count e;
                in_f = column-start (λ (e : Entry). e.start) df₀ all m count e;
                in-n = column-start (λ (e : Entry). e.count) dn₀ all m count e;
              },
            );
      }

  module _ {dc dv db df dn : List ℕ} {i j end w : ℕ} (inv : Placing cs vs bs m n k count dc₀ dv₀ db₀ df₀ dn₀ dc dv db df dn i j end w) where
    module _ (some : SomeSignals cs vs bs k) where
      now : Writing dc₀ dv₀ db₀ df₀ dn₀ dc dv db df dn (entries_up_to (replicate n no_reading) (take m (entry_rows dc₀ dv₀ db₀ df₀ dn₀)) some.samples m k) (entries_up_to (replicate n no_reading) (take m (entry_rows dc₀ dv₀ db₀ df₀ dn₀)) some.samples i j) i w
      now = (inv.made (replicate n no_reading) some.samples (length-replicate n no_reading) some.of).1

      -- the entries that are left are as they were
      pub fronts : take i (entry_rows dc dv db df dn) ≡ take i (take m (entry_rows dc₀ dv₀ db₀ df₀ dn₀))
      fronts =
          rows-front i dc₀ dv₀ db₀ df₀ dn₀ dc dv db df dn now.in_c.front now.in-v.front now.in_b.front now.in_f.front now.in-n.front
          ∙ sym (take-take i m (entry_rows dc₀ dv₀ db₀ df₀ dn₀) inv.old)

      pub long-c : length dc ≡ length dc₀
      long-c = now.in_c.long

      pub long-v : length dv ≡ length dv₀
      long-v = now.in-v.long

      pub long-b : length db ≡ length db₀
      long-b = now.in_b.long

      pub long-f : length df ≡ length df₀
      long-f = now.in_f.long

      pub long-n : length dn ≡ length dn₀
      long-n = now.in-n.long

      pub same_rows : length (entry_rows dc dv db df dn) ≡ length (entry_rows dc₀ dv₀ db₀ df₀ dn₀)
      same_rows = entries-length dc dv db df dn ∙ rw (long-c, long-v, long-b, long-f, long-n) (sym (entries-length dc₀ dv₀ db₀ df₀ dn₀))

      -- the first sample and the count of the last entry that is left
      pub same-f : 0 < i → get_or df (i - 1) 0 ≡ get_or df₀ (i - 1) 0
      same-f h = sym (lib.Seq.get_or-take i df (i - 1) 0 (omega arith)) ∙ ap (λ (l : List ℕ). get_or l (i - 1) 0) now.in_f.front ∙ lib.Seq.get_or-take i df₀ (i - 1) 0 (omega arith)

      pub same-n : 0 < i → get_or dn (i - 1) 0 ≡ get_or dn₀ (i - 1) 0
      same-n h = sym (lib.Seq.get_or-take i dn (i - 1) 0 (omega arith)) ∙ ap (λ (l : List ℕ). get_or l (i - 1) 0) now.in-n.front ∙ lib.Seq.get_or-take i dn₀ (i - 1) 0 (omega arith)

    left_is : (rs : List Reading) (u : List Sample) → length rs ≡ n → OfSignals cs vs bs k u → length (entries_up_to rs (take m (entry_rows dc₀ dv₀ db₀ df₀ dn₀)) u i j) ≡ w
    left_is rs u h o =
        sym (length-map (entries_up_to rs (take m (entry_rows dc₀ dv₀ db₀ df₀ dn₀)) u i j) (λ (e : Entry). e.constellation)) ∙ (inv.made rs u h o).1.in_c.count

    module _ {r : Last} {p : List Entry} (f : LastOf p cs vs bs i j end r) (e : p ≡ take i (take m (entry_rows dc₀ dv₀ db₀ df₀ dn₀))) where
      found : (rs : List Reading) (u : List Sample) → length rs ≡ n → OfSignals cs vs bs k u → LastIs rs (take m (entry_rows dc₀ dv₀ db₀ df₀ dn₀)) u i j r
      found rs u h o = last-for f e rs u k (lies_fewer i inv.old (lies t rs h)) o inv.new (inv.made rs u h o).0

      one_less : (rs : List Reading) (u : List Sample) → length rs ≡ n → OfSignals cs vs bs k u → length (entries_up_to rs (take m (entry_rows dc₀ dv₀ db₀ df₀ dn₀)) u r.entries r.samples) + 1 ≡ w
      one_less rs u h o =
          sym (length-append (entries_up_to rs (take m (entry_rows dc₀ dv₀ db₀ df₀ dn₀)) u r.entries r.samples) (last_entry r ∷ [])) ∙ ap length (sym (found rs u h o).entries-are) ∙ left_is rs u h o

      -- there is an entry to write
      pub some_left : SomeSignals cs vs bs k → 0 < w
      some_left s = omega (arith, one_less (replicate n no_reading) s.samples (length-replicate n no_reading) s.of)

      pub placing-turn : count ≤ length (entry_rows dc₀ dv₀ db₀ df₀ dn₀) → ((x : ℕ) → get_or vs x 0 < 2 ^ 16) → ((x : ℕ) → get_or bs x 0 < 2 ^ 32) → ((x : ℕ) → get_or dv₀ x 0 < 2 ^ 16) → ((x : ℕ) → get_or db₀ x 0 < 2 ^ 32)
          → Placing cs vs bs m n k count dc₀ dv₀ db₀ df₀ dn₀ (set dc (w - 1) r.constellation) (set dv (w - 1) r.svid) (set db (w - 1) r.band) (set df (w - 1) r.first) (set dn (w - 1) r.count) r.entries r.samples r.first (w - 1)
      placing-turn hc fv fb gv gb =
          record {
            old = omega (arith, inv.old, f.fewer-entries);
            new = omega (arith, inv.new, f.fewer-samples);
            tail = f.tail;
            high = omega (arith, inv.high);
            made = λ rs u h o.
                let es = take m (entry_rows dc₀ dv₀ db₀ df₀ dn₀) in
                let all = entries_up_to rs es u m k in
                let less = entries_up_to rs es u r.entries r.samples in
                let q = found rs u h o in
                let room = room_of_lem count dc₀ dv₀ db₀ df₀ dn₀ hc in
                let w = (inv.made rs u h o).1 in
                let lo : r.entries ≤ length less = enough o rs es t.ascending fv fb (λ x l. narrow-es x (omega (arith, long t))) (r.entries + r.samples) r.entries r.samples (omega arith) (lies_fewer r.entries (omega (arith, inv.old, f.fewer-entries)) (lies t rs h)) (omega (arith, inv.new, f.fewer-samples)) in
                let y = one_less rs u h o in (
                  q.first-is,
                  record {
                    in_c = column-turn (λ (e : Entry). e.constellation) dc₀ all w.in_c (last_entry r) less r.entries q.entries-are f.fewer-entries (omega (arith, lo, y)) (omega (arith, inv.high, room.in-dc));
                    in-v = column-turn (λ (e : Entry). e.svid) dv₀ all w.in-v (last_entry r) less r.entries q.entries-are f.fewer-entries (omega (arith, lo, y)) (omega (arith, inv.high, room.in-dv));
                    in_b = column-turn (λ (e : Entry). e.band) db₀ all w.in_b (last_entry r) less r.entries q.entries-are f.fewer-entries (omega (arith, lo, y)) (omega (arith, inv.high, room.in-db));
                    in_f = column-turn (λ (e : Entry). e.start) df₀ all w.in_f (last_entry r) less r.entries q.entries-are f.fewer-entries (omega (arith, lo, y)) (omega (arith, inv.high, room.in_df));
                    in-n = column-turn (λ (e : Entry). e.count) dn₀ all w.in-n (last_entry r) less r.entries q.entries-are f.fewer-entries (omega (arith, lo, y)) (omega (arith, inv.high, room.in_dn));
                  },
                );
          }
        where
          narrow-es : (x : ℕ) → x < m → Narrow (get_or (take m (entry_rows dc₀ dv₀ db₀ df₀ dn₀)) x no_entry).svid (get_or (take m (entry_rows dc₀ dv₀ db₀ df₀ dn₀)) x no_entry).band
          narrow-es x l =
              let at = row_at dc₀ dv₀ db₀ df₀ dn₀ m t.few x l in
              (rw (← at) (gv x), rw (← at) (gb x))

    pub placing-end : j ≤ 0 → (rs : List Reading) (u : List Sample) → length rs ≡ n → OfSignals cs vs bs k u
        → EntriesMerged (entries_up_to rs (take m (entry_rows dc₀ dv₀ db₀ df₀ dn₀)) u m k) dc₀ dv₀ db₀ df₀ dn₀ dc dv db df dn
    placing-end h rs u q o =
        let es = take m (entry_rows dc₀ dv₀ db₀ df₀ dn₀) in
        let z : j ≡ 0 = omega arith in
        let l : entries_up_to rs es u i j ≡ take i es = ap (λ (x : ℕ). entries_up_to rs es u i x) z ∙ nothing-new o rs es t.ascending i (lies_fewer i inv.old (lies t rs q)) in
        let y : w ≡ i = sym (left_is rs u q o) ∙ ap length l ∙ lib.Seq.length-take-le i es (omega (arith, inv.old, long t)) in
        let g = fields-of m dc₀ dv₀ db₀ df₀ dn₀ t.few in
        let made : Writing dc₀ dv₀ db₀ df₀ dn₀ dc dv db df dn (entries_up_to rs es u m k) (entries_up_to rs es u i j) i i = rw y at (inv.made rs u q o).1 in
        record {
          constellations = column-end (λ (e : Entry). e.constellation) dc₀ (entries_up_to rs es u m k) made.in_c es l inv.old g.cs-are;
          svids = column-end (λ (e : Entry). e.svid) dv₀ (entries_up_to rs es u m k) made.in-v es l inv.old g.vs-are;
          bands = column-end (λ (e : Entry). e.band) db₀ (entries_up_to rs es u m k) made.in_b es l inv.old g.bs-are;
          firsts = column-end (λ (e : Entry). e.start) df₀ (entries_up_to rs es u m k) made.in_f es l inv.old g.fs-are;
          counts = column-end (λ (e : Entry). e.count) dn₀ (entries_up_to rs es u m k) made.in-n es l inv.old g.ns-are;
        }
