-- Samples added one after the other. Assumes nothing.
use mathlib.Core.Path.{◌≡◌, refl, sym, ap, ◌∙◌, subst}
use mathlib.Core.List.{List, [], ◌∷◌, ◌++◌}
use mathlib.Core.Bool.{Bool, true, false, cond}
use Prim.Native.Nat.{ℕ, suc, ◌+◌, ◌≤◌, ◌<◌}
use native.Mathlib.Omega.{arith}
use native.Mathlib.Numerals.{add-one}
use lib.ListN.{length, get_or, take, drop}
use lib.Seq.{take-suc, drop-drop}
use Rattle.lists.specs.Walk.{every}
use Rattle.corrections_table.specs.Table.{Columns, blank, stands_before, ranged, rows, sound_table, table_of}
use Rattle.corrections_table.specs.Add.{insert, insert_all}
use Rattle.corrections_table.specs.Steps.{InsertedAll, past}
use Rattle.corrections_table.specs.declared.sample.Sample.{Sample}
use Rattle.corrections_table.proofs.Places.{sorted_rises}
use Rattle.corrections_table.proofs.TableLaws.{and_left, and_right, every-at}
use Rattle.corrections_table.proofs.ColumnLaws.{Inserted, Alike, alike_same, alike_next, rows_alike}
use Rattle.corrections_table.proofs.SeriesLaws.{insert-rises, insert_all-append}

every-insert : (s : Sample) (t : List Sample) → ranged s ≡ true → every ranged t ≡ true → every ranged (insert s t) ≡ true
unfolding every insert
every-insert s [] r e = rw r
every-insert s (a ∷ t) r e = go (stands_before s a) (every-insert s t r (and_right (ranged a) _ e))
  where
    go : (x : Bool) → every ranged (insert s t) ≡ true → every ranged (cond x (s ∷ a ∷ t) (a ∷ insert s t)) ≡ true
    go true i = rw r e
    go false i = rw (and_left (ranged a) _ e) i

-- a sound table stays sound
pub insert-sound : (s : Sample) (t : List Sample) → ranged s ≡ true → sound_table t ≡ true → sound_table (insert s t) ≡ true
unfolding sound_table
insert-sound s t r e = rw (every-insert s t r (and_left (every ranged t) _ e)) (sorted_rises (insert s t) ∙ insert-rises 0 s t (omega arith) (sym (sorted_rises t) ∙ and_right (every ranged t) _ e))

pub insert_all-sound : (t ss : List Sample) → every ranged ss ≡ true → sound_table t ≡ true → sound_table (insert_all t ss) ≡ true
unfolding insert_all every
insert_all-sound t [] r e = e
insert_all-sound t (s ∷ ss) r e = insert_all-sound (insert s t) ss (and_right (ranged s) _ r) (insert-sound s t (and_left (ranged s) _ r) e)

insert-length : (s : Sample) (t : List Sample) → length (insert s t) ≡ suc (length t)
unfolding insert
insert-length s [] = refl
insert-length s (a ∷ t) = go (stands_before s a) (insert-length s t)
  where
    go : (x : Bool) → length (insert s t) ≡ suc (length t) → length (cond x (s ∷ a ∷ t) (a ∷ insert s t)) ≡ suc (suc (length t))
    go true i = refl
    go false i = ap suc i

pub insert_all-length : (t ss : List Sample) → length (insert_all t ss) ≡ length t + length ss
unfolding insert_all
insert_all-length t [] = omega arith
insert_all-length t (s ∷ ss) = insert_all-length (insert s t) ss ∙ rw (insert-length s t) (omega arith)

-- ---- columns from a place on
drop_more : {A : Type 0} (n : ℕ) (l m : List A) → drop n l ≡ drop n m → drop (n + 1) l ≡ drop (n + 1) m
drop_more n l m e = sym (drop-drop 1 n l) ∙ ap (drop 1) e ∙ drop-drop 1 n m

past_more : (n : ℕ) (l m : Columns) → past n l ≡ past n m → past (n + 1) l ≡ past (n + 1) m
past_more n l m e =
    rw (
      drop_more n l.constellations m.constellations (ap (λ (k : Columns). k.constellations) e),
      drop_more n l.svids m.svids (ap (λ (k : Columns). k.svids) e),
      drop_more n l.bands m.bands (ap (λ (k : Columns). k.bands) e),
      drop_more n l.times m.times (ap (λ (k : Columns). k.times) e),
      drop_more n l.corrections m.corrections (ap (λ (k : Columns). k.corrections) e),
    )

-- ---- the loop: i samples are in
pub record Inserting (n m : ℕ) (new : List Sample) (l l' : Columns) (i : ℕ) : Type 0 where
  pub within : i ≤ m
  pub so_far : InsertedAll n i (take i new) l l'
  pub steady : sound_table (table_of (n + i) l') ≡ true
  pub alike : Alike l l'

module _ (n m : ℕ) (new : List Sample) (l : Columns) where
  pub inserting_start : sound_table (table_of n l) ≡ true → Inserting n m new l l 0
  unfolding insert_all
  inserting_start e =
      let z : n + 0 ≡ n = omega arith in
      record { within = omega arith; so_far = record { table = rw z; rest = refl }; steady = rw z e; alike = alike_same l }

  module _ (l' : Columns) (i : ℕ) (inv : Inserting n m new l l' i) where
    pub inserting_room : length (rows l') ≡ length (rows l)
    inserting_room = rows_alike l l' inv.alike

    pub inserting_end : m ≤ i → InsertedAll n m (take m new) l l'
    inserting_end h = let e : i ≡ m = omega (arith, inv.within) in subst (λ (k : ℕ). InsertedAll n k (take k new) l l') e inv.so_far

    pub inserting_next : (l'' : Columns) → i < m → m ≤ length new → ranged (get_or new i blank) ≡ true → Inserted (n + i) (get_or new i blank) l' l'' → Alike l' l'' → Inserting n m new l l'' (i + 1)
    unfolding insert_all
    inserting_next l'' h k r a same =
        let z : n + (i + 1) ≡ n + i + 1 = omega arith in
        let s = get_or new i blank in
        let t : take (i + 1) new ≡ take i new ++ (s ∷ []) = rw add-one (take-suc new i blank (omega arith)) in
        record {
          within = omega arith;
          so_far =
              record {
                table = rw (z, a.table, inv.so_far.table, t) (sym (insert_all-append (table_of n l) (take i new) (s ∷ [])));
                rest = rw z (a.rest ∙ past_more (n + i) l' l inv.so_far.rest);
              };
          steady = rw (z, a.table) (insert-sound s (table_of (n + i) l') r inv.steady);
          alike = alike_next inv.alike same;
        }

pub ranged-at : (m : ℕ) (new : List Sample) (i : ℕ) → m ≤ length new → i < m → every ranged (take m new) ≡ true → ranged (get_or new i blank) ≡ true
ranged-at m new i h k e =
    rw (← (lib.Seq.get_or-take m new i blank k)) (every-at ranged (take m new) i e (omega (arith, lib.Seq.length-take-le m new h)))
