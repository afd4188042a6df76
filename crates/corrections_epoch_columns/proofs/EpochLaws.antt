-- Columns read into records, and the outcome of an entry. Assumes nothing.
use Rattle.numeric.specs.Refusal.{answer_number}
use Rattle.std.specs.Prelude.{Option, Some, None, Result}
use Rattle.corrections_add.specs.declared.add.Counts.{Counts}
use Rattle.numeric.specs.declared.refusal.Refusal.{Refusal}
use Rattle.std.specs.Bool.{then_some}
use mathlib.Core.Path.{◌≡◌, refl, sym, ap, ◌∙◌}
use mathlib.Core.List.{List, []}
use mathlib.Core.Bool.{Bool, true, false, cond, not, or-false, ◌&&◌, ◌||◌}
use Prim.Native.Nat.{ℕ, ◌+◌, ◌*◌, ◌≤◌, ◌<◌}
use native.Mathlib.Omega.{arith}
use borrow.Author.Tests.{ltb-false, le-ltb, lt-ltb}
use lib.Dec.{ltb}
use lib.ListN.{length, take}
use lib.Ieee.{Float}
use Rattle.lists.specs.Walk.{every, places}
use Rattle.lists.proofs.Walk.{places-all, or_no}
use Rattle.corrections_table.proofs.UnitLaws.{never}
use Rattle.numeric.specs.Rules.{ruled}
use Rattle.numeric.specs.Real.{in_range}
use Rattle.numeric.specs.declared.vec3.Vec3.{Vec3}
use Rattle.numeric.specs.Vec3.{vector_at, vector_in_range}
use Rattle.numeric.specs.declared.refusal.Refusal.TheVariants.{TooMany, SettingOutOfRange, RecordOutOfRange, TableFull}
use Rattle.corrections_directory.specs.Directory.{Blocks, Directory, block_capacity, directory_in, sound_directory}
use Rattle.corrections_add.specs.Add.{PatternsAfter, Placed, Places, added_in, addition_of, directory_with, entries_now, refused_in, samples_now}
use Rattle.corrections_epoch.specs.Record.{range_in_range, ranges_of, state_in_range, states_count, states_of}
use Rattle.corrections_epoch.specs.Raw.{raws_of}
use Rattle.corrections_epoch.specs.Sample.{epoch_samples, samples_of}
use Rattle.corrections_epoch.specs.AddEpoch.{too_many, settings_in_range, records_in_range, epoch_placed}
use Rattle.corrections_epoch.specs.declared.record.Range.{Range}
use Rattle.corrections_epoch.specs.declared.record.State.{State}
use Rattle.corrections_epoch.specs.declared.record.BaseEpoch.{BaseEpoch}
use Rattle.corrections_epoch.specs.declared.record.States.{States}
use Rattle.corrections_epoch.specs.declared.record.Settings.{Settings}
use Rattle.corrections_epoch_columns.specs.Epoch.{LentBools, range_at, base_epoch_of, states_in, records_short, entry_in, settings_of}
use Rattle.corrections_epoch_columns.specs.Short.{ranges_short, states_short}
use Rattle.corrections_epoch_columns.specs.Steps.{CountsWritten, EpochRead, GivesEpoch, GivesStates, StatesRead}
use Rattle.corrections_epoch_columns.specs.Columns.{columns_entry, ranges_held, ranges_lack, state_held, states_lack}
use Rattle.corrections_epoch_columns.specs.declared.columns.RangeColumns.{RangeColumns}
use Rattle.corrections_epoch_columns.specs.declared.columns.StateColumns.{StateColumns}
use Rattle.lists.specs.Memory.{before, LentFloats}

-- ---- columns that are long enough
few : (k w : ℕ) → (ltb 64 k || ltb 64 w) ≡ false → (k ≤ 64) × (w ≤ 64)
few k w e = let p = or_no (ltb 64 k) (ltb 64 w) e in (ltb-false 64 k p.0, ltb-false 64 w p.1)

-- more than 64 ranges or states, or a lent column is shorter than they need
unfoldable pub unreadable : ℕ → List ℕ → List ℕ → List ℕ → List Float → ℕ → List ℕ → List ℕ → List ℕ → List Float → Bool
unreadable k rc rv rb rp m sc sv sb sf = ltb 64 k || ltb 64 m || records_short k rc rv rb rp m sc sv sb sf

module _ (k : ℕ) (rc rv rb : List ℕ) (rp : List Float) (m : ℕ) (sc sv sb : List ℕ) (sf : List Float) where
  pub by-ranges : ranges_short k rc rv rb rp ≡ true → unreadable k rc rv rb rp m sc sv sb sf ≡ true
  unfolding unreadable ranges_short records_short
  by-ranges e = go (ltb 64 k) (ltb 64 m) (ltb (length rc) k) (ltb (length rv) k) (ltb (length rb) k) (ltb (length rp) k) e
    where
      go : (x y a b c d : Bool) → (x || a || b || c || d) ≡ true
          → (x || y || (a || b || c || d || ltb (length sc) m || ltb (length sv) m || ltb (length sb) m || ltb (length sf) (m * 8))) ≡ true
      go true y a b c d e = refl
      go false true a b c d e = refl
      go false false true b c d e = refl
      go false false false true c d e = refl
      go false false false false true d e = refl
      go false false false false false true e = refl
      go false false false false false false e = never e

  pub by-states : states_short m sc sv sb sf ≡ true → unreadable k rc rv rb rp m sc sv sb sf ≡ true
  unfolding unreadable states_short records_short
  by-states e = go (ltb 64 k) (ltb 64 m) (ltb (length rc) k || ltb (length rv) k || ltb (length rb) k || ltb (length rp) k) (ltb (length sc) m) (ltb (length sv) m) (ltb (length sb) m) (ltb (length sf) (m * 8)) e
    where
      go : (x y r a b c d : Bool) → (y || a || b || c || d) ≡ true → (x || y || (r || a || b || c || d)) ≡ true
      go true y r a b c d e = refl
      go false true r a b c d e = refl
      go false false true a b c d e = refl
      go false false false a b c d e = e

  pub by_both : ranges_short k rc rv rb rp ≡ false → states_short m sc sv sb sf ≡ false → unreadable k rc rv rb rp m sc sv sb sf ≡ false
  unfolding unreadable ranges_short states_short records_short
  by_both e f = go (ltb 64 k) (ltb 64 m) (ltb (length rc) k) (ltb (length rv) k) (ltb (length rb) k) (ltb (length rp) k) (ltb (length sc) m) (ltb (length sv) m) (ltb (length sb) m) (ltb (length sf) (m * 8)) e f
    where
      go : (x y a b c d p q r s : Bool) → (x || a || b || c || d) ≡ false → (y || p || q || r || s) ≡ false → (x || y || (a || b || c || d || p || q || r || s)) ≡ false
      go true y a b c d p q r s e f = never (sym e)
      go false y true b c d p q r s e f = never (sym e)
      go false y false true c d p q r s e f = never (sym e)
      go false y false false true d p q r s e f = never (sym e)
      go false y false false false true p q r s e f = never (sym e)
      go false true false false false false p q r s e f = never (sym f)
      go false false false false false false p q r s e f = f

pub record Readable (k : ℕ) (rc rv rb : List ℕ) (rp : List Float) (m : ℕ) (sc sv sb : List ℕ) (sf : List Float) : Type 0 where
  pub few-ranges : k ≤ 64
  pub in_rc : k ≤ length rc
  pub in_rv : k ≤ length rv
  pub in-rb : k ≤ length rb
  pub in_rp : k ≤ length rp
  pub few-states : m ≤ 64
  pub in-sc : m ≤ length sc
  pub in-sv : m ≤ length sv
  pub in-sb : m ≤ length sb
  pub in_sf : m * 8 ≤ length sf

pub readable : (k : ℕ) (rc rv rb : List ℕ) (rp : List Float) (m : ℕ) (sc sv sb : List ℕ) (sf : List Float) → unreadable k rc rv rb rp m sc sv sb sf ≡ false → Readable k rc rv rb rp m sc sv sb sf
unfolding unreadable records_short
readable k rc rv rb rp m sc sv sb sf e =
    let s = or_no (ltb 64 k || ltb 64 m) _ e in
    let z = few k m s.0 in
    let h = or_no _ (ltb (length sf) (m * 8)) s.1 in
    let g = or_no _ (ltb (length sb) m) h.0 in
    let f = or_no _ (ltb (length sv) m) g.0 in
    let d = or_no _ (ltb (length sc) m) f.0 in
    let c = or_no _ (ltb (length rp) k) d.0 in
    let b = or_no _ (ltb (length rb) k) c.0 in
    let a = or_no (ltb (length rc) k) (ltb (length rv) k) b.0 in
    record {
      few-ranges = z.0;
      in_rc = ltb-false (length rc) k a.0;
      in_rv = ltb-false (length rv) k a.1;
      in-rb = ltb-false (length rb) k b.1;
      in_rp = ltb-false (length rp) k c.1;
      few-states = z.1;
      in-sc = ltb-false (length sc) m d.1;
      in-sv = ltb-false (length sv) m f.1;
      in-sb = ltb-false (length sb) m g.1;
      in_sf = ltb-false (length sf) (m * 8) h.1;
    }

-- ranges alone, and states alone
pub ranges_in : (k : ℕ) (rc rv rb : List ℕ) (rp : List Float) → ranges_short k rc rv rb rp ≡ false
    → (k ≤ 64) × (((k ≤ length rc) × (k ≤ length rv)) × ((k ≤ length rb) × (k ≤ length rp)))
unfolding states_short
ranges_in k rc rv rb rp e =
    let l = readable k rc rv rb rp 0 [] [] [] [] (by_both k rc rv rb rp 0 [] [] [] [] e refl) in
    (l.few-ranges, ((l.in_rc, l.in_rv), (l.in-rb, l.in_rp)))

pub states-in : (m : ℕ) (sc sv sb : List ℕ) (sf : List Float) → states_short m sc sv sb sf ≡ false
    → (m ≤ 64) × (((m ≤ length sc) × (m ≤ length sv)) × ((m ≤ length sb) × (m * 8 ≤ length sf)))
unfolding ranges_short
states-in m sc sv sb sf e =
    let l = readable 0 [] [] [] [] m sc sv sb sf (by_both 0 [] [] [] [] m sc sv sb sf refl e) in
    (l.few-states, ((l.in-sc, l.in-sv), (l.in-sb, l.in_sf)))

-- the same of columns that a test has found long enough
pub ranges-read : {b : Bool} (k : ℕ) (rc rv rb : List ℕ) (rp : List Float) → b ≡ ranges_short k rc rv rb rp → b ≡ false
    → (k ≤ 64) × (((k ≤ length rc) × (k ≤ length rv)) × ((k ≤ length rb) × (k ≤ length rp)))
ranges-read k rc rv rb rp e f = ranges_in k rc rv rb rp (sym e ∙ f)

pub states-read : {b : Bool} (m : ℕ) (sc sv sb : List ℕ) (sf : List Float) → b ≡ states_short m sc sv sb sf → b ≡ false
    → (m ≤ 64) × (((m ≤ length sc) × (m ≤ length sv)) × ((m ≤ length sb) × (m * 8 ≤ length sf)))
states-read m sc sv sb sf e f = states-in m sc sv sb sf (sym e ∙ f)

-- ---- an epoch is known by what counts of it
placed_by : ℕ → ℕ → ℕ → Directory → ℕ → Float → List Range → ℕ → List State → Vec3 → Vec3 → Settings → Placed
placed_by m n room d k time ranges j states base rover set =
    let new = samples_of time set.max_correction (raws_of set base rover states ranges) in
    cond (ltb room m || (ltb room n || ltb 64 k || ltb 64 j)) (refused_in TooMany)
    (cond (not (settings_in_range set)) (refused_in SettingOutOfRange)
    (cond (not (vector_in_range base && vector_in_range rover && in_range time && every range_in_range ranges && every state_in_range states && sound_directory d)) (refused_in RecordOutOfRange)
    (cond (ltb room (n + length new)) (refused_in TableFull)
    (added_in (directory_with d new)))))

module _ (m n room : ℕ) (d : Directory) (base rover : Vec3) (set : Settings) where
  placed_by_lem : (e : BaseEpoch) (s : Option States) → epoch_placed m n room d e s base rover set ≡ placed_by m n room d e.count e.time (ranges_of e) (states_count s) (states_of s) base rover set
  unfolding epoch_placed placed_by too_many records_in_range epoch_samples ruled
  placed_by_lem e s = refl

  placed_same : (e e' : BaseEpoch) (s s' : Option States) → e.count ≡ e'.count → e.time ≡ e'.time → ranges_of e ≡ ranges_of e' → states_count s ≡ states_count s' → states_of s ≡ states_of s'
      → epoch_placed m n room d e s base rover set ≡ epoch_placed m n room d e' s' base rover set
  placed_same e e' s s' a b c f g =
      placed_by_lem e s
      ∙ go e.count e.time (ranges_of e) (states_count s) (states_of s) e'.count e'.time (ranges_of e') (states_count s') (states_of s') a b c f g
      ∙ sym (placed_by_lem e' s')
    where
      go : (k : ℕ) (x : Float) (l : List Range) (j : ℕ) (y : List State) (k' : ℕ) (x' : Float) (l' : List Range) (j' : ℕ) (y' : List State) → k ≡ k' → x ≡ x' → l ≡ l' → j ≡ j' → y ≡ y'
          → placed_by m n room d k x l j y base rover set ≡ placed_by m n room d k' x' l' j' y' base rover set
      go k x l j y k' x' l' j' y' a b c f g = rw (a, b, c, f, g)

-- ---- the outcome, way by way
module _ (m n : ℕ) (l : Blocks) (time : Float) (k : ℕ) (rc rv rb : List ℕ) (rp : List Float) (present : Bool) (j : ℕ) (sc sv sb : List ℕ) (sf : List Float) (base rover : Vec3) (set : Settings) where
  either : (z a b c : Bool) → (b || c) ≡ true → (z || (a || b || c)) ≡ true
  either true a b c e = refl
  either false true b c e = refl
  either false false b c e = e

  -- more than 64 ranges or states are refused by 2
  placed-many : (e : BaseEpoch) (s : Option States) → (ltb 64 e.count || ltb 64 (states_count s)) ≡ true
      → epoch_placed m n (block_capacity l) (directory_in m n l) e s base rover set ≡ refused_in TooMany
  unfolding epoch_placed too_many ruled
  placed-many e s h = rw (either (ltb (block_capacity l) m) (ltb (block_capacity l) n) (ltb 64 e.count) (ltb 64 (states_count s)) h) refl

  states-counted : states_count (states_in present j sc sv sb sf) ≡ cond present j 0
  states-counted = go present
    where
      go : (p : Bool) → states_count (states_in p j sc sv sb sf) ≡ cond p j 0
      go true = refl
      go false = refl

  entry-unreadable : unreadable k rc rv rb rp (cond present j 0) sc sv sb sf ≡ true
      → refused_in TooMany ≡ entry_in m n (block_capacity l) (directory_in m n l) time k rc rv rb rp present j sc sv sb sf base rover set
  unfolding entry_in epoch_placed too_many unreadable ruled
  entry-unreadable h = go (records_short k rc rv rb rp (cond present j 0) sc sv sb sf) h
    where
      go : (b : Bool) → (ltb 64 k || ltb 64 (cond present j 0) || b) ≡ true
          → refused_in TooMany ≡ cond b (refused_in TooMany) (epoch_placed m n (block_capacity l) (directory_in m n l) (base_epoch_of time k rc rv rb rp) (states_in present j sc sv sb sf) base rover set)
      go true e = refl
      go false e = rw (states-counted, either (ltb (block_capacity l) m) (ltb (block_capacity l) n) (ltb 64 k) (ltb 64 (cond present j 0)) (rw or-false at e))

  entry-added : (e : BaseEpoch) (s : Option States) → unreadable k rc rv rb rp (cond present j 0) sc sv sb sf ≡ false → EpochRead time k (places (range_at rc rv rb rp) k) e
      → states_count s ≡ states_count (states_in present j sc sv sb sf) → states_of s ≡ states_of (states_in present j sc sv sb sf)
      → epoch_placed m n (block_capacity l) (directory_in m n l) e s base rover set ≡ entry_in m n (block_capacity l) (directory_in m n l) time k rc rv rb rp present j sc sv sb sf base rover set
  unfolding entry_in unreadable
  entry-added e s h er a b =
      rw (or_no (ltb 64 k || ltb 64 (cond present j 0)) _ h).1
      (placed_same m n (block_capacity l) (directory_in m n l) base rover set e (base_epoch_of time k rc rv rb rp) s (states_in present j sc sv sb sf) er.count-is er.time-is
      (ap (λ (i : ℕ). take i e.ranges) er.count-is ∙ er.ranges ∙ sym (places-all (range_at rc rv rb rp) k))
      a b)

  -- the epoch e and the states s as they are given: they count more than 64 where their columns lack
  entry-given : (e : BaseEpoch) (s : Option States)
      → (ranges_short k rc rv rb rp ≡ true → 64 < e.count) × (ranges_short k rc rv rb rp ≡ false → EpochRead time k (places (range_at rc rv rb rp) k) e)
      → (states_short (cond present j 0) sc sv sb sf ≡ true → 64 < states_count s)
      × (states_short (cond present j 0) sc sv sb sf ≡ false → (states_count s ≡ states_count (states_in present j sc sv sb sf)) × (states_of s ≡ states_of (states_in present j sc sv sb sf)))
      → epoch_placed m n (block_capacity l) (directory_in m n l) e s base rover set ≡ entry_in m n (block_capacity l) (directory_in m n l) time k rc rv rb rp present j sc sv sb sf base rover set
  entry-given e s er sr = go (ranges_short k rc rv rb rp) (states_short (cond present j 0) sc sv sb sf) refl refl
    where
      left : (x y : Bool) → x ≡ true → (x || y) ≡ true
      left x y h = rw h refl

      right : (x y : Bool) → y ≡ true → (x || y) ≡ true
      right true y h = refl
      right false y h = h

      go : (x y : Bool) → ranges_short k rc rv rb rp ≡ x → states_short (cond present j 0) sc sv sb sf ≡ y → epoch_placed m n (block_capacity l) (directory_in m n l) e s base rover set
          ≡ entry_in m n (block_capacity l) (directory_in m n l) time k rc rv rb rp present j sc sv sb sf base rover set
      go true y p q =
          placed-many e s (left (ltb 64 e.count) (ltb 64 (states_count s)) (lt-ltb 64 e.count (er.0 p)))
          ∙ entry-unreadable (by-ranges k rc rv rb rp (cond present j 0) sc sv sb sf p)
      go false true p q =
          placed-many e s (right (ltb 64 e.count) (ltb 64 (states_count s)) (lt-ltb 64 (states_count s) (sr.0 q)))
          ∙ entry-unreadable (by-states k rc rv rb rp (cond present j 0) sc sv sb sf q)
      go false false p q = let h = sr.1 q in entry-added e s (by_both k rc rv rb rp (cond present j 0) sc sv sb sf p q) (er.1 p) h.0 h.1

-- ---- the outcome by the structs of columns

-- the states that are read are those of the columns
states-same : (c : StateColumns) {s : States} → StatesRead c.count (places (state_held c) c.count) s
    → states_of (Some s) ≡ states_of (states_in true c.count c.constellation.now c.svid.now c.band.now c.floats.now)
states-same c {s} h = ap (λ (i : ℕ). take i s.states) h.count-is ∙ h.states-are ∙ sym (places-all (state_held c) c.count)

module _ (m n : ℕ) (l : Blocks) (time : Float) (r : RangeColumns) (base rover : LentFloats) (gap max : Float) (on : LentBools) where
  -- ranges or states whose columns lack are refused by 2
  pub ranges-refused : (s : Option StateColumns) → ranges_lack r ≡ true → refused_in TooMany ≡ columns_entry m n l time r s base rover gap max on
  ranges-refused None e = entry-unreadable m n l time r.count _ _ _ _ false 0 [] [] [] [] _ _ _ (by-ranges r.count _ _ _ _ 0 [] [] [] [] e)
  ranges-refused (Some c) e = entry-unreadable m n l time r.count _ _ _ _ true c.count _ _ _ _ _ _ _ (by-ranges r.count _ _ _ _ c.count _ _ _ _ e)

  pub states-refused : (c : StateColumns) → states_lack c ≡ true → refused_in TooMany ≡ columns_entry m n l time r (Some c) base rover gap max on
  states-refused c e = entry-unreadable m n l time r.count _ _ _ _ true c.count _ _ _ _ _ _ _ (by-states r.count _ _ _ _ c.count _ _ _ _ e)

  -- an epoch that is read from columns that do not lack, with the states beside it, has the outcome of the columns
  module _ {e : BaseEpoch} (given : (ranges_lack r ≡ false) × EpochRead time r.count (ranges_held r) e) where
    pub read-none : epoch_placed m n (block_capacity l) (directory_in m n l) e None (vector_at (before base) 0) (vector_at (before rover) 0) (settings_of gap max (before on))
        ≡ columns_entry m n l time r None base rover gap max on
    unfolding states_short
    read-none = entry-added m n l time r.count _ _ _ _ false 0 [] [] [] [] _ _ _ e None (by_both r.count _ _ _ _ 0 [] [] [] [] given.0 refl) given.1 refl refl

    pub read-some : (c : StateColumns) {s : States} → (states_lack c ≡ false) × StatesRead c.count (places (state_held c) c.count) s
        → epoch_placed m n (block_capacity l) (directory_in m n l) e (Some s) (vector_at (before base) 0) (vector_at (before rover) 0) (settings_of gap max (before on))
        ≡ columns_entry m n l time r (Some c) base rover gap max on
    read-some c {s} q =
        entry-added m n l time r.count _ _ _ _ true c.count _ _ _ _ _ _ _ e (Some s) (by_both r.count _ _ _ _ c.count _ _ _ _ given.0 q.0) given.1 q.1.count-is (states-same c q.1)

module _ (m n : ℕ) (l : Blocks) (time : Float) (r : RangeColumns) (base rover : LentFloats) (gap max : Float) (on : LentBools) {e : BaseEpoch} (er : GivesEpoch time r e) where
  -- the epoch and the states as they are given, added
  pub placed-given : (o : Option StateColumns) (s : Option States) → GivesStates o s
      → epoch_placed m n (block_capacity l) (directory_in m n l) e s (vector_at (before base) 0) (vector_at (before rover) 0) (settings_of gap max (before on))
      ≡ columns_entry m n l time r o base rover gap max on
  unfolding states_short
  placed-given None s q = rw q (entry-given m n l time r.count _ _ _ _ false 0 [] [] [] [] _ _ _ e None er (λ h. never h, λ h. (refl, refl)))
  placed-given (Some c) None q = absurd q
  placed-given (Some c) (Some s) q = entry-given m n l time r.count _ _ _ _ true c.count _ _ _ _ _ _ _ e (Some s) er
      (q.0, λ h. let p = q.1 h in (p.count-is, states-same c p))

-- states are not read under the mark that there are none
unread : (m n : ℕ) (l : Blocks) (time : Float) (k : ℕ) (rc rv rb : List ℕ) (rp : List Float) (j : ℕ) (sc sv sb : List ℕ) (sf : List Float) (base rover : Vec3) (set : Settings)
    → entry_in m n (block_capacity l) (directory_in m n l) time k rc rv rb rp false 0 [] [] [] [] base rover set
    ≡ entry_in m n (block_capacity l) (directory_in m n l) time k rc rv rb rp false j sc sv sb sf base rover set
unfolding entry_in records_short
unread m n l time k rc rv rb rp j sc sv sb sf base rover set = rw (none (length sc), none (length sv), none (length sb), none (length sf)) refl
  where
    none : (n : ℕ) → ltb n 0 ≡ false
    none n = le-ltb n 0 (omega arith)

-- the columns of a call that is lent the mark
pub marked-columns : (m n : ℕ) (l : Blocks) (time : Float) (r : RangeColumns) (base rover : LentFloats) (gap max : Float) (on : LentBools) (present : Bool) (c : StateColumns)
    → columns_entry m n l time r (then_some present c) base rover gap max on
    ≡ entry_in m n (block_capacity l) (directory_in m n l) time r.count r.constellation.now r.svid.now r.band.now r.pseudorange.now
    present c.count c.constellation.now c.svid.now c.band.now c.floats.now (vector_at (before base) 0) (vector_at (before rover) 0) (settings_of gap max (before on))
marked-columns m n l time r base rover gap max on true c = refl
marked-columns m n l time r base rover gap max on false c =
    unread m n l time r.count r.constellation.now r.svid.now r.band.now r.pseudorange.now c.count c.constellation.now c.svid.now c.band.now c.floats.now (vector_at (before base) 0) (vector_at (before rover) 0) (settings_of gap max (before on))

-- an answer by value, written out
pub answer-written : {o : Placed} {x : Result Counts Refusal} {m m' n n' number : ℕ} {l l' : Blocks} (ts xs ts' xs' : List ℕ)
    → (x ≡ addition_of o) × (Places o (answer_number x) m (entries_now x m) n (samples_now x n) l l' × PatternsAfter o ts xs ts' xs')
    → CountsWritten x number m m' n n' → Places o number m m' n n' l l' × PatternsAfter o ts xs ts' xs'
answer-written ts xs ts' xs' a (r, i, k) = rw (r, i, k) a.1
