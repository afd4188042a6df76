-- For every sorted table and its directory, with a directory lent as long as the columns, an epoch comes to the same: the same refusal, or the same table. Assumes nothing.
use Rattle.std.specs.Prelude.{Option}
use mathlib.Core.Path.{◌≡◌, refl, sym, ap, ◌∙◌}
use mathlib.Core.List.{List}
use mathlib.Core.Bool.{Bool, true, false, cond, not, ◌&&◌, ◌||◌}
use Prim.Native.Nat.{ℕ, ◌+◌, ◌≤◌}
use native.Mathlib.Omega.{arith}
use lib.Dec.{ltb}
use lib.ListN.{length}
use borrow.Author.Tests.{ltb-true, lt-ltb}
use Rattle.lists.specs.Walk.{every}
use Rattle.numeric.specs.Rules.{ruled}
use Rattle.numeric.specs.declared.vec3.Vec3.{Vec3}
use Rattle.numeric.specs.declared.refusal.Refusal.TheVariants.{TooMany, SettingOutOfRange, RecordOutOfRange, TableFull}
use Rattle.corrections_table.specs.Table.{sorted, sound_table}
use Rattle.corrections_table.specs.Add.{added, insert_all, refused}
use Rattle.corrections_table.specs.declared.sample.Sample.{Sample}
use Rattle.corrections_table.proofs.Places.{sorted_rises}
use Rattle.corrections_directory.specs.Directory.{directory_of}
use Rattle.corrections_directory.proofs.DirectoryLaws.{flat-directory}
use Rattle.corrections_directory.proofs.NarrowLaws.{narrow, sound-directory}
use Rattle.corrections_add.specs.Add.{added_in, flat_outcome, refused_in}
use Rattle.corrections_add.proofs.SameLaws.{few-entries}
use Rattle.corrections_epoch.specs.Record.{states_count}
use Rattle.corrections_epoch.specs.Sample.{epoch_samples}
use Rattle.corrections_epoch.specs.AddEpoch.{added_of, epoch_placed, records_in_range, settings_in_range, too_many}
use Rattle.corrections_epoch.specs.declared.record.BaseEpoch.{BaseEpoch}
use Rattle.corrections_epoch.specs.declared.record.States.{States}
use Rattle.corrections_epoch.specs.declared.record.Settings.{Settings}

-- a directory that has no more entries than there are samples adds nothing to number 2
many-same : (m n room : ℕ) (e : BaseEpoch) (s : Option States) → m ≤ n → (ltb room m || too_many n room e s) ≡ too_many n room e s
unfolding too_many
many-same m n room e s h = go (ltb room m) refl
  where
    go : (x : Bool) → ltb room m ≡ x → (x || (ltb room n || ltb 64 e.count || ltb 64 (states_count s))) ≡ (ltb room n || ltb 64 e.count || ltb 64 (states_count s))
    go true q = rw (lt-ltb room n (omega (arith, ltb-true room m q)))
    go false q = refl

-- t the n samples of a sorted table, with svids and bands of their columns' bits
pub epoch-same : (t : List Sample) (n room : ℕ) (e : BaseEpoch) (s : Option States) (base rover : Vec3) (set : Settings) → every narrow t ≡ true → sorted t ≡ true → length t ≤ n
    → flat_outcome (epoch_placed (length (directory_of t).entries) n room (directory_of t) e s base rover set) ≡ added_of n room t e s base rover set
unfolding epoch_placed added_of ruled
epoch-same t n room e s base rover set w r l =
    let new = epoch_samples base rover set e s in
    rw (many-same (length (directory_of t).entries) n room e s (few-entries t l), sound-directory t w (sym (sorted_rises t) ∙ r), flat-directory t)
    (go (too_many n room e s) (settings_in_range set) (records_in_range e s base rover && sound_table t) (ltb room (n + length new)))
  where
    go : (a b x y : Bool)
        → flat_outcome (cond a (refused_in TooMany) (cond (not b) (refused_in SettingOutOfRange) (cond (not x) (refused_in RecordOutOfRange) (cond y (refused_in TableFull) (added_in (directory_of (insert_all t (epoch_samples base rover set e s))))))))
        ≡ cond a (refused TooMany) (cond (not b) (refused SettingOutOfRange) (cond (not x) (refused RecordOutOfRange) (cond y (refused TableFull) (added (insert_all t (epoch_samples base rover set e s))))))
    go true b x y = refl
    go false false x y = refl
    go false true false y = refl
    go false true true true = refl
    go false true true false = ap added (flat-directory (insert_all t (epoch_samples base rover set e s)))
