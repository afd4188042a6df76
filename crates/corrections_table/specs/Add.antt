-- Samples added to the table (docs/SCOPE.md, "Corrections", and number 11). Definitions only.
use Rattle.std.specs.Prelude.{cond, List, [], ◌∷◌, take}
use Rattle.numeric.specs.declared.refusal.Refusal.{Refusal}
use Rattle.corrections_table.specs.Table.{stands_before}
use Rattle.corrections_table.specs.declared.sample.Sample.{Sample}
use Rattle.corrections_table.specs.declared.add.Samples.{Samples}

-- one sample more: before the first that it precedes, so after those of an equal time
unfoldable pub insert : Sample → List Sample → List Sample
insert s [] = s ∷ []
insert s (a ∷ ss) = cond (stands_before s a) (s ∷ a ∷ ss) (a ∷ insert s ss)

-- samples one after the other, as they arrive
unfoldable pub insert_all : List Sample → List Sample → List Sample
insert_all t [] = t
insert_all t (s ∷ ss) = insert_all (insert s t) ss

-- ---- the outcome of adding

-- a refusal, or the table afterwards
pub data AddOutcome : Type 0 where
  refused : Refusal → AddOutcome
  added : List Sample → AddOutcome

-- the samples that are counted
abbrev pub counted_samples : Samples → List Sample
counted_samples new = take new.count new.samples
