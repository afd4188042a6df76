-- `wls_columns::columns::LentObservations::observations` meets its contract: its loop stores one place after the other. Assumes nothing.
use mathlib.Core.Path.{refl}
use borrow.Author.Rules.{rules}
use Rattle.wls_columns.specs.Columns.{observation_at}
use Rattle.wls_columns.specs.Steps.{lent_observations}
use Rattle.lists.proofs.Filling.{filling_start, filling_next}
use Rattle.wls_columns.proofs.ColumnLaws.{observations-room, filling_end}
use Rattle.wls_columns.proofs.columns.LentObservations.observations.Goals as goal

pub loop-i-init : goal.loop-i-init
loop-i-init c = filling_start _ _ _ refl

pub observation_at-requires : goal.observation_at-requires
observation_at-requires c = let r = observations-room _ _ c.requires in search rules

pub offset_bounds-out-i : goal.offset_bounds-out-i
offset_bounds-out-i c = let r = observations-room _ _ c.requires in search rules

pub bounds-out-i : goal.bounds-out-i
bounds-out-i c = let r = observations-room _ _ c.requires in search rules

pub loop-i-preserved : goal.loop-i-preserved
loop-i-preserved c =
    rw c.observation_at.ensures (filling_next (observation_at (lent_observations c.args.self)) _ _ (observations-room _ _ c.requires).few c.loop-i.invariant c.loop-i-test.true)

pub returns : goal.returns
returns c =
    filling_end (observation_at (lent_observations c.args.self)) _ _ (observations-room _ _ c.requires).few c.loop-i.invariant c.loop-i-test.false
