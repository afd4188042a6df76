-- `corrections_directory::sound::in_turn` meets its contract. Assumes nothing.
use Rattle.corrections_directory.proofs.sound.in_turn.Goals as goal

pub returns-then-is_rising : goal.returns-then-is_rising
returns-then-is_rising g c = c.is_rising.ensures c.if-is_rising.true

pub is_timely-requires : goal.is_timely-requires
is_timely-requires g c = record { filled = c.requires.filled; inside = c.requires.inside }

pub returns : goal.returns
returns g c = c.is_timely.ensures
