-- `tdcp_columns::settings::displacement_settings` meets its contract. Assumes nothing.
use Rattle.tdcp_columns.proofs.settings.displacement_settings.Goals as goal

pub returns : goal.returns
returns c = rw c.rounds_of-n.ensures
