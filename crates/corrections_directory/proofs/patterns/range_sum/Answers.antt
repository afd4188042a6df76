-- `corrections_directory::patterns::range_sum` meets its contract. Assumes nothing.
use Rattle.corrections_directory.proofs.PatternLaws.{range_pattern}
use Rattle.corrections_directory.proofs.patterns.range_sum.Goals as goal

pub returns : goal.returns
returns c = range_pattern c.args.pattern
