-- `root::sqrt::sqrt_beside` meets its contract: each answer was tested by `is_root` or comes from `sqrt`. Assumes nothing.
use Rattle.root.proofs.sqrt.sqrt_beside.Goals as goal

pub returns-then-is_root : goal.returns-then-is_root
returns-then-is_root c = c.is_root.ensures c.if-is_root.true
