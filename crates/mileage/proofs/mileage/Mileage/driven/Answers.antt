-- `mileage::mileage::Mileage::driven` meets its contract. Assumes nothing.
use native.Mathlib.Omega.{arith}
use Rattle.mileage.proofs.BoundsLaws.{bounds}
use Rattle.mileage.proofs.CallLaws.{driven_is}
use Rattle.mileage.proofs.mileage.Mileage.driven.Goals as goal

pub overflow_add-result-2 : goal.overflow_add-result-2
overflow_add-result-2 c = let a = c in omega (arith, bounds a.args.self a.requires.0.is-sound)

pub overflow_add-result-3 : goal.overflow_add-result-3
overflow_add-result-3 c = let a = c in omega (arith, bounds a.args.self a.requires.0.is-sound)

pub overflow_add-result-4 : goal.overflow_add-result-4
overflow_add-result-4 c = let a = c in omega (arith, bounds a.args.self a.requires.0.is-sound)

pub overflow_add-result-5 : goal.overflow_add-result-5
overflow_add-result-5 c = let a = c in omega (arith, bounds a.args.self a.requires.0.is-sound)

pub returns : goal.returns
returns c = let a = c in driven_is a.args.self a.args.millimetres a.args.more a.requires.1
