-- `mileage::mileage::Mileage::grown` meets its contract. Assumes nothing.
use native.Mathlib.Omega.{arith}
use Rattle.mileage.specs.Mileage.{grown}
use Rattle.mileage.proofs.BoundsLaws.{bounds}
use Rattle.mileage.proofs.mileage.Mileage.grown.Goals as goal

pub overflow_add-result-2 : goal.overflow_add-result-2
overflow_add-result-2 c = let a = c in omega (arith, bounds a.args.self a.requires.is-sound)

pub overflow_add-result-3 : goal.overflow_add-result-3
overflow_add-result-3 c = let a = c in omega (arith, bounds a.args.self a.requires.is-sound)

pub overflow_add-result-4 : goal.overflow_add-result-4
overflow_add-result-4 c = let a = c in omega (arith, bounds a.args.self a.requires.is-sound)

pub overflow_add-result-5 : goal.overflow_add-result-5
overflow_add-result-5 c = let a = c in omega (arith, bounds a.args.self a.requires.is-sound)

pub overflow_add-result-6 : goal.overflow_add-result-6
overflow_add-result-6 c = let a = c in omega (arith, bounds a.args.self a.requires.is-sound)

pub overflow_add-result-7 : goal.overflow_add-result-7
overflow_add-result-7 c = let a = c in omega (arith, bounds a.args.self a.requires.is-sound)

pub overflow_add-result-8 : goal.overflow_add-result-8
overflow_add-result-8 c = let a = c in omega (arith, bounds a.args.self a.requires.is-sound)

pub returns : goal.returns
unfolding grown
returns c = let six = c in
    let four = six in
    let two = four in
    rw (c.when-7.ensures.0, c.when-6.ensures.0, six.when-5.ensures.0, six.when-4.ensures.0, four.when-3.ensures.0, four.when-2.ensures.0, two.when.ensures.0, two.when-covered.ensures.0)
