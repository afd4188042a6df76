-- `trip::trip::Trip::with_epoch` meets its contract. Assumes nothing.
use native.Mathlib.Omega.{arith}
use Rattle.trip.specs.Trip.{with_epoch}
use Rattle.trip.proofs.BoundsLaws.{bounds}
use Rattle.trip.proofs.trip.Trip.with_epoch.Goals as goal

pub overflow_add-carrier : goal.overflow_add-carrier
overflow_add-carrier c = let a = c in omega (arith, bounds a.args.self a.requires.is-sound)

pub overflow_add-count : goal.overflow_add-count
overflow_add-count c = let a = c in omega (arith, bounds a.args.self a.requires.is-sound)

pub odometer-requires : goal.odometer-requires
odometer-requires c = let a = c in omega (arith, bounds a.args.self a.requires.is-sound)

pub returns-then-self-difference : goal.returns-then-self-difference
unfolding with_epoch
returns-then-self-difference c = let a = c in
    let t = rw (a.apart-difference.ensures, a.odometer.ensures) at c.if-self-difference.true in
    rw (a.apart-difference.ensures, a.odometer.ensures, t)

pub returns-else-self-difference : goal.returns-else-self-difference
unfolding with_epoch
returns-else-self-difference c = let a = c in
    let t = rw (a.apart-difference.ensures, a.odometer.ensures) at c.if-self-difference.false in
    rw t
