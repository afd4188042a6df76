-- `corrections_directory::entry::signal_at` meets its contract. Assumes nothing.
use native.Mathlib.Omega.{arith}
use Rattle.corrections_directory.proofs.entry.signal_at.Goals as goal

pub returns : goal.returns
returns c = (c.signal_of.ensures, omega (arith, c.signal_of.ensures, c.shared_slice_known-6-1.given c.args.i, c.shared_slice_known-5-1.given c.args.i, c.shared_slice_known-4-1.given c.args.i))
