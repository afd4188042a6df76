use Rattle.numeric.proofs.OrderLaws.{is_nan-differs}
use Rattle.track_tridiagonal.proofs.solve.goes_on.Goals as goal

pub returns : goal.returns
returns c = rw (c.vanishes-stands.ensures, is_nan-differs _, is_nan-differs _)
