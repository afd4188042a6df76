-- `wls::fix::rows_at` meets its contract. Assumes nothing.
use mathlib.Core.Path.{◌≡◌, refl}
use native.Mathlib.Omega.{arith}
use lib.ListN.{length}
use Rattle.std.proofs.lemmas.Result.{err_from_is_err_and}
use Rattle.lists.proofs.Walk.{length-mapped}
use Rattle.wls.proofs.RowLaws.{rows_start, rows_end, rows-stop, rows_next}
use Rattle.wls.proofs.fix.rows_at.Goals as goal

pub loop-j-init : goal.loop-j-init
loop-j-init c = let s = c in let long : length c.args.sky.observation ≡ 64 = search length-mapped in (omega arith, rows_start s.args.k _ s.args.sky.observation s.args.s (omega arith) s.requires s.args.rows.now (search length-mapped) (search length-mapped) (search length-mapped) (search length-mapped) (search length-mapped), long, refl)

pub returns-in_err-g : goal.returns-in_err-g
returns-in_err-g c = let s = c in
    let h = c.loop-j in
    let p = err_from_is_err_and c.from_residual.result c.from_residual.ensures.1 in
    rw (p.1, p.2) (record { rowed = rows-stop s.args.k _ s.args.sky.observation s.args.s (omega arith) s.requires h.j h.rows h.invariant.1 (omega arith) c.geometry.ensures c.in_err-g.was; sigma_kept = h.invariant.3 })

pub loop-j-preserved : goal.loop-j-preserved
loop-j-preserved c = let s = c in
    let h = c.loop-j in
    (omega arith, rows_next s.args.k _ s.args.sky.observation s.args.s (omega arith) s.requires h.j h.rows h.invariant.1 (omega arith) c.geometry.ensures c.in_ok-g.was c.slot-q.ensures c.state_at.ensures c.pattern-r.ensures, h.invariant.2, h.invariant.3)

pub returns : goal.returns
returns c = let s = c in let h = c.loop-j in
    record { rowed = rows_end s.args.k _ s.args.sky.observation s.args.s (omega arith) s.requires h.j h.rows h.invariant.1 (omega arith); sigma_kept = h.invariant.3 }
