-- `tdcp_columns::displacement::fit_into` meets its contract. Assumes nothing.
use mathlib.Core.Path.{◌≡◌, sym, ◌∙◌}
use mathlib.Core.Bool.{true, false}
use Prim.Native.Nat.{ℕ}
use native.Mathlib.Omega.{arith}
use borrow.Author.Rules.{rules}
use Rattle.records.specs.Carriers.{carrier_columns}
use Rattle.tdcp_columns.proofs.FitLaws.{carriers-room}
use Rattle.tdcp_columns.proofs.displacement.fit_into.Goals as goal

no : false ≡ true → ⊥
no h = let z : ◌≡◌ {A = ℕ} 0 1 = cc in omega arith

pub returns-then-not-epoch_fits : goal.returns-then-not-epoch_fits
returns-then-not-epoch_fits c = record { fits = sym c.if-not-epoch_fits.true ∙ c.epoch_fits.ensures; signalled = λ h. absurd (no h) }

pub signals_into-requires : goal.signals_into-requires
signals_into-requires c = let a = c.args.columns in
    let p = carriers-room (carrier_columns a.constellation.now a.svid.now a.band.now a.state.now a.floats.now) a.count c.epoch_fits.ensures c.if-not-epoch_fits.false in
    record { few = p.few; constellation = p.constellation; svid = p.svid; band = p.band; room = search rules }

pub returns : goal.returns
returns c = let e = c in
    record { fits = sym e.if-not-epoch_fits.false ∙ e.epoch_fits.ensures; signalled = λ h. c.signals_into.ensures }
