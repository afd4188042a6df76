-- `corrections_table::sample::sample_at` meets its contract. Assumes nothing.
use native.Mathlib.Omega.{arith}
use Rattle.corrections_table.specs.Table.{lent_samples}
use Rattle.corrections_table.proofs.ColumnLaws.{rows_at, rows-within}
use Rattle.corrections_table.proofs.sample.sample_at.Goals as goal

pub bounds-cs-i : goal.bounds-cs-i
bounds-cs-i c = omega (arith, rows-within (lent_samples c.args.cs.now c.args.vs.now c.args.bs.now c.args.ts.now c.args.xs.now) c.args.i c.requires)

pub offset_bounds-vs-i : goal.offset_bounds-vs-i
offset_bounds-vs-i c = omega (arith, rows-within (lent_samples c.args.cs.now c.args.vs.now c.args.bs.now c.args.ts.now c.args.xs.now) c.args.i c.requires)

pub bounds-vs-i : goal.bounds-vs-i
bounds-vs-i c = omega (arith, rows-within (lent_samples c.args.cs.now c.args.vs.now c.args.bs.now c.args.ts.now c.args.xs.now) c.args.i c.requires)

pub offset_bounds-bs-i : goal.offset_bounds-bs-i
offset_bounds-bs-i c = omega (arith, rows-within (lent_samples c.args.cs.now c.args.vs.now c.args.bs.now c.args.ts.now c.args.xs.now) c.args.i c.requires)

pub bounds-bs-i : goal.bounds-bs-i
bounds-bs-i c = omega (arith, rows-within (lent_samples c.args.cs.now c.args.vs.now c.args.bs.now c.args.ts.now c.args.xs.now) c.args.i c.requires)

pub offset_bounds-ts-i : goal.offset_bounds-ts-i
offset_bounds-ts-i c = omega (arith, rows-within (lent_samples c.args.cs.now c.args.vs.now c.args.bs.now c.args.ts.now c.args.xs.now) c.args.i c.requires)

pub bounds-ts-i : goal.bounds-ts-i
bounds-ts-i c = omega (arith, rows-within (lent_samples c.args.cs.now c.args.vs.now c.args.bs.now c.args.ts.now c.args.xs.now) c.args.i c.requires)

pub offset_bounds-xs-i : goal.offset_bounds-xs-i
offset_bounds-xs-i c = omega (arith, rows-within (lent_samples c.args.cs.now c.args.vs.now c.args.bs.now c.args.ts.now c.args.xs.now) c.args.i c.requires)

pub bounds-xs-i : goal.bounds-xs-i
bounds-xs-i c = omega (arith, rows-within (lent_samples c.args.cs.now c.args.vs.now c.args.bs.now c.args.ts.now c.args.xs.now) c.args.i c.requires)

pub returns : goal.returns
returns c = let a = c.args in rows_at (lent_samples a.cs.now a.vs.now a.bs.now a.ts.now a.xs.now) a.i c.requires
