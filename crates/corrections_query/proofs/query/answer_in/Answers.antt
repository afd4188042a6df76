-- `corrections_query::query::answer_in` meets its contract. Assumes nothing.
use Rattle.std.specs.Prelude.{Ok}
use Prim.Native.Nat.{◌+◌, ◌-◌, ◌<◌, ◌≤◌}
use mathlib.Core.Path.{◌≡◌, sym, subst, ap, ◌∙◌}
use native.Mathlib.Omega.{arith}
use mathlib.Core.Bool.{Bool, true, ◌&&◌}
use Prim.Native.Nat.{ℕ}
use mathlib.Core.List.{List}
use lib.Ieee.{Float, nan}
use lib.Dec.{T, ltb}
use lib.ListN.{length, get_or}
use borrow.Author.Tests.{ltb-true}
use Rattle.lists.proofs.Walk.{and_both}
use Rattle.corrections_directory.specs.Directory.{reading_rows}
use Rattle.corrections_directory.proofs.ColumnLaws.{readings-length}
use Rattle.corrections_directory.specs.Steps.{Filled}
use Rattle.corrections_query.specs.Query.{near}
use Rattle.corrections_query.proofs.PlaceLaws.{lies_at}
use Rattle.corrections_query.proofs.BlockLaws.{answer-since, answer-before, answer-ends, answer-gap, answer-line}
use Rattle.corrections_query.proofs.query.answer_in.Goals as goal

-- the block lies in the columns
whole : (ts xs : List Float) (first count : ℕ) → Filled (length (reading_rows ts xs)) first count
    → (first + count ≤ length ts) × (first + count ≤ length xs)
whole ts xs first count f =
    let k = readings-length ts xs in
    let i = f.inside in
    (omega (arith, k, i), omega (arith, k, i))

-- what the tests say of the place
since : {p e : ℕ} (b : Bool) {r : Bool} → r ≡ (ltb p e && b) → r ≡ true → p < e
since {p = p} {e = e} b h t = ltb-true p e (and_both (ltb p e) b (sym h ∙ t)).0

between : {p e f : ℕ} → (ltb p e && ltb f p) ≡ true → (p < e) × (f < p)
between {p = p} {e = e} {f = f} h = let b = and_both (ltb p e) (ltb f p) h in (ltb-true p e b.0, ltb-true f p b.1)

pub overflow_add-end : goal.overflow_add-end
overflow_add-end c = let w = whole c.args.table_time.now c.args.table_metres.now c.args.first c.args.count c.requires.filled in omega (arith, w)

pub front_of-place-requires : goal.front_of-place-requires
front_of-place-requires c = let s = c in
    let some = s.requires.filled.filled in
    record { some = omega (arith, some); inside = (whole c.args.table_time.now c.args.table_metres.now c.args.first c.args.count c.requires.filled).0; falling = s.requires.falling (record { column = λ j. c.type_inv.table_time j; time = subst T (sym c.well_formed.1.1.1.1.1.0.1) tt }) }

pub near_since-requires : goal.near_since-requires
near_since-requires c = (whole c.args.table_time.now c.args.table_metres.now c.args.first c.args.count c.requires.filled).0

pub offset_bounds-table_metres-place : goal.offset_bounds-table_metres-place
offset_bounds-table_metres-place c = let w = whole c.args.table_time.now c.args.table_metres.now c.args.first c.args.count c.requires.filled in let r = c.front_of-place.ensures.within in let b = since {p = c.front_of-place.result} {e = c.args.first + c.args.count} (near (get_or c.args.table_time.now c.front_of-place.result nan) c.args.time) c.near_since.ensures c.if-near_since.true in omega (arith, w, r, b)

pub bounds-table_metres-place : goal.bounds-table_metres-place
bounds-table_metres-place c = let w = whole c.args.table_time.now c.args.table_metres.now c.args.first c.args.count c.requires.filled in let r = c.front_of-place.ensures.within in let b = since {p = c.front_of-place.result} {e = c.args.first + c.args.count} (near (get_or c.args.table_time.now c.front_of-place.result nan) c.args.time) c.near_since.ensures c.if-near_since.true in omega (arith, w, r, b)

pub returns-then-near_since-clause-answer : goal.returns-then-near_since-clause-answer
returns-then-near_since-clause-answer c = record { is = λ e f k. answer-since _ _ _ _ _ (lies_at c.args.table_time.now c.args.table_metres.now e c.args.first c.args.count f k c.requires.filled.inside) c.args.max_gap c.args.time c.front_of-place.result c.front_of-place.ensures c.near_since.ensures c.if-near_since.true }

pub near_before-requires : goal.near_before-requires
near_before-requires c = let w = whole c.args.table_time.now c.args.table_metres.now c.args.first c.args.count c.requires.filled in let r = c.front_of-place.ensures.within in omega (arith, w, r)

pub overflow_sub-value : goal.overflow_sub-value
overflow_sub-value c = let w = whole c.args.table_time.now c.args.table_metres.now c.args.first c.args.count c.requires.filled in let r = c.front_of-place.ensures.within in let b = since {p = c.args.first} {e = c.front_of-place.result} (near (get_or c.args.table_time.now (c.front_of-place.result - 1) nan) c.args.time) c.near_before.ensures c.if-near_before.true in omega (arith, w, r, b)

pub offset_bounds-table_metres-place-then-near_before : goal.offset_bounds-table_metres-place-then-near_before
offset_bounds-table_metres-place-then-near_before c = let w = whole c.args.table_time.now c.args.table_metres.now c.args.first c.args.count c.requires.filled in let r = c.front_of-place.ensures.within in let b = since {p = c.args.first} {e = c.front_of-place.result} (near (get_or c.args.table_time.now (c.front_of-place.result - 1) nan) c.args.time) c.near_before.ensures c.if-near_before.true in omega (arith, w, r, b)

pub bounds-table_metres-place-then-near_before : goal.bounds-table_metres-place-then-near_before
bounds-table_metres-place-then-near_before c = let w = whole c.args.table_time.now c.args.table_metres.now c.args.first c.args.count c.requires.filled in let r = c.front_of-place.ensures.within in let b = since {p = c.args.first} {e = c.front_of-place.result} (near (get_or c.args.table_time.now (c.front_of-place.result - 1) nan) c.args.time) c.near_before.ensures c.if-near_before.true in omega (arith, w, r, b)

pub returns-then-near_before-clause-answer : goal.returns-then-near_before-clause-answer
returns-then-near_before-clause-answer c = record { is = λ e f k. answer-before _ _ _ _ _ (lies_at c.args.table_time.now c.args.table_metres.now e c.args.first c.args.count f k c.requires.filled.inside) c.args.max_gap c.args.time c.front_of-place.result c.front_of-place.ensures c.near_since.ensures c.if-near_since.false c.near_before.ensures c.if-near_before.true }

pub returns-then-not-place-end-clause-answer : goal.returns-then-not-place-end-clause-answer
returns-then-not-place-end-clause-answer c = record { is = λ e f k. answer-ends _ _ _ _ _ (lies_at c.args.table_time.now c.args.table_metres.now e c.args.first c.args.count f k c.requires.filled.inside) c.args.max_gap c.args.time c.front_of-place.result c.front_of-place.ensures c.near_since.ensures c.if-near_since.false c.near_before.ensures c.if-near_before.false c.if-not-place-end.true }

pub overflow_sub-a : goal.overflow_sub-a
overflow_sub-a c = let w = whole c.args.table_time.now c.args.table_metres.now c.args.first c.args.count c.requires.filled in let r = c.front_of-place.ensures.within in let b = between {p = c.front_of-place.result} {e = c.args.first + c.args.count} {f = c.args.first} c.if-not-place-end.false in omega (arith, w, r, b)

pub offset_bounds-table_time-place : goal.offset_bounds-table_time-place
offset_bounds-table_time-place c = let w = whole c.args.table_time.now c.args.table_metres.now c.args.first c.args.count c.requires.filled in let r = c.front_of-place.ensures.within in let b = between {p = c.front_of-place.result} {e = c.args.first + c.args.count} {f = c.args.first} c.if-not-place-end.false in omega (arith, w, r, b)

pub bounds-table_time-place : goal.bounds-table_time-place
bounds-table_time-place c = let w = whole c.args.table_time.now c.args.table_metres.now c.args.first c.args.count c.requires.filled in let r = c.front_of-place.ensures.within in let b = between {p = c.front_of-place.result} {e = c.args.first + c.args.count} {f = c.args.first} c.if-not-place-end.false in omega (arith, w, r, b)

pub offset_bounds-table_time-place-2 : goal.offset_bounds-table_time-place-2
offset_bounds-table_time-place-2 c = let w = whole c.args.table_time.now c.args.table_metres.now c.args.first c.args.count c.requires.filled in let r = c.front_of-place.ensures.within in let b = between {p = c.front_of-place.result} {e = c.args.first + c.args.count} {f = c.args.first} c.if-not-place-end.false in omega (arith, w, r, b)

pub bounds-table_time-place-2 : goal.bounds-table_time-place-2
bounds-table_time-place-2 c = let w = whole c.args.table_time.now c.args.table_metres.now c.args.first c.args.count c.requires.filled in let r = c.front_of-place.ensures.within in let b = between {p = c.front_of-place.result} {e = c.args.first + c.args.count} {f = c.args.first} c.if-not-place-end.false in omega (arith, w, r, b)

pub returns-then-b-a-clause-answer : goal.returns-then-b-a-clause-answer
returns-then-b-a-clause-answer c = record { is = λ e f k. answer-gap _ _ _ _ _ (lies_at c.args.table_time.now c.args.table_metres.now e c.args.first c.args.count f k c.requires.filled.inside) c.args.max_gap c.args.time c.front_of-place.result c.front_of-place.ensures c.near_since.ensures c.if-near_since.false c.near_before.ensures c.if-near_before.false c.if-not-place-end.false c.if-b-a.true }

pub overflow_sub-x : goal.overflow_sub-x
overflow_sub-x c = let w = whole c.args.table_time.now c.args.table_metres.now c.args.first c.args.count c.requires.filled in let r = c.front_of-place.ensures.within in let b = between {p = c.front_of-place.result} {e = c.args.first + c.args.count} {f = c.args.first} c.if-not-place-end.false in omega (arith, w, r, b)

pub offset_bounds-table_metres-place-2 : goal.offset_bounds-table_metres-place-2
offset_bounds-table_metres-place-2 c = let w = whole c.args.table_time.now c.args.table_metres.now c.args.first c.args.count c.requires.filled in let r = c.front_of-place.ensures.within in let b = between {p = c.front_of-place.result} {e = c.args.first + c.args.count} {f = c.args.first} c.if-not-place-end.false in omega (arith, w, r, b)

pub bounds-table_metres-place-2 : goal.bounds-table_metres-place-2
bounds-table_metres-place-2 c = let w = whole c.args.table_time.now c.args.table_metres.now c.args.first c.args.count c.requires.filled in let r = c.front_of-place.ensures.within in let b = between {p = c.front_of-place.result} {e = c.args.first + c.args.count} {f = c.args.first} c.if-not-place-end.false in omega (arith, w, r, b)

pub offset_bounds-table_metres-place-3 : goal.offset_bounds-table_metres-place-3
offset_bounds-table_metres-place-3 c = let w = whole c.args.table_time.now c.args.table_metres.now c.args.first c.args.count c.requires.filled in let r = c.front_of-place.ensures.within in let b = between {p = c.front_of-place.result} {e = c.args.first + c.args.count} {f = c.args.first} c.if-not-place-end.false in omega (arith, w, r, b)

pub bounds-table_metres-place-3 : goal.bounds-table_metres-place-3
bounds-table_metres-place-3 c = let w = whole c.args.table_time.now c.args.table_metres.now c.args.first c.args.count c.requires.filled in let r = c.front_of-place.ensures.within in let b = between {p = c.front_of-place.result} {e = c.args.first + c.args.count} {f = c.args.first} c.if-not-place-end.false in omega (arith, w, r, b)

pub returns-clause-answer : goal.returns-clause-answer
returns-clause-answer c = record { is = λ e f k. ap Ok c.line_of.ensures ∙ answer-line _ _ _ _ _ (lies_at c.args.table_time.now c.args.table_metres.now e c.args.first c.args.count f k c.requires.filled.inside) c.args.max_gap c.args.time c.front_of-place.result c.front_of-place.ensures c.near_since.ensures c.if-near_since.false c.near_before.ensures c.if-near_before.false c.if-not-place-end.false c.if-b-a.false }
