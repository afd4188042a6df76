-- `corrections_forget::retain::trim` meets its contract. Assumes nothing.
use native.Mathlib.Omega.{arith}
use mathlib.Core.Path.{◌≡◌, ◌∙◌, ap}
use mathlib.Core.List.{List}
use Prim.Native.Nat.{ℕ, ◌+◌, ◌-◌, ◌≤◌, ◌<◌}
use lib.Ieee.{Float}
use lib.ListN.{length, get_or}
use Rattle.std.proofs.lemmas.List.{get_or_default}
use Rattle.numeric.specs.Order.{is_nan_pattern}
use Rattle.corrections_directory.specs.Directory.{Blocks, floats, lent_blocks}
use Rattle.corrections_directory.proofs.DirectoryLaws.{sound-parts}
use Rattle.corrections_directory.proofs.PatternLaws.{floats-length, numbers-in}
use Rattle.corrections_forget.specs.Steps.{Fit, moved_down}
use Rattle.corrections_forget.proofs.PatternLaws.{Beyond, beyond-at, beyond-start, beyond-turn, floats-moved}
use Rattle.corrections_forget.proofs.TrimLaws.{Trimming, here, trimming_start, trimming_turn, trimming_count, trimming_end}
use Rattle.corrections_forget.proofs.retain.trim.Goals as goal

-- what is known in a turn
record Turn (n : ℕ) (df₀ dn₀ ts₀ xs₀ df dn ts xs : List ℕ) (i place : ℕ) : Type 0 where
  low : place ≤ get_or df i 0
  some : 0 < get_or dn i 0
  inside : get_or df i 0 + get_or dn i 0 ≤ n
  in-firsts : i < length df
  in-counts : i < length dn
  in-times : n ≤ length ts
  in_metres : n ≤ length xs
  same-firsts : length df ≡ length df₀
  same-counts : length dn ≡ length dn₀
  same-times : length ts ≡ length ts₀
  same-metres : length xs ≡ length xs₀

turn : {time : Float} {m n : ℕ} {l : Blocks} {df dn ts₀ xs₀ : List ℕ} (ts xs : List ℕ) {i place : ℕ} → Fit m n l → Trimming time m n l df dn (floats ts) (floats xs) i place → Beyond ts₀ ts place × Beyond xs₀ xs place → i < m
    → Turn n l.firsts l.counts ts₀ xs₀ df dn ts xs i place
turn {time} {m} {n} {l} ts xs f inv b h =
    let w = here time m n l f.few-entries f.few-samples f.sound inv h in
    record {
      low = w.low;
      some = w.some;
      inside = w.inside;
      in-firsts = w.in-firsts;
      in-counts = w.in-counts;
      in-times = omega (arith, w.in-times, floats-length ts);
      in_metres = omega (arith, w.in-corrections, floats-length xs);
      same-firsts = inv.firsts.long;
      same-counts = inv.counts.long;
      same-times = b.0.long;
      same-metres = b.1.long;
    }

-- a copy down by a range is one by a count
copied : (to from end k : ℕ) (l : List ℕ) {l' : List ℕ} → l' ≡ moved_down to from (end - from) l → end - from ≡ k → l' ≡ moved_down to from k l
copied to from end k l e z = e ∙ ap (λ (j : ℕ). moved_down to from j l) z

pub loop-i-init : goal.loop-i-init
loop-i-init c = let a = c.args in (
  λ dc dv db n f. trimming_start a.time a.blocks n (lent_blocks dc dv db a.block_first.now a.block_samples.now (floats a.table_time.now) (floats a.table_metres.now)) f.few-entries f.few-samples f.sound,
  (beyond-start a.table_time.now, beyond-start a.table_metres.now),
)

pub offset_bounds-block_first-i : goal.offset_bounds-block_first-i
offset_bounds-block_first-i c =
    let p = c.requires in
    let h = c.loop-i in
    let w = turn h.table_time h.table_metres p.fit (h.invariant.0 p.constellations p.svids p.bands p.samples p.fit) h.invariant.1 c.loop-i-test.true in
    omega (arith, w)

pub bounds-block_first-i : goal.bounds-block_first-i
bounds-block_first-i c =
    let p = c.requires in
    let h = c.loop-i in
    let w = turn h.table_time h.table_metres p.fit (h.invariant.0 p.constellations p.svids p.bands p.samples p.fit) h.invariant.1 c.loop-i-test.true in
    omega (arith, w)

pub offset_bounds-block_samples-i : goal.offset_bounds-block_samples-i
offset_bounds-block_samples-i c =
    let p = c.requires in
    let h = c.loop-i in
    let w = turn h.table_time h.table_metres p.fit (h.invariant.0 p.constellations p.svids p.bands p.samples p.fit) h.invariant.1 c.loop-i-test.true in
    omega (arith, w)

pub bounds-block_samples-i : goal.bounds-block_samples-i
bounds-block_samples-i c =
    let p = c.requires in
    let h = c.loop-i in
    let w = turn h.table_time h.table_metres p.fit (h.invariant.0 p.constellations p.svids p.bands p.samples p.fit) h.invariant.1 c.loop-i-test.true in
    omega (arith, w)

pub front_of-k-requires : goal.front_of-k-requires
front_of-k-requires c =
    let p = c.requires in
    let h = c.loop-i in
    let w = turn h.table_time h.table_metres p.fit (h.invariant.0 p.constellations p.svids p.bands p.samples p.fit) h.invariant.1 c.loop-i-test.true in
    let n = numbers-in c.args.table_time.now c.args.table_metres.now p.samples p.fit.few-samples (sound-parts _ p.fit.sound).in_reach in
    record {
      filled = w.some;
      inside = omega (arith, w.inside, w.in-times);
      numbers = λ j d a b. ap is_nan_pattern (get_or_default h.table_time j d 0 (omega (arith, w.inside, w.in-times)) ∙ beyond-at h.invariant.1.0 j (omega (arith, w.low))) ∙ n j (omega (arith, w.inside));
    }

pub overflow_add-from : goal.overflow_add-from
overflow_add-from c =
    let p = c.requires in
    let h = c.loop-i in
    let w = turn h.table_time h.table_metres p.fit (h.invariant.0 p.constellations p.svids p.bands p.samples p.fit) h.invariant.1 c.loop-i-test.true in
    omega (arith, w, c.saturating_sub-gone.ensures, c.front_of-k.ensures.within)

pub overflow_add-end : goal.overflow_add-end
overflow_add-end c =
    let p = c.requires in
    let h = c.loop-i in
    let w = turn h.table_time h.table_metres p.fit (h.invariant.0 p.constellations p.svids p.bands p.samples p.fit) h.invariant.1 c.loop-i-test.true in
    omega (arith, w, c.saturating_sub-gone.ensures, c.front_of-k.ensures.within)

pub move_down-requires : goal.move_down-requires
move_down-requires c =
    let p = c.requires in
    let h = c.loop-i in
    let w = turn h.table_time h.table_metres p.fit (h.invariant.0 p.constellations p.svids p.bands p.samples p.fit) h.invariant.1 c.loop-i-test.true in
    (omega (arith, w, c.saturating_sub-gone.ensures, c.front_of-k.ensures.within), (omega (arith, w, c.saturating_sub-gone.ensures, c.front_of-k.ensures.within), omega (arith, w, c.saturating_sub-gone.ensures, c.front_of-k.ensures.within)))

pub move_down-requires-in-loop-i : goal.move_down-requires-in-loop-i
move_down-requires-in-loop-i c =
    let p = c.requires in
    let h = c.loop-i in
    let w = turn h.table_time h.table_metres p.fit (h.invariant.0 p.constellations p.svids p.bands p.samples p.fit) h.invariant.1 c.loop-i-test.true in
    (omega (arith, w, c.saturating_sub-gone.ensures, c.front_of-k.ensures.within), (omega (arith, w, c.saturating_sub-gone.ensures, c.front_of-k.ensures.within), omega (arith, w, c.saturating_sub-gone.ensures, c.front_of-k.ensures.within)))

pub offset_bounds-block_first-i-in-loop-i : goal.offset_bounds-block_first-i-in-loop-i
offset_bounds-block_first-i-in-loop-i c =
    let p = c.requires in
    let h = c.loop-i in
    let w = turn h.table_time h.table_metres p.fit (h.invariant.0 p.constellations p.svids p.bands p.samples p.fit) h.invariant.1 c.loop-i-test.true in
    omega (arith, w)

pub bounds-block_first-i-in-loop-i : goal.bounds-block_first-i-in-loop-i
bounds-block_first-i-in-loop-i c =
    let p = c.requires in
    let h = c.loop-i in
    let w = turn h.table_time h.table_metres p.fit (h.invariant.0 p.constellations p.svids p.bands p.samples p.fit) h.invariant.1 c.loop-i-test.true in
    omega (arith, w)

pub offset_bounds-block_samples-i-in-loop-i : goal.offset_bounds-block_samples-i-in-loop-i
offset_bounds-block_samples-i-in-loop-i c =
    let p = c.requires in
    let h = c.loop-i in
    let w = turn h.table_time h.table_metres p.fit (h.invariant.0 p.constellations p.svids p.bands p.samples p.fit) h.invariant.1 c.loop-i-test.true in
    omega (arith, w)

pub bounds-block_samples-i-in-loop-i : goal.bounds-block_samples-i-in-loop-i
bounds-block_samples-i-in-loop-i c =
    let p = c.requires in
    let h = c.loop-i in
    let w = turn h.table_time h.table_metres p.fit (h.invariant.0 p.constellations p.svids p.bands p.samples p.fit) h.invariant.1 c.loop-i-test.true in
    omega (arith, w)

pub overflow_add-place : goal.overflow_add-place
overflow_add-place c =
    let p = c.requires in
    let h = c.loop-i in
    let w = turn h.table_time h.table_metres p.fit (h.invariant.0 p.constellations p.svids p.bands p.samples p.fit) h.invariant.1 c.loop-i-test.true in
    omega (arith, w, c.saturating_sub-gone.ensures, c.front_of-k.ensures.within)

pub loop-i-preserved : goal.loop-i-preserved
loop-i-preserved c =
    let p = c.requires in
    let h = c.loop-i in
    let w = turn h.table_time h.table_metres p.fit (h.invariant.0 p.constellations p.svids p.bands p.samples p.fit) h.invariant.1 c.loop-i-test.true in
    let a = c.args in
    let f = c.front_of-k.ensures in
    let g = c.saturating_sub-gone.ensures in
    let from = get_or h.block_first h.i 0 + c.saturating_sub-gone.result in
    let kept = get_or h.block_samples h.i 0 - c.saturating_sub-gone.result in
    let end = get_or h.block_first h.i 0 + get_or h.block_samples h.i 0 in
    let z : end - from ≡ kept = omega arith in
    let mt = copied h.place from end kept h.table_time c.move_down.ensures z in
    let mx = copied h.place from end kept h.table_metres c.move_down-in-loop-i.ensures z in (
      λ dc dv db n k.
          trimming_turn a.time a.blocks n (lent_blocks dc dv db a.block_first.now a.block_samples.now (floats a.table_time.now) (floats a.table_metres.now)) k.few-entries k.few-samples k.sound (h.invariant.0 dc dv db n k) c.loop-i-test.true f g
          (ap floats mt ∙ floats-moved h.place from kept h.table_time) (ap floats mx ∙ floats-moved h.place from kept h.table_metres),
      (
        beyond-turn h.invariant.1.0 from kept (omega (arith, w, g)) (omega (arith, w, g, f.within)) mt,
        beyond-turn h.invariant.1.1 from kept (omega (arith, w, g)) (omega (arith, w, g, f.within)) mx,
      ),
    )

pub returns : goal.returns
returns c = let a = c.args in
    let h = c.loop-i in (
      λ dc dv db n k.
          let l = lent_blocks dc dv db a.block_first.now a.block_samples.now (floats a.table_time.now) (floats a.table_metres.now) in
          let i = h.invariant.0 dc dv db n k in (
            trimming_count a.time a.blocks n l k.few-entries k.few-samples k.sound i c.loop-i-test.false,
            trimming_end a.time a.blocks n l k.few-entries k.few-samples k.sound i c.loop-i-test.false,
          ),
      (h.invariant.1.0.rest, h.invariant.1.1.rest),
    )
