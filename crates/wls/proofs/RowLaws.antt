-- The columns of a round of a fix, made one row after the other. Assumes nothing.
use Rattle.std.specs.Prelude.{Result, Ok, Err}
use mathlib.Core.Path.{◌≡◌, sym, ap, ap₂, ◌∙◌, subst}
use Prim.Native.Nat.{ℕ, ◌+◌, ◌≤◌, ◌<◌}
use native.Mathlib.Omega.{arith}
use mathlib.Core.List.{List}
use lib.ListN.{length, get_or, set}
use lib.Ieee.{Float}
use Rattle.exact.specs.Float.{◌⊕◌, ◌⊖◌}
use Rattle.cholesky.specs.Factor.{at}
use Rattle.numeric.specs.Order.{pattern_of}
use Rattle.numeric.specs.Sight.{geometry}
use Rattle.numeric.specs.declared.refusal.Refusal.{Refusal}
use Rattle.numeric.specs.declared.sight.Sight.{Sight}
use Rattle.numeric.proofs.SightLaws.{seen_by}
use Rattle.clocks.specs.Clocks.{slot}
use Rattle.clocks.specs.declared.clocks.Clocks.{Clocks}
use Rattle.normal_equations.proofs.ColumnLaws.{Column, column-start, column-next}
use Rattle.records.specs.declared.record.Observation.{Observation}
use Rattle.records.proofs.RecordLaws.{blank_observation}
use Rattle.estimate_rounds.specs.Rounds.{vector}
use Rattle.wls.specs.Fix.{sight_at, residual_at}
use Rattle.wls.specs.Steps.{Rowed}
use Rattle.normal_equations.specs.declared.columns.Table.{Table}
use Rattle.wls.proofs.SightLaws.{Sights, sights-start, sights-end, sights-next, sights-stop}

-- the first j of n rows at the state s: 15 lets each of them pass, and they stand in the columns
pub record RowsTo (k : Clocks) (n : ℕ) (os : List Observation) (s : List Float) (j : ℕ) (x y z : List Float) (clock residual : List ℕ) : Type 0 where
  pub sights : Sights os n s j
  pub xs : Column (λ (o : Observation). (sight_at s o).x) os j x
  pub ys : Column (λ (o : Observation). (sight_at s o).y) os j y
  pub zs : Column (λ (o : Observation). (sight_at s o).z) os j z
  pub clocks : Column (λ (o : Observation). slot k o.constellation) os j clock
  pub residuals : Column (residual_at k s) os j residual

module _ (k : Clocks) (n : ℕ) (os : List Observation) (s : List Float) (fits : n ≤ length os) (few : n ≤ 64) where
  pub rows_start : (t : Table) → length t.x ≡ 64 → length t.y ≡ 64 → length t.z ≡ 64 → length t.clock ≡ 64 → length t.residual ≡ 64 → RowsTo k n os s 0 t.x t.y t.z t.clock t.residual
  rows_start t a b c d e =
      record {
        sights = sights-start os n s;
        xs = column-start _ os t.x a;
        ys = column-start _ os t.y b;
        zs = column-start _ os t.z c;
        clocks = column-start _ os t.clock d;
        residuals = column-start _ os t.residual e;
      }

  module _ (j : ℕ) (t : Table) (h : RowsTo k n os s j t.x t.y t.z t.clock t.residual) where
    pub rows_end : j ≡ n → Rowed k n os s (Ok tt) t
    rows_end e =
        let all = subst (λ (m : ℕ). RowsTo k n os s m t.x t.y t.z t.clock t.residual) e h in
        record {
          answer = sights-end os n s fits j h.sights (omega arith);
          rows = λ _.
              record {
                long = h.residuals.long;
                xs = all.xs.so_far;
                ys = all.ys.so_far;
                zs = all.zs.so_far;
                clocks-are = all.clocks.so_far;
                residuals = all.residuals.so_far;
              };
        }

    module _ (l : j < n) {r : Result Sight Refusal} (seen : r ≡ geometry (get_or os j blank_observation).satellite (vector s)) where
      pub rows-stop : {q : Refusal} → r ≡ Err q → Rowed k n os s (Err q) t
      rows-stop e =
          record {
            answer = sights-stop os n s fits j h.sights l seen e;
            rows = λ e. absurd (let z : ◌≡◌ {A = ℕ} 0 1 = cc in omega arith);
          }

      -- one row more, of the sight g, the clock q with the state v there, and the residual p
      pub rows_next : {g : Sight} {q p : ℕ} {v : Float} → r ≡ Ok g → q ≡ slot k (get_or os j blank_observation).constellation → v ≡ at s q → p ≡ pattern_of ((get_or os j blank_observation).pseudorange ⊖ (g.range ⊕ v))
          → RowsTo k n os s (j + 1) (set t.x j g.x) (set t.y j g.y) (set t.z j g.z) (set t.clock j q) (set t.residual j p)
      unfolding residual_at
      rows_next {g} {q} {p} {v} e q-is v-is p-is =
          let i = (seen_by _ _ (sym seen ∙ e)).sight in
          let room : j < 64 = omega arith in
          let within : j < length os = omega arith in
          let o = get_or os j blank_observation in
          let value = p-is ∙ ap₂ (λ (a b : Float). pattern_of (o.pseudorange ⊖ (a ⊕ b))) (ap (λ (g : Sight). g.range) i) (v-is ∙ ap (at s) q-is) in
          record {
            sights = sights-next os n s fits j h.sights l seen e;
            xs = column-next _ os j t.x blank_observation g.x room within (ap (λ (g : Sight). g.x) i) h.xs;
            ys = column-next _ os j t.y blank_observation g.y room within (ap (λ (g : Sight). g.y) i) h.ys;
            zs = column-next _ os j t.z blank_observation g.z room within (ap (λ (g : Sight). g.z) i) h.zs;
            clocks = column-next _ os j t.clock blank_observation q room within q-is h.clocks;
            residuals = column-next _ os j t.residual blank_observation p room within value h.residuals;
          }
