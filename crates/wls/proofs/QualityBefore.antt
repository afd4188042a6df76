-- THE LAW of request (iii) for a fix, over the fix from before request (v): a refusal stays, and a fix keeps position, count and pdop; its chi is another, and where
-- chi or pdop is not finite it is 14. Assumes nothing.
use Rattle.std.specs.Prelude.{Result, Ok, Err}
use mathlib.Core.Bool.{Bool, true, false, not, cond, ◌&&◌}
use mathlib.Core.List.{List, [], ◌∷◌}
use Prim.Native.Nat.{ℕ, ◌+◌}
use lib.Ieee.{Float}
use lib.Ieee.Scale.{finite}
use Rattle.cholesky.specs.Factor.{factor_of}
use Rattle.cholesky.specs.Answer as factor
use Rattle.numeric.specs.declared.vec3.Vec3.{Vec3}
use Rattle.numeric.specs.declared.refusal.Refusal.{Refusal}
use Rattle.numeric.specs.declared.refusal.Refusal.TheVariants.{FitFailed, QualityNotFinite}
use Rattle.normal_equations.specs.declared.row.Row.{Row}
use Rattle.clocks.specs.declared.clocks.Clocks.{Clocks}
use Rattle.records.specs.declared.record.Observation.{Observation}
use Rattle.numeric.specs.Rules.{Rule, rule, ruled}
use Rattle.estimate_rounds.specs.Rounds.{End, Stopped, Reached, last_rows, finite_at, concluded}
use Rattle.wls.specs.Front.{fix_rules}
use Rattle.wls.specs.Fix.{Input, kept_observations, clocks, chi_at, solution_at}
use Rattle.quality.specs.Quality.{unweighted_matrix, dilution_of, chi_of}
use Rattle.wls.specs.declared.fix.Settings.{Settings}
use Rattle.wls.specs.declared.fix.Solution.{Solution}
use Rattle.wls.specs.Before.{fit_before, ten_rules, answer_first, rules_before, solution_before, fix_first, fix_before}

-- 14, of the figures
abbrev pub figure_rules : Float → Float → List Rule
figure_rules chi pdop = rule QualityNotFinite (not (finite chi && finite pdop)) ∷ []

abbrev pub with_chi : Float → Solution → Solution
with_chi chi s = record { position = s.position; used = s.used; chi = chi; pdop = s.pdop }

-- what an answer from before the request became
pub data Became : Result Solution Refusal → Result Solution Refusal → Type 0 where
  Same : (r : Refusal) → Became (Err r) (Err r)
  Anew : (s : Solution) (chi : Float) → Became (Ok s) (ruled Err (figure_rules chi s.pdop) (Ok (with_chi chi s)))

-- ---- at the end of the rounds
module _ (settings : Settings) (k : Clocks) (os : List Observation) (guess : Vec3) where
  abbrev n : ℕ
  n = 3 + k.count

  end-became : (rows : List Row) (e : End) → Became (concluded Err (ten_rules n rows) (answer_first n rows) e) (concluded Err (rules_before settings k os rows) (solution_before settings k os rows) e)
  unfolding ruled
  end-became rows (Stopped r) = Same r
  end-became rows (Reached x) = go (not (finite_at x)) (not (factor.accepted (factor_of (unweighted_matrix n rows))))
    where
      go : (a b : Bool) → Became (cond a (Err FitFailed) (cond b (Err FitFailed) (answer_first n rows x)))
          (cond a (Err FitFailed) (cond b (Err FitFailed) (ruled Err (figure_rules (chi_at settings k os x) (dilution_of n rows)) (solution_before settings k os rows x))))
      go true b = Same FitFailed
      go false true = Same FitFailed
      go false false = Anew (solution_at n rows (chi_of n rows) x) (chi_at settings k os x)

-- rules that come first refuse both alike
behind : (rs : List Rule) {a b : Result Solution Refusal} → Became a b → Became (ruled Err rs a) (ruled Err rs b)
unfolding ruled
behind [] h = h
behind (r ∷ rs) {a} {b} h = go r.applies (behind rs h)
  where
    go : (c : Bool) → Became (ruled Err rs a) (ruled Err rs b) → Became (cond c (Err r.refusal) (ruled Err rs a)) (cond c (Err r.refusal) (ruled Err rs b))
    go true h = Same r.refusal
    go false h = h

pub became : (i : Input) → Became (fix_first i) (fix_before i)
became i =
    let f = fit_before i.settings (clocks i) (kept_observations i) i.guess in
    behind (fix_rules i.observations i.guess i.settings) (end-became i.settings (clocks i) (kept_observations i) i.guess (last_rows [] f.rounds) f.end)
