-- What two requests changed of the fix of a caller's columns, exactly: the laws of crate wls, of the call. Assumes nothing.
use Rattle.std.specs.Prelude.{Result, Ok, Err}
use Rattle.numeric.specs.declared.refusal.Refusal.{Refusal}
use mathlib.Core.Path.{◌≡◌, refl}
use mathlib.Core.Bool.{Bool, true, false, cond}
use Prim.Native.Nat.{ℕ}
use native.Mathlib.Omega.{arith}
use Rattle.numeric.specs.declared.vec3.Vec3.{Vec3}
use Rattle.numeric.specs.declared.refusal.Refusal.TheVariants.{TooMany, QualityNotFinite, OnReceiver}
use Rattle.wls.specs.Fix.{fix_of}
use Rattle.wls.specs.declared.fix.Settings.{Settings}
use Rattle.wls.specs.declared.fix.Solution.{Solution}
use Rattle.wls.proofs.ChangeLaws.{AsFirst, Fourteen, Fifteen, as_first, fourteen_only, fourteen_always, fifteen-only, fifteen-always}
use Rattle.wls_columns.specs.Columns.{ObservationColumns, observations_fit}
use Rattle.wls_columns.specs.Fix.{fix_input, column_fix_of}

module _ (c : ObservationColumns) (n : ℕ) (guess : Vec3) (settings : Settings) where
  abbrev call : Result Solution Refusal
  call = column_fix_of c n guess settings

  -- an answer that 2 does not give comes from columns that fit
  record Fitting (f : Result Solution Refusal) : Type 0 where
    fits : observations_fit c n ≡ true
    is : fix_of (fix_input c n guess settings) ≡ f

  fitting : (f : Result Solution Refusal) → (Err TooMany ≡ f → ⊥) → call ≡ f → Fitting f
  unfolding column_fix_of
  fitting f never h = go (observations_fit c n) refl h
    where
      go : (b : Bool) → observations_fit c n ≡ b → cond b (fix_of (fix_input c n guess settings)) (Err TooMany) ≡ f → Fitting f
      go true e q = record { fits = e; is = q }
      go false e q = absurd (never q)

  fit_is : {f : Result Solution Refusal} → observations_fit c n ≡ true → fix_of (fix_input c n guess settings) ≡ f → call ≡ f
  unfolding column_fix_of
  fit_is e h = rw e h

  -- An accepted fix keeps position, count and pdop of the first one, and has chi of the point that it gives out.
  pub call-first : (s : Solution) → call ≡ Ok s → AsFirst (fix_input c n guess settings) s
  call-first s h = as_first (fix_input c n guess settings) s (fitting (Ok s) (λ e. let z : ◌≡◌ {A = ℕ} 0 1 = cc in omega arith) h).is

  -- 14 and 15, both ways, of columns that hold what their count says
  pub call_fourteen : call ≡ Err QualityNotFinite → (observations_fit c n ≡ true) × Fourteen (fix_input c n guess settings)
  call_fourteen h =
      let f = fitting (Err QualityNotFinite) (λ e. let z : ◌≡◌ {A = ℕ} 0 1 = cc in omega arith) h in
      (f.fits, fourteen_only (fix_input c n guess settings) f.is)

  pub fourteen_call : observations_fit c n ≡ true → Fourteen (fix_input c n guess settings) → call ≡ Err QualityNotFinite
  fourteen_call e f = fit_is e (fourteen_always (fix_input c n guess settings) f)

  pub call-fifteen : call ≡ Err OnReceiver → (observations_fit c n ≡ true) × Fifteen (fix_input c n guess settings)
  call-fifteen h =
      let f = fitting (Err OnReceiver) (λ e. let z : ◌≡◌ {A = ℕ} 0 1 = cc in omega arith) h in
      (f.fits, fifteen-only (fix_input c n guess settings) f.is)

  pub fifteen-call : observations_fit c n ≡ true → Fifteen (fix_input c n guess settings) → call ≡ Err OnReceiver
  fifteen-call e f = fit_is e (fifteen-always (fix_input c n guess settings) f)
