-- The tests of why a call turns back, and what they tell. Assumes nothing.
use Rattle.std.specs.Prelude.{Result, Ok, Err, ⊤}
use mathlib.Core.Path.{◌≡◌, refl, sym, ◌∙◌, ap, ap₂}
use mathlib.Core.Bool.{Bool, true, false, not, ◌&&◌}
use mathlib.Core.List.{List, [], ◌∷◌, ◌++◌}
use Prim.Native.Nat.{ℕ, ◌-◌, ◌*◌, ◌≤◌, ◌<◌}
use native.Mathlib.Omega.{arith}
use lib.Dec.{leb, ltb}
use lib.ListN.{length}
use borrow.Author.Tests.{lt-ltb, le-ltb, leb-true, ltb-true, le-leb, lt-leb}
use Rattle.numeric.specs.Real.{in_range}
use Rattle.numeric.specs.Refusal.{number_of}
use Rattle.numeric.specs.Rules.{Rule, rule, ruled}
use Rattle.numeric.specs.declared.refusal.Refusal.{Refusal}
use Rattle.numeric.specs.declared.refusal.Refusal.TheVariants.{TooMany, SettingOutOfRange, RecordOutOfRange, BadTrack}
use Rattle.track_tridiagonal.proofs.EachBelow.{each_at, left-true, right-true}
use Rattle.track_pass.specs.Input.{Measured, Trajectory, index_at, work_need}
use Rattle.track_pass.specs.Steps.{Valid, Ready}
use Rattle.track_smooth.specs.declared.Settings.{Settings}
use Rattle.track_smooth.specs.Answer.{columns_ok, counts_ok, settings_ok, measured_ok, records_ok, sigmas_ok, indices_ok, track_ok, Tracked, Refused}
use Rattle.track_smooth.specs.Steps.{track_checked}
use Rattle.track_smooth.proofs.Finite.{origin-small}

-- ---- tests together

-- two tests, each that of the definition
pub both : (a b x y c : Bool) → a ≡ x → b ≡ y → (a && b) ≡ c → (x && y) ≡ c
both a b x y c e f g = sym (ap₂ (λ (a b : Bool). a && b) e f) ∙ g

-- there are some of both
pub some-both : (m n : ℕ) → (m ≡ 0 → ⊥) → (n ≡ 0 → ⊥) → (ltb 0 m && ltb 0 n) ≡ true
some-both m n e f = rw (lt-ltb 0 m (omega arith), lt-ltb 0 n (omega arith))

module _ (p : Trajectory) where
  module _ (r w : ℕ) where
    pub epochs-many : 1024 < p.n → counts_ok p r w ≡ false
    unfolding counts_ok
    epochs-many h = rw (lt-leb _ _ h)

    module _ (few : p.n ≤ 1024) where
      pub anchors-short : columns_ok p.anchors ≡ false → counts_ok p r w ≡ false
      unfolding counts_ok
      anchors-short e = rw (le-leb _ _ few, e)

      pub links-short : columns_ok p.anchors ≡ true → columns_ok p.links ≡ false → counts_ok p r w ≡ false
      unfolding counts_ok
      links-short a e = rw (le-leb _ _ few, a, e)

      pub counts-are : (b : Bool) → columns_ok p.anchors ≡ true → columns_ok p.links ≡ true → (leb (p.n * 3) r && leb (work_need p) w) ≡ b → counts_ok p r w ≡ b
      unfolding counts_ok
      counts-are b a l e = rw (le-leb _ _ few, a, l) e

  pub records-first : measured_ok p.anchors ≡ false → records_ok p ≡ false
  unfolding records_ok
  records-first e = rw e

  pub records-are : (b : Bool) → measured_ok p.anchors ≡ true → measured_ok p.links ≡ b → records_ok p ≡ b
  unfolding records_ok
  records-are b a e = rw a e

  pub no-epochs : p.n ≡ 0 → track_ok p ≡ false
  unfolding track_ok
  no-epochs e = rw (le-ltb 0 p.n (omega arith))

  pub no-anchors : (p.n ≡ 0 → ⊥) → p.anchors.count ≡ 0 → track_ok p ≡ false
  unfolding track_ok
  no-anchors e f = rw (lt-ltb 0 p.n (omega arith), le-ltb 0 p.anchors.count (omega arith))

  pub sigmas-bad : (ltb 0 p.n && ltb 0 p.anchors.count) ≡ true → (sigmas_ok p.anchors && sigmas_ok p.links) ≡ false → track_ok p ≡ false
  unfolding track_ok
  sigmas-bad a e = rw (a, e)

  pub track-is : (b : Bool) → (ltb 0 p.n && ltb 0 p.anchors.count) ≡ true → (sigmas_ok p.anchors && sigmas_ok p.links) ≡ true → (indices_ok p.anchors p.n && indices_ok p.links (p.n - 1)) ≡ b → track_ok p ≡ b
  unfolding track_ok
  track-is b a s e = rw (a, s) e

-- ---- the rules in order

module _ (p : Trajectory) (s : Settings) (r w : ℕ) where
  pub too_many : counts_ok p r w ≡ false → Err TooMany ≡ track_checked p s r w
  unfolding ruled
  too_many e = rw e

  module _ (e2 : counts_ok p r w ≡ true) where
    pub bad-settings : settings_ok s ≡ false → Err SettingOutOfRange ≡ track_checked p s r w
    unfolding ruled
    bad-settings e = rw (e2, e)

    module _ (e3 : settings_ok s ≡ true) where
      pub bad-records : records_ok p ≡ false → Err RecordOutOfRange ≡ track_checked p s r w
      unfolding ruled
      bad-records e = rw (e2, e3, e)

      module _ (e4 : records_ok p ≡ true) where
        pub bad-track : track_ok p ≡ false → Err BadTrack ≡ track_checked p s r w
        unfolding ruled
        bad-track e = rw (e2, e3, e4, e)

        pub all-checked : track_ok p ≡ true → (Ok tt) ≡ track_checked p s r w
        unfolding ruled
        all-checked e = rw (e2, e3, e4, e)

abbrev rules : (b2 b3 b4 b6 : Bool) → List Rule
rules b2 b3 b4 b6 = rule TooMany (not b2) ∷ rule SettingOutOfRange (not b3) ∷ rule RecordOutOfRange (not b4) ∷ rule BadTrack (not b6) ∷ []

-- a refusal before the fit is the call's, by a number up to 6
pub record Early (x : Refusal) (t : Tracked) : Type 0 where
  pub answer : t ≡ Refused x
  pub number : leb (number_of x) 6 ≡ true

pub refused-early : (b2 b3 b4 b6 : Bool) (more : List Rule) (t : Tracked) (x : Refusal) → ◌≡◌ {A = Result ⊤ Refusal} (ruled Err (rules b2 b3 b4 b6) (Ok tt)) (Err x) → Early x (ruled Refused (rules b2 b3 b4 b6 ++ more) t)
unfolding ruled
refused-early false b3 b4 b6 more t x e = let q : TooMany ≡ x = cc in record { answer = ap Refused q; number = ap (λ (y : Refusal). leb (number_of y) 6) (sym q) }
refused-early true false b4 b6 more t x e = let q : SettingOutOfRange ≡ x = cc in record { answer = ap Refused q; number = ap (λ (y : Refusal). leb (number_of y) 6) (sym q) }
refused-early true true false b6 more t x e = let q : RecordOutOfRange ≡ x = cc in record { answer = ap Refused q; number = ap (λ (y : Refusal). leb (number_of y) 6) (sym q) }
refused-early true true true false more t x e = let q : BadTrack ≡ x = cc in record { answer = ap Refused q; number = ap (λ (y : Refusal). leb (number_of y) 6) (sym q) }
refused-early true true true true more t x e = let z : ◌≡◌ {A = ℕ} 0 1 = cc in absurd (omega arith)

-- where no rule applies, every test holds
pub record AllOk (b2 b3 b4 b6 : Bool) : Type 0 where
  pub counts : b2 ≡ true
  pub settings : b3 ≡ true
  pub records : b4 ≡ true
  pub track : b6 ≡ true

pub none-applies : (b2 b3 b4 b6 : Bool) → ◌≡◌ {A = Result ⊤ Refusal} (ruled Err (rules b2 b3 b4 b6) (Ok tt)) (Ok tt) → AllOk b2 b3 b4 b6
unfolding ruled
none-applies true true true true e = record { counts = refl; settings = refl; records = refl; track = refl }
none-applies false b3 b4 b6 e = let z : ◌≡◌ {A = ℕ} 0 1 = cc in absurd (omega arith)
none-applies true false b4 b6 e = let z : ◌≡◌ {A = ℕ} 0 1 = cc in absurd (omega arith)
none-applies true true false b6 e = let z : ◌≡◌ {A = ℕ} 0 1 = cc in absurd (omega arith)
none-applies true true true false e = let z : ◌≡◌ {A = ℕ} 0 1 = cc in absurd (omega arith)

-- ---- what the tests tell

-- the columns are long enough
pub record Long (m : Measured) : Type 0 where
  pub few : m.count ≤ 1024
  pub indices : m.count ≤ length m.index
  pub values : m.count * 3 ≤ length m.value
  pub sigmas : m.count * 3 ≤ length m.sigma

pub columns : (m : Measured) → columns_ok m ≡ true → Long m
columns m h =
    let d = leb m.count 1024 in
    let a = leb m.count (length m.index) in
    let b = leb (m.count * 3) (length m.value) in
    let c = leb (m.count * 3) (length m.sigma) in
    let g : (a && (b && c)) ≡ true = right-true d (a && (b && c)) h in
    record {
      few = leb-true _ _ (left-true d (a && (b && c)) h);
      indices = leb-true _ _ (left-true a (b && c) g);
      values = leb-true _ _ (left-true b c (right-true a (b && c) g));
      sigmas = leb-true _ _ (right-true b c (right-true a (b && c) g));
    }

pub few-passes : (s : Settings) → settings_ok s ≡ true → s.iterations ≤ 50
unfolding settings_ok
few-passes s h = leb-true _ _ (right-true (in_range s.huber) (leb s.iterations 50) h)

record Counted (p : Trajectory) (r w : ℕ) : Type 0 where
  anchors : Long p.anchors
  links : Long p.links
  result : p.n * 3 ≤ r
  work : work_need p ≤ w

counted : (p : Trajectory) (r w : ℕ) → counts_ok p r w ≡ true → Counted p r w
unfolding counts_ok
counted p r w h =
    let b0 = leb p.n 1024 in
    let b3 = columns_ok p.anchors in
    let b4 = columns_ok p.links in
    let b5 = leb (p.n * 3) r in
    let b6 = leb (work_need p) w in
    let t5 = b5 && b6 in
    let t4 = b4 && t5 in
    let t3 = b3 && t4 in
    let h3 : t3 ≡ true = right-true b0 t3 h in
    let h4 : t4 ≡ true = right-true b3 t4 h3 in
    let h5 : t5 ≡ true = right-true b4 t5 h4 in
    record {
      anchors = columns p.anchors (left-true b3 t4 h3);
      links = columns p.links (left-true b4 t5 h4);
      result = leb-true _ _ (left-true b5 b6 h5);
      work = leb-true _ _ (right-true b5 b6 h5);
    }

valid : (p : Trajectory) (r w : ℕ) → Counted p r w → records_ok p ≡ true → track_ok p ≡ true → Valid p
unfolding track_ok
valid p r w c e4 h =
    let b0 = ltb 0 p.n in
    let b1 = ltb 0 p.anchors.count in
    let b2 = sigmas_ok p.anchors && sigmas_ok p.links in
    let b4 = indices_ok p.anchors p.n in
    let b5 = indices_ok p.links (p.n - 1) in
    let t0 = b0 && b1 in
    let t1 = b2 && (b4 && b5) in
    let h0 : t0 ≡ true = left-true t0 t1 h in
    let h4 : (b4 && b5) ≡ true = right-true b2 (b4 && b5) (right-true t0 t1 h) in
    let some : 0 < p.anchors.count = ltb-true _ _ (right-true b0 b1 h0) in
    record {
      epochs = ltb-true _ _ (left-true b0 b1 h0);
      some = some;
      anchors = record {
        indices = c.anchors.indices;
        values = c.anchors.values;
        sigmas = c.anchors.sigmas;
        below = λ j l. ltb-true _ _ (each_at (λ j. ltb (index_at p.anchors j) p.n) p.anchors.count (left-true b4 b5 h4) j l);
      };
      links = record {
        indices = c.links.indices;
        values = c.links.values;
        sigmas = c.links.sigmas;
        below = λ j l. ltb-true _ _ (each_at (λ j. ltb (index_at p.links j) (p.n - 1)) p.links.count (right-true b4 b5 h4) j l);
      };
      origin = origin-small p some e4;
    }

pub ready : (p : Trajectory) (r w : List ℕ) → counts_ok p (length r) (length w) ≡ true → records_ok p ≡ true → track_ok p ≡ true → Ready p w r
ready p r w e2 e4 e6 = let c = counted p (length r) (length w) e2 in record { valid = valid p (length r) (length w) c e4 e6; work = c.work; result = c.result }
