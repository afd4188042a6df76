-- Forgetting within one satellite's block: all but the last of the samples at its front that are before the time go. Assumes nothing.
use mathlib.Core.Path.{◌≡◌, refl, sym, ap, ◌∙◌}
use mathlib.Core.List.{List, [], ◌∷◌}
use mathlib.Core.Bool.{Bool, true, false, cond, ◌&&◌, ◌||◌}
use Prim.Native.Nat.{ℕ, zero, suc, ◌-◌, ◌≤◌, ◌<◌}
use native.Mathlib.Omega.{arith}
use lib.Dec.{T, leb}
use lib.ListN.{drop}
use borrow.Author.Tests.{leb-true, eq-eqb}
use lib.Ieee.{Float, lt, fits, binary64}
use Rattle.lists.specs.Walk.{every}
use Rattle.numeric.specs.Real.{in_range}
use Rattle.corrections_table.specs.Table.{ranged, signal_of}
use Rattle.corrections_table.specs.declared.sample.Sample.{Sample}
use Rattle.corrections_table.proofs.Places.{time_key}
use Rattle.corrections_table.proofs.TableLaws.{and_left, and_right}
use Rattle.corrections_table.proofs.UnitLaws.{earlier-of, never}
use Rattle.corrections_directory.specs.Series.{front}
use Rattle.corrections_directory.proofs.DirectoryLaws.{keyed}
use Rattle.corrections_query.specs.Query.{sample_before}
use Rattle.corrections_query.proofs.QueryLaws.{TimesHeld}
use Rattle.corrections_forget.specs.Forget.{earlier, some, forget}

-- every time is a value of the format
unfoldable pub held_all : List Sample → Bool
held_all l = every (λ s. fits binary64 s.time) l

held-T : (b : Bool) → b ≡ true → T b
held-T true e = tt
held-T false e = never e

T-held : (b : Bool) → T b → b ≡ true
T-held true t = refl
T-held false t = absurd t

pub held_all_lem : (l : List Sample) → TimesHeld l → held_all l ≡ true
unfolding held_all TimesHeld every
held_all_lem [] h = refl
held_all_lem (s ∷ l) h = rw (T-held (fits binary64 s.time) (h 0 (omega arith))) (held_all_lem l (λ j k. h (suc j) (omega arith)))

ranged-time : (s : Sample) → ranged s ≡ true → in_range s.time ≡ true
unfolding ranged
ranged-time s e = and_left _ _ e

-- all samples are of the signal g
abbrev pub Only : ℕ → List Sample → Type 0
Only g [] = Unit {0}
Only g (s ∷ l) = (signal_of s ≡ g) × Only g l

module _ (time : Float) (ft : T (fits binary64 time)) where
  some-only : (g : ℕ) (l : List Sample) → Only g l → some (earlier g time) l ≡ some (sample_before time) l
  unfolding some
  some-only g [] o = refl
  some-only g (s ∷ l) o = rw (eq-eqb (signal_of s) g o.0, some-only g l o.1)

  -- after a sample that is not before the time, none is
  none_after : (x : Float) (l : List Sample) → fits binary64 x ≡ true → in_range x ≡ true → lt x time ≡ false → keyed (time_key x) l ≡ true → every ranged l ≡ true → held_all l ≡ true → some (sample_before time) l ≡ false
  unfolding some keyed every held_all
  none_after x [] fx rx h t r w = refl
  none_after x (s ∷ l) fx rx h t r w = go (lt s.time time) refl (λ k. none_after s.time l fs rs k (and_right (leb (time_key x) (time_key s.time)) _ t) (and_right (ranged s) _ r) (and_right (fits binary64 s.time) _ w))
    where
      fs : fits binary64 s.time ≡ true
      fs = and_left (fits binary64 s.time) (every (λ s. fits binary64 s.time) l) w

      rs : in_range s.time ≡ true
      rs = ranged-time s (and_left (ranged s) (every ranged l) r)

      le : time_key x ≤ time_key s.time
      le = leb-true (time_key x) (time_key s.time) (and_left (leb (time_key x) (time_key s.time)) (keyed (time_key s.time) l) t)

      go : (y : Bool) → lt s.time time ≡ y → (lt s.time time ≡ false → some (sample_before time) l ≡ false) → (y || some (sample_before time) l) ≡ false
      go true k ih = never (sym h ∙ earlier-of x s.time time (held-T (fits binary64 x) fx) (held-T (fits binary64 s.time) fs) ft rx rs le k)
      go false k ih = ih k

  -- where none is before the time, nothing goes
  none-goes : (l : List Sample) → some (sample_before time) l ≡ false → forget time l ≡ l
  unfolding forget some
  none-goes [] h = refl
  none-goes (s ∷ l) h = go (sample_before time s) h (none-goes l)
    where
      go : (x : Bool) → (x || some (sample_before time) l) ≡ false → (some (sample_before time) l ≡ false → forget time l ≡ l) → cond (x && some (earlier (signal_of s) time) l) (forget time l) (s ∷ forget time l) ≡ s ∷ l
      go true k ih = never (sym k)
      go false k ih = ap (λ (m : List Sample). s ∷ m) (ih k)

  front-none : (l : List Sample) → some (sample_before time) l ≡ false → front time l ≡ 0
  unfolding front some
  front-none [] h = refl
  front-none (s ∷ l) h = go (sample_before time s) h
    where
      go : (x : Bool) → (x || some (sample_before time) l) ≡ false → cond x (suc (front time l)) 0 ≡ 0
      go true k = never (sym k)
      go false k = refl

  front-some : (k : ℕ) (l : List Sample) → keyed k l ≡ true → every ranged l ≡ true → held_all l ≡ true → some (sample_before time) l ≡ true → 0 < front time l
  unfolding front some keyed every held_all
  front-some k [] t r w h = never h
  front-some k (s ∷ l) t r w h = go (sample_before time s) refl h
    where
      go : (x : Bool) → sample_before time s ≡ x → (x || some (sample_before time) l) ≡ true → 0 < cond x (suc (front time l)) 0
      go true q k = omega arith
      go false q k =
          never
          (sym
          (none_after s.time l (and_left (fits binary64 s.time) (every (λ s. fits binary64 s.time) l) w) (ranged-time s (and_left (ranged s) (every ranged l) r)) q
          (and_right (leb _ (time_key s.time)) (keyed (time_key s.time) l) t) (and_right (ranged s) (every ranged l) r) (and_right (fits binary64 s.time) (every (λ s. fits binary64 s.time) l) w))
          ∙ k)

  -- the forgotten block: what goes is at its front, and the block never empties
  pub forget-block : (g k : ℕ) (l : List Sample) → Only g l → keyed k l ≡ true → every ranged l ≡ true → held_all l ≡ true → forget time l ≡ drop (front time l - 1) l
  unfolding forget front keyed every held_all
  forget-block g k [] o t r w = refl
  forget-block g k (s ∷ l) o t r w = go (sample_before time s) (some (sample_before time) l) refl refl (forget-block g (time_key s.time) l o.1 tl rl fl)
    where
      tl : keyed (time_key s.time) l ≡ true
      tl = and_right (leb k (time_key s.time)) (keyed (time_key s.time) l) t

      rl : every ranged l ≡ true
      rl = and_right (ranged s) (every ranged l) r

      fl : held_all l ≡ true
      fl = and_right (fits binary64 s.time) (every (λ s. fits binary64 s.time) l) w

      some_is : some (earlier (signal_of s) time) l ≡ some (sample_before time) l
      some_is = ap (λ (h : ℕ). some (earlier h time) l) o.0 ∙ some-only g l o.1

      go : (x y : Bool) → sample_before time s ≡ x → some (sample_before time) l ≡ y → forget time l ≡ drop (front time l - 1) l
          → cond (x && some (earlier (signal_of s) time) l) (forget time l) (s ∷ forget time l) ≡ drop (cond x (suc (front time l)) 0 - 1) (s ∷ l)
      go true true q h ih =
          let p : 0 < front time l = front-some (time_key s.time) l tl rl fl h in
          rw (some_is, h) (ih ∙ fewer (front time l) p)
        where
          fewer : (n : ℕ) → 0 < n → drop (n - 1) l ≡ drop (suc n - 1) (s ∷ l)
          fewer zero z = absurd (omega arith)
          fewer (suc n) z = let a : suc n - 1 ≡ n = omega arith in let b : suc (suc n) - 1 ≡ suc n = omega arith in rw (a, b)
      go true false q h ih =
          let z : suc (front time l) - 1 ≡ 0 = omega (arith, front-none l h) in
          rw (some_is, h, z) (ap (λ (m : List Sample). s ∷ m) (none-goes l h))
      go false y q h ih =
          let n : some (sample_before time) l ≡ false =
          none_after s.time l (and_left (fits binary64 s.time) (every (λ s. fits binary64 s.time) l) w) (ranged-time s (and_left (ranged s) (every ranged l) r)) q tl rl fl in
          ap (λ (m : List Sample). s ∷ m) (none-goes l n)
