-- Every correction that a sound table gives is finite. Assumes nothing.
use Rattle.std.specs.Prelude.{Result, Ok, Err}
use Rattle.numeric.specs.declared.refusal.Refusal.{Refusal}
use mathlib.Core.Path.{◌≡◌, refl, sym, ap, ◌∙◌}
use mathlib.Core.List.{List, [], ◌∷◌}
use mathlib.Core.Bool.{Bool, true, false, cond, not, ◌&&◌, beq, true≢false}
use Prim.Native.Nat.{ℕ, suc, ◌+◌, ◌*◌, ◌^◌, ◌-◌, ◌≤◌, ◌<◌}
use native.Mathlib.Nat.{le_trans, le_of_eq, mul_comm, mul_assoc, mul_right_comm, mul-le-mul_right, mul-pos, le_of_mul-le-mul_right, mul-sub}
use native.Mathlib.Omega.{arith}
use lib.Dec.{T, ltb, eqb, lit≤}
use borrow.Author.Tests.{ltb-true, ltb-false, lt-ltb, le-ltb, not-true}
use lib.IntN.{ℤ}
use lib.Pow.{pow_pos}
use lib.ListN.{length, get_or}
use lib.Ieee.{Float, nan, inf, fin, lt, le, below, fits, binary64, up, down, round, sum, sub}
use lib.Ieee.Fits.{down_pos}
use lib.Ieee.Order.{round_mono}
use lib.Ieee.Scale.{round_same, finite}
use lib.Ieee.Positive.{positive, above, above_of_le, le→cross}
use Rattle.exact.specs.Float.{◌⊖◌, ◌⊗◌, ◌⊘◌}
use Rattle.numeric.specs.Real.{in_range}
use Rattle.numeric.specs.declared.refusal.Refusal.TheVariants.{NoCorrection}
use Rattle.corrections_table.specs.Table.{blank, series_of, signal_of, sound_table}
use Rattle.corrections_query.specs.Query.{GivesFinite, Found, answer_in, first_of, last_of, line, missing, near, near_or, correction_rule, spanned, the, through}
use Rattle.corrections_table.specs.declared.sample.Sample.{Sample}
use Rattle.numeric.proofs.RealLaws.{in-range-finite}
use Rattle.corrections_table.proofs.UnitLaws.{units, lt-is, units-exact, down_le, cross, never}
use Rattle.corrections_table.proofs.SmallLaws.{Small, small-finite, Up, round_up, at_most, add_small, sub_small, mul_small, div-small, range_small}
use Rattle.corrections_table.proofs.TableLaws.{and_right, sound-at}
use Rattle.corrections_query.proofs.FoundLaws.{earlier, later, earlier_series, later_series}
use Rattle.corrections_query.proofs.QueryLaws.{TimesHeld}

-- ---- differences, in units
scale-sub : (A B p A' B' q : ℕ) → A * p ≡ A' * q → B * p ≡ B' * q → (A - B) * p ≡ (A' - B') * q
scale-sub A B p A' B' q a b =
    mul_comm (A - B) p ∙ mul-sub p A B ∙ same (p * A) (p * B) (q * A') (q * B') (mul_comm p A ∙ a ∙ mul_comm A' q) (mul_comm p B ∙ b ∙ mul_comm B' q) ∙ sym (mul_comm (A' - B') q ∙ mul-sub q A' B')
  where
    same : (w x y z : ℕ) → w ≡ y → x ≡ z → w - x ≡ y - z
    same w x y z i j = omega arith

module _ (x y de dd u w p : ℕ) (E : 0 < de) (D : 0 < dd) (P : 0 < p) (a : u * de ≡ x * p) (b : w * dd ≡ y * p) where
  first : x * dd * p ≡ u * (de * dd)
  first = mul_right_comm x dd p ∙ ap (λ (z : ℕ). z * dd) (sym a) ∙ mul_assoc u de dd

  second : y * de * p ≡ w * (de * dd)
  second = mul_right_comm y de p ∙ ap (λ (z : ℕ). z * de) (sym b) ∙ mul_assoc w dd de ∙ ap (λ (z : ℕ). w * z) (mul_comm dd de)

  both-sum : (x * dd + y * de) * p ≡ (u + w) * (de * dd)
  both-sum = native.Mathlib.Nat.add-mul (x * dd) (y * de) p ∙ join (x * dd * p) (y * de * p) (u * (de * dd)) (w * (de * dd)) first second ∙ sym (native.Mathlib.Nat.add-mul u w (de * dd))
    where
      join : (i j k l : ℕ) → i ≡ k → j ≡ l → i + j ≡ k + l
      join i j k l q r = omega arith

  sum-units : (s t : Bool) → sum binary64 s (x * dd) t (y * de) (de * dd) ≡ sum binary64 s u t w p
  unfolding sum
  sum-units s t = go (beq s t)
    where
      C : 0 < de * dd
      C = mul-pos E D

      go : (z : Bool)
          → cond z (round binary64 s (x * dd + y * de) (de * dd)) (cond (ltb (x * dd) (y * de)) (round binary64 t (y * de - x * dd) (de * dd)) (round binary64 (s && ltb (y * de) (x * dd)) (x * dd - y * de) (de * dd)))
          ≡ cond z (round binary64 s (u + w) p) (cond (ltb u w) (round binary64 t (w - u) p) (round binary64 (s && ltb w u) (u - w) p))
      go true = round_same binary64 s (x * dd + y * de) (de * dd) (u + w) p C P both-sum
      go false =
          rw (
            cross x y de dd u w p E D P a b,
            cross y x dd de w u p D E P b a,
            round_same binary64 t (y * de - x * dd) (de * dd) (w - u) p C P (scale-sub (y * de) (x * dd) p w u (de * dd) second first),
            round_same binary64 (s && ltb w u) (x * dd - y * de) (de * dd) (u - w) p C P (scale-sub (x * dd) (y * de) p u w (de * dd) first second),
          )

pub sub-units : (s : Bool) (m : ℕ) (e : ℤ) (t : Bool) (n : ℕ) (d : ℤ) → T (fits binary64 (fin s m e)) → T (fits binary64 (fin t n d)) → fin s m e ⊖ fin t n d ≡ sum binary64 s (units m e) (not t) (units n d) (2 ^ 1074)
unfolding sub
sub-units s m e t n d f g =
    sum-units (m * up e) (n * up d) (down e) (down d) (units m e) (units n d) (2 ^ 1074) (down_pos e) (down_pos d) (pow_pos 1074) (units-exact m e (down_le s m e f)) (units-exact n d (down_le t n d g)) s (not t)

-- two differences that are rounded from a / p and b / p, 0 < a ≤ b
pub record Ordered (p : ℕ) (x y : Float) : Type 0 where
  pub a : ℕ
  pub b : ℕ
  pub some : 0 < a
  pub more : a ≤ b
  pub is : x ≡ round binary64 false a p
  pub also : y ≡ round binary64 false b p

diffs : (s₀ : Bool) (u₀ : ℕ) (s : Bool) (u : ℕ) (s₁ : Bool) (u₁ p : ℕ) → below s₀ u₀ s u ≡ true → below s₁ u₁ s u ≡ false → Ordered p (sum binary64 s u (not s₀) u₀ p) (sum binary64 s₁ u₁ (not s₀) u₀ p)
unfolding sum
diffs false u₀ true u s₁ u₁ p i j = never i
diffs false u₀ false u false u₁ p i j =
    let g : u₀ < u = ltb-true u₀ u i in
    let h : u ≤ u₁ = ltb-false u₁ u j in
    record { a = u - u₀; b = u₁ - u₀; some = omega arith; more = omega arith; is = rw (le-ltb u u₀ (omega arith)); also = rw (le-ltb u₁ u₀ (omega arith)) }
diffs false u₀ false u true u₁ p i j =
    let g : u₀ < u = ltb-true u₀ u i in
    let h : u₁ + u ≤ 0 = ltb-false 0 (u₁ + u) j in
    absurd (let z : ⊥ = omega arith in z)
diffs true u₀ false u false u₁ p i j =
    let g : 0 < u₀ + u = ltb-true 0 (u₀ + u) i in
    let h : u ≤ u₁ = ltb-false u₁ u j in
    record { a = u + u₀; b = u₁ + u₀; some = omega arith; more = omega arith; is = refl; also = refl }
diffs true u₀ false u true u₁ p i j =
    let g : 0 < u₀ + u = ltb-true 0 (u₀ + u) i in
    let h : u₁ + u ≤ 0 = ltb-false 0 (u₁ + u) j in
    record { a = u + u₀; b = u₀ - u₁; some = omega arith; more = omega arith; is = refl; also = rw (lt-ltb u₁ u₀ (omega arith)) }
diffs true u₀ true u false u₁ p i j =
    let g : u < u₀ = ltb-true u u₀ i in
    record { a = u₀ - u; b = u₁ + u₀; some = omega arith; more = omega arith; is = rw (lt-ltb u u₀ g); also = refl }
diffs true u₀ true u true u₁ p i j =
    let g : u < u₀ = ltb-true u u₀ i in
    let h : u₁ ≤ u = ltb-false u u₁ j in
    record { a = u₀ - u; b = u₀ - u₁; some = omega arith; more = omega arith; is = rw (lt-ltb u u₀ g); also = rw (lt-ltb u₁ u₀ (omega arith)) }

-- the smallest positive float
one_unit : T (positive (round binary64 false 1 (2 ^ 1074)))
unfolding round
one_unit = tt

above-small : (b : ℕ) (x : Float) → T (above x) → Small b x → T (positive x)
above-small b nan p h = absurd p
above-small b (inf s) p h = absurd h
above-small b (fin true m e) p h = absurd p
above-small b (fin false m e) p h = p

rounded-positive : (k a : ℕ) → 0 < a → Small k (round binary64 false a (2 ^ 1074)) → T (positive (round binary64 false a (2 ^ 1074)))
rounded-positive k a h = above-small k (round binary64 false a (2 ^ 1074))
    (above_of_le (round binary64 false 1 (2 ^ 1074)) (round binary64 false a (2 ^ 1074)) one_unit
    (round_mono binary64 1 (2 ^ 1074) a (2 ^ 1074) (pow_pos 1074) (pow_pos 1074) (mul-le-mul_right {m = 1} {n = a} (2 ^ 1074) h)))

below-small : (k : ℕ) (x y : Float) → Up x → Up y → T (le x y) → Small k y → Small k x
unfolding le
below-small k nan y p v h g = absurd p
below-small k (inf true) y p v h g = absurd (true≢false p)
below-small k (inf false) nan p v h g = absurd h
below-small k (inf false) (inf t) p v h g = absurd g
below-small k (inf false) (fin t n d) p v h g = absurd h
below-small k (fin true m e) y p v h g = absurd (true≢false p)
below-small k (fin false m e) nan p v h g = absurd v
below-small k (fin false m e) (inf t) p v h g = absurd g
below-small k (fin false m e) (fin true n d) p v h g = absurd (true≢false v)
below-small k (fin false m e) (fin false n d) p v h g =
    let a : m * up e * down d ≤ n * up d * down e = at_most (m * up e * down d) (n * up d * down e) true h in
    le_of_mul-le-mul_right (le_trans a (le_trans (mul-le-mul_right (down e) g) (le_of_eq (mul_right_comm k (down d) (down e))))) (down_pos d)

ordered-small : (k : ℕ) (x y : Float) → Ordered (2 ^ 1074) x y → Small k y → Small 1 (x ⊘ y)
ordered-small k x y o hy =
    let ky = rw o.also at hy in
    let le = round_mono binary64 o.a (2 ^ 1074) o.b (2 ^ 1074) (pow_pos 1074) (pow_pos 1074) (mul-le-mul_right {m = o.a} {n = o.b} (2 ^ 1074) o.more) in
    let kx = below-small k (round binary64 false o.a (2 ^ 1074)) (round binary64 false o.b (2 ^ 1074)) (round_up o.a (2 ^ 1074)) (round_up o.b (2 ^ 1074)) le ky in
    let px = rounded-positive k o.a o.some kx in
    let py = rounded-positive k o.b (le_trans o.some o.more) ky in
    rw (o.is, o.also)
    (div-small (round binary64 false o.a (2 ^ 1074)) (round binary64 false o.b (2 ^ 1074)) px py
    (le→cross (round binary64 false o.a (2 ^ 1074)) (round binary64 false o.b (2 ^ 1074)) px py le))

-- ---- the line between two samples
between-ordered : (t₀ t t₁ : Float) → T (fits binary64 t₀) → T (fits binary64 t) → T (fits binary64 t₁) → Small 1000000000 t₀ → Small 1000000000 t₁ → lt t₀ t ≡ true → lt t₁ t ≡ false
    → Ordered (2 ^ 1074) (t ⊖ t₀) (t₁ ⊖ t₀)
between-ordered nan t t₁ f g h a b i j = absurd a
between-ordered (inf s) t t₁ f g h a b i j = absurd a
between-ordered (fin s m e) t nan f g h a b i j = absurd b
between-ordered (fin s m e) t (inf r) f g h a b i j = absurd b
between-ordered (fin s m e) nan (fin r k c) f g h a b i j = never (unfold lt in i)
between-ordered (fin s m e) (inf true) (fin r k c) f g h a b i j = never (unfold lt in i)
between-ordered (fin s m e) (inf false) (fin r k c) f g h a b i j = never (sym (unfold lt in j))
between-ordered (fin s m e) (fin q n d) (fin r k c) f g h a b i j =
    let o = diffs s (units m e) q (units n d) r (units k c) (2 ^ 1074) (sym (lt-is s m e q n d f g) ∙ i) (sym (lt-is r k c q n d h g) ∙ j) in
    rw (sub-units q n d s m e g f, sub-units r k c s m e h f) o

-- a sample's time is a value of the format, and its floats are in range
pub record Good (s : Sample) : Type 0 where
  pub holds : T (fits binary64 s.time)
  pub time : in_range s.time ≡ true
  pub value : in_range s.correction ≡ true

line-finite : (t : Float) (a b : Sample) → T (fits binary64 t) → Good a → Good b → lt a.time t ≡ true → lt b.time t ≡ false → finite (line t a b) ≡ true
unfolding through
line-finite t a b f g h i j =
    let ta = range_small a.time g.time in
    let tb = range_small b.time h.time in
    let o = between-ordered a.time t b.time g.holds f h.holds ta tb i j in
    let q = ordered-small 2000000000 (t ⊖ a.time) (b.time ⊖ a.time) o (sub_small 1000000000 1000000000 b.time a.time (lit≤ tt) tb ta) in
    let d = sub_small 1000000000 1000000000 b.correction a.correction (lit≤ tt) (range_small b.correction h.value) (range_small a.correction g.value) in
    small-finite 3000000000 (line t a b)
    (add_small 1000000000 2000000000 a.correction ((t ⊖ a.time) ⊘ (b.time ⊖ a.time) ⊗ (b.correction ⊖ a.correction)) (lit≤ tt) (range_small a.correction g.value)
    (mul_small 1 2000000000 ((t ⊖ a.time) ⊘ (b.time ⊖ a.time)) (b.correction ⊖ a.correction) (lit≤ tt) q d))

-- ---- whatever the table answers
abbrev All : (Sample → Type 0) → Found → Type 0
All P missing = Unit {0}
All P (the s) = P s

abbrev Passing : (Sample → Bool) → Sample → Type 0
Passing q s = Good s × (q s ≡ true)

first-all : (q : Sample → Bool) (l : List Sample) → ((j : ℕ) → j < length l → Good (get_or l j blank)) → All (Passing q) (first_of q l)
unfolding first_of
first-all q [] g = tt
first-all q (a ∷ l) g = go (q a) refl (first-all q l (λ j h. g (suc j) (omega arith)))
  where
    go : (x : Bool) → q a ≡ x → All (Passing q) (first_of q l) → All (Passing q) (cond x (the a) (first_of q l))
    go true e r = (g 0 (omega arith), e)
    go false e r = r

last-all : (q : Sample → Bool) (f : Found) (l : List Sample) → All (Passing q) f → ((j : ℕ) → j < length l → Good (get_or l j blank)) → All (Passing q) (last_of q f l)
unfolding last_of
last-all q f [] h g = h
last-all q f (a ∷ l) h g = last-all q (cond (q a) (the a) f) l (go (q a) refl) (λ j k. g (suc j) (omega arith))
  where
    go : (x : Bool) → q a ≡ x → All (Passing q) (cond x (the a) f)
    go true e = (g 0 (omega arith), e)
    go false e = h

near-finite : (q : Sample → Bool) (t : Float) (f : Found) (rest : Result Float Refusal) → All (Passing q) f → GivesFinite rest → GivesFinite (near_or t f rest)
unfolding near_or
near-finite q t missing rest i r = r
near-finite q t (the a) rest i r = go (near a.time t)
  where
    go : (x : Bool) → GivesFinite (cond x (Ok a.correction) rest)
    go true = in-range-finite a.correction i.0.value
    go false = r

spanned-finite : (g : ℕ) (gap t : Float) (a b : Found) → T (fits binary64 t) → All (Passing (earlier g t)) a → All (Passing (later g t)) b → GivesFinite (spanned gap t a b)
unfolding spanned
spanned-finite g gap t missing b f i j = tt
spanned-finite g gap t (the a) missing f i j = tt
spanned-finite g gap t (the a) (the b) f i j = go (lt gap (b.time ⊖ a.time))
  where
    go : (y : Bool) → GivesFinite (cond y (Err NoCorrection) (Ok (line t a b)))
    go true = tt
    go false = line-finite t a b f i.0 j.0 (and_right (eqb (signal_of a) g) _ i.1) (not-true _ (and_right (eqb (signal_of b) g) _ j.1))

ruled-finite : (g : ℕ) (gap t : Float) (a b : Found) → T (fits binary64 t) → All (Passing (earlier g t)) a → All (Passing (later g t)) b → GivesFinite (correction_rule gap t a b)
unfolding correction_rule
ruled-finite g gap t a b f i j = near-finite (later g t) t b (near_or t a (spanned gap t a b)) j (near-finite (earlier g t) t a (spanned gap t a b) i (spanned-finite g gap t a b f i j))

pub answer-finite : (l : List Sample) (gap : Float) (g : ℕ) (t : Float) → sound_table l ≡ true → TimesHeld l → T (fits binary64 t) → GivesFinite (answer_in (series_of g l) gap t)
unfolding answer_in TimesHeld
answer-finite l gap g t s h f =
    let r = sound-at l s in
    let good : (j : ℕ) → j < length l → Good (get_or l j blank) = λ j k. record { holds = h j k; time = r.times j k; value = r.values j k } in
    rw (earlier_series g t l, later_series g t l)
    (ruled-finite g gap t (last_of (earlier g t) missing l) (first_of (later g t) l) f (last-all (earlier g t) missing l tt good) (first-all (later g t) l good))
