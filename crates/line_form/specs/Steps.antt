-- What the functions that split, read and print return, in between. No promise to a caller names these. Definitions only.
use Rattle.std.specs.Prelude.{Result, Ok, Err, Option, Some, None, IfSome, MatchOption, Bool, false}
use Rattle.numeric.specs.declared.refusal.Refusal.{Refusal}
use Rattle.tdcp.specs.declared.displacement.Delta.{Delta}
use Rattle.std.specs.Prelude.{ℕ, ◌+◌, ◌-◌, ◌≤◌, ◌<◌, min, suc, ◌≡◌, true, ◌&&◌, not, cond, List, [], ◌∷◌, ◌++◌, length, get_or, take, drop, ℤ, Float, T, eqb}
use Rattle.line_form.specs.Split.{field, split}
use Rattle.line_form.specs.Line.{eleven}
use Rattle.std.specs.Float.Ieee.{is_nan}
use Rattle.records.specs.Steps.{Laid}
use Rattle.numeric.specs.declared.vec3.Vec3.{Vec3}
use Rattle.records.specs.declared.record.Carrier.{Carrier}
use Rattle.records.specs.declared.record.Epoch.{Epoch}
use Rattle.tdcp.specs.declared.displacement.Settings.{Settings}
use Rattle.line_form.specs.Field.{is_number, number}
use Rattle.line_form.specs.Text.{is_record, records_form, with_carrier, previous_after, current_after, previous_from, current_from, displacement_in, no_carriers}
use Rattle.line_form.specs.declared.text.Next.{Next}
use Rattle.line_form.specs.Print.{line_text, float_text}
use Rattle.numeric.specs.declared.refusal.Refusal.TheVariants.{BrokenForm}
use Rattle.tdcp.specs.Displacement.{general, displacement_of}

-- ---- splitting

-- how many bytes come before the first c
unfoldable pub count_before : ℕ → List ℕ → ℕ
count_before c [] = 0
count_before c (b ∷ s) = cond (eqb b c) 0 (suc (count_before c s))

-- the field k stands from its place up to the byte before the next field's place
pub record Part (line from : List ℕ) (k : ℕ) : Type 0 where
  pub order : get_or from k 0 < get_or from (k + 1) 0
  pub end : get_or from (k + 1) 0 ≤ length line + 1
  pub bytes : take (get_or from (k + 1) 0 - 1 - get_or from k 0) (drop (get_or from k 0) line) ≡ field line k

-- so do all eleven
pub record Parted (line from : List ℕ) : Type 0 where
  pub part : (k : ℕ) → k < 11 → Part line from k

abbrev pub FieldsOf : List ℕ → Option (List ℕ) → Type 0
FieldsOf line r = MatchOption r (eleven line ≡ false) (λ from. (eleven line ≡ true) × Parted line from)

-- ---- printing

-- a NaN has no pattern of its own; an accepted displacement has none (tdcp, `Accepted`)
abbrev pub Numbers : Vec3 → Type 0
Numbers v = (T (not (is_nan v.x))) × (T (not (is_nan v.y))) × (T (not (is_nan v.z)))

abbrev pub Printable : Result Delta Refusal → Type 0
Printable (Err r) = Unit {0}
Printable (Ok d) = Numbers d.delta

-- the last three fields
abbrev pub vector_text : Vec3 → List ℕ
vector_text v = line_text (float_text v.x) (float_text v.y ∷ float_text v.z ∷ [])

-- d with the bytes bs written from place at on
abbrev pub overwritten : List ℕ → ℕ → List ℕ → List ℕ
overwritten d at bs = take at d ++ bs ++ drop (at + length bs) d

-- a was d, the bytes bs were written at, and the next place is r
pub record PutBytes (d a : List ℕ) (at : ℕ) (bs : List ℕ) (r : ℕ) : Type 0 where
  pub bytes : a ≡ overwritten d at bs
  pub next : r ≡ at + length bs
  pub room : r ≤ length d

-- ---- reading

-- what is said, where it has its form
abbrev pub formed : {A : Type 0} → Bool → A → Option A
formed form x = cond form (Some x) None

-- the displacement of the epochs that lines make
unfoldable pub lines_displacement : List (List ℕ) → Float → Vec3 → Settings → Result Delta Refusal
lines_displacement ls dt receiver settings = cond (records_form ls) (displacement_of (general (previous_from no_carriers ls) (current_from no_carriers ls) dt receiver settings)) (Err BrokenForm)

pub record ReadsNumber (limit : ℕ) (s : List ℕ) (r : Option ℕ) : Type 0 where
  pub reads : r ≡ formed (is_number limit s) (number limit s)
  pub below : IfSome r (λ n. n < limit)

-- the count is that of the epoch e, and the signals, states and floats hold as many of its carriers as they have room for
pub record HoldsEpoch (e : Epoch) (n : ℕ) (ss : List ℕ) (ts : List ℤ) (fs : List Float) : Type 0 where
  pub count-is : n ≡ e.count
  pub laid : Laid e.carriers (min n 64) ss ts fs

-- one carrier more of whatever epoch they hold
pub record Keeps (c : Carrier) (n r : ℕ) (ss : List ℕ) (ts : List ℤ) (fs : List Float) (ss' : List ℕ) (ts' : List ℤ) (fs' : List Float) : Type 0 where
  pub kept : (e : Epoch) → length e.carriers ≡ 64 → HoldsEpoch e n ss ts fs → HoldsEpoch (with_carrier e c) r ss' ts' fs'

-- the rest of a text from a place on, by its first line and the rest after that
pub record ReadsNext (s : List ℕ) (at : ℕ) (r : Next) : Type 0 where
  pub onward : at < r.at
  pub within : r.at ≤ length s
  pub form : records_form (split 10 (drop at s)) ≡ (is_record r.line && records_form (split 10 (drop r.at s)))
  pub past : is_record r.line ≡ true → (e : Epoch) → previous_from e (split 10 (drop at s)) ≡ previous_from (previous_after e r.line) (split 10 (drop r.at s))
  pub present : is_record r.line ≡ true → (e : Epoch) → current_from e (split 10 (drop at s)) ≡ current_from (current_after e r.line) (split 10 (drop r.at s))

-- the displacement of the lines s; it can be printed
pub record LinesDisplace (s : List ℕ) (dt : Float) (receiver : Vec3) (settings : Settings) (r : Result Delta Refusal) : Type 0 where
  pub answer : r ≡ lines_displacement (split 10 s) dt receiver settings
  pub printable : Printable r

-- the displacement that the text asks for; it can be printed
pub record Displaces (text : List ℕ) (r : Result Delta Refusal) : Type 0 where
  pub answer : r ≡ displacement_in text
  pub printable : Printable r
