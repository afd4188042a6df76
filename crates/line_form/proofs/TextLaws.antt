-- The lines of a text, and the loop over them. Assumes nothing.
use Rattle.std.specs.Prelude.{Result, Ok, Err, Option, Some, None}
use Rattle.numeric.specs.declared.refusal.Refusal.{Refusal}
use Rattle.tdcp.specs.declared.displacement.Delta.{Delta}
use mathlib.Core.Path.{◌≡◌, refl, sym, ap, ◌∙◌}
use mathlib.Core.Bool.{Bool, true, false, cond, not, ◌&&◌, ◌||◌}
use mathlib.Core.List.{List, [], ◌∷◌}
use Prim.Native.Nat.{ℕ, min, ◌+◌, ◌-◌, ◌≤◌, ◌<◌}
use native.Mathlib.Omega.{arith}
use lib.Dec.{T, ltb}
use borrow.Author.Tests.{lt-ltb, le-ltb}
use lib.ListN.{length, get_or, take, drop, set, length-set}
use lib.Seq.{set_out, get_or-set_same, get_or-set_other}
use lib.IntN.{ℤ}
use lib.Ieee.{Float, is_nan, nan, inf, fin}
use lib.Ieee.Scale.{finite}
use Rattle.lists.specs.Walk.{fold}
use Rattle.lists.proofs.Walk.{places-all, places-take}
use Rattle.numeric.specs.declared.vec3.Vec3.{Vec3}
use Rattle.numeric.specs.declared.refusal.Refusal.TheVariants.{TooMany, BrokenForm}
use Rattle.records.specs.Record.{counted_carriers}
use Rattle.records.specs.Signals.{epoch_in, SignalsFit}
use Rattle.records.specs.Steps.{Put, Laid}
use Rattle.records.specs.declared.record.Carrier.{Carrier}
use Rattle.records.specs.declared.record.Epoch.{Epoch}
use Rattle.records.specs.declared.pair.Profile.TheVariants.{General}
use Rattle.records.proofs.RecordLaws.{blank}
use Rattle.records.proofs.PutLaws.{laid_next}
use Rattle.records.proofs.EpochLaws.{cut-count, cut_fits, cut-is}
use Rattle.tdcp.specs.Displacement.{Input, general, displacement_of, Promised}
use Rattle.tdcp.specs.declared.displacement.Settings.{Settings}
use Rattle.tdcp.specs.declared.displacement.Interval.TheVariants.{Seconds}
use Rattle.tdcp.proofs.CountedLaws.{displacement-counted}
use Rattle.tdcp.proofs.DisplacementCall.{too_many}
use Rattle.line_form.specs.Split.{split}
use Rattle.line_form.specs.Steps.{count_before, formed, lines_displacement, Printable, HoldsEpoch, Keeps, ReadsNext, LinesDisplace, Displaces}
use Rattle.line_form.specs.Line.{is_settings, given_in, line_of}
use Rattle.line_form.specs.Text.{is_record, records_form, lines_form, is_text, no_carriers, with_carrier, previous_after, current_after, previous_from, current_from, input_in, text_input, displacement_in}
use Rattle.line_form.specs.declared.line.Given.{Given}
use Rattle.line_form.specs.declared.line.Line.{Line}
use Rattle.line_form.specs.declared.line.Line.TheVariants.{Previous, Current, Broken}
use Rattle.line_form.specs.declared.text.Next.{Next}
use Rattle.line_form.proofs.FieldLaws.{formed-no, formed-yes}
use Rattle.line_form.proofs.SplitLaws.{left_end, left_at, split-some, part-last, part-next}

-- ---- one carrier more, with room and without

module _ (c : Carrier) (n : ℕ) {ss : List ℕ} {ts : List ℤ} {fs : List Float} where
  -- what stood before the new carrier stands there still
  before : (xs : List Carrier) → Laid xs n ss ts fs → Laid (set xs n c) n ss ts fs
  before xs h =
      record {
        signals-long = h.signals-long;
        states-long = h.states-long;
        floats-long = h.floats-long;
        small = h.small;
        all = λ i l d. h.all i l d ∙ sym (get_or-set_other xs n i c d (omega arith));
      }

  pub keeps-room : {r : ℕ} {ss' : List ℕ} {ts' : List ℤ} {fs' : List Float} → n < 64 → r ≡ n + 1 → Put c n ss ts fs ss' ts' fs' → Keeps c n r ss ts fs ss' ts' fs'
  unfolding with_carrier
  keeps-room {r} {ss'} {ts'} {fs'} l e p = record { kept = go }
    where
      go : (x : Epoch) → length x.carriers ≡ 64 → HoldsEpoch x n ss ts fs → HoldsEpoch (record { count = x.count + 1; carriers = set x.carriers x.count c }) r ss' ts' fs'
      go x long h =
          let few : min n 64 ≡ n = omega arith in
          let few' : min r 64 ≡ n + 1 = omega arith in
          let old : Laid x.carriers n ss ts fs = rw few at h.laid in
          let new : Laid (set x.carriers n c) (n + 1) ss' ts' fs' = laid_next (before x.carriers old) (λ d. sym (get_or-set_same x.carriers n c d (omega (arith, long)))) p in
          record { count-is = omega (arith, h.count-is); laid = rw (← h.count-is, few') new }

  pub keeps-full : {r : ℕ} → 64 ≤ n → r ≡ n + 1 → Keeps c n r ss ts fs ss ts fs
  unfolding with_carrier
  keeps-full {r} l e = record { kept = go }
    where
      go : (x : Epoch) → length x.carriers ≡ 64 → HoldsEpoch x n ss ts fs → HoldsEpoch (record { count = x.count + 1; carriers = set x.carriers x.count c }) r ss ts fs
      go x long h =
          let full : min n 64 ≡ 64 = omega arith in
          let full' : min r 64 ≡ 64 = omega arith in
          let old : Laid x.carriers 64 ss ts fs = rw full at h.laid in
          record { count-is = omega (arith, h.count-is); laid = rw (full', set_out x.carriers x.count c (omega (arith, long, h.count-is))) old }

-- ---- a line before others

records-cons : (l : List ℕ) (ls : List (List ℕ)) → 0 < length ls → records_form (l ∷ ls) ≡ (is_record (line_of l) && records_form ls)
unfolding records_form
records-cons l [] h = absurd (omega arith)
records-cons l (m ∷ ls) h = refl

-- ---- the line at a place
module _ (s : List ℕ) (at : ℕ) (within : at < length s) (r : ℕ) (is : r ≡ at + count_before 10 (drop at s)) where
  -- a last line without LF
  pub next-cut : r ≡ length s → ReadsNext s at (record { line = Broken; at = length s })
  unfolding records_form
  next-cut e =
      record {
        onward = within;
        within = omega arith;
        form = ap records_form (part-last 10 s at r (omega (arith, within)) is e) ∙ ap (λ (t : List ℕ). records_form (t ∷ [])) (left_at s at within);
        past = λ h. absurd (no h);
        present = λ h. absurd (no h);
      }
    where
      no : false ≡ true → ⊥
      no h = let z : ◌≡◌ {A = ℕ} 0 1 = cc in omega arith

  module _ (l : r < length s) (x : Line) (e : x ≡ line_of (take (r - at) (drop at s))) where
    parts : split 10 (drop at s) ≡ take (r - at) (drop at s) ∷ split 10 (drop (r + 1) s)
    parts = part-next 10 s at r (omega (arith, within)) is l

    pub next-is : ReadsNext s at (record { line = x; at = r + 1 })
    unfolding fold
    next-is =
        record {
          onward = omega arith;
          within = omega arith;
          form =
              ap records_form parts ∙ records-cons (take (r - at) (drop at s)) (split 10 (drop (r + 1) s)) (split-some 10 (drop (r + 1) s))
              ∙ sym (ap (λ (y : Line). is_record y && records_form (split 10 (drop (r + 1) s))) e);
          past = λ h p. ap (previous_from p) parts ∙ sym (ap (λ (y : Line). previous_from (previous_after p y) (split 10 (drop (r + 1) s))) e);
          present = λ h p. ap (current_from p) parts ∙ sym (ap (λ (y : Line). current_from (current_after p y) (split 10 (drop (r + 1) s))) e);
        }

-- ---- the loop, from f on: what is left to do of the epochs so far, which stand in signals, states and floats

pub record Going (s : List ℕ) (f at m n : ℕ) (ss : List ℕ) (ts : List ℤ) (fs : List Float) (ss' : List ℕ) (ts' : List ℤ) (fs' : List Float) : Type 0 where
  pub previous : Epoch
  pub current : Epoch
  pub within : at ≤ length s
  pub few : m ≤ at
  pub few' : n ≤ at
  pub room : length previous.carriers ≡ 64
  pub room' : length current.carriers ≡ 64
  pub held : HoldsEpoch previous m ss ts fs
  pub held' : HoldsEpoch current n ss' ts' fs'
  pub form : records_form (split 10 (drop at s)) ≡ records_form (split 10 (drop f s))
  pub past : previous_from previous (split 10 (drop at s)) ≡ previous_from no_carriers (split 10 (drop f s))
  pub present : current_from current (split 10 (drop at s)) ≡ current_from no_carriers (split 10 (drop f s))

nothing : {ss : List ℕ} {ts : List ℤ} {fs : List Float} → length ss ≡ 64 → length ts ≡ 64 → length fs ≡ 384 → HoldsEpoch no_carriers 0 ss ts fs
unfolding no_carriers
nothing a b c = record { count-is = refl; laid = record { signals-long = a; states-long = b; floats-long = c; small = λ i l. absurd (omega arith); all = λ i l d. absurd (omega arith) } }

-- the first n signals with their states and floats count what the epoch counts
cut-counted : (e : Epoch) {n : ℕ} {ss : List ℕ} {ts : List ℤ} {fs : List Float} → Laid e.carriers n ss ts fs → n ≤ 64 → n ≡ e.count → length e.carriers ≡ 64 → counted_carriers (epoch_in (take n ss) ts fs) ≡ counted_carriers e
cut-counted e {n} {ss} {ts} {fs} h few is long =
    let g : ℕ → Carrier = λ k. get_or e.carriers k blank in
    ap counted_carriers (cut-is ss ts fs n h.signals-long few g (λ k l. h.all k l blank))
    ∙ places-all g n
    ∙ places-take e.carriers blank n (omega (arith, few, long))
    ∙ ap (λ (k : ℕ). take k e.carriers) is

room-none : length no_carriers.carriers ≡ 64
unfolding no_carriers
room-none = refl

pub going_start : (s : List ℕ) (f : ℕ) {ss : List ℕ} {ts : List ℤ} {fs : List Float} {ss' : List ℕ} {ts' : List ℤ} {fs' : List Float} → f ≤ length s
    → length ss ≡ 64 → length ts ≡ 64 → length fs ≡ 384 → length ss' ≡ 64 → length ts' ≡ 64 → length fs' ≡ 384 → Going s f f 0 0 ss ts fs ss' ts' fs'
going_start s f h a b c a' b' c' =
    record {
      previous = no_carriers;
      current = no_carriers;
      within = h;
      few = omega arith;
      few' = omega arith;
      room = room-none;
      room' = room-none;
      held = nothing a b c;
      held' = nothing a' b' c';
      form = refl;
      past = refl;
      present = refl;
    }

module _ {s : List ℕ} {f at m n : ℕ} {ss : List ℕ} {ts : List ℤ} {fs : List Float} {ss' : List ℕ} {ts' : List ℤ} {fs' : List Float} (inv : Going s f at m n ss ts fs ss' ts' fs') where
  -- the end: nothing after the last LF
  module _ (l : length s ≤ at) where
    pub going-form : records_form (split 10 (drop f s)) ≡ true
    unfolding records_form split
    going-form = sym inv.form ∙ ap (λ (t : List ℕ). records_form (split 10 t)) (left_end s at l)

    pub going-past : previous_from no_carriers (split 10 (drop f s)) ≡ inv.previous
    unfolding fold split line_of
    going-past = sym inv.past ∙ ap (λ (t : List ℕ). previous_from inv.previous (split 10 t)) (left_end s at l)

    pub going-present : current_from no_carriers (split 10 (drop f s)) ≡ inv.current
    unfolding fold split line_of
    going-present = sym inv.present ∙ ap (λ (t : List ℕ). current_from inv.current (split 10 t)) (left_end s at l)

  module _ {x : Next} (read : ReadsNext s at x) where
    pub going-broken : x.line ≡ Broken → records_form (split 10 (drop f s)) ≡ false
    going-broken b = sym inv.form ∙ read.form ∙ ap (λ (y : Line). is_record y && records_form (split 10 (drop x.at s))) b

    going-form-on : is_record x.line ≡ true → records_form (split 10 (drop x.at s)) ≡ records_form (split 10 (drop f s))
    going-form-on h = sym (ap (λ (b : Bool). b && records_form (split 10 (drop x.at s))) h) ∙ sym read.form ∙ inv.form

    pub going-previous : (c : Carrier) → x.line ≡ Previous c → {r : ℕ} {ss'' : List ℕ} {ts'' : List ℤ} {fs'' : List Float} → Keeps c m r ss ts fs ss'' ts'' fs'' → Going s f x.at r n ss'' ts'' fs'' ss' ts' fs'
    unfolding with_carrier
    going-previous c e k =
        let h : is_record x.line ≡ true = ap is_record e in
        let now = k.kept inv.previous inv.room inv.held in
        record {
          previous = with_carrier inv.previous c;
          current = inv.current;
          within = read.within;
          few = omega (arith, inv.few, read.onward, inv.held.count-is, now.count-is);
          few' = omega (arith, inv.few', read.onward);
          room = length-set inv.previous.carriers inv.previous.count c ∙ inv.room;
          room' = inv.room';
          held = now;
          held' = inv.held';
          form = going-form-on h;
          past = sym (ap (λ (y : Line). previous_from (previous_after inv.previous y) (split 10 (drop x.at s))) e) ∙ sym (read.past h inv.previous) ∙ inv.past;
          present = sym (ap (λ (y : Line). current_from (current_after inv.current y) (split 10 (drop x.at s))) e) ∙ sym (read.present h inv.current) ∙ inv.present;
        }

    pub going-current : (c : Carrier) → x.line ≡ Current c → {r : ℕ} {ss'' : List ℕ} {ts'' : List ℤ} {fs'' : List Float} → Keeps c n r ss' ts' fs' ss'' ts'' fs'' → Going s f x.at m r ss ts fs ss'' ts'' fs''
    unfolding with_carrier
    going-current c e k =
        let h : is_record x.line ≡ true = ap is_record e in
        let now = k.kept inv.current inv.room' inv.held' in
        record {
          previous = inv.previous;
          current = with_carrier inv.current c;
          within = read.within;
          few = omega (arith, inv.few, read.onward);
          few' = omega (arith, inv.few', read.onward, inv.held'.count-is, now.count-is);
          room = inv.room;
          room' = length-set inv.current.carriers inv.current.count c ∙ inv.room';
          held = inv.held;
          held' = now;
          form = going-form-on h;
          past = sym (ap (λ (y : Line). previous_from (previous_after inv.previous y) (split 10 (drop x.at s))) e) ∙ sym (read.past h inv.previous) ∙ inv.past;
          present = sym (ap (λ (y : Line). current_from (current_after inv.current y) (split 10 (drop x.at s))) e) ∙ sym (read.present h inv.current) ∙ inv.present;
        }

-- ---- the whole text

pub refused : (s : List ℕ) → is_text s ≡ false → Displaces s (Err BrokenForm)
unfolding displacement_in
refused s e = record { answer = sym (ap (λ (t : Bool). cond t (displacement_of (text_input s)) (Err BrokenForm)) e); printable = tt }

pub text-long : (s : List ℕ) → 32768 < length s → is_text s ≡ false
unfolding is_text
text-long s l = simp (lt-ltb _ _ l)

and-false : (t : Bool) → (t && false) ≡ false
and-false true = refl
and-false false = refl

-- a finite float is no NaN
number : (x : Float) → T (finite x) → T (not (is_nan x))
unfolding is_nan
number nan h = h
number (inf s) h = tt
number (fin s m k) h = tt

printable : (i : Input) (r : Result Delta Refusal) → Promised i r → Printable r
printable i (Err x) p = tt
printable i (Ok d) p =
    let a = p.accepted d refl in
    (number d.delta.x a.x-finite, number d.delta.y a.y-finite, number d.delta.z a.z-finite)

-- ---- the lines from f on
module _ (s : List ℕ) (f : ℕ) (dt : Float) (receiver : Vec3) (settings : Settings) where
  pub lines-broken : records_form (split 10 (drop f s)) ≡ false → LinesDisplace (drop f s) dt receiver settings (Err BrokenForm)
  unfolding lines_displacement
  lines-broken e = record { answer = rw e; printable = tt }

  module _ {at m n : ℕ} {ss : List ℕ} {ts : List ℤ} {fs : List Float} {ss' : List ℕ} {ts' : List ℤ} {fs' : List Float} (inv : Going s f at m n ss ts fs ss' ts' fs') (l : length s ≤ at) where
    -- what is handed over
    abbrev i : Input
    i = general inv.previous inv.current dt receiver settings

    answered : {d : Result Delta Refusal} → d ≡ displacement_of i → Printable d → LinesDisplace (drop f s) dt receiver settings d
    unfolding lines_displacement
    answered e p = record { answer = rw (going-form inv l, going-past inv l, going-present inv l) e; printable = p }

    pub lines-many : (ltb 64 m || ltb 64 n) ≡ true → LinesDisplace (drop f s) dt receiver settings (Err TooMany)
    lines-many e = answered (too_many i (rw (← inv.held.count-is, ← inv.held'.count-is) e)) tt

    module _ (few : m ≤ 64) (few' : n ≤ 64) where
      laid : Laid inv.previous.carriers m ss ts fs
      laid = let e : min m 64 ≡ m = omega arith in rw e at inv.held.laid

      laid' : Laid inv.current.carriers n ss' ts' fs'
      laid' = let e : min n 64 ≡ n = omega arith in rw e at inv.held'.laid

      pub cut-room : length (take m ss) ≡ m
      cut-room = cut-count ss ts fs m laid.signals-long few

      pub cut-room' : length (take n ss') ≡ n
      cut-room' = cut-count ss' ts' fs' n laid'.signals-long few'

      pub fits : SignalsFit (take m ss) ts fs
      fits = cut_fits ss ts fs m laid.signals-long few (omega (arith, laid.states-long)) (omega (arith, laid.floats-long)) laid.small

      pub fits' : SignalsFit (take n ss') ts' fs'
      fits' = cut_fits ss' ts' fs' n laid'.signals-long few' (omega (arith, laid'.states-long)) (omega (arith, laid'.floats-long)) laid'.small

      pub lines_are : (d : Result Delta Refusal) → Promised (general (epoch_in (take m ss) ts fs) (epoch_in (take n ss') ts' fs') dt receiver settings) d → LinesDisplace (drop f s) dt receiver settings d
      lines_are d p =
          answered
          (p.answer
          ∙ displacement-counted _ inv.previous _ inv.current (Seconds dt) receiver settings General
          (cut-room ∙ inv.held.count-is) (cut-room' ∙ inv.held'.count-is)
          (cut-counted inv.previous laid few inv.held.count-is inv.room) (cut-counted inv.current laid' few' inv.held'.count-is inv.room'))
          (printable _ d p)

module _ (s : List ℕ) (h : length s ≤ 32768) (r : ℕ) (is : r ≡ 0 + count_before 10 (drop 0 s)) where
  inside : is_text s ≡ lines_form (split 10 s)
  unfolding is_text
  inside = simp (le-ltb _ _ h)

  pub text-one : r ≡ length s → is_text s ≡ false
  unfolding records_form
  text-one e = inside ∙ ap lines_form (part-last 10 s 0 r (omega arith) is e) ∙ and-false (is_settings s)

  module _ (l : r < length s) (x : Option Given) (e : x ≡ formed (is_settings (take r s)) (given_in (take r s))) where
    lines : split 10 s ≡ take r s ∷ split 10 (drop (r + 1) s)
    lines =
        let z : r - 0 ≡ r = omega arith in
        part-next 10 s 0 r (omega arith) is l ∙ ap (λ (n : ℕ). take n s ∷ split 10 (drop (r + 1) s)) z

    text-form : is_text s ≡ (is_settings (take r s) && records_form (split 10 (drop (r + 1) s)))
    text-form = inside ∙ ap lines_form lines

    pub text-first : x ≡ None → is_text s ≡ false
    text-first b = text-form ∙ ap (λ (t : Bool). t && records_form (split 10 (drop (r + 1) s))) (formed-no _ _ (sym b ∙ e))

    module _ (g : Given) (b : x ≡ Some g) where
      first : (is_settings (take r s) ≡ true) × (g ≡ given_in (take r s))
      first = formed-yes _ _ _ (sym b ∙ e)

      -- the displacement of the lines after the first
      pub text-is : (d : Result Delta Refusal) → LinesDisplace (drop (r + 1) s) g.dt g.receiver g.settings d → Displaces s d
      unfolding displacement_in text_input lines_displacement
      text-is d y =
          let ls = split 10 (drop (r + 1) s) in
          let f : is_text s ≡ records_form ls = text-form ∙ ap (λ (t : Bool). t && records_form ls) first.0 in
          let i : general (previous_from no_carriers ls) (current_from no_carriers ls) g.dt g.receiver g.settings ≡ text_input s =
          sym (ap (λ (v : List (List ℕ)). input_in (get_or v 0 []) (drop 1 v)) lines
          ∙ ap (λ (a : Given). general (previous_from no_carriers ls) (current_from no_carriers ls) a.dt a.receiver a.settings) (sym first.1)) in
          record {
            answer = y.answer ∙ ap (λ (v : Input). cond (records_form ls) (displacement_of v) (Err BrokenForm)) i ∙ sym (ap (λ (t : Bool). cond t (displacement_of (text_input s)) (Err BrokenForm)) f);
            printable = y.printable;
          }
