-- Request (x): queries after any list of added epochs and drops on one caller's table. Assumes nothing.
use Rattle.std.specs.Prelude.{Result, Float}
use Rattle.numeric.specs.declared.refusal.Refusal.{Refusal}
use mathlib.Core.Path.{◌≡◌, refl, sym, ap, subst, ◌∙◌}
use mathlib.Core.List.{List, [], ◌∷◌}
use mathlib.Core.Bool.{Bool, true, false}
use Prim.Native.Nat.{ℕ}
use native.Mathlib.Omega.{arith}
use borrow.Author.Tests.{eq-eqb, ne_eqb}
use Rattle.lists.specs.Walk.{fold}
use Rattle.corrections_table.specs.declared.sample.Sample.{Sample}
use Rattle.corrections_table.proofs.Places.{sorted_rises}
use Rattle.corrections_directory.specs.Directory.{sound_directory}
use Rattle.corrections_directory.proofs.DirectoryLaws.{sound-flat}
use Rattle.corrections_forget.specs.History.{Event, allowed, happen, history, undropped}
use Rattle.corrections_forget.proofs.HistoryLaws.{history-law, sorted_of}
use Rattle.corrections_query.specs.Query.{Answers, Passes}
use Rattle.corrections_laws.specs.Calls.{Asks, Call, Caller, Does, Query, CallRun, accepted_calls, adding, answer_by, directory, done, dropping, event_of, held_samples, next, room}
use Rattle.corrections_query.proofs.PastLaws.{query_passed}
use Rattle.corrections_laws.proofs.StepLaws.{add-accepted, add-refused, drop-accepted, drop-refused, zero_or}

-- ---- one call
pub call-refused : (h : Caller) (c : Call) (k : ℕ) (h' : Caller) → Does h c k h' → (k ≡ 0 → ⊥) → h' ≡ h
call-refused h (adding e) k h' a n = add-refused h e k h' a n
call-refused h (dropping time) k h' a n = drop-refused h time k h' a n

-- what an accepted call leaves
pub record Accepted (h : Caller) (c : Call) (h' : Caller) : Type 0 where
  pub sound : sound_directory (directory h) ≡ true
  pub now-held : held_samples h' ≡ happen (held_samples h) (event_of c)
  pub same-room : room h' ≡ room h

pub call-accepted : (h : Caller) (c : Call) (h' : Caller) → Does h c 0 h' → Accepted h c h'
unfolding happen
call-accepted h (adding e) h' a = let s = add-accepted h e h' a in record { sound = s.passes.sound; now-held = s.now-held; same-room = s.same-room }
call-accepted h (dropping time) h' a = let s = drop-accepted h time h' a in record { sound = s.sound; now-held = s.now-held; same-room = s.same-room }

accepted-more : (c : Call) (cs : List Call) (k : ℕ) (ks : List ℕ) → k ≡ 0 → accepted_calls (c ∷ cs) (k ∷ ks) ≡ event_of c ∷ accepted_calls cs ks
unfolding accepted_calls
accepted-more c cs k ks e = rw (eq-eqb k 0 e)

refused-more : (c : Call) (cs : List Call) (k : ℕ) (ks : List ℕ) → (k ≡ 0 → ⊥) → accepted_calls (c ∷ cs) (k ∷ ks) ≡ accepted_calls cs ks
unfolding accepted_calls
refused-more c cs k ks n = rw (ne_eqb k 0 n)

-- ---- any list of calls, from any columns and counts

-- no call changes the capacity
pub run_room : {h h' : Caller} {cs : List Call} {ks : List ℕ} → CallRun h cs ks h' → room h' ≡ room h
run_room done = refl
run_room (next {h} {h'} {h''} {c} {cs} {k} {ks} d r) =
    run_room r ∙ zero_or k (λ (e : k ≡ 0). (call-accepted h c h' (subst (λ (i : ℕ). Does h c i h') e d)).same-room) (λ (n : k ≡ 0 → ⊥). ap room (call-refused h c k h' d n))

-- the samples held are those that accepted calls leave of the ones held at the start
pub run-held : {h h' : Caller} {cs : List Call} {ks : List ℕ} → CallRun h cs ks h' → held_samples h' ≡ history (held_samples h) (accepted_calls cs ks)
unfolding fold accepted_calls
run-held done = refl
run-held (next {h} {h'} {h''} {c} {cs} {k} {ks} d r) =
    run-held r
    ∙ zero_or k
    (λ (e : k ≡ 0). ap (λ (t : List Sample). history t (accepted_calls cs ks)) (call-accepted h c h' (subst (λ (i : ℕ). Does h c i h') e d)).now-held ∙ sym (ap (history (held_samples h)) (accepted-more c cs k ks e)))
    (λ (n : k ≡ 0 → ⊥). ap (λ (g : Caller). history (held_samples g) (accepted_calls cs ks)) (call-refused h c k h' d n) ∙ sym (ap (history (held_samples h)) (refused-more c cs k ks n)))

-- of a table that is not sound no call is accepted
pub none-accepted : {h h' : Caller} {cs : List Call} {ks : List ℕ} → CallRun h cs ks h' → sound_directory (directory h) ≡ false → accepted_calls cs ks ≡ []
unfolding accepted_calls
none-accepted done s = refl
none-accepted (next {h} {h'} {h''} {c} {cs} {k} {ks} d r) s =
    zero_or k
    (λ (e : k ≡ 0). absurd (let q : true ≡ false = sym (call-accepted h c h' (subst (λ (i : ℕ). Does h c i h') e d)).sound ∙ s in let z : ◌≡◌ {A = ℕ} 0 1 = cc in omega arith))
    (λ (n : k ≡ 0 → ⊥). refused-more c cs k ks n ∙ none-accepted r (ap (λ (g : Caller). sound_directory (directory g)) (call-refused h c k h' d n) ∙ s))

-- ---- a query after them, once 2 to 4 pass
module _ (h h' : Caller) (cs : List Call) (ks : List ℕ) (run : CallRun h cs ks h') (q : Query) (number metres metres' : ℕ) (asked : Asks h' q number metres metres')
    (passes : Passes h'.entries h'.samples (room h') (directory h') q.gap q.time) where
  -- it answers by the samples that the table then holds, before a drop or not
  pub query_held : Answers (answer_by (history (held_samples h) (accepted_calls cs ks)) q) number metres metres'
  query_held =
      subst (λ (a : Result Float Refusal). Answers a number metres metres')
      (query_passed h'.entries h'.samples (room h') (directory h') q.gap q.constellation q.svid q.band q.time passes ∙ ap (λ (t : List Sample). answer_by t q) (run-held run)) asked

  -- not before any accepted drop, where no accepted epoch is earlier than a drop before it, it answers by the samples held at the start and all that were added
  pub query_undropped : allowed q.time (accepted_calls cs ks) ≡ true → Answers (answer_by (history (held_samples h) (undropped (accepted_calls cs ks))) q) number metres metres'
  query_undropped al = subst (λ (a : Result Float Refusal). Answers a number metres metres') (go (sound_directory (directory h)) refl) query_held
    where
      nothing : (es : List Event) → es ≡ [] → answer_by (history (held_samples h) es) q ≡ answer_by (history (held_samples h) (undropped es)) q
      nothing es e = unfold undropped in rw e

      go : (x : Bool) → sound_directory (directory h) ≡ x → answer_by (history (held_samples h) (accepted_calls cs ks)) q ≡ answer_by (history (held_samples h) (undropped (accepted_calls cs ks))) q
      go true s = history-law (held_samples h) (accepted_calls cs ks) q.gap q.constellation q.svid q.band q.time (sorted_rises (held_samples h) ∙ sorted_of (held_samples h) (sound-flat (directory h) s)) al
      go false s = nothing (accepted_calls cs ks) (none-accepted run s)
