-- The table that `build` of differential.rs makes of samples: a series for each signal, sorted by time. Definitions only.
use Rattle.std.specs.Prelude.{ℕ, cond, List, [], ◌∷◌, eqb, ltb}
use Rattle.lists.specs.Walk.{collect}
use Rattle.corrections_table.specs.Table.{signal_of, time_before, series_of}
use Rattle.corrections_table.specs.declared.sample.Sample.{Sample}

-- s into a sorted list of samples that arrived after it: before the first that it does not follow in time
unfoldable pub put : Sample → List Sample → List Sample
put s [] = s ∷ []
put s (a ∷ l) = cond (time_before a.time s.time) (a ∷ put s l) (s ∷ a ∷ l)

-- a series in the order of time, in total_order; equal times as they arrived
unfoldable pub sort_times : List Sample → List Sample
sort_times [] = []
sort_times (s ∷ l) = put s (sort_times l)

-- the signal g among signals in ascending order, each of them there once
unfoldable pub with_signal : ℕ → List ℕ → List ℕ
with_signal g [] = g ∷ []
with_signal g (h ∷ hs) = cond (ltb g h) (g ∷ h ∷ hs) (cond (eqb g h) (h ∷ hs) (h ∷ with_signal g hs))

-- the signals of samples, each once, in ascending order: the keys of the `BTreeMap`
unfoldable pub signals : List Sample → List ℕ
signals [] = []
signals (s ∷ l) = with_signal (signal_of s) (signals l)

-- the series of each signal, sorted by time, one signal after the other
unfoldable pub built_of : List Sample → List Sample
built_of l = collect (λ g. sort_times (series_of g l)) (signals l)
