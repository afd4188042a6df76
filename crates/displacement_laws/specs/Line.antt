-- The line that answers a text, beside the call on columns that hold its carriers. Definitions only.
use Rattle.std.specs.Prelude.{ℕ, ◌≤◌, ◌≡◌, true, cond, List, [], ◌∷◌, eqb, get_or}
use Rattle.records.specs.Record.{counted_carriers}
use Rattle.records.specs.Carriers.{CarrierColumns, carriers_of, epoch_fits}
use Rattle.records.specs.declared.record.Epoch.{Epoch}
use Rattle.line_form.specs.Print.{decimal_text, hex_text, line_text}

-- columns that hold the carriers of an epoch: as many as it counts, and up to 64 of them
pub record Columned (e : Epoch) (c : CarrierColumns) (n : ℕ) : Type 0 where
  pub count : n ≡ e.count
  pub fits : n ≤ 64 → epoch_fits c n ≡ true
  pub carriers : n ≤ 64 → carriers_of c n ≡ counted_carriers e

-- the line of a call's number, counts and patterns
abbrev pub line_by : ℕ → List ℕ → List ℕ → List ℕ
line_by number counts delta =
    cond (eqb number 0)
    (line_text (65 ∷ []) (decimal_text (get_or counts 0 0) ∷ decimal_text (get_or counts 1 0) ∷ hex_text (get_or delta 0 0) ∷ hex_text (get_or delta 1 0) ∷ hex_text (get_or delta 2 0) ∷ []))
    (line_text (82 ∷ []) (decimal_text number ∷ []))
