-- What the contracts of the steps say. Definitions only.
use Rattle.std.specs.Prelude.{ℕ, zero, suc, ◌+◌, ◌≤◌, ◌<◌, ◌≡◌, true, cond, List, [], ◌∷◌, length, take, drop}
use Rattle.lists.specs.Memory.{after, LentNumbers, LentFloats}
use Rattle.lists.specs.Walk.{every}
use Rattle.corrections_table.specs.Table.{Columns, lent_samples, ranged, rows, sound_table, stands_before, table_of}
use Rattle.corrections_table.specs.Add.{insert_all}
use Rattle.corrections_table.specs.Lent.{columns_before}
use Rattle.corrections_table.specs.declared.sample.Sample.{Sample}

-- how many samples at the front of the table the sample s does not precede
unfoldable pub spot_of : Sample → List Sample → ℕ
spot_of s [] = 0
spot_of s (a ∷ ss) = cond (stands_before s a) 0 (suc (spot_of s ss))

-- v at the front, the n elements from there on moved up by one, and the one after them gone
unfoldable pub pushed : {A : Type 0} → A → ℕ → List A → List A
pushed v n [] = []
pushed v zero (x ∷ xs) = v ∷ xs
pushed v (suc n) (x ∷ xs) = v ∷ pushed x n xs

-- v at the place p, the k elements from there on moved up by one
unfoldable pub opened : {A : Type 0} → ℕ → ℕ → A → List A → List A
opened zero k v l = pushed v k l
opened (suc p) k v [] = []
opened (suc p) k v (x ∷ xs) = x ∷ opened p k v xs

-- the columns from the place k on
abbrev pub past : ℕ → Columns → Columns
past k l =
    record {
      constellations = drop k l.constellations;
      svids = drop k l.svids;
      bands = drop k l.bands;
      times = drop k l.times;
      corrections = drop k l.corrections;
    }

-- the k samples ss were put into the n samples of the table, and what lies past them is unchanged
pub record InsertedAll (n k : ℕ) (ss : List Sample) (l l' : Columns) : Type 0 where
  pub table : table_of (n + k) l' ≡ insert_all (table_of n l) ss
  pub rest : past (n + k) l' ≡ past (n + k) l

-- ---- the columns of the contracts

-- the columns of a table after a call
abbrev pub columns_after : LentNumbers → LentNumbers → LentNumbers → LentFloats → LentFloats → Columns
columns_after c v b t x = lent_samples (after c) (after v) (after b) (after t) (after x)

-- the columns have a sound table of n samples
abbrev pub SoundRows : ℕ → Columns → Type 0
SoundRows n l = (n ≤ length (rows l)) × (sound_table (table_of n l) ≡ true)

-- and room for one sample more
abbrev pub RoomForOne : ℕ → Columns → Type 0
RoomForOne n l = (n < length (rows l)) × (sound_table (table_of n l) ≡ true)

-- and room for the first m of new samples, at most 64, all in range
abbrev pub RoomForAll : ℕ → List Sample → ℕ → Columns → Type 0
RoomForAll n new m l = (m ≤ 64) × ((n + m ≤ length (rows l)) × ((sound_table (table_of n l) ≡ true) × (every ranged (take m new) ≡ true)))

-- the columns have k samples more
abbrev pub Inserts : ℕ → ℕ → List Sample → LentNumbers → LentNumbers → LentNumbers → LentFloats → LentFloats → Type 0
Inserts n k ss c v b t x = InsertedAll n k ss (columns_before c v b t x) (columns_after c v b t x)
