-- A table as the code's struct of references. Definitions only.
use Rattle.std.specs.Prelude.{List, Float}
use Rattle.corrections_directory.specs.Directory.{Blocks, lent_blocks}
use Rattle.corrections_directory.specs.Read.{ReadTable}
use Rattle.corrections_directory.specs.declared.entry.Table.{Table}

-- the columns of a table, its times and corrections read by f
abbrev pub columns_of : {A : Type 0} → (List A → List Float) → Table A → Blocks
columns_of f t =
    lent_blocks t.block_constellation.now t.block_svid.now t.block_band.now t.block_first.now t.block_samples.now (f t.table_time.now) (f t.table_metres.now)

-- the table with how many of its entries and samples count
abbrev pub table_of : {A : Type 0} → (List A → List Float) → Table A → ReadTable
table_of f t = record { columns = columns_of f t; entries = t.blocks; samples = t.table_count }

-- the same where times and corrections are lent as floats
abbrev pub float_table : Table Float → ReadTable
float_table t = table_of (λ (l : List Float). l) t
