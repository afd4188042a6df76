-- Worked values: bytes of numbers and of a record, and the numbers of answers. Assumes nothing.
use mathlib.Core.Path.{◌≡◌, refl}
use mathlib.Core.List.{List, [], ◌∷◌, ◌++◌}
use Prim.Native.Nat.{ℕ, ◌*◌}
use lib.ListN.{replicate}
use lib.IntN.{pos, negsuc}
use Rattle.lists.specs.Walk.{places}
use Rattle.records.specs.Record.{unsigned}
use Rattle.wire.specs.declared.record.CarrierRecord.{CarrierRecord}
use Rattle.wire.specs.Number.{bytes_in, number_in, signed}
use Rattle.wire.specs.Record.{bytes_of, record_of, records_of}
use Rattle.wire.specs.Columns.{columns_fit, record_columns}
use Rattle.wire.specs.Lent.{read_number}
use Rattle.wire.proofs.RecordLaws.{record_with}

-- ---- numbers

pub two_bytes : bytes_in 2 0x0102 ≡ 0x02 ∷ 0x01 ∷ []
unfolding bytes_in
two_bytes = refl

-- a negative signaling NaN of payload 1, as it stands
pub nan-bytes : bytes_in 8 0xFFF0_0000_0000_0001 ≡ 1 ∷ 0 ∷ 0 ∷ 0 ∷ 0 ∷ 0 ∷ 0xF0 ∷ 0xFF ∷ []
unfolding bytes_in
nan-bytes = refl

pub nan-read : number_in (1 ∷ 0 ∷ 0 ∷ 0 ∷ 0 ∷ 0 ∷ 0xF0 ∷ 0xFF ∷ []) ≡ 0xFFF0_0000_0000_0001
unfolding number_in
nan-read = refl

-- -2, and the least signed number
pub minus-two : signed 0xFFFF_FFFE ≡ negsuc 1
unfolding signed
minus-two = refl

pub least : unsigned (signed 0x8000_0000) ≡ 0x8000_0000
unfolding signed unsigned
least = refl

-- ---- a record

abbrev sample : CarrierRecord
sample =
    record_with 1 0x0203 0x0405_0607 0x7FF0_0000_0000_0001 (negsuc 1) 0x3FF0_0000_0000_0000 0xC000_0000_0000_0000 0 0x4056_8000_0000_0000 0x8000_0000_0000_0000

abbrev sample_bytes : List ℕ
sample_bytes =
    1 ∷ 0x03 ∷ 0x02 ∷ 0x07 ∷ 0x06 ∷ 0x05 ∷ 0x04 ∷ 0x01 ∷ 0 ∷ 0 ∷ 0 ∷ 0 ∷ 0 ∷ 0xF0 ∷ 0x7F ∷ 0xFE ∷ 0xFF ∷ 0xFF ∷ 0xFF
    ∷ 0 ∷ 0 ∷ 0 ∷ 0 ∷ 0 ∷ 0 ∷ 0xF0 ∷ 0x3F ∷ 0 ∷ 0 ∷ 0 ∷ 0 ∷ 0 ∷ 0 ∷ 0 ∷ 0xC0 ∷ 0 ∷ 0 ∷ 0 ∷ 0 ∷ 0 ∷ 0 ∷ 0 ∷ 0
    ∷ 0 ∷ 0 ∷ 0 ∷ 0 ∷ 0 ∷ 0x80 ∷ 0x56 ∷ 0x40 ∷ 0 ∷ 0 ∷ 0 ∷ 0 ∷ 0 ∷ 0 ∷ 0 ∷ 0x80 ∷ []

pub sample-bytes : bytes_of sample ≡ sample_bytes
unfolding bytes_of bytes_in unsigned
sample-bytes = refl

pub sample-read : record_of sample_bytes ≡ sample
unfolding record_of number_in signed
sample-read = refl

pub two_records : records_of (sample_bytes ++ sample_bytes) ≡ sample ∷ sample ∷ []
unfolding places record_of number_in signed
two_records = refl

-- ---- answers

-- 58 bytes: 21, and 21 before 2
pub not_whole : read_number (replicate 58 0) (record_columns [] [] [] [] []) ≡ 21
unfolding read_number
not_whole = refl

-- no bytes: an epoch of none
pub empty-read : read_number [] (record_columns [] [] [] [] []) ≡ 0
unfolding read_number columns_fit
empty-read = refl

-- one record, and columns that have no place
pub no-places : read_number sample_bytes (record_columns [] [] [] [] []) ≡ 2
unfolding read_number columns_fit
no-places = refl

-- 65 records
pub many-records : read_number (replicate (59 * 65) 0) (record_columns (replicate 65 0) (replicate 65 0) (replicate 65 0) (replicate 65 (pos 0)) (replicate 390 0)) ≡ 2
unfolding read_number columns_fit
many-records = refl
