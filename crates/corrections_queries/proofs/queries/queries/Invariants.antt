-- `corrections_queries::queries::queries` meets its contract. Assumes nothing.
use Rattle.corrections_directory.specs.Directory.{lent_blocks, block_capacity, directory_in}
use Rattle.corrections_queries.specs.Queries.{query_at}
use Rattle.corrections_queries.proofs.QueriesLaws.{Filling}
use Rattle.corrections_queries.proofs.queries.queries.Given as goal

abbrev pub invariant-loop-i : goal.invariant-loop-i
invariant-loop-i l = Filling (query_at l.table.blocks l.table.table_count (block_capacity (lent_blocks l.table.block_constellation.now l.table.block_svid.now l.table.block_band.now l.table.block_first.now l.table.block_samples.now l.table.table_time.now l.table.table_metres.now)) (directory_in l.table.blocks l.table.table_count (lent_blocks l.table.block_constellation.now l.table.block_svid.now l.table.block_band.now l.table.block_first.now l.table.block_samples.now l.table.table_time.now l.table.table_metres.now)) l.max_gap (record { constellations = l.constellation; svids = l.svid; bands = l.band; times = l.time; count = l.count })) l.count l.initial.numbers l.initial.metres l.numbers l.metres l.i
