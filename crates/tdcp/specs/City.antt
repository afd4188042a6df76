-- What the city profile leaves of what is handed over (docs/SCOPE.md, "City profile"). Definitions only.
use Rattle.std.specs.Prelude.{ℕ, length}
use Rattle.records.specs.Record.{counted_carriers}
use Rattle.records.specs.City.{certified_of}
use Rattle.records.specs.declared.record.Epoch.{Epoch}
use Rattle.records.specs.declared.pair.Profile.TheVariants.{General, City}
use Rattle.tdcp.specs.Displacement.{Input, input}

-- the same in the city profile on this band
abbrev pub in_city : ℕ → Input → Input
in_city band i = input i.previous i.current i.since i.receiver i.settings (City band)

-- an epoch with all other carriers taken out, order preserved
abbrev pub certified_epoch : ℕ → Epoch → Epoch
certified_epoch band e = let cs = certified_of band (counted_carriers e) in record { count = length cs; carriers = cs }

-- what is left for a general displacement
abbrev pub left : ℕ → Input → Input
left band i = input (certified_epoch band i.previous) (certified_epoch band i.current) i.since i.receiver i.settings General
