-- The carriers of the city profile (docs/SCOPE.md, "City profile"). Definitions only.
use Rattle.std.specs.Prelude.{ℕ, Bool, true, false, ◌&&◌, ◌||◌, List, eqb}
use Rattle.lists.specs.Walk.{collect}
use Rattle.records.specs.Record.{keep}
use Rattle.records.specs.declared.record.Carrier.{Carrier}
use Rattle.records.specs.declared.pair.Profile.{Profile}
use Rattle.records.specs.declared.pair.Profile.TheVariants.{General, City}

-- GPS (1) and Galileo (6) on the chosen band
unfoldable pub certified : ℕ → Carrier → Bool
certified band c = (eqb c.constellation 1 || eqb c.constellation 6) && eqb c.band band

-- those of the carriers, in their order
unfoldable pub certified_of : ℕ → List Carrier → List Carrier
certified_of band cs = collect (keep (certified band)) cs

-- whether it is the city profile
abbrev pub is_city : Profile → Bool
is_city General = false
is_city (City band) = true

-- the carriers that a displacement looks at: all, or in the city profile those
abbrev pub looked : Profile → List Carrier → List Carrier
looked General cs = cs
looked (City band) cs = certified_of band cs
