-- What a conversion leaves of its base.
use Rattle.std.specs.Prelude.{ℕ, ◌≡◌, ◌⊎◌, Bool, true, List, Option, Result, Ok, Err, IfSome}
use Rattle.tile_bridge.specs.Common.{aggregate, Coord, State, Tables}
use Rattle.tile_bridge.specs.Convert.{IsConverted}
use Rattle.tile_bridge.specs.Outcome.{outcome}
use Rattle.tile_bridge.specs.Patching.{AreToldBy, IsBaseWith}
use Rattle.tile_bridge.specs.declared.error.ConvertError.{ConvertError}
use Rattle.tile_bridge.specs.declared.error.ConvertError.TheVariants.{MediumFault, OutOfMemory, ReadBack}
use Rattle.tile_bridge.specs.declared.options.ConvertOptions.{ConvertOptions}
use Rattle.tile_bridge.specs.declared.report.ConvertReport.{ConvertReport}

-- The base after its patches. A patch that tells has the tables that it tells; one that tells nothing has some tables
-- that its answers could be of.
pub record IsBaseAfter (o : ConvertOptions) (tells : List Bool) (told : List Tables) (old new : Tables) : Type 0 where
  pub patches : List Tables
  pub are_told : AreToldBy tells told patches
  pub final : State
  pub due : outcome old patches o.force o.verify ≡ Ok final
  pub base : IsBaseWith patches final old new

-- The base after Ok. The archive, where the medium tells it, and the report are of the state that the base has then.
pub record IsBaseDone (o : ConvertOptions) (tells : List Bool) (told : List Tables) (coords : List Coord) (r : ConvertReport) (medium : Option (List ℕ)) (old new : Tables) : Type 0 where
  pub after : IsBaseAfter o tells told old new
  pub aggregate_is : r.aggregate ≡ aggregate after.final.algorithm after.final.tiles
  pub archive : IfSome medium (λ b. IsConverted b o.writer after.final.tiles coords r)

-- a base that tells is as it was, or wholly patched
abbrev pub IsKeptOrPatched : ConvertOptions → Bool → List Bool → List Tables → Tables → Tables → Type 0
IsKeptOrPatched o base_tells tells told old new = (new ≡ old) ⊎ (base_tells ≡ true → IsBaseAfter o tells told old new)

-- What the base holds afterwards, where it tells: all patches after Ok, none after a refusal and a store's fault, and
-- all or none of them after the medium's fault, `ReadBack` and running out of memory.
abbrev pub BaseLeaves : ConvertOptions → Bool → List Bool → List Tables → List Coord → Result ConvertReport ConvertError → Option (List ℕ) → Tables → Tables → Type 0
BaseLeaves o base_tells tells told coords (Ok r) medium old new = base_tells ≡ true → IsBaseDone o tells told coords r medium old new
BaseLeaves o base_tells tells told coords (Err MediumFault) medium old new = IsKeptOrPatched o base_tells tells told old new
BaseLeaves o base_tells tells told coords (Err (ReadBack e)) medium old new = IsKeptOrPatched o base_tells tells told old new
BaseLeaves o base_tells tells told coords (Err OutOfMemory) medium old new = IsKeptOrPatched o base_tells tells told old new
BaseLeaves o base_tells tells told coords (Err _) medium old new = new ≡ old
