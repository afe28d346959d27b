-- The line of each thing that a header says wrong.
use Rattle.std.specs.Prelude.{◌≡◌, ℕ, ◌++◌, List, codes, refl}
use Rattle.std.specs.Fmt.{decimal}
use Rattle.tile_header_check.specs.declared.fault.HeaderFault.{HeaderFault}
use Rattle.tile_header_check.specs.declared.fault.HeaderFault.TheVariants as fault
use Rattle.tile_header_check.specs.declared.fault.MetadataFault.{MetadataFault}
use Rattle.tile_header_check.specs.declared.fault.MetadataFault.TheVariants as metadata

abbrev pub metadata_name : MetadataFault → List ℕ
metadata_name metadata.PastEnd = codes "PastEnd"
metadata_name metadata.NotUtf8 = codes "NotUtf8"
metadata_name metadata.NotJson = codes "NotJson"
metadata_name metadata.NotAnObject = codes "NotAnObject"

-- what is stated and what was found
abbrev pub found_text : List ℕ → ℕ → ℕ → List ℕ
found_text name stated found = name ++ (decimal stated ++ (codes ", found " ++ (decimal found ++ codes "\n")))

abbrev pub fault_line : HeaderFault → List ℕ
fault_line (fault.AddressedTiles stated found) = found_text (codes "header addressed tiles ") stated found
fault_line (fault.TileEntries stated found) = found_text (codes "header tile entries ") stated found
fault_line (fault.TileContents stated found) = found_text (codes "header tile contents ") stated found
fault_line (fault.MinZoom stated found) = found_text (codes "header min zoom ") stated found
fault_line (fault.MaxZoom stated found) = found_text (codes "header max zoom ") stated found
fault_line (fault.Clustered entry due found) =
    codes "header clustered, tile entry " ++ (decimal entry ++ (codes " at " ++ (decimal found ++ (codes " and not at " ++ (decimal due ++ codes "\n")))))
fault_line (fault.Metadata m) = codes "header metadata " ++ (metadata_name m ++ codes "\n")

pub no_object : fault_line (fault.Metadata metadata.NotAnObject) ≡ codes "header metadata NotAnObject\n"
no_object = refl
