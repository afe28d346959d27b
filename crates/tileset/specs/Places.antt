-- The lines of the command bulk.
use Rattle.std.specs.Prelude.{ℕ, Bool, true, false, ◌++◌, List, [], codes}
use Rattle.tileset.specs.Common.{ArchivePlaces, decimal}

-- the line of a name and its number, before further lines
abbrev pub number_line : List ℕ → ℕ → List ℕ → List ℕ
number_line name number lines = name ++ (codes " " ++ (decimal number ++ (codes "\n" ++ lines)))

-- what an archive counts, and how long it is
abbrev pub count_lines : ArchivePlaces → List ℕ
count_lines p =
    number_line (codes "addressed") p.addressed
    (number_line (codes "entries") p.entries
    (number_line (codes "contents") p.contents
    (number_line (codes "length") p.length [])))

-- the number of upper directories, where that is wanted, before further lines
abbrev pub upper_line : Bool → ℕ → List ℕ → List ℕ
upper_line true number lines = number_line (codes "uppers") number lines
upper_line false number lines = lines

-- its directories
abbrev pub directory_lines : Bool → ArchivePlaces → List ℕ
directory_lines uppers p =
    number_line (codes "root") p.root_length
    (number_line (codes "leaves") p.leaves
    (upper_line uppers p.uppers
    (number_line (codes "leaf-offset") p.leaf_offset
    (number_line (codes "leaf-length") p.leaf_length []))))

-- the contents of its tiles
abbrev pub data_lines : ArchivePlaces → List ℕ
data_lines p = number_line (codes "data-offset") p.data_offset (number_line (codes "data-length") p.data_length [])

abbrev pub places_text : Bool → ArchivePlaces → List ℕ
places_text uppers p = count_lines p ++ directory_lines uppers p ++ data_lines p
