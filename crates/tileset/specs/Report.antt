-- The text that is written on the way to Done.
use Rattle.std.specs.Prelude.{ℕ, Bool, ◌++◌, List, [], flat_map, Option, Some, None, codes}
use Rattle.tileset.specs.Common.{archive_map, ArchivePlaces, Coord, decimal, encode_lower, id_of, places_read}
use Rattle.tileset.specs.HexDump.{hex_dump}
use Rattle.tileset.specs.Places.{places_text}

-- a tile in hexadecimal, or none
abbrev pub tile_text : Option (List ℕ) → List ℕ
tile_text None = codes "none"
tile_text (Some bytes) = encode_lower bytes

-- the line that answers a query
abbrev pub query_line : Coord → Option (List ℕ) → List ℕ
query_line c tile = codes "tile " ++ (decimal c.z ++ (codes "/" ++ (decimal c.x ++ (codes "/" ++ (decimal c.y ++ (codes " " ++ (tile_text tile ++ codes "\n")))))))

-- the lines of all queries, by the archive's own tiles
abbrev pub query_lines : List ℕ → List Coord → List ℕ
query_lines b queries = flat_map (λ c. query_line c (archive_map b (id_of c))) queries

-- the lines of the aggregate and the numbers
abbrev pub number_lines : List ℕ → ℕ → ℕ → ℕ → ℕ → List ℕ
number_lines aggregate addressed entries contents total =
    codes "aggregate " ++ (aggregate ++ (codes "\naddressed " ++ (decimal addressed ++ (codes "\nentries " ++ (decimal entries ++ (codes "\ncontents " ++ (decimal contents ++ (codes "\nlength " ++ (decimal total ++ codes "\n")))))))))

-- the numbers are those of the archive's header and length
abbrev pub summary_lines : List ℕ → Option ArchivePlaces → List ℕ
summary_lines aggregate None = []
summary_lines aggregate (Some p) = number_lines aggregate p.addressed p.entries p.contents p.length

-- the lines on an archive whose set has this aggregate, without its bytes
unfoldable pub file_text : List Coord → List ℕ → List ℕ → List ℕ
file_text queries aggregate b = query_lines b queries ++ summary_lines aggregate (places_read b)

-- the same lines, and the bytes in hexadecimal
unfoldable pub report_text : List Coord → List ℕ → List ℕ → List ℕ
report_text queries aggregate b = file_text queries aggregate b ++ hex_dump 0 b

-- the text of an archive that is made from two numbers, with the number of upper directories where that is wanted
abbrev pub bulk_text : Bool → Option ArchivePlaces → List ℕ
bulk_text uppers None = []
bulk_text uppers (Some p) = places_text uppers p
