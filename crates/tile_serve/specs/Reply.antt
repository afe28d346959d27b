-- The reply to a line, as a server without caches gives it.
use Rattle.std.specs.Prelude.{ℕ, ◌++◌, if◌then◌else◌, List, [], ◌∷◌, flat_map, Option, Some, None, Result, Ok, Err, codes}
use Rattle.tile_serve.specs.Common.{archive_tile, bytes_eq, lines_of, PmtError}
use Rattle.hex.specs.Hex.{encode_lower}
use Rattle.pm_format.specs.declared.error.PmtError.TheVariants as errors
use Rattle.pm_format.specs.declared.error.ReadCause.TheVariants as causes
use Rattle.tile_hash.specs.Digest.{digest}
use Rattle.tile_hash.specs.declared.algorithm.HashAlgorithm.TheVariants.{Xxh3}
use Rattle.tile_serve.specs.Request.{Request, request_of}
use Rattle.tile_serve.specs.declared.found.Found.{Found}
use Rattle.tile_serve.specs.declared.found.Found.TheVariants.{Tile, Missing, InvalidEntry, PastEnd}

-- what a look-up comes to: no entry and no byte are the same, and a look-up of an archive has no
-- other refusals than these two
abbrev pub found_in : Result (Option (List ℕ)) PmtError → Found
found_in (Ok None) = Missing
found_in (Ok (Some [])) = Missing
found_in (Ok (Some (byte ∷ bytes))) = Tile (byte ∷ bytes)
found_in (Err (errors.Reading causes.PastEnd)) = PastEnd
found_in (Err e) = InvalidEntry

-- what an archive has for an id
abbrev pub found_at : List ℕ → ℕ → Found
found_at b t = found_in (archive_tile b t)

-- the tag of bytes: their XXH3 digest, in 16 digits
abbrev pub tag_of : List ℕ → List ℕ
tag_of bytes = digest Xxh3 bytes

-- a tile's reply where the asker has its bytes, by its tag
abbrev pub unchanged_text : List ℕ → List ℕ
unchanged_text tag = codes "304 " ++ (tag ++ codes "\n")

-- and where not: the tag, and the bytes in hexadecimal
abbrev pub whole_text : List ℕ → List ℕ → List ℕ
whole_text tag bytes = codes "200 " ++ (tag ++ (codes " " ++ (encode_lower bytes ++ codes "\n")))

abbrev pub tile_text : List ℕ → List ℕ → List ℕ
tile_text bytes tag = if bytes_eq (tag_of bytes) tag then unchanged_text (tag_of bytes) else whole_text (tag_of bytes) bytes

abbrev pub text_for : Found → List ℕ → List ℕ
text_for (Tile bytes) tag = tile_text bytes tag
text_for Missing tag = codes "404\n"
text_for InvalidEntry tag = codes "500 InvalidEntry\n"
text_for PastEnd tag = codes "500 PastEnd\n"

abbrev pub reply_to : List ℕ → Option Request → List ℕ
reply_to b None = codes "400\n"
reply_to b (Some r) = text_for (found_at b r.id) r.tag

-- the reply to a line
abbrev pub reply : List ℕ → List ℕ → List ℕ
reply b line = reply_to b (request_of line)

-- the replies to the lines of requests, one behind another
abbrev pub replies : List ℕ → List ℕ → List ℕ
replies b requests = flat_map (reply b) (lines_of requests)
