-- The header's bytes in parts, as they are written one behind another.
use Rattle.std.specs.Prelude.{ℕ, List, [], ◌∷◌, ◌++◌}
use Rattle.pm_format.specs.declared.header.Header.{Header}
use Rattle.pm_format.specs.Header.{word_bytes, degree_bytes, bit, compression_byte, tile_type_byte}

-- bytes 8 to 71: the places and lengths of the parts
abbrev pub place_bytes : Header → List ℕ
place_bytes h =
    word_bytes h.root_offset ++ (word_bytes h.root_length
    ++ (word_bytes h.metadata_offset ++ (word_bytes h.metadata_length
    ++ (word_bytes h.leaf_offset ++ (word_bytes h.leaf_length
    ++ (word_bytes h.data_offset ++ word_bytes h.data_length))))))

-- bytes 72 to 95: the counts
abbrev pub count_bytes : Header → List ℕ
count_bytes h = word_bytes h.n_addressed_tiles ++ (word_bytes h.n_tile_entries ++ word_bytes h.n_tile_contents)

-- bytes 96 to 101: the order, the labels, the type and the zooms
abbrev pub label_bytes : Header → List ℕ
label_bytes h = bit h.clustered ∷ compression_byte h.internal_compression ∷ compression_byte h.tile_compression ∷ tile_type_byte h.tile_type ∷ h.min_zoom ∷ h.max_zoom ∷ []

-- bytes 102 to 117: the bounds
abbrev pub bound_bytes : Header → List ℕ
bound_bytes h = degree_bytes h.min_longitude ++ (degree_bytes h.min_latitude ++ (degree_bytes h.max_longitude ++ degree_bytes h.max_latitude))

-- bytes 118 to 126: the center
abbrev pub center_bytes : Header → List ℕ
center_bytes h = h.center_zoom ∷ [] ++ (degree_bytes h.center_longitude ++ degree_bytes h.center_latitude)
