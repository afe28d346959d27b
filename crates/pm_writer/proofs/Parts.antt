-- The bytes of the archive of adds, part by part.
use Rattle.pm_writer.proofs.Common.{ap, append_assoc, archive, archive_bytes, arith, below_layout, contents_from, dir_bytes, entries_of_adds, flat_map, front_bytes, front_length, Header, header_of}
use Rattle.pm_writer.proofs.Common.{ids_of, laid, Layout, length, length-append, List, Options, OptionsFit, parts_of, rising, sym, ℕ, [], ◌++◌, ◌+◌, ◌∙◌, ◌≡◌, ◌≤◌}
use Rattle.pm_writer.proofs.Laying.{root_small}

abbrev pub layout_of : Options → List (ℕ × List ℕ) → Layout
layout_of o adds = laid o.max_leaf_entries (entries_of_adds adds)

-- the directories below the root
abbrev pub below_of : Options → List (ℕ × List ℕ) → List ℕ
below_of o adds = flat_map dir_bytes (below_layout (layout_of o adds))

abbrev pub tiles_of : List (ℕ × List ℕ) → List ℕ
tiles_of adds = flat_map (λ c. c) (contents_from [] adds)

abbrev pub head_of : Options → List (ℕ × List ℕ) → Header
head_of o adds = header_of o (rising (ids_of adds)) (parts_of o adds)

-- what lies before the tiles
abbrev pub before_of : Options → List (ℕ × List ℕ) → List ℕ
before_of o adds = front_bytes o (rising (ids_of adds)) (parts_of o adds) ++ o.metadata

pub archive_laid : (o : Options) (adds : List (ℕ × List ℕ)) → archive o adds ≡ before_of o adds ++ (tiles_of adds ++ below_of o adds)
unfolding archive archive_bytes
archive_laid o adds = sym (append_assoc (front_bytes o (rising (ids_of adds)) (parts_of o adds)) o.metadata (tiles_of adds ++ below_of o adds))

pub root_fits : (o : Options) (adds : List (ℕ × List ℕ)) → OptionsFit o → length (dir_bytes (layout_of o adds).root) ≤ 16257
root_fits o adds f = root_small o.max_leaf_entries (entries_of_adds adds) (omega (arith, f.least_leaf))

pub before_length : (o : Options) (adds : List (ℕ × List ℕ)) → OptionsFit o → length (before_of o adds) ≡ 16384 + length o.metadata
before_length o adds f = length-append (front_bytes o (rising (ids_of adds)) (parts_of o adds)) o.metadata ∙ ap (λ n. n + length o.metadata) (front_length o (rising (ids_of adds)) (parts_of o adds) (root_fits o adds f))
