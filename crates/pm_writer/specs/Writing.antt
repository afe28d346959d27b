-- What a writer has put onto its medium.
use Rattle.std.specs.Prelude.{◌≡◌, ℕ, zero, suc, ◌+◌, ◌-◌, ◌<◌, ◌^◌, Bool, false, List, [], ◌∷◌, ◌++◌, length, replicate, flat_map, Option, IfSome, vec_len}
use Rattle.pm_writer.specs.Common.{Finds, Options, vec_capacity, xxh3_64}
use Rattle.pm_format.specs.declared.compression.Compression.TheVariants as compression
use Rattle.pm_writer.specs.Adds.{contents_from}
use Rattle.pm_writer.specs.Bounds.{OptionsFit}
use Rattle.pm_writer.specs.Means.{Means}
use Rattle.pm_writer.specs.Pieces.{IsHidden}
use Rattle.pm_writer.specs.Settings.{options_with}
use Rattle.pm_writer.specs.declared.state.WriterState.{WriterState}

unfoldable pub zeros : ℕ → List ℕ
zeros count = replicate count 0

-- the contents of adds, one behind another
abbrev pub data_of : List (ℕ × List ℕ) → List ℕ
data_of adds = flat_map (λ c. c) (contents_from [] adds)

-- where they end
abbrev pub data_end : Options → List (ℕ × List ℕ) → ℕ
data_end o adds = 16384 + length o.metadata + length (data_of adds)

-- the bytes before the archive is finished: room for the header and the root, the metadata, and the contents
abbrev pub begun : Options → List (ℕ × List ℕ) → List ℕ
begun o adds = zeros 16384 ++ (o.metadata ++ data_of adds)

-- one more add; empty data adds nothing
abbrev pub add_to : List (ℕ × List ℕ) → ℕ → List ℕ → List (ℕ × List ℕ)
add_to adds id [] = adds
add_to adds id (b ∷ bytes) = adds ++ (id, b ∷ bytes) ∷ []

-- the data has fewer than 2^32 bytes, and doesn't end past u64
abbrev pub AddFits : Options → List (ℕ × List ℕ) → ℕ → List ℕ → Type 0
AddFits o adds id bytes = (length bytes < 2 ^ 32) × (data_end o (add_to adds id bytes) < 2 ^ 64)

-- the same bytes at the ids of a run, one after another
abbrev pub add_run_to : List (ℕ × List ℕ) → ℕ → ℕ → List ℕ → List (ℕ × List ℕ)
add_run_to adds id zero bytes = adds
add_run_to adds id (suc n) bytes = add_run_to (add_to adds id bytes) (id + 1) n bytes

-- A run of at least one id fits where its first id does, since its bytes are stored once. A run of none has nothing
-- that would have to fit, and no bytes.
abbrev pub RunFits : Options → List (ℕ × List ℕ) → ℕ → ℕ → List ℕ → Type 0
RunFits o adds id zero bytes = Unit {0}
RunFits o adds id (suc n) bytes = AddFits o adds id bytes

abbrev pub run_size : ℕ → ℕ → ℕ
run_size zero size = 0
run_size (suc n) size = size

-- the state of a writer with these options
pub record IsWriterOf (o : Options) (s : WriterState) : Type 0 where
  pub settings : o ≡ options_with s.settings o.metadata
  pub plain : o.internal_compression ≡ compression.None
  pub fit : OptionsFit o
  pub place : s.data_offset ≡ 16384 + length o.metadata

-- the state and the told bytes after these adds
pub record Held (o : Options) (told : Option (List ℕ)) (s : WriterState) (adds : List (ℕ × List ℕ)) : Type 0 where
  pub means : Means s.adds adds
  pub ends : data_end o adds < 2 ^ 64
  pub bytes : IfSome told (λ b. b ≡ begun o adds)
  pub finds : IfSome told (λ b. Finds xxh3_64 s.adds.contents (contents_from [] adds))

-- whether the medium failed in an earlier call
abbrev pub has_failed : WriterState → Bool
has_failed s = s.failed

-- for how many more entries there is memory
abbrev pub room : WriterState → ℕ
room s = vec_capacity s.adds.entries - vec_len s.adds.entries

-- the told bytes hold the contents of these adds at their places, unless the medium failed; and no
-- part of an archive is shown
pub record Writes (o : Options) (told : Option (List ℕ)) (s : WriterState) (adds : List (ℕ × List ℕ)) : Type 0 where
  pub of : IsWriterOf o s
  pub hidden : IfSome told IsHidden
  pub held : has_failed s ≡ false → Held o told s adds

-- the same of data of at least one byte, known or new
abbrev pub FilledFits : Options → List (ℕ × List ℕ) → ℕ → List ℕ → Type 0
FilledFits o adds id bytes = (length bytes < 2 ^ 32) × (data_end o (adds ++ (id, bytes) ∷ []) < 2 ^ 64)

-- what the state means without its medium
pub record IsStateOf (o : Options) (s : WriterState) (adds : List (ℕ × List ℕ)) : Type 0 where
  pub of : IsWriterOf o s
  pub means : Means s.adds adds
  pub ends : data_end o adds < 2 ^ 64
