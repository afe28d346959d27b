-- Pieces that are written to a medium.
use Rattle.std.specs.Prelude.{◌≡◌, ◌⊎◌, ℕ, ◌+◌, List, ◌++◌, length, drop, slice_index, Result, Ok, Err}
use Rattle.pm_writer.specs.Common.{PmtError, Rose}
use Rattle.pm_format.specs.declared.error.PmtError.TheVariants as errors
use Rattle.pm_format.specs.declared.error.ReadCause.TheVariants as causes

-- a refusal is a fault, which comes only where the count of faults rose, or running out of memory
abbrev pub PutCauses : ℕ → ℕ → Result Unit PmtError → Type 0
PutCauses before now (Ok _) = Unit {0}
PutCauses before now (Err (errors.Reading causes.Fault)) = Rose before now
PutCauses before now (Err errors.OutOfMemory) = Unit {0}
PutCauses before now (Err _) = ⊥

-- the label of directories, byte 97, is 0 or missing: no reader opens these bytes as an archive
abbrev pub IsHidden : List ℕ → Type 0
IsHidden b = slice_index b 97 ≡ 0

-- bytes that end at a place behind the front, in which the label of directories isn't written
pub record IsOpenTo (end : ℕ) (b : List ℕ) : Type 0 where
  pub ends : length b ≡ end
  pub hidden : IsHidden b

-- the bytes with the header and the root in front, and the other directories behind
abbrev pub finished : List ℕ → List ℕ → List ℕ → List ℕ → List ℕ
finished b below root header = header ++ (root ++ (drop (127 + length root) b ++ below))

-- no part is shown: the bytes are hidden, or finished
abbrev pub IsHiddenOr : List ℕ → List ℕ → Type 0
IsHiddenOr whole c = IsHidden c ⊎ (c ≡ whole)
