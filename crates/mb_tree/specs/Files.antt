-- The files of a tree.
use Rattle.std.specs.Prelude.{ℕ, List, [], ◌∷◌, map}
use Rattle.std.specs.Ordering.{nat_cmp}
use Rattle.std.specs.Cmp.Lexicographic.{slice_cmp}
use Rattle.mb_tree.specs.Common.{entries, FinMap, from_entries, insert}

-- the bytes of each file by its path, in the order of the paths' bytes
abbrev pub Files : Type 0
Files = FinMap (slice_cmp nat_cmp) (List ℕ)

-- a path and bytes
abbrev pub File : Type 0
File = List ℕ × List ℕ

abbrev pub paths_in : List File → List (List ℕ)
paths_in files = map (λ f. f.0) files

-- the files of a list, of which the first of a path counts
abbrev pub files_of_list : List File → Files
files_of_list files = from_entries files

-- all paths in their order
abbrev pub paths_of : Files → List (List ℕ)
paths_of files = paths_in (entries files)

-- after files were written, one after another
abbrev pub written : Files → List File → Files
written files [] = files
written files (f ∷ fs) = written (insert files f.0 f.1) fs
