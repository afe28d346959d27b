-- The name of a set by the path of its file.
use Rattle.std.specs.Prelude.{◌≡◌, ℕ, codes, List, refl, unwrap_or}
use Rattle.std.specs.Path.{path_file_name, path_file_stem, rsplit_once, split_last_component, trim_trailing}

-- what stands after the last slash, up to its last dot where that isn't first, an ending slash or slash and dot cut as
-- often as there is one; unknown where nothing, a dot or two dots stand there
abbrev pub file_name : List ℕ → List ℕ
file_name path = unwrap_or (path_file_stem path) (codes "unknown")

pub plain : file_name (codes "data/world.mbtiles") ≡ codes "world"
unfolding path_file_name path_file_stem rsplit_once split_last_component trim_trailing
plain = refl

pub two_dots : file_name (codes "a.b.mbtiles") ≡ codes "a.b"
unfolding path_file_name path_file_stem rsplit_once split_last_component trim_trailing
two_dots = refl

pub first_dot : file_name (codes "a/.hidden") ≡ codes ".hidden"
unfolding path_file_name path_file_stem rsplit_once split_last_component trim_trailing
first_dot = refl

pub endings : file_name (codes "a/b.c/././/") ≡ codes "b"
unfolding path_file_name path_file_stem rsplit_once split_last_component trim_trailing
endings = refl

pub empty_path : file_name (codes "") ≡ codes "unknown"
unfolding path_file_name path_file_stem rsplit_once split_last_component trim_trailing
empty_path = refl

pub root : file_name (codes "/") ≡ codes "unknown"
unfolding path_file_name path_file_stem rsplit_once split_last_component trim_trailing
root = refl

pub here : file_name (codes "./") ≡ codes "unknown"
unfolding path_file_name path_file_stem rsplit_once split_last_component trim_trailing
here = refl

pub above : file_name (codes "a/..") ≡ codes "unknown"
unfolding path_file_name path_file_stem rsplit_once split_last_component trim_trailing
above = refl
