-- Contents, each once, one behind another.
use Rattle.std.specs.Prelude.{◌≡◌, ℕ, ◌+◌, ◌<◌, List, [], ◌∷◌, ◌++◌, length, get_or, Option, Some, None, if◌then◌else◌}
use Rattle.pm_contents.specs.Common.{bytes_eq}
use Rattle.std.specs.List.{list_any}

-- the different byte strings in order of first add
abbrev pub put_new : List (List ℕ) → List ℕ → List (List ℕ)
put_new seen x = if list_any (bytes_eq x) seen then seen else seen ++ x ∷ []

-- where a content begins, the contents lying one behind another
abbrev pub place_in : List (List ℕ) → List ℕ → ℕ
place_in [] x = 0
place_in (c ∷ cs) x = if bytes_eq c x then 0 else (length c + place_in cs x)

-- where bytes begin, where they are among the contents
abbrev pub found_in : List (List ℕ) → List ℕ → Option ℕ
found_in cs x = if list_any (bytes_eq x) cs then Some (place_in cs x) else None

-- the bytes are none of them
abbrev pub IsNew : List (List ℕ) → List ℕ → Type 0
IsNew cs x = found_in cs x ≡ None

-- what has to be written of bytes: nothing where they are among the contents
abbrev pub fresh : List (List ℕ) → List ℕ → List ℕ
fresh cs x = if list_any (bytes_eq x) cs then [] else x

-- one of the contents begins at a place
abbrev pub IsAt : List (List ℕ) → ℕ → (List ℕ → Type 0) → Type 0
IsAt cs place P = (x : List ℕ) × (found_in cs x ≡ Some place) × P x

-- a list of bytes; another one is a mark that no data is equal to
abbrev pub IsBytes : List ℕ → Type 0
IsBytes x = (i : ℕ) → get_or x i 0 < 256
