-- What a line asks for: a tile, and maybe the tag of the bytes that the asker has.
use Rattle.std.specs.Prelude.{◌≡◌, ℕ, ◌-◌, ◌^◌, Bool, ◌&&◌, ◌||◌, nat_eq, nat_le, if◌then◌else◌, List, [], ◌∷◌, length, Option, None, codes, refl}
use Rattle.std.specs.Char.{is_ascii_digit}
use Rattle.tile_serve.specs.Common.{bytes_eq, list_all, number_to, option_and_then, option_map, parted, words_of}
use Rattle.tile_ids.specs.Hilbert.{id_of}

-- an id, and a tag, which is empty where none is given
pub record Request : Type 0 where
  pub id : ℕ
  pub tag : List ℕ

abbrev pub asked : ℕ → List ℕ → Request
asked id tag = record { id = id; tag = tag }

-- a digit from 0 to 9 or from A to F
abbrev pub is_tag_digit : ℕ → Bool
is_tag_digit b = is_ascii_digit b || (nat_le 65 b && nat_le b 70)

abbrev pub is_tag : List ℕ → Bool
is_tag word = nat_eq (length word) 16 && list_all is_tag_digit word

-- the id of the tile whose zoom, column and row words spell: zoom 0 to 31, the others below two to the zoom
abbrev pub id_at : List ℕ → List ℕ → List ℕ → Option ℕ
id_at zoom column row =
    option_and_then (λ z. option_and_then (λ x. option_map (λ y. id_of (record { z = z; x = x; y = y })) (number_to (2 ^ z - 1) row)) (number_to (2 ^ z - 1) column)) (number_to 31 zoom)

-- what the words behind `GET` ask for
abbrev pub request_by : List (List ℕ) → Option Request
request_by (z ∷ x ∷ y ∷ []) = option_map (λ t. asked t []) (id_at z x y)
request_by (z ∷ x ∷ y ∷ tag ∷ []) = if is_tag tag then option_map (λ t. asked t tag) (id_at z x y) else None
request_by _ = None

abbrev pub request_words : List (List ℕ) → Option Request
request_words [] = None
request_words (word ∷ words) = if bytes_eq word (codes "GET") then request_by words else None

-- `GET Z X Y` or `GET Z X Y TAG`, words parted by one space, TAG 16 digits from 0 to 9 and A to F
abbrev pub request_of : List ℕ → Option Request
request_of line = request_words (words_of line)

pub no_such_column : request_of (codes "GET 0 1 0") ≡ None
unfolding parted
no_such_column = refl

pub two_spaces : request_of (codes "GET  0 0 0") ≡ None
unfolding parted
two_spaces = refl

pub lower_case_tag : request_of (codes "GET 0 0 0 9555e8555c62dcfd") ≡ None
unfolding parted
lower_case_tag = refl
