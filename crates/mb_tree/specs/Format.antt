-- The formats of tiles in files.
use Rattle.std.specs.Prelude.{◌≡◌, ℕ, codes, Bool, true, false, cond, List, Option, Some, None, refl}
use Rattle.mb_tree.specs.Common.{bytes_eq, str_eq_ignore_ascii_case}
use Rattle.mb_tree.specs.declared.format.FileFormat.{FileFormat}
use Rattle.mb_tree.specs.declared.format.FileFormat.TheVariants.{Png, Jpg, Webp, Avif, Pbf, Mlt}

-- the format that one of two words names, ASCII case aside, or what the words after them name
abbrev pub named_by : List ℕ → FileFormat → List ℕ → Option FileFormat → Option FileFormat
named_by name format word others = cond (str_eq_ignore_ascii_case word name) (Some format) others

-- the format that a word names, as the extension of a file and in metadata
unfoldable pub format_of : List ℕ → Option FileFormat
format_of word =
    named_by (codes "png") Png word
    (named_by (codes "jpg") Jpg word
    (named_by (codes "jpeg") Jpg word
    (named_by (codes "webp") Webp word
    (named_by (codes "avif") Avif word
    (named_by (codes "pbf") Pbf word
    (named_by (codes "mvt") Pbf word
    (named_by (codes "mlt") Mlt word None)))))))

-- the word that is written
abbrev pub format_word : FileFormat → List ℕ
format_word Png = codes "png"
format_word Jpg = codes "jpg"
format_word Webp = codes "webp"
format_word Avif = codes "avif"
format_word Pbf = codes "pbf"
format_word Mlt = codes "mlt"

-- whether two formats are one, or both are none
abbrev pub same_format : Option FileFormat → Option FileFormat → Bool
same_format (Some f) (Some g) = bytes_eq (format_word f) (format_word g)
same_format None None = true
same_format _ _ = false

pub upper_case : format_of (codes "JPEG") ≡ Some Jpg
unfolding format_of
upper_case = refl

pub vector_tiles : format_of (codes "mvt") ≡ Some Pbf
unfolding format_of
vector_tiles = refl

pub no_word : format_of (codes "") ≡ None
unfolding format_of
no_word = refl

pub not_of_tiles : format_of (codes "gif") ≡ None
unfolding format_of
not_of_tiles = refl
