-- The zooms that metadata is to name.
use Rattle.std.specs.Prelude.{◌≡◌, ℕ, codes, Bool, true, false, not, ◌++◌, List, [], Option, Some, None, cond, nat_eq, nat_lt, option_to_list, refl}
use Rattle.mb_metadata.specs.Common.{decimal, Names, State}
use Rattle.mb_metadata.specs.NameEdits.{names_edited, put_of, removal}
use Rattle.mb_metadata.specs.ZoomText.{zoom_at}
use Rattle.mb_metadata.specs.Zooms.{span, zooms_of}
use Rattle.mb_metadata.specs.declared.name_edits.NameEdit.{NameEdit}
use Rattle.mb_metadata.specs.declared.zoom_choice.UpdateZoomType.{UpdateZoomType}
use Rattle.mb_metadata.specs.declared.zoom_choice.UpdateZoomType.TheVariants.{Reset, GrowOnly, Skip}

abbrev pub update_zoom_words : UpdateZoomType → List ℕ
update_zoom_words Reset = codes "reset"
update_zoom_words GrowOnly = codes "grow-only"
update_zoom_words Skip = codes "skip"

-- whether the range grows where a computed zoom takes the place of a stored one: it is below the
-- least, or above the greatest
abbrev pub grows : Bool → ℕ → ℕ → Bool
grows false stored computed = nat_lt computed stored
grows true stored computed = nat_lt stored computed

-- whether the computed zoom is stored, as the least or the greatest: where none is stored always,
-- and else as the mode says
abbrev pub is_set : UpdateZoomType → Bool → Option ℕ → ℕ → Bool
is_set mode is_max None computed = true
is_set Reset is_max (Some stored) computed = not (nat_eq stored computed)
is_set GrowOnly is_max (Some stored) computed = grows is_max stored computed
is_set Skip is_max (Some stored) computed = false

-- the edit of one of the two names
abbrev pub zoom_edit : UpdateZoomType → Bool → Names → List ℕ → ℕ → Option NameEdit
zoom_edit mode is_max names name computed = cond (is_set mode is_max (zoom_at names name) computed) (Some (put_of name (decimal computed))) None

-- the edits of both: by the zooms of the tiles, and where there are no tiles a reset removes the names
abbrev pub both_edits : UpdateZoomType → Names → ℕ × ℕ → List NameEdit
both_edits mode names zooms = option_to_list (zoom_edit mode false names (codes "minzoom") zooms.0) ++ option_to_list (zoom_edit mode true names (codes "maxzoom") zooms.1)

abbrev pub removals : Names → List NameEdit
removals names = option_to_list (removal names (codes "minzoom")) ++ option_to_list (removal names (codes "maxzoom"))

abbrev pub zoom_edits : UpdateZoomType → Names → Option (ℕ × ℕ) → List NameEdit
zoom_edits mode names (Some zooms) = both_edits mode names zooms
zoom_edits Reset names None = removals names
zoom_edits _ names None = []

abbrev pub update_edits : UpdateZoomType → State → List NameEdit
update_edits mode s = zoom_edits mode s.metadata (span (zooms_of s.tiles))

-- metadata after an update
abbrev pub updated : UpdateZoomType → State → Names
updated mode s = names_edited s.metadata (update_edits mode s)

-- a set with them
abbrev pub state_updated : UpdateZoomType → State → State
state_updated mode s = record s { metadata = updated mode s }

pub equal_stays : is_set Reset true (Some 4) 4 ≡ false
equal_stays = refl

pub a_reset_shrinks : is_set Reset true (Some 6) 4 ≡ true
a_reset_shrinks = refl

pub growing_never_shrinks : is_set GrowOnly true (Some 6) 4 ≡ false
growing_never_shrinks = refl

pub growing_down : is_set GrowOnly false (Some 6) 4 ≡ true
growing_down = refl

pub skipped : is_set Skip false (Some 6) 4 ≡ false
skipped = refl

pub set_where_none_is : is_set Skip false None 4 ≡ true
set_where_none_is = refl
