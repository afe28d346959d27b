-- A set after one patch, or the first refusal.
use Rattle.std.specs.Prelude.{ℕ, Bool, List, Option, Result, filter_map, option_map}
use Rattle.mb_edit.specs.Common.{Blob, Cell, Contents, dates_for, HashAlgorithm, id_for, is_named, MbtError, MbtType, retain_keys, State}
use Rattle.mb_edit.specs.Patched.{meta_patched, over, patched, patched_by}
use Rattle.mb_edit.specs.PatchingOrder.{bytes_put, may_patch}
use Rattle.mb_load.specs.Loading.{due_by}

-- bytes that are put stand under the id that the layout gives them, over the contents that there are
abbrev pub content_entry : MbtType → HashAlgorithm → List ℕ → Option (Cell × Cell)
content_entry layout a bytes = option_map (λ id. (id, Blob bytes)) (id_for layout a bytes)

abbrev pub contents_over : MbtType → HashAlgorithm → List (List ℕ) → Contents → Contents
contents_over layout a put contents = over (filter_map (content_entry layout a) put) contents

-- a set after a patch: its tiles, and in a normalised set their ids and the contents of the ids that tiles have
abbrev pub state_patched : State → State → State
state_patched base patch =
    let ids = patched_by (id_for base.layout base.algorithm) patch.tiles base.ids in
    record base {
      tiles = patched base.tiles patch.tiles;
      metadata = meta_patched base.metadata patch.metadata;
      ids = ids;
      contents = retain_keys (contents_over base.layout base.algorithm (bytes_put patch.tiles) base.contents) (is_named ids);
      dates = patched_by (λ bytes. dates_for base.layout) patch.tiles base.dates;
    }

-- the set after the patch, or the first refusal
abbrev pub step : Bool → State → State → Result State MbtError
step force base patch = due_by (state_patched base patch) (may_patch force base patch)
