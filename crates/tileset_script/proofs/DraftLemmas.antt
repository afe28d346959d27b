-- The stores of a draft.
use Rattle.tileset_script.proofs.Common.{All, ap, arith, ended, get_or, IfSome, length, List, map, map-append, NeverFails, None, Option, option_map, option_to_list, options_of, remove, Script, Some}
use Rattle.tileset_script.proofs.Common.{subst, sym, told_of, [], ◌++◌, ◌<◌, ◌∙◌, ◌∷◌, ◌≡◌}
use Rattle.std.proofs.lemmas.List.Elements.{All-append, All-head, All-nil, All-push, All-tail}
use Rattle.mb_store.specs.declared.mem_store.MemStore.{MemStore}
use Rattle.tileset_script.specs.declared.script.options.ScriptOptions.{ScriptOptions}
use Rattle.tile_ids.specs.Coord.{Coord}
use Rattle.tileset_script.specs.declared.script.setting.Setting.{Setting}
use Rattle.tileset_script.specs.declared.section.Section.{Section}

-- the stores of a draft in order
abbrev pub all_stores : List MemStore → Option Section → List MemStore
all_stores earlier latest = earlier ++ option_to_list (option_map (λ s. s.store) latest)

-- what they tell
stores_told : (earlier : List MemStore) (latest : Option Section) → map told_of (all_stores earlier latest) ≡ map told_of earlier ++ option_to_list (option_map (λ s. told_of s.store) latest)
stores_told earlier None = map-append told_of earlier []
stores_told earlier (Some section) = map-append told_of earlier (section.store ∷ [])

-- none of them fails
stores_unfailing : (earlier : List MemStore) (latest : Option Section) → All NeverFails earlier → IfSome latest (λ s. NeverFails s.store) → All NeverFails (all_stores earlier latest)
stores_unfailing earlier None e l = All-append NeverFails earlier [] e (All-nil NeverFails)
stores_unfailing earlier (Some section) e l = All-push NeverFails earlier section.store e l

-- the latest store behind the others
pub moved_unfailing : (earlier new : List MemStore) (latest : Option Section) (before : Section) (store : MemStore) → new ≡ earlier ++ store ∷ [] → store ≡ before.store → Some before ≡ latest
    → All NeverFails earlier → IfSome latest (λ s. NeverFails s.store) → All NeverFails new
moved_unfailing earlier new latest before store e s w h l =
    let own : NeverFails before.store = subst (λ o. IfSome o (λ s. NeverFails s.store)) (sym w) l in
    subst (All NeverFails) (sym e) (All-push NeverFails earlier store h (subst NeverFails (sym s) own))

-- the first store, and the others
pub first_removed : (stores patches : List MemStore) (base : MemStore) → 0 < length stores → base ≡ get_or stores 0 base → patches ≡ remove stores 0 → stores ≡ base ∷ patches
first_removed [] patches base l v i = absurd (omega arith)
first_removed (s ∷ stores) patches base l v i = let first : base ≡ s = v in let others : patches ≡ stores = i in sym (ap (λ b. b ∷ patches) first ∙ ap (λ ps. s ∷ ps) others)

pub script_ended : (settings : List Setting) (queries : List Coord) (options : ScriptOptions) (earlier stores patches : List MemStore) (latest : Option Section) (base : MemStore) → stores ≡ all_stores earlier latest → stores ≡ base ∷ patches → options ≡ options_of settings
    → Some (record { options = options; base = told_of base; patches = map told_of patches; queries = queries }) ≡ ended (record { settings = settings; earlier = map told_of earlier; latest = option_map (λ s. told_of s.store) latest; queries = queries })
script_ended settings queries options earlier stores patches latest base all first o =
    ap (λ p. Some (record { options = p; base = told_of base; patches = map told_of patches; queries = queries })) o
    ∙ ap (λ ts. elim ts as (λ _. Option Script) [
      | [] ↦ None
      | b ∷ ps ↦ Some (record { options = options_of settings; base = b; patches = ps; queries = queries })
    ]) (ap (map told_of) (sym first ∙ all) ∙ stores_told earlier latest)

pub patches_unfailing : (earlier stores patches : List MemStore) (latest : Option Section) (base : MemStore) → stores ≡ all_stores earlier latest → stores ≡ base ∷ patches → All NeverFails earlier → IfSome latest (λ s. NeverFails s.store) → NeverFails base × All NeverFails patches
patches_unfailing earlier stores patches latest base all first e l =
    let all_of : All NeverFails (base ∷ patches) = subst (All NeverFails) (sym all ∙ first) (stores_unfailing earlier latest e l) in
    (All-head NeverFails base patches all_of, All-tail NeverFails base patches all_of)
