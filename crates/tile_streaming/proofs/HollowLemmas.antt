-- What is held over a base before its first patch: names that are put into an empty set.
use Rattle.tile_streaming.proofs.Common.{ap, empty, entries, Err, from_entries, get-empty, get-entries, get-from_entries, HashAlgorithm, IfOk, List, MbtType, Names, nat_cmp, Ok, Option, refl, Result, sym, ℕ, [], ◌∙◌, ◌∷◌, ◌≡◌}
use Rattle.mb_lists.proofs.NameLemmas.{names_antisymmetric}
use Rattle.mb_loaded.specs.Empty.{empty_state}
use Rattle.mb_loaded.specs.FromLast.{from_last}
use Rattle.mb_loaded.specs.Held.{fresh, Held}
use Rattle.set_options.specs.SetNames.{name_put, names_put}
use Rattle.std.specs.Cmp.Lexicographic.{nat_list_cmp_total, slice_cmp}
use Rattle.std.specs.FinMap.{insert, same_map}

abbrev Named : Type 0
Named = List ℕ × Option (List ℕ)

-- names that are put into a set change its metadata alone
put_tiles : (h : Held) (es : List Named) → (from_last name_put h es).state.tiles ≡ h.state.tiles
put_tiles h [] = refl
put_tiles h (e ∷ es) = put_tiles h es

put_ids : (h : Held) (es : List Named) → (from_last name_put h es).state.ids ≡ h.state.ids
put_ids h [] = refl
put_ids h (e ∷ es) = put_ids h es

put_contents : (h : Held) (es : List Named) → (from_last name_put h es).state.contents ≡ h.state.contents
put_contents h [] = refl
put_contents h (e ∷ es) = put_contents h es

put_layout : (h : Held) (es : List Named) → (from_last name_put h es).state.layout ≡ h.state.layout
put_layout h [] = refl
put_layout h (e ∷ es) = put_layout h es

put_algorithm : (h : Held) (es : List Named) → (from_last name_put h es).state.algorithm ≡ h.state.algorithm
put_algorithm h [] = refl
put_algorithm h (e ∷ es) = put_algorithm h es

put_names : (h : Held) (es : List Named) → h.state.metadata ≡ empty → (from_last name_put h es).state.metadata ≡ from_entries es
put_names h [] none = none ∙ same_map nat_list_cmp_total names_antisymmetric _ _ (λ q. get-empty (slice_cmp nat_cmp) q ∙ sym (get-from_entries nat_list_cmp_total [] q))
put_names h (e ∷ es) none = ap (λ (m : Names). insert m e.0 e.1) (put_names h es none)

same_names : (m : Names) → from_entries (entries m) ≡ m
same_names m = same_map nat_list_cmp_total names_antisymmetric _ _ (λ q. get-from_entries nat_list_cmp_total (entries m) q ∙ sym (get-entries m q))

-- an empty set with names
module _ (layout : MbtType) (a : HashAlgorithm) (names : Names) (h : Held) (is : h ≡ names_put (fresh (empty_state layout a)) names) where
  abbrev first : Held
  first = fresh (empty_state layout a)

  pub has_layout : h.state.layout ≡ layout
  has_layout = ap (λ (k : Held). k.state.layout) is ∙ put_layout first (entries names)

  pub over_algorithm : h.state.algorithm ≡ a
  over_algorithm = ap (λ (k : Held). k.state.algorithm) is ∙ put_algorithm first (entries names)

  pub over_tiles : h.state.tiles ≡ empty
  over_tiles = ap (λ (k : Held). k.state.tiles) is ∙ put_tiles first (entries names)

  pub over_ids : h.state.ids ≡ empty
  over_ids = ap (λ (k : Held). k.state.ids) is ∙ put_ids first (entries names)

  pub over_contents : h.state.contents ≡ empty
  over_contents = ap (λ (k : Held). k.state.contents) is ∙ put_contents first (entries names)

  pub over_names : h.state.metadata ≡ names
  over_names = ap (λ (k : Held). k.state.metadata) is ∙ (put_names first (entries names) refl ∙ same_names names)

-- a part of a set that is put in order again
pub settled_as : {A E : Type 0} (f : Held → A) (r : Result Held E) (h : Held) (v : A) → f h ≡ v → IfOk r (λ l. l ≡ h) → IfOk r (λ l. f l ≡ v)
settled_as f (Ok l) h v same is = ap f is ∙ same
settled_as f (Err e) h v same is = tt
