-- A source after a patch: its state, and what is known of it.
use Rattle.mb_copy.proofs.Common.{AllOnBoard, ap, AreTimes, Bool, bytes_eq, codes, cond, Dates, dates_for, entries, entries_sorted, false, false≢true, find, from_last, get, get-entries, get-over}
use Rattle.mb_copy.proofs.Common.{get-patched_by, get-remove, get-retain_keys, hashes_removed, Held, is_hash_name, is_null_at, is_some, IsOnBoard, IsSource, List, name_patched, name_patched_at, Names}
use Rattle.mb_copy.proofs.Common.{names_antisymmetric, names_patched, nat_cmp, nat_list_cmp_total, None, not, Option, option_and_then, option_map, option_or, over, patched_at, Place, put_state, refl}
use Rattle.mb_copy.proofs.Common.{remove, same_map, slice_cmp, Some, source_patched, State, state_put, sym, tiles_put, true, ℕ, [], ◌&&◌, ◌||◌, ◌∙◌, ◌∷◌, ◌≡◌}
use Rattle.std.proofs.lemmas.Map.Text.{is_eq-slice_cmp}
use Rattle.mb_copy.proofs.NameStateLemmas.{Named, with_names}
use Rattle.mb_copy.proofs.TouchLemmas.{over_by, touched, touches, touches_by}
use Rattle.mb_loaded.proofs.DatedLemmas.{dates_are}

-- names of a patch, one after another
abbrev name_touch : List ℕ → Option (List ℕ) → Option (Option (Option (List ℕ)))
name_touch name o = Some (option_map (λ text. Some text) o)

name_state : (h : Held) (name : List ℕ) (o : Option (List ℕ)) → (name_patched_at h name o).state ≡ with_names h.state (touched (name_touch name o) h.state.metadata name)
name_state h name None = refl
name_state h name (Some text) = refl

names_state : (h : Held) (es : List Named) → (from_last name_patched h es).state ≡ with_names h.state (touches name_touch h.state.metadata es)
names_state h [] = refl
names_state h (e ∷ es) = name_state (from_last name_patched h es) e.0 e.1 ∙ ap (λ (s : State). with_names s (touched (name_touch e.0 e.1) s.metadata e.0)) (names_state h es)

-- and without the hashes
abbrev without_hashes : Names → Names
without_hashes m = remove (remove (remove m (codes "agg_tiles_hash")) (codes "agg_tiles_hash_before_apply")) (codes "agg_tiles_hash_after_apply")

abbrev unless_any : {A : Type 0} → Bool → Bool → Bool → Option A → Option A
unless_any a b c o = cond c None (cond b None (cond a None o))

hashes_at : (m : Names) (q : List ℕ) → get (without_hashes m) q ≡ unless_any (bytes_eq q (codes "agg_tiles_hash")) (bytes_eq q (codes "agg_tiles_hash_before_apply")) (bytes_eq q (codes "agg_tiles_hash_after_apply")) (get m q)
hashes_at m q =
    gone (remove (remove m (codes "agg_tiles_hash")) (codes "agg_tiles_hash_before_apply")) (codes "agg_tiles_hash_after_apply")
    ∙ ap (cond (bytes_eq q (codes "agg_tiles_hash_after_apply")) None) (gone (remove m (codes "agg_tiles_hash")) (codes "agg_tiles_hash_before_apply")
    ∙ ap (cond (bytes_eq q (codes "agg_tiles_hash_before_apply")) None) (gone m (codes "agg_tiles_hash")))
  where
    gone : (m : Names) (k : List ℕ) → get (remove m k) q ≡ cond (bytes_eq q k) None (get m q)
    gone m k = get-remove nat_list_cmp_total m k q ∙ ap (λ b. cond b None (get m q)) (is_eq-slice_cmp q k)

patched_name : (a b c : Bool) (o : Option (Option (List ℕ))) (had : Option (Option (List ℕ))) (q : List ℕ) → unless_any a b c (over_by (option_and_then (name_touch q) o) had) ≡ cond (not (is_null_at o) && not (a || b || c)) (option_or o had) None
patched_name false false false (Some None) had q = refl
patched_name true false false (Some None) had q = refl
patched_name false true false (Some None) had q = refl
patched_name true true false (Some None) had q = refl
patched_name false false true (Some None) had q = refl
patched_name true false true (Some None) had q = refl
patched_name false true true (Some None) had q = refl
patched_name true true true (Some None) had q = refl
patched_name _ _ _ _ had q = refl

names_same : (names patch : Names) → without_hashes (touches name_touch names (entries patch)) ≡ names_patched names patch
names_same names patch = same_map nat_list_cmp_total names_antisymmetric _ _ (λ q.
    hashes_at (touches name_touch names (entries patch)) q
    ∙ (ap (unless_any (bytes_eq q (codes "agg_tiles_hash")) (bytes_eq q (codes "agg_tiles_hash_before_apply")) (bytes_eq q (codes "agg_tiles_hash_after_apply"))) (touches_by nat_list_cmp_total names_antisymmetric name_touch (entries patch) (entries_sorted patch) names q)
    ∙ (patched_name (bytes_eq q (codes "agg_tiles_hash")) (bytes_eq q (codes "agg_tiles_hash_before_apply")) (bytes_eq q (codes "agg_tiles_hash_after_apply")) (find (slice_cmp nat_cmp) q (entries patch)) (get names q) q
    ∙ (ap (λ o. cond (not (is_null_at o) && not (is_hash_name q)) (option_or (find (slice_cmp nat_cmp) q (entries patch)) (get names q)) None) (sym (get-entries patch q))
    ∙ (ap (λ o. cond (not (is_null_at (get patch q)) && not (is_hash_name q)) o None) (sym (get-over nat_list_cmp_total (entries patch) names q))
    ∙ sym (get-retain_keys (over (entries patch) names) (λ name. not (is_null_at (get patch name)) && not (is_hash_name name)) q (λ x tie. ap (λ name. not (is_null_at (get patch name)) && not (is_hash_name name)) (sym (names_antisymmetric q x tie)))))))))

-- the whole state
pub patched_is : (first a b d : Held) (patch : State) → a ≡ tiles_put first patch.tiles → b ≡ from_last name_patched a (entries patch.metadata) → d ≡ hashes_removed b → d.state ≡ source_patched first.state patch
patched_is first a b d patch put named cleared =
    ap (λ (h : Held). h.state) cleared
    ∙ (ap (λ (h : Held). with_names h.state (without_hashes h.state.metadata)) named
    ∙ (ap (λ (s : State). with_names s (without_hashes s.metadata)) (names_state a (entries patch.metadata))
    ∙ (ap (λ (s : State). with_names s (without_hashes (touches name_touch s.metadata (entries patch.metadata)))) (ap (λ (h : Held). h.state) put ∙ put_state first patch.tiles)
    ∙ ap (with_names (state_put first.state patch.tiles)) (names_same first.state.metadata patch.metadata))))

-- what is known of a source is known of it after a patch
module _ (source patch : State) (whole : IsSource source) (on : AllOnBoard patch) where
  tiles_at : (p : Place) → get (source_patched source patch).tiles p ≡ patched_at (λ bytes. Some (Some bytes)) (get patch.tiles p) (get source.tiles p)
  tiles_at p = get-patched_by (λ bytes. Some (Some bytes)) p patch.tiles source.tiles

  dates_at : (p : Place) → get (source_patched source patch).dates p ≡ patched_at (λ bytes. dates_for source.layout) (get patch.tiles p) (get source.dates p)
  dates_at p = get-patched_by (λ bytes. dates_for source.layout) p patch.tiles source.dates

  placed : (p : Place) (o : Option (Option (List ℕ))) → get patch.tiles p ≡ o → is_some (patched_at (λ bytes. Some (Some bytes)) o (get source.tiles p)) ≡ true → IsOnBoard p
  placed p None e h = whole.on_board p h
  placed p (Some x) e h = on p (ap is_some e)

  kept_dated : (p : Place) (o : Option (Option (List ℕ))) → is_some (patched_at (λ bytes. dates_for source.layout) o (get source.dates p)) ≡ true → is_some (patched_at {A = Option (List ℕ)} (λ bytes. Some (Some bytes)) o (get source.tiles p)) ≡ true
  kept_dated p None h = whole.dated p h
  kept_dated p (Some None) h = absurd (false≢true h)
  kept_dated p (Some (Some bytes)) h = refl

  kept_times : (p : Place) (d : Dates) (o : Option (Option (List ℕ))) → patched_at (λ bytes. dates_for source.layout) o (get source.dates p) ≡ Some d → AreTimes d
  kept_times p d None h = whole.times p d h
  kept_times p d (Some None) h = cc
  kept_times p d (Some (Some bytes)) h = dates_are source.layout d h

  pub still_source : IsSource (source_patched source patch)
  still_source = record {
    on_board = λ p h. placed p (get patch.tiles p) refl (ap is_some (sym (tiles_at p)) ∙ h);
    dated = λ p h. ap is_some (tiles_at p) ∙ kept_dated p (get patch.tiles p) (ap is_some (sym (dates_at p)) ∙ h);
    times = λ p d h. kept_times p d (get patch.tiles p) (sym (dates_at p) ∙ h);
  }
