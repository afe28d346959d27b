-- Objects of JSON that are put together member by member, and have no float.
use Rattle.mb_metadata.proofs.Common.{All, All-head, All-tail, ap, arith, as_it_is, at_drop_all, codes, Data, drop, entries, Equal, false, get_or, get_or_from_slice_get, Greater, has_float}
use Rattle.mb_metadata.proofs.Common.{HasNoFloat, IfSome, items_have_float, items_of, layer_data, layers_data, LayersHaveNoFloat, length, Less, List, map, match_ordering, member, Members}
use Rattle.mb_metadata.proofs.Common.{members_have_float, nat_cmp, no_members, None, Option, option_map, or_from, or_parts, Ordering, put, put_some, refl, slice_cmp, slice_get, Some, string, suc, sym}
use Rattle.mb_metadata.proofs.Common.{texts_data, VectorLayer, with_entries, zoom_data, ℕ, [], ◌+◌, ◌<◌, ◌||◌, ◌∙◌, ◌∷◌, ◌≡◌, ◌≤◌}
use Rattle.std.proofs.Math.Seq.{drop-cons}

-- the entry at an index is put, and those behind it are left
entries_step : {V : Type 0} (value : V → Data) (es : List (List ℕ × V)) (i : ℕ) (ms : Members) (name : List ℕ) (v : V) → i < length es → slice_get es i ≡ Some (name, v) → with_entries value ms (drop i es) ≡ with_entries value (put name (value v) ms) (drop (i + 1) es)
entries_step {V = V} value es i ms name v lt at =
    let next : suc i ≡ i + 1 = omega arith in
    ap (with_entries value ms) (drop-cons es i (name, v) lt)
    ∙ (ap (λ (n : ℕ). with_entries value (put (get_or es i (name, v)).0 (value (get_or es i (name, v)).1) ms) (drop n es)) next
    ∙ ap (λ (x : List ℕ × V). with_entries value (put x.0 (value x.1) ms) (drop (i + 1) es)) (get_or_from_slice_get es i (name, v) (name, v) at))

pub entries_kept : {V : Type 0} (value : V → Data) (es : List (List ℕ × V)) (i : ℕ) (old new all : Members) (name : List ℕ) (v : V) (d : Data) → i < length es → slice_get es i ≡ Some (name, v) → d ≡ value v → new ≡ put name d old → with_entries value old (drop i es) ≡ all → with_entries value new (drop (i + 1) es) ≡ all
entries_kept value es i old new all name v d lt at is step before =
    ap (λ ms. with_entries value ms (drop (i + 1) es)) (step ∙ ap (λ x. put name x old) is) ∙ (sym (entries_step value es i old name v lt at) ∙ before)

pub entries_end : {V : Type 0} (value : V → Data) (es : List (List ℕ × V)) (i : ℕ) (ms all : Members) → length es ≤ i → with_entries value ms (drop i es) ≡ all → ms ≡ all
entries_end value es i ms all end h = sym (at_drop_all (with_entries value ms) es i end) ∙ h

-- no float where none is put
no_float_put : (k : List ℕ) (d : Data) (ms : Members) → has_float d ≡ false → members_have_float ms ≡ false → members_have_float (put k d ms) ≡ false
no_float_put k d no_members h m = or_from (has_float d) false h refl
no_float_put k d (member l e ms) h m = by (slice_cmp nat_cmp k l) (no_float_put k d ms h (or_parts (has_float e) (members_have_float ms) m).1)
  where
    by : (o : Ordering) → members_have_float (put k d ms) ≡ false → members_have_float (match_ordering o (member k d (member l e ms)) (member l d ms) (member l e (put k d ms))) ≡ false
    by Less ih = or_from (has_float d) (has_float e || members_have_float ms) h m
    by Equal ih = or_from (has_float d) (members_have_float ms) h (or_parts (has_float e) (members_have_float ms) m).1
    by Greater ih = or_from (has_float e) (members_have_float (put k d ms)) (or_parts (has_float e) (members_have_float ms) m).0 ih

no_float_some : (k : List ℕ) (o : Option Data) (ms : Members) → IfSome o (λ d. has_float d ≡ false) → members_have_float ms ≡ false → members_have_float (put_some k o ms) ≡ false
no_float_some k None ms h m = m
no_float_some k (Some d) ms h m = no_float_put k d ms h m

no_float_entries : {V : Type 0} (value : V → Data) (ms : Members) (es : List (List ℕ × V)) → All (λ e. has_float (value e.1) ≡ false) es → members_have_float ms ≡ false → members_have_float (with_entries value ms es) ≡ false
no_float_entries value ms [] h m = m
no_float_entries value ms (e ∷ es) h m = no_float_entries value (put e.0 (value e.1) ms) es (All-tail (λ e. has_float (value e.1) ≡ false) e es h) (no_float_put e.0 (value e.1) ms (All-head (λ e. has_float (value e.1) ≡ false) e es h) m)

no_float_zoom : (o : Option ℕ) → IfSome (option_map zoom_data o) (λ d. has_float d ≡ false)
no_float_zoom None = tt
no_float_zoom (Some z) = refl

no_float_text : (o : Option (List ℕ)) → IfSome (option_map string o) (λ d. has_float d ≡ false)
no_float_text None = tt
no_float_text (Some t) = refl

no_float_layer : (l : VectorLayer) → HasNoFloat l.other → has_float (layer_data l) ≡ false
no_float_layer l h =
    no_float_some (codes "maxzoom") (option_map zoom_data l.maxzoom) _ (no_float_zoom l.maxzoom)
    (no_float_some (codes "minzoom") (option_map zoom_data l.minzoom) _ (no_float_zoom l.minzoom)
    (no_float_some (codes "description") (option_map string l.description) _ (no_float_text l.description)
    (no_float_put (codes "fields") (texts_data l.fields) (put (codes "id") (string l.id) (with_entries as_it_is no_members (entries l.other))) (no_float_entries string no_members (entries l.fields) (λ i d lt. refl) refl)
    (no_float_put (codes "id") (string l.id) (with_entries as_it_is no_members (entries l.other)) refl
    (no_float_entries as_it_is no_members (entries l.other) h refl)))))

no_float_items : (ls : List VectorLayer) → LayersHaveNoFloat ls → items_have_float (items_of (map layer_data ls)) ≡ false
no_float_items [] h = refl
no_float_items (l ∷ ls) h = or_from (has_float (layer_data l)) _ (no_float_layer l (All-head (λ l. HasNoFloat l.other) l ls h)) (no_float_items ls (All-tail (λ l. HasNoFloat l.other) l ls h))

pub no_float_layers : (ls : List VectorLayer) → LayersHaveNoFloat ls → has_float (layers_data ls) ≡ false
no_float_layers ls h = or_from _ false (no_float_items ls h) refl
