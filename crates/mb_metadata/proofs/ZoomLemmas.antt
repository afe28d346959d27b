-- The least and the greatest zoom, one tile after another.
use Rattle.mb_metadata.proofs.Common.{ap, blob_cell, Cell, fold, get_or_from_slice_get, IfSome, length, List, map, map-append, max, min, None, none-some, Option, Place, place_at, refl, slice_get}
use Rattle.mb_metadata.proofs.Common.{slice_get-get_or, Some, span, sym, take, take_all, take_more, with_zoom, ℕ, [], ◌++◌, ◌+◌, ◌<◌, ◌∙◌, ◌∷◌, ◌≡◌, ◌≤◌}
use Rattle.std.proofs.lemmas.List.Sums.{fold-append}
use Rattle.tile_ids.specs.Coord.{Coord}

abbrev Entry : Type 0
Entry = Place × Option (List ℕ)

abbrev zooms : List Entry → List ℕ
zooms es = map (λ e. e.0.zoom) es

-- one more number at the end
span_push : (zs : List ℕ) (z : ℕ) → span (zs ++ z ∷ []) ≡ with_zoom (span zs) z
span_push [] z = refl
span_push (y ∷ ys) z = ap (λ n. Some (n, fold max y (ys ++ z ∷ []))) (fold-append min y ys (z ∷ [])) ∙ ap (λ n. Some (min (fold min y ys) z, n)) (fold-append max y ys (z ∷ []))

pub span_more : (es : List Entry) (i : ℕ) (old new : Option (ℕ × ℕ)) (zoom : ℕ) (c : Coord) (cell : Cell) → i < length es → IfSome (slice_get es i) (λ e. (e.0 ≡ place_at c) × (blob_cell e.1 ≡ cell)) → zoom ≡ c.z → new ≡ with_zoom old zoom → old ≡ span (zooms (take i es)) → new ≡ span (zooms (take (i + 1) es))
span_more es i old new zoom c cell within here of step before = by (slice_get es i) refl here
  where
    by : (o : Option Entry) → slice_get es i ≡ o → IfSome o (λ e. (e.0 ≡ place_at c) × (blob_cell e.1 ≡ cell)) → new ≡ span (zooms (take (i + 1) es))
    by None at h = absurd (none-some _ (sym at ∙ slice_get-get_or es i (record { zoom = 0; column = 0; row = 0 }, None) within))
    by (Some e) at h =
        step
        ∙ (ap (λ s. with_zoom s zoom) before
        ∙ (ap (λ n. with_zoom (span (zooms (take i es))) n) (of ∙ sym (ap (λ (p : Place). p.zoom) h.0))
        ∙ (sym (span_push (zooms (take i es)) e.0.zoom)
        ∙ (ap span (sym (map-append (λ (e : Entry). e.0.zoom) (take i es) (e ∷ [])))
        ∙ ap (λ xs. span (zooms xs)) (sym (take_more es i e within ∙ ap (λ y. take i es ++ y ∷ []) (get_or_from_slice_get es i e e at)))))))

pub span_end : (es : List Entry) (i : ℕ) (s : Option (ℕ × ℕ)) → length es ≤ i → s ≡ span (zooms (take i es)) → s ≡ span (zooms es)
span_end es i s end at = at ∙ ap (λ xs. span (zooms xs)) (take_all i es end)
