-- The tests over descriptions, and what they say of the state.
use Rattle.mb_load.proofs.Common.{ap, Bool, content_rows, detected, Err, false, false≢true, first_refusal, IfErr, IfOk, index_missing, InvalidDataFormat, is_keyed, is_metadata, layout_of, List}
use Rattle.mb_load.proofs.Common.{list_any, MbtError, MbtType, Metadata, None, NoUniquenessConstraint, Ok, Option, refl, Result, row_refusals, Some, state_of, stated, StoreFault, subst, sym}
use Rattle.mb_load.proofs.Common.{TableDesc, Tables, tile_table, true, unless, unless_refused, ◌∙◌, ◌∷◌, ◌≡◌, ◌≢◌}

two_tests : (a b : Bool) (rest : List (Option MbtError)) → a ≡ true → b ≡ false → first_refusal (unless a InvalidDataFormat ∷ unless b NoUniquenessConstraint ∷ rest) ≡ Some NoUniquenessConstraint
two_tests true false rest h k = refl
two_tests true true rest h k = absurd (false≢true (sym k))
two_tests false b rest h k = absurd (false≢true h)

-- what was detected
pub detected_ok : (ds : List TableDesc) (layout : MbtType) → detected ds ≡ Ok layout → (layout_of ds ≡ Some layout) × (index_missing ds layout ≡ None)
detected_ok ds layout h = by (layout_of ds) refl
  where
    keyed : (found : MbtType) → layout_of ds ≡ Some found → (b : Bool) → is_keyed ds (tile_table found) ≡ b → (layout_of ds ≡ Some layout) × (index_missing ds layout ≡ None)
    keyed found e true k =
        let g = rw (e, k) at h in
        let same : found ≡ layout = cc in
        (e ∙ ap Some same, ap (index_missing ds) (sym same) ∙ rw k refl)
    keyed found e false k = let g = rw (e, k) at h in cc

    by : (o : Option MbtType) → layout_of ds ≡ o → (layout_of ds ≡ Some layout) × (index_missing ds layout ≡ None)
    by None e = let g = rw e at h in cc
    by (Some found) e = keyed found e (is_keyed ds (tile_table found)) refl

-- what was detected is refused as the set is, where there is a table of metadata
pub detected_err : (ds : List TableDesc) (e : MbtError) → detected ds ≡ Err e → list_any is_metadata ds ≡ true → (t : Tables) → t.descriptions ≡ ds → state_of t ≡ Err e
detected_err ds e h named t same = by (layout_of ds) refl
  where
    here : list_any is_metadata t.descriptions ≡ true
    here = ap (list_any is_metadata) same ∙ named

    keyed : (found : MbtType) → layout_of ds ≡ Some found → (b : Bool) → is_keyed ds (tile_table found) ≡ b → state_of t ≡ Err e
    keyed found l true k = let g = rw (l, k) at h in cc
    keyed found l false k =
        let g = rw (l, k) at h in
        let due : e ≡ NoUniquenessConstraint = cc in
        let off : is_keyed t.descriptions (tile_table found) ≡ false = ap (λ d. is_keyed d (tile_table found)) same ∙ k in
        ap (λ o. stated o t) (ap layout_of same ∙ l) ∙ (ap (unless_refused found t) (two_tests (list_any is_metadata t.descriptions) (is_keyed t.descriptions (tile_table found)) (row_refusals found (t.rows Metadata) (content_rows found t) (t.rows (tile_table found))) here off) ∙ ap Err (sym due))

    by : (o : Option MbtType) → layout_of ds ≡ o → state_of t ≡ Err e
    by None l = let g = rw l at h in let due : e ≡ InvalidDataFormat = cc in ap (λ o. stated o t) (ap layout_of same ∙ l) ∙ ap Err (sym due)
    by (Some found) l = keyed found l (is_keyed ds (tile_table found)) refl

-- the same of an answer
pub layouts_found : (ds : List TableDesc) (r : Result MbtType MbtError) → r ≡ detected ds → IfOk r (λ layout. layout_of ds ≡ Some layout)
layouts_found ds (Ok layout) h = (detected_ok ds layout (sym h)).0
layouts_found ds (Err e) h = tt

pub indexes_found : (ds : List TableDesc) (r : Result MbtType MbtError) → r ≡ detected ds → IfOk r (λ layout. index_missing ds layout ≡ None)
indexes_found ds (Ok layout) h = (detected_ok ds layout (sym h)).1
indexes_found ds (Err e) h = tt

pub all_refused : (ds : List TableDesc) (r : Result MbtType MbtError) → r ≡ detected ds → list_any is_metadata ds ≡ true → IfErr r (λ e. (t : Tables) → t.descriptions ≡ ds → state_of t ≡ Err e)
all_refused ds (Ok layout) h named = tt
all_refused ds (Err e) h named = detected_err ds e (sym h) named

of_detected : (ds : List TableDesc) → IfErr (detected ds) (λ e. e ≢ StoreFault)
of_detected ds = by (layout_of ds) refl
  where
    keyed : (found : MbtType) → layout_of ds ≡ Some found → (b : Bool) → is_keyed ds (tile_table found) ≡ b → IfErr (detected ds) (λ e. e ≢ StoreFault)
    keyed found e true k = rw (e, k) tt
    keyed found e false k = rw (e, k) (λ h. cc)

    by : (o : Option MbtType) → layout_of ds ≡ o → IfErr (detected ds) (λ e. e ≢ StoreFault)
    by None e = rw e (λ h. cc)
    by (Some found) e = keyed found e (is_keyed ds (tile_table found)) refl

-- no refusal is a fault of a store
pub never_fault : (ds : List TableDesc) (r : Result MbtType MbtError) → r ≡ detected ds → IfErr r (λ e. e ≢ StoreFault)
never_fault ds r h = subst (λ (x : Result MbtType MbtError). IfErr x (λ e. e ≢ StoreFault)) (sym h) (of_detected ds)
