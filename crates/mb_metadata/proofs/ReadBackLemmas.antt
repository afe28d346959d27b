-- What is read under a name after the edits of a document.
use Rattle.mb_metadata.proofs.Common.{and_parts, ap, arith, below_all, Bool, bounds_text, center_text, codes, cond, cons_option, Data, data_text, decimal, document_edits, EditsNames, entries}
use Rattle.mb_metadata.proofs.Common.{entries_sorted, eq_by_cmp, false, false_from_ne_true, false≢true, filter_map, find, get, get-entries, get-from_entries, get-insert, has_field, insert}
use Rattle.mb_metadata.proofs.Common.{insert_edits, is_edited, is_eq, is_sorted, layers_text, length, List, list_all, map, NameEdit, Names, names_edited, nat_cmp-IsAntisymmetric, nat_list_cmp_total}
use Rattle.mb_metadata.proofs.Common.{None, none-some, Ok, Option, option_and_then, option_map, option_to_list, or_from, or_parts, other_edits, other_entry, others_said, put_any, put_of, refl, said}
use Rattle.mb_metadata.proofs.Common.{slice_cmp-IsAntisymmetric, Some, State, state_edited, state_of, string, subst, suc, sym, Tables, Text, then_put, TileJson, true, true≢false, unless_empty}
use Rattle.mb_metadata.proofs.Common.{with_text, zoom_at, zoom_of, ℕ, [], ◌++◌, ◌<◌, ◌==◌, ◌||◌, ◌∙◌, ◌∷◌, ◌≡◌, ◌≢◌}
use Rattle.std.specs.Cmp.{Equal-is}
use Rattle.std.proofs.lemmas.Bool.Decides.{Decides-eqb}
use Rattle.mb_metadata.proofs.OthersLemmas.{Entry, R, is_less, is_true, other_name}
use Rattle.mb_metadata.proofs.UpdateLemmas.{ok_same}
use Rattle.mb_metadata.proofs.NumberLemmas.{number_back}
use Rattle.mb_metadata.specs.ReadBack.{IsOtherRead, IsRead}

-- what stands under a name: nothing, null or a text
abbrev pub Held_at : Type 0
Held_at = Option (Option (List ℕ))

-- a text over what a name has
abbrev pub put_over : Option (List ℕ) → Held_at → Held_at
put_over None had = had
put_over (Some text) had = Some (Some text)

-- names with the texts that are put under them, one after another
abbrev pub Puts : Type 0
Puts = List (List ℕ × Option (List ℕ))

abbrev pub puts : List NameEdit → Puts → List NameEdit
puts edits [] = edits
puts edits (p ∷ ps) = puts (then_put edits p.0 p.1) ps

abbrev pub text_over : List ℕ → Puts → Held_at → Held_at
text_over q [] had = had
text_over q (p ∷ ps) had = text_over q ps (cond (eq_by_cmp R q p.0) (put_over p.1 had) had)

abbrev pub is_put : List ℕ → Puts → Bool
is_put q [] = false
is_put q (p ∷ ps) = eq_by_cmp R q p.0 || is_put q ps

-- edits in two parts
edited_append : (names : Names) (xs ys : List NameEdit) → names_edited names (xs ++ ys) ≡ names_edited (names_edited names xs) ys
edited_append names [] ys = refl
edited_append names (e ∷ xs) ys = edited_append (with_text names e.name e.text) xs ys

either_same : {A : Type 0} (b : Bool) (x : A) → x ≡ cond b x x
either_same true x = refl
either_same false x = refl

get_put : (names : Names) (name : List ℕ) (text : Option (List ℕ)) (q : List ℕ) → get (names_edited names (option_to_list (put_any name text))) q ≡ cond (eq_by_cmp R q name) (put_over text (get names q)) (get names q)
get_put names name None q = either_same (eq_by_cmp R q name) (get names q)
get_put names name (Some text) q = get-insert nat_list_cmp_total names name (Some text) q

get_puts : (names : Names) (edits : List NameEdit) (ps : Puts) (q : List ℕ) → get (names_edited names (puts edits ps)) q ≡ text_over q ps (get (names_edited names edits) q)
get_puts names edits [] q = refl
get_puts names edits (p ∷ ps) q =
    get_puts names (then_put edits p.0 p.1) ps q
    ∙ ap (text_over q ps) (ap (λ (m : Names). get m q) (edited_append names edits (option_to_list (put_any p.0 p.1))) ∙ get_put (names_edited names edits) p.0 p.1 q)

-- a name under which nothing is put
passed_over : (q : List ℕ) (ps : Puts) (had : Held_at) → is_put q ps ≡ false → text_over q ps had ≡ had
passed_over q [] had h = refl
passed_over q (p ∷ ps) had h =
    let two = or_parts (eq_by_cmp R q p.0) (is_put q ps) h in
    ap (λ b. text_over q ps (cond b (put_over p.1 had) had)) two.0 ∙ passed_over q ps had two.1

same_name : (q name : List ℕ) → eq_by_cmp R q name ≡ true → q ≡ name
same_name q name e = slice_cmp-IsAntisymmetric nat_cmp-IsAntisymmetric q name ((Equal-is (R q name)).0 e)

none_put : (q : List ℕ) (ps : Puts) → has_field q ≡ false → list_all (λ (p : List ℕ × Option (List ℕ)). has_field p.0) ps ≡ true → is_put q ps ≡ false
none_put q [] free all = refl
none_put q (p ∷ ps) free all =
    let two = and_parts (has_field p.0) (list_all (λ (p : List ℕ × Option (List ℕ)). has_field p.0) ps) all in
    or_from (eq_by_cmp R q p.0) (is_put q ps) (false_from_ne_true _ (λ e. false≢true (sym free ∙ (ap has_field (same_name q p.0 e) ∙ two.0)))) (none_put q ps free two.1)

-- the entries of `other`, each under its own name
abbrev Value_at : Type 0
Value_at = List ℕ × Data

none_below : {X : Type 0} (q : List ℕ) (es : List (List ℕ × X)) → below_all R q es ≡ true → find R q es ≡ None
none_below q [] h = refl
none_below q (e ∷ es) h =
    let two = and_parts _ _ h in
    ap (λ r. cond (is_eq r) (Some e.1) (find R q es)) (is_less (R q e.0) two.0) ∙ none_below q es two.1

none_later : {X : Type 0} (q name : List ℕ) (es : List (List ℕ × X)) → below_all R name es ≡ true → eq_by_cmp R q name ≡ true → find R q es ≡ None
none_later q name es below e = ap (λ n. find R n es) (same_name q name e) ∙ none_below name es below

get_others : (es : List Value_at) (names : Names) (q : List ℕ) → is_sorted R es ≡ true → get (names_edited names (map (λ e. put_of e.0 (data_text e.1)) es)) q ≡ put_over (option_map data_text (find R q es)) (get names q)
get_others [] names q s = refl
get_others (e ∷ es) names q s =
    let two = and_parts _ _ s in
    get_others es (insert names e.0 (Some (data_text e.1))) q two.1
    ∙ (ap (put_over (option_map data_text (find R q es))) (get-insert nat_list_cmp_total names e.0 (Some (data_text e.1)) q)
    ∙ by (eq_by_cmp R q e.0) (none_later q e.0 es two.0))
  where
    by : (b : Bool) → (b ≡ true → find R q es ≡ None) → put_over (option_map data_text (find R q es)) (cond b (Some (Some (data_text e.1))) (get names q)) ≡ put_over (option_map data_text (cond b (Some e.1) (find R q es))) (get names q)
    by true none = ap (λ o. put_over (option_map data_text o) (Some (Some (data_text e.1)))) (none refl)
    by false none = refl

-- the names of a document with their texts, after those of `other`
abbrev pub fields : TileJson → Puts
fields t =
    (codes "name", t.name) ∷ (codes "version", t.version) ∷ (codes "description", t.description) ∷ (codes "attribution", t.attribution)
    ∷ (codes "legend", t.legend) ∷ (codes "template", t.template) ∷ (codes "bounds", option_map bounds_text t.bounds) ∷ (codes "center", option_map center_text t.center)
    ∷ (codes "minzoom", option_map decimal t.minzoom) ∷ (codes "maxzoom", option_map decimal t.maxzoom) ∷ (codes "json", option_map layers_text t.vector_layers) ∷ []

edits_are : (t : TileJson) → document_edits t ≡ puts (other_edits t.other) (fields t)
edits_are t = refl

-- what a name has after the edits of a document
module _ (names : Names) (t : TileJson) where
  get_after : (q : List ℕ) → get (names_edited names (document_edits t)) q ≡ text_over q (fields t) (put_over (option_map data_text (get t.other q)) (get names q))
  get_after q =
      ap (λ (es : List NameEdit). get (names_edited names es) q) (edits_are t)
      ∙ (get_puts names (other_edits t.other) (fields t) q
      ∙ ap (text_over q (fields t)) (get_others (entries t.other) names q (is_true _ (entries_sorted t.other)) ∙ ap (λ o. put_over (option_map data_text o) (get names q)) (sym (get-entries t.other q))))

abbrev said_of : Held_at → Option (List ℕ)
said_of o = option_and_then unless_empty (option_and_then (λ value. value) o)

full : (text : List ℕ) → text ≢ [] → unless_empty text ≡ Some text
full [] h = absurd (h refl)
full (c ∷ cs) h = ap (λ b. cond b None (Some (c ∷ cs))) (false_from_ne_true (length (c ∷ cs) == 0) (λ e. no_length ((Decides-eqb (length (c ∷ cs)) 0).0 e)))
  where
    no_length : suc (length cs) ≡ 0 → ⊥
    no_length e = omega (arith, e)

read_by : (put : Option (List ℕ)) (beside : Option Data) (had now : Held_at) → now ≡ put_over put (put_over (option_map data_text beside) had) → IsRead put beside (said_of had) (said_of now)
read_by put beside had now h = record {
  same = λ text e some. ap said_of h ∙ (ap (λ o. said_of (put_over o (put_over (option_map data_text beside) had))) e ∙ full text some);
  empty = λ e. ap said_of h ∙ ap (λ o. said_of (put_over o (put_over (option_map data_text beside) had))) e;
  instead = λ d e f. ap said_of h ∙ (λ i. said_of (put_over (e i) (put_over (option_map data_text (f i)) had)));
  stays = λ e f. ap said_of h ∙ (λ i. said_of (put_over (e i) (put_over (option_map data_text (f i)) had)));
}

-- a name under which the fields put a text, or none
pub read_at : (names : Names) (t : TileJson) (q : List ℕ) (put : Option (List ℕ)) → ((had : Held_at) → text_over q (fields t) had ≡ put_over put had) → IsRead put (get t.other q) (said names q) (said (names_edited names (document_edits t)) q)
read_at names t q put only =
    read_by put (get t.other q) (get names q) (get (names_edited names (document_edits t)) q) (get_after names t q ∙ only (put_over (option_map data_text (get t.other q)) (get names q)))

-- a zoom that the fields put
pub zoom_now : (names : Names) (t : TileJson) (q : List ℕ) (put : Option ℕ) (zoom : ℕ) → ((had : Held_at) → text_over q (fields t) had ≡ put_over (option_map decimal put) had) → put ≡ Some zoom → zoom < 256 → zoom_at (names_edited names (document_edits t)) q ≡ Some zoom
zoom_now names t q put zoom only e lt =
    let had : Held_at = put_over (option_map data_text (get t.other q)) (get names q) in
    ap (λ (o : Held_at). option_and_then zoom_of (option_and_then (λ value. value) o)) (get_after names t q ∙ (only had ∙ ap (λ (p : Option ℕ). put_over (option_map decimal p) had) e)) ∙ number_back 8 zoom lt (omega (arith, lt))

-- what is read of a name without a field is what it says
abbrev entry_by : List ℕ → Bool → Option (List ℕ) → Option Value_at
entry_by name b o = cond b None (option_map (λ text. (name, string text)) o)

found_here : (q name : List ℕ) (b : Bool) (o : Option (List ℕ)) (rest : List Value_at) → b ≡ false → eq_by_cmp R q name ≡ true → find R q rest ≡ None → find R q (cons_option (entry_by name b o) rest) ≡ option_map string o
found_here q name true o rest free k none = absurd (true≢false free)
found_here q name false None rest free k none = none
found_here q name false (Some text) rest free k none = ap (λ c. cond c (Some (string text)) (find R q rest)) k

found_there : (q name : List ℕ) (o : Option Value_at) (rest : List Value_at) (found : Option Data) → ((x : Value_at) → o ≡ Some x → x.0 ≡ name) → eq_by_cmp R q name ≡ false → find R q rest ≡ found → find R q (cons_option o rest) ≡ found
found_there q name None rest found named k after = after
found_there q name (Some y) rest found named k after =
    ap (λ n. cond (eq_by_cmp R q n) (Some y.1) (find R q rest)) (named y refl) ∙ (ap (λ c. cond c (Some y.1) (find R q rest)) k ∙ after)

abbrev Found : List Entry → List ℕ → Type 0
Found es q = find R q (filter_map other_entry es) ≡ option_map string (said_of (find R q es))

other_found : (es : List Entry) (q : List ℕ) → is_sorted R es ≡ true → has_field q ≡ false → Found es q
other_found [] q s free = refl
other_found (e ∷ es) q s free = by (eq_by_cmp R q e.0) refl (other_found es q (and_parts _ _ s).1 free)
  where
    by : (b : Bool) → eq_by_cmp R q e.0 ≡ b → Found es q → find R q (cons_option (other_entry e) (filter_map other_entry es)) ≡ option_map string (said_of (cond b (Some e.1) (find R q es)))
    by true k after =
        let none : find R q es ≡ None = none_later q e.0 es (and_parts _ _ s).0 k in
        let own : has_field e.0 ≡ false = ap has_field (sym (same_name q e.0 k)) ∙ free in
        found_here q e.0 (has_field e.0) (option_and_then unless_empty e.1) (filter_map other_entry es) own k (after ∙ ap (λ (o : Held_at). option_map string (said_of o)) none)
    by false k after = found_there q e.0 (other_entry e) (filter_map other_entry es) (option_map string (said_of (find R q es))) (λ x. other_name e x) k after

other_at : (names : Names) (q : List ℕ) → has_field q ≡ false → get (others_said names) q ≡ option_map string (said_of (get names q))
other_at names q free =
    get-from_entries nat_list_cmp_total (filter_map other_entry (entries names)) q
    ∙ (other_found (entries names) q (is_true _ (entries_sorted names)) free
    ∙ ap (λ o. option_map string (said_of o)) (sym (get-entries names q)))

other_by : (put before after : Option Data) (had now : Held_at) → before ≡ option_map string (said_of had) → after ≡ option_map string (said_of now) → now ≡ put_over (option_map data_text put) had → IsOtherRead put before after
other_by put before after had now b a h = record {
  same = λ text e some. read ∙ (ap (λ o. option_map string (said_of (put_over (option_map data_text o) had))) e ∙ ap (option_map string) (full text some));
  any = λ d e. read ∙ ap (λ o. option_map string (said_of (put_over (option_map data_text o) had))) e;
  stays = λ e. read ∙ (ap (λ o. option_map string (said_of (put_over (option_map data_text o) had))) e ∙ sym b);
}
  where
    read : after ≡ option_map string (said_of (put_over (option_map data_text put) had))
    read = a ∙ ap (λ o. option_map string (said_of o)) h

pub other_read : (names : Names) (t : TileJson) (q : List ℕ) → has_field q ≡ false → IsOtherRead (get t.other q) (get (others_said names) q) (get (others_said (names_edited names (document_edits t))) q)
other_read names t q free =
    other_by (get t.other q) _ _ (get names q) (get (names_edited names (document_edits t)) q) (other_at names q free) (other_at (names_edited names (document_edits t)) q free)
    (get_after names t q ∙ passed_over q (fields t) (put_over (option_map data_text (get t.other q)) (get names q)) (none_put q (fields t) free refl))

-- names that no edit has
edited_in_two : (xs ys : List NameEdit) (q : List ℕ) → is_edited (xs ++ ys) (Text q) ≡ (is_edited xs (Text q) || is_edited ys (Text q))
edited_in_two [] ys q = refl
edited_in_two (e ∷ xs) ys q = ap (λ b. eq_by_cmp R q e.name || b) (edited_in_two xs ys q) ∙ joined (eq_by_cmp R q e.name) (is_edited xs (Text q)) (is_edited ys (Text q))
  where
    joined : (a b c : Bool) → (a || (b || c)) ≡ ((a || b) || c)
    joined true b c = refl
    joined false b c = refl

unput : (name : List ℕ) (text : Option (List ℕ)) (q : List ℕ) → eq_by_cmp R q name ≡ false → is_edited (option_to_list (put_any name text)) (Text q) ≡ false
unput name None q h = refl
unput name (Some text) q h = ap (λ b. b || false) h

unedited : (edits : List NameEdit) (ps : Puts) (q : List ℕ) → is_put q ps ≡ false → is_edited edits (Text q) ≡ false → is_edited (puts edits ps) (Text q) ≡ false
unedited edits [] q h none = none
unedited edits (p ∷ ps) q h none =
    let two = or_parts (eq_by_cmp R q p.0) (is_put q ps) h in
    unedited (then_put edits p.0 p.1) ps q two.1 (edited_in_two edits (option_to_list (put_any p.0 p.1)) q ∙ or_from _ _ none (unput p.0 p.1 q two.0))

unnamed : (es : List Value_at) (q : List ℕ) → find R q es ≡ None → is_edited (map (λ e. put_of e.0 (data_text e.1)) es) (Text q) ≡ false
unnamed [] q h = refl
unnamed (e ∷ es) q h = by (eq_by_cmp R q e.0) h (unnamed es q)
  where
    by : (b : Bool) → cond b (Some e.1) (find R q es) ≡ None → (find R q es ≡ None → is_edited (map (λ e. put_of e.0 (data_text e.1)) es) (Text q) ≡ false) → (b || is_edited (map (λ e. put_of e.0 (data_text e.1)) es) (Text q)) ≡ false
    by true h rest = absurd (none-some e.1 (sym h))
    by false h rest = rest h

-- no edit of a document names the algorithm, where nothing without a field does
pub algorithm_unnamed : (t : TileJson) → get t.other (codes "hash_algorithm") ≡ None → is_edited (document_edits t) (Text (codes "hash_algorithm")) ≡ false
algorithm_unnamed t free = unedited (other_edits t.other) (fields t) (codes "hash_algorithm") refl (unnamed (entries t.other) (codes "hash_algorithm") (sym (get-entries t.other (codes "hash_algorithm")) ∙ free))

-- the tables load again
pub insert_loads : (t : TileJson) (old new : Tables) (s : State) → state_of old ≡ Ok s → EditsNames (insert_edits t) old new → get t.other (codes "hash_algorithm") ≡ None → state_of new ≡ Ok (state_edited s (insert_edits t s))
insert_loads t old new s e was free =
    subst (λ (x : State). state_of new ≡ Ok (state_edited x (document_edits t))) (ok_same was.state s (sym was.loaded ∙ e)) (was.edited.unnamed (algorithm_unnamed t free))
