-- Documents of archives hold no number as a float: all that they have beside their fields are texts.
use Rattle.set_options.proofs.Common.{All, arith, Bool, codes, cond, Data, document_of, empty, entries, entries-insert, Equal, false, format_of, Greater, HasNoFloat, Header, insert, is_left_out}
use Rattle.set_options.proofs.Common.{IsOfMembers, IsWithoutFloat, JsonMap, len, len-empty, len-entries, Less, List, member, Members, names_in, nat_cmp, nat_list_cmp_total, no_members, None, Option}
use Rattle.set_options.proofs.Common.{Ordering, put, refl, slice_cmp, Some, string, subst, sym, TileJson, true, with_any, with_name, with_names, ℕ, [], ◌∷◌, ◌≡◌}
use Rattle.std.specs.FinMap.Entries.{by_order}
use Rattle.std.proofs.lemmas.List.Elements.{All-cons, All-head, All-nil, All-tail}
use Rattle.serde_json.specs.Written.{has_float}

abbrev Entry : Type 0
Entry = List ℕ × Data

abbrev Whole : Entry → Type 0
Whole e = has_float e.1 ≡ false

put_whole : (k : List ℕ) (d : Data) (es : List Entry) → has_float d ≡ false → All Whole es → All Whole (put (slice_cmp nat_cmp) k d es)
put_whole k d [] h all = All-cons Whole (k, d) [] h (All-nil Whole)
put_whole k d (e ∷ es) h all = by (slice_cmp nat_cmp k e.0) (put_whole k d es h (All-tail Whole e es all))
  where
    by : (o : Ordering) → All Whole (put (slice_cmp nat_cmp) k d es) → All Whole (by_order o ((k, d) ∷ e ∷ es) ((e.0, d) ∷ es) (e ∷ put (slice_cmp nat_cmp) k d es))
    by Less rest = All-cons Whole (k, d) (e ∷ es) h all
    by Equal rest = All-cons Whole (e.0, d) es h (All-tail Whole e es all)
    by Greater rest = All-cons Whole e (put (slice_cmp nat_cmp) k d es) (All-head Whole e es all) rest

insert_whole : (m : JsonMap) (k : List ℕ) (d : Data) → has_float d ≡ false → HasNoFloat m → HasNoFloat (insert m k d)
insert_whole m k d h all = subst (All Whole) (sym (entries-insert nat_list_cmp_total m k d)) (put_whole k d (entries m) h all)

text_whole : (b : Bool) (m : JsonMap) (k text : List ℕ) → HasNoFloat m → HasNoFloat (cond b m (insert m k (string text)))
text_whole true m k text h = h
text_whole false m k text h = insert_whole m k (string text) refl h

name_whole : (m : JsonMap) (k : List ℕ) (d : Data) → HasNoFloat m → HasNoFloat (with_name m k d)
name_whole m k (string text) h = text_whole (is_left_out k) m k text h
name_whole m k x h = h

names_whole : (m : JsonMap) (ms : Members) → HasNoFloat m → HasNoFloat (with_names m ms)
names_whole m no_members h = h
names_whole m (member k d ms) h = names_whole (with_name m k d) ms (name_whole m k d h)

any_whole : (m : JsonMap) (k : List ℕ) (o : Option (List ℕ)) → HasNoFloat m → HasNoFloat (with_any m k o)
any_whole m k None h = h
any_whole m k (Some text) h = insert_whole m k (string text) refl h

abbrev no_names : JsonMap
no_names = empty

none_whole : HasNoFloat no_names
none_whole = λ i d within. let none : len no_names ≡ 0 = len-empty (slice_cmp nat_cmp) Data in absurd (omega (arith, within, none, len-entries no_names))

of_whole : (h : Header) (ms : Members) (json : Option (List ℕ)) → IsWithoutFloat (document_of h (names_in ms) json)
of_whole h ms json = record {
  other = any_whole _ (codes "json") json (any_whole (names_in ms) (codes "format") (format_of h.tile_type) (names_whole empty ms none_whole));
  layers = tt;
}

-- the document of members
pub document_whole : (h : Header) (ms : Members) (t : TileJson) → IsOfMembers h ms t → IsWithoutFloat t
document_whole h ms t of = subst IsWithoutFloat (sym of.is) (of_whole h ms of.json)
