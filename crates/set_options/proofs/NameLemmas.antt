-- Documents of archives say no algorithm of digests: a set takes its own.
use Rattle.set_options.proofs.Common.{ap, Bool, bytes_eq, codes, cond, Data, document_of, empty, false, format_of, get, get-empty, get-insert, Header, insert, is_left_out, IsOfMembers, JsonMap, List}
use Rattle.set_options.proofs.Common.{member, Members, names_in, nat_cmp, nat_list_cmp_total, no_members, None, Option, refl, slice_cmp, Some, string, TileJson, true, with_any, with_name, with_names}
use Rattle.set_options.proofs.Common.{ℕ, ◌∙◌, ◌≡◌}
use Rattle.std.proofs.lemmas.Bool.{true≢false}
use Rattle.std.proofs.lemmas.Map.Text.{is_eq-slice_cmp}
use Rattle.std.proofs.lemmas.Slice.Eq.{bytes_eq-Decides}

abbrev hash_name : List ℕ
hash_name = codes "hash_algorithm"

-- another name is put
put_other : (m : JsonMap) (k : List ℕ) (d : Data) → bytes_eq hash_name k ≡ false → get m hash_name ≡ None → get (insert m k d) hash_name ≡ None
put_other m k d apart h =
    get-insert nat_list_cmp_total m k d hash_name
    ∙ (ap (λ (b : Bool). cond b (Some d) (get m hash_name)) (is_eq-slice_cmp hash_name k ∙ apart) ∙ h)

-- a name that isn't left out is another one
apart_from : (k : List ℕ) → is_left_out k ≡ false → bytes_eq hash_name k ≡ false
apart_from k named = by (bytes_eq hash_name k) refl
  where
    by : (b : Bool) → bytes_eq hash_name k ≡ b → b ≡ false
    by true same = absurd (true≢false (ap is_left_out ((bytes_eq-Decides hash_name k).0 same) ∙ named))
    by false other = refl

text_unnamed : (b : Bool) (m : JsonMap) (k text : List ℕ) → is_left_out k ≡ b → get m hash_name ≡ None → get (cond b m (insert m k (string text))) hash_name ≡ None
text_unnamed true m k text is h = h
text_unnamed false m k text is h = put_other m k (string text) (apart_from k is) h

name_unnamed : (m : JsonMap) (k : List ℕ) (d : Data) → get m hash_name ≡ None → get (with_name m k d) hash_name ≡ None
name_unnamed m k (string text) h = text_unnamed (is_left_out k) m k text refl h
name_unnamed m k x h = h

names_unnamed : (m : JsonMap) (ms : Members) → get m hash_name ≡ None → get (with_names m ms) hash_name ≡ None
names_unnamed m no_members h = h
names_unnamed m (member k d ms) h = names_unnamed (with_name m k d) ms (name_unnamed m k d h)

any_unnamed : (m : JsonMap) (k : List ℕ) (o : Option (List ℕ)) → bytes_eq hash_name k ≡ false → get m hash_name ≡ None → get (with_any m k o) hash_name ≡ None
any_unnamed m k None apart h = h
any_unnamed m k (Some text) apart h = put_other m k (string text) apart h

of_unnamed : (h : Header) (ms : Members) (json : Option (List ℕ)) → get (document_of h (names_in ms) json).other hash_name ≡ None
of_unnamed h ms json = any_unnamed _ (codes "json") json refl (any_unnamed (names_in ms) (codes "format") (format_of h.tile_type) refl (names_unnamed empty ms (get-empty (slice_cmp nat_cmp) hash_name)))

-- the document of members
pub algorithm_unsaid : (h : Header) (ms : Members) (t : TileJson) → IsOfMembers h ms t → get t.other (codes "hash_algorithm") ≡ None
algorithm_unsaid h ms t of = ap (λ (t : TileJson). get t.other hash_name) of.is ∙ of_unnamed h ms of.json
