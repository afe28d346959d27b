-- The members of an object, and one taken out.
use Rattle.tile_json.proofs.Common.{ap, Bool, bytes_eq, cond, Data, Entry, Equal, false, get_member, Greater, is_eq, Less, List, match_ordering, member, Members, members_view, nat_cmp, no_members}
use Rattle.tile_json.proofs.Common.{Option, refl, slice_cmp, Some, string_bytes, sym, true, true≢false, view, without, ℕ, [], ◌∙◌, ◌∷◌, ◌≡◌}
use Rattle.std.proofs.Common.{Ordering}
use Rattle.std.proofs.lemmas.Map.Text.{is_eq-slice_cmp}
use Rattle.std.proofs.lemmas.Slice.Eq.{bytes_eq-Decides}
use Rattle.std.specs.BTreeMap.{is_at}
use Rattle.std.specs.Map.{remove_entry}

view_if : (b : Bool) (es fs : List Entry) → members_view (cond b es fs) ≡ cond b (members_view es) (members_view fs)
view_if true es fs = refl
view_if false es fs = refl

-- an entry that is removed is a member less
pub view_removed : (name : List ℕ) (es : List Entry) → members_view (remove_entry (is_at (λ k. slice_cmp nat_cmp name (string_bytes k))) es) ≡ without name (members_view es)
view_removed name [] = refl
view_removed name (e ∷ es) =
    let test = is_eq (slice_cmp nat_cmp name (string_bytes e.0)) in
    view_if test es _ ∙ ap (λ ms. cond test (members_view es) (member (string_bytes e.0) (view e.1) ms)) (view_removed name es)

either : (o : Ordering) (a b : Option Data) → is_eq o ≡ false → match_ordering o a b a ≡ a
either Less a b e = refl
either Equal a b e = absurd (true≢false e)
either Greater a b e = refl

same_bytes : (a b : List ℕ) → is_eq (slice_cmp nat_cmp a b) ≡ true → a ≡ b
same_bytes a b e = (bytes_eq-Decides a b).0 (sym (is_eq-slice_cmp a b) ∙ e)

module _ (a b : List ℕ) (apart : bytes_eq a b ≡ false) where
  skips : (k : List ℕ) (d : Data) (ms : Members) → is_eq (slice_cmp nat_cmp b k) ≡ true → get_member a ms ≡ get_member a (member k d ms)
  skips k d ms same = sym (either (slice_cmp nat_cmp a k) _ _ (is_eq-slice_cmp a k ∙ ap (bytes_eq a) (sym (same_bytes b k same)) ∙ apart))

  found_in : (t : Bool) (k : List ℕ) (d : Data) (ms : Members) → is_eq (slice_cmp nat_cmp b k) ≡ t → get_member a (without b ms) ≡ get_member a ms
      → get_member a (cond t ms (member k d (without b ms))) ≡ get_member a (member k d ms)
  found_in true k d ms same later = skips k d ms same
  found_in false k d ms other later = ap (λ r. match_ordering (slice_cmp nat_cmp a k) r (Some d) r) later

  -- what is taken out is another member than that of a name
  pub get_without : (ms : Members) → get_member a (without b ms) ≡ get_member a ms
  get_without no_members = refl
  get_without (member k d ms) = found_in _ k d ms refl (get_without ms)
