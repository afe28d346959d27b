-- A layer is read member by member, each taken out of what the ones before it left.
use Rattle.std.specs.Result.{IsErrAnd}
use Rattle.tile_json.proofs.Common.{ap, as_object, as_str, bytes_eq, codes, Data, description_in, empty, Err, false, fields_in, FinMap, get_member, id_in, layer_made, layer_with, List, maxzoom_in}
use Rattle.tile_json.proofs.Common.{Members, minzoom_in, nat_cmp, None, of_five, Ok, Option, option_and_then, option_map, optional, others, refl, Result, slice_cmp, Some, sym, with_all, with_texts}
use Rattle.tile_json.proofs.Common.{without, zoom_of, ℕ, ◌∙◌, ◌≡◌}
use Rattle.tile_json.specs.declared.error.DocumentError.{DocumentError}
use Rattle.tile_json.specs.declared.error.DocumentError.TheVariants.{Invalid, OutOfMemory}
use Rattle.tile_json.specs.declared.layer.VectorLayer.{VectorLayer}
use Rattle.tile_json.specs.Errors.{Answers}
use Rattle.tile_json.proofs.MemberLemmas.{get_without}

-- a refusal that is handed on
pub handed_on : {A R : Type 0} (o : Option A) (wanted : Option R) (r : Result R DocumentError) (f : DocumentError)
    → IsErrAnd r (λ y. y ≡ f) → Answers o (Err f) → (o ≡ None → wanted ≡ None) → Answers wanted r
handed_on o wanted (Ok x) f h k none = absurd h
handed_on o wanted (Err Invalid) Invalid h k none = none k
handed_on o wanted (Err Invalid) OutOfMemory h k none = absurd (cc)
handed_on o wanted (Err OutOfMemory) f h k none = tt

module _ {A B C D E R : Type 0} (make : A → B → C → D → E → R) (a : Option A) (b : Option B) (c : Option C) (d : Option D) (e : Option E) where
  no_second : (x : A) → a ≡ Some x → b ≡ None → of_five make a b c d e ≡ None
  no_second x p q = rw (p, q) refl

  no_third : (x : A) (y : B) → a ≡ Some x → b ≡ Some y → c ≡ None → of_five make a b c d e ≡ None
  no_third x y p q r = rw (p, q, r) refl

  no_fourth : (x : A) (y : B) (z : C) → a ≡ Some x → b ≡ Some y → c ≡ Some z → d ≡ None → of_five make a b c d e ≡ None
  no_fourth x y z p q r s = rw (p, q, r, s) refl

  no_fifth : (x : A) (y : B) (z : C) (v : D) → a ≡ Some x → b ≡ Some y → c ≡ Some z → d ≡ Some v → e ≡ None → of_five make a b c d e ≡ None
  no_fifth x y z v p q r s t = rw (p, q, r, s, t) refl

  all_five : (x : A) (y : B) (z : C) (v : D) (w : E) → a ≡ Some x → b ≡ Some y → c ≡ Some z → d ≡ Some v → e ≡ Some w → of_five make a b c d e ≡ Some (make x y z v w)
  all_five x y z v w p q r s t = rw (p, q, r, s, t) refl

abbrev layer_of_parts : List ℕ → FinMap (slice_cmp nat_cmp) (List ℕ) → Option (List ℕ) → Option ℕ → Option ℕ → FinMap (slice_cmp nat_cmp) Data → VectorLayer
layer_of_parts id fields description minzoom maxzoom other = record { id = id; fields = fields; description = description; minzoom = minzoom; maxzoom = maxzoom; other = other }

module _ (ms : Members) where
  pub no_fields : (id : List ℕ) → id_in ms ≡ Some id → fields_in ms ≡ None → layer_with ms ≡ None
  no_fields = no_second (layer_made ms) (id_in ms) (fields_in ms) (description_in ms) (minzoom_in ms) (maxzoom_in ms)

  module _ (id : List ℕ) (fields : FinMap (slice_cmp nat_cmp) (List ℕ)) (p : id_in ms ≡ Some id) (q : fields_in ms ≡ Some fields) where
    pub no_description : description_in ms ≡ None → layer_with ms ≡ None
    no_description = no_third (layer_made ms) (id_in ms) (fields_in ms) (description_in ms) (minzoom_in ms) (maxzoom_in ms) id fields p q

    module _ (description : Option (List ℕ)) (r : description_in ms ≡ Some description) where
      pub no_minzoom : minzoom_in ms ≡ None → layer_with ms ≡ None
      no_minzoom = no_fourth (layer_made ms) (id_in ms) (fields_in ms) (description_in ms) (minzoom_in ms) (maxzoom_in ms) id fields description p q r

      module _ (minzoom : Option ℕ) (s : minzoom_in ms ≡ Some minzoom) where
        pub no_maxzoom : maxzoom_in ms ≡ None → layer_with ms ≡ None
        no_maxzoom = no_fifth (layer_made ms) (id_in ms) (fields_in ms) (description_in ms) (minzoom_in ms) (maxzoom_in ms) id fields description minzoom p q r s

        pub whole_layer : (maxzoom : Option ℕ) (other : FinMap (slice_cmp nat_cmp) Data) → maxzoom_in ms ≡ Some maxzoom → Some (with_all empty (others ms)) ≡ Some other
            → layer_with ms ≡ Some record { id = id; fields = fields; description = description; minzoom = minzoom; maxzoom = maxzoom; other = other }
        whole_layer maxzoom other t rest =
            all_five (layer_made ms) (id_in ms) (fields_in ms) (description_in ms) (minzoom_in ms) (maxzoom_in ms) id fields description minzoom maxzoom p q r s t
            ∙ ap (λ o. option_map (layer_of_parts id fields description minzoom maxzoom) o) rest

kept : (name taken : List ℕ) (before after : Members) → bytes_eq name taken ≡ false → after ≡ without taken before → get_member name after ≡ get_member name before
kept name taken before after apart left = ap (get_member name) left ∙ get_without name taken apart before

-- what a member that was taken out is read as, is what it is in the whole object
read_as : {A : Type 0} (read : Option Data → A) (found whole : Option Data) (x : A) → found ≡ whole → read found ≡ x → read whole ≡ x
read_as read found whole x same e = sym (ap read same) ∙ e

abbrev Texts : Type 0
Texts = FinMap (slice_cmp nat_cmp) (List ℕ)

pub read_id : (ms : Members) (found : Option Data) (x : Option (List ℕ)) → found ≡ get_member (codes "id") ms → option_and_then as_str found ≡ x → id_in ms ≡ x
read_id ms found x is e = read_as (λ o. option_and_then as_str o) found (get_member (codes "id") ms) x is e

module _ (ms after_id : Members) (id_left : after_id ≡ without (codes "id") ms) where
  pub read_fields : (found : Option Data) (x : Option Texts) → found ≡ get_member (codes "fields") after_id
      → option_and_then (with_texts empty) (option_and_then as_object found) ≡ x → fields_in ms ≡ x
  read_fields found x is e = read_as (λ o. option_and_then (with_texts empty) (option_and_then as_object o)) found (get_member (codes "fields") ms) x
      (is ∙ kept (codes "fields") (codes "id") ms after_id refl id_left) e

  module _ (after_fields : Members) (fields_left : after_fields ≡ without (codes "fields") after_id) where
    past_fields : (name : List ℕ) → bytes_eq name (codes "id") ≡ false → bytes_eq name (codes "fields") ≡ false → get_member name after_fields ≡ get_member name ms
    past_fields name first second = kept name (codes "fields") after_id after_fields second fields_left ∙ kept name (codes "id") ms after_id first id_left

    pub read_description : (found : Option Data) (x : Option (Option (List ℕ))) → found ≡ get_member (codes "description") after_fields → optional as_str found ≡ x → description_in ms ≡ x
    read_description found x is e = read_as (λ o. optional as_str o) found (get_member (codes "description") ms) x (is ∙ past_fields (codes "description") refl refl) e

    module _ (after_description : Members) (description_left : after_description ≡ without (codes "description") after_fields) where
      past_description : (name : List ℕ) → bytes_eq name (codes "id") ≡ false → bytes_eq name (codes "fields") ≡ false → bytes_eq name (codes "description") ≡ false
          → get_member name after_description ≡ get_member name ms
      past_description name first second third = kept name (codes "description") after_fields after_description third description_left ∙ past_fields name first second

      pub read_minzoom : (found : Option Data) (x : Option (Option ℕ)) → found ≡ get_member (codes "minzoom") after_description → optional zoom_of found ≡ x → minzoom_in ms ≡ x
      read_minzoom found x is e = read_as (λ o. optional zoom_of o) found (get_member (codes "minzoom") ms) x (is ∙ past_description (codes "minzoom") refl refl refl) e

      module _ (after_minzoom : Members) (minzoom_left : after_minzoom ≡ without (codes "minzoom") after_description) where
        pub read_maxzoom : (found : Option Data) (x : Option (Option ℕ)) → found ≡ get_member (codes "maxzoom") after_minzoom → optional zoom_of found ≡ x → maxzoom_in ms ≡ x
        read_maxzoom found x is e = read_as (λ o. optional zoom_of o) found (get_member (codes "maxzoom") ms) x
            (is ∙ kept (codes "maxzoom") (codes "minzoom") after_description after_minzoom refl minzoom_left ∙ past_description (codes "maxzoom") refl refl refl) e

        -- and the others are what is left
        pub others_are : (after_maxzoom : Members) → after_maxzoom ≡ without (codes "maxzoom") after_minzoom → others ms ≡ after_maxzoom
        others_are after_maxzoom left = sym (left ∙ ap (without (codes "maxzoom")) (minzoom_left ∙ ap (without (codes "minzoom")) (description_left
            ∙ ap (without (codes "description")) (fields_left ∙ ap (without (codes "fields")) id_left))))
