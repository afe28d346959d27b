-- Patches of a base of which marks are held, tested on what patches put, and on contents of the
-- base that are looked up.
use Rattle.tile_streaming.proofs.Common.{ap, Bool, Cell, cond, due_by, Err, false, false≢true, find, get, Has, HashAlgorithm, IsPermutation, List, list_any, MbtError, MbtType, None, none-some, not, Ok, Option, option_map, option_or, refl, Result, same_Some, Some, State, subst, sym, Tables, true, ℕ, [], ◌&&◌, ◌||◌, ◌∙◌, ◌∷◌, ◌≡◌}
use Rattle.mb_edit.proofs.PatchedLemmas.{or_none}
use Rattle.mb_edit.specs.Collision.{collides, collision, has_twin, is_other}
use Rattle.mb_edit.specs.Common.{Blob, bytes_eq, cell_eq, Contents, digest, is_named, Text}
use Rattle.mb_edit.specs.PatchingOrder.{bytes_put, id_collides, may_patch}
use Rattle.mb_edit.specs.Step.{state_patched, step}
use Rattle.mb_tables.specs.declared.error.MbtError.TheVariants.{IdCollision}
use Rattle.mb_tables.specs.declared.kind.MbtType.TheVariants.{Cache, Flat, FlatWithHash, Normalized}
use Rattle.mb_tables.specs.declared.kind.NormalizedSchema.TheVariants.{DedupId, Hash}
use Rattle.std.proofs.Math.Bool.{and-false, or-false, or-true}
use Rattle.std.proofs.lemmas.Slice.Eq.{bytes_eq-Decides}
use Rattle.tile_streaming.proofs.FirstLemmas.{any_there, find_known, find_nothing, find_same, find_second, find_there}
use Rattle.tile_streaming.proofs.NamedLemmas.{named_by_marks}
use Rattle.tile_streaming.proofs.OverlayLemmas.{same_layout, tested_alike}
use Rattle.tile_streaming.proofs.RefusalOrderLemmas.{early, early_alike, is_collision, may_split, of_last}
use Rattle.tile_streaming.specs.Collisions.{collided, content_told, first_taken, has_other, is_known, is_named_at, is_taken, stands_under}
use Rattle.tile_streaming.specs.Layouts.{has_digests}
use Rattle.tile_streaming.specs.Overlaid.{HasParts, StandsFor}
use Rattle.tile_streaming.specs.declared.overlaid.Overlaid.{Overlaid}

-- where contents stand under their digests, they are tested
tests_contents : (l : MbtType) (a : HashAlgorithm) (contents : Contents) (put : List (List ℕ)) → has_digests l ≡ true → id_collides l a contents put ≡ collision (digest a) contents put
tests_contents (Normalized view Hash) a contents put h = refl
tests_contents (Normalized view DedupId) a contents put h = absurd (false≢true h)
tests_contents Flat a contents put h = absurd (false≢true h)
tests_contents FlatWithHash a contents put h = absurd (false≢true h)
tests_contents Cache a contents put h = absurd (false≢true h)

-- contents in two parts
other_either : (bytes : List ℕ) (over rest : Option Cell) → ((c d : Cell) → over ≡ Some c → rest ≡ Some d → c ≡ d) → is_other bytes (option_or over rest) ≡ (is_other bytes over || is_other bytes rest)
other_either bytes None rest alike = refl
other_either bytes (Some c) None alike = sym (or-false (not (cell_eq c (Blob bytes))))
other_either bytes (Some c) (Some d) alike = twice (not (cell_eq c (Blob bytes))) ∙ ap (λ x. not (cell_eq c (Blob bytes)) || not (cell_eq x (Blob bytes))) (alike c d refl refl)
  where
    twice : (b : Bool) → b ≡ (b || b)
    twice true = refl
    twice false = refl

turned : (a b c : Bool) → ((a || b) || c) ≡ ((a || c) || b)
turned true b c = refl
turned false true c = sym (or-true c)
turned false false c = sym (or-false c)

other_where : (bytes : List ℕ) (b : Bool) (o : Option Cell) → is_other bytes (cond b o None) ≡ (is_other bytes o && b)
other_where bytes true o = by (is_other bytes o)
  where
    by : (x : Bool) → x ≡ (x && true)
    by true = refl
    by false = refl
other_where bytes false o = sym (and-false (is_other bytes o))

due_refused : (s : State) (o : Option MbtError) (e : MbtError) → due_by s o ≡ Err e → o ≡ Some e
due_refused s None e h = absurd (cc)
due_refused s (Some r) e h = let same : r ≡ e = cc in ap Some same

named_id : (a : HashAlgorithm) (o : Option (List ℕ)) (id : List ℕ) → option_map (λ b. IdCollision (digest a b)) o ≡ Some (IdCollision id) → (b : List ℕ) × (o ≡ Some b) × (digest a b ≡ id)
named_id a None id h = absurd (none-some (IdCollision id) h)
named_id a (Some b) id h = let same : IdCollision (digest a b) ≡ IdCollision id = same_Some (IdCollision (digest a b)) (IdCollision id) h in (b, refl, ap id_in same)
  where
    id_in : MbtError → List ℕ
    id_in (IdCollision i) = i
    id_in _ = []

as_refusal : (a : HashAlgorithm) (o : Option (List ℕ)) (id : List ℕ) → option_map (digest a) o ≡ Some id → option_map (λ b. IdCollision (digest a b)) o ≡ Some (IdCollision id)
as_refusal a None id h = absurd (none-some id h)
as_refusal a (Some b) id h = ap (λ i. Some (IdCollision i)) (same_Some (digest a b) id h)

no_refusal : (a : HashAlgorithm) (o : Option (List ℕ)) → option_map (λ b. IdCollision (digest a b)) o ≡ None → o ≡ None
no_refusal a None h = refl
no_refusal a (Some b) h = absurd (none-some (IdCollision (digest a b)) (sym h))

none_mapped : (a : HashAlgorithm) (o : Option (List ℕ)) → option_or (option_map (digest a) o) None ≡ None → o ≡ None
none_mapped a None h = refl
none_mapped a (Some b) h = absurd (none-some (digest a b) (sym h))

both_none : (a b : Option MbtError) → option_or a b ≡ None → (a ≡ None) × (b ≡ None)
both_none None b h = (refl, h)
both_none (Some e) b h = absurd (none-some e (sym h))

module _ (tells : Bool) (t : Tables) (x : Overlaid) (s : State) (stands : StandsFor tells t x s) (force : Bool) (q : State) where
  abbrev over : State
  over = x.over.state

  abbrev put : List (List ℕ)
  put = bytes_put q.tiles

  abbrev first : Option (List ℕ) → Option (List ℕ)
  first known = collided t x.rest over.algorithm known put

  -- the digest that is named where no contents stand under theirs
  plain_first : (known : Option (List ℕ)) → has_digests s.layout ≡ false → first known ≡ known
  plain_first known none = ap (λ b. cond b (option_or (first_taken t x.rest over.algorithm known put) known) known) (ap has_digests stands.layout ∙ none)

  plain_alike : has_digests s.layout ≡ false → may_patch force over q ≡ may_patch force s q
  plain_alike none = tested_alike force q over s stands.over none stands.names stands.algorithm

  -- where contents stand under their digests
  module _ (digests : has_digests s.layout ≡ true) where
    abbrev parts : HasParts tells t x.rest stands.tiles over s
    parts = stands.parts digests

    layout : over.layout ≡ s.layout
    layout = stands.over ∙ same_layout s.layout digests

    abbrev a : HashAlgorithm
    a = s.algorithm

    -- bytes that collide with what patches put, with contents of the base, or with either
    abbrev above : List ℕ → Bool
    above = collides (digest a) over.contents put

    abbrev below : List ℕ → Bool
    below b = is_other b (get parts.contents (Text (digest a b)))

    of_either : (b : List ℕ) → collides (digest a) s.contents put b ≡ (above b || below b)
    of_either b =
        ap (λ o. is_other b o || has_twin (digest a) put b) (parts.stored (Text (digest a b)))
        ∙ ap (λ c. c || has_twin (digest a) put b) (other_either b (get over.contents (Text (digest a b))) (get parts.contents (Text (digest a b))) (parts.alike (Text (digest a b))))
        ∙ turned (is_other b (get over.contents (Text (digest a b)))) (below b) (has_twin (digest a) put b)

    find_either : find (collides (digest a) s.contents put) put ≡ find (λ b. above b || below b) put
    find_either = find_same (collides (digest a) s.contents put) (λ b. above b || below b) put of_either

    set_collides : id_collides s.layout a s.contents put ≡ option_map (λ b. IdCollision (digest a b)) (find (λ b. above b || below b) put)
    set_collides = tests_contents s.layout a s.contents put digests ∙ ap (option_map (λ b. IdCollision (digest a b))) find_either

    over_collides : id_collides over.layout over.algorithm over.contents put ≡ option_map (λ b. IdCollision (digest a b)) (find above put)
    over_collides = (λ i. id_collides (layout i) (stands.algorithm i) over.contents put) ∙ tests_contents s.layout a over.contents put digests

    may_over : may_patch force over q ≡ option_or (early force s q) (option_map (λ b. IdCollision (digest a b)) (find above put))
    may_over = may_split force over q ∙ (λ i. option_or (early_alike force over s q layout stands.algorithm stands.names i) (over_collides i))

    may_set : may_patch force s q ≡ option_or (early force s q) (option_map (λ b. IdCollision (digest a b)) (find (λ b. above b || below b) put))
    may_set = may_split force s q ∙ ap (option_or (early force s q)) set_collides

    -- what is looked up
    looked_up : tells ≡ true → (b : List ℕ) → has_other t x.rest b (Text (digest a b)) ≡ below b
    looked_up u b =
        let id = Text (digest a b) in
        ap (λ c. is_other b (content_told t id) && (x.rest.is_whole || c)) (named_by_marks s x.rest.layout t stands.tiles x.rest.marks.items (record { same = stands.marks; rising = stands.rising }) parts.ids id parts.only (parts.is_told u))
        ∙ sym (ap (is_other b) (parts.stands u (digest a b)) ∙ other_where b (x.rest.is_whole || is_named parts.ids id) (content_told t id))

    first_is : tells ≡ true → (known : Option (List ℕ)) → first known ≡ option_or (option_map (digest a) (find (λ b. is_known known (digest a b) || below b) put)) known
    first_is u known =
        ap (λ b. cond b (option_or (first_taken t x.rest over.algorithm known put) known) known) (ap has_digests stands.layout ∙ digests)
        ∙ ap (λ c. option_or (first_taken t x.rest c known put) known) stands.algorithm
        ∙ ap (λ o. option_or (option_map (digest a) o) known) (find_same (is_taken t x.rest a known) (λ b. is_known known (digest a b) || below b) put (λ b. ap (λ c. is_known known (digest a b) || c) (looked_up u b)))

    -- none of the bytes that are put collide with contents of the base
    pub none_below : (tells ≡ true → first None ≡ None) → find below put ≡ None
    none_below none = by tells refl
      where
        by : (b : Bool) → tells ≡ b → find below put ≡ None
        by true u = none_mapped a (find below put) (sym (first_is u None) ∙ none u)
        by false u = find_nothing below put (λ b. ap (is_other b) (parts.none u (Text (digest a b))))

    digest_passes : may_patch force over q ≡ None → (tells ≡ true → first None ≡ None) → may_patch force s q ≡ None
    digest_passes may none =
        let two = both_none (early force s q) (option_map (λ b. IdCollision (digest a b)) (find above put)) (sym may_over ∙ may) in
        may_set ∙ (λ i. option_or (two.0 i) (option_map (λ b. IdCollision (digest a b)) (find_second above below put (no_refusal a (find above put) two.1) i)))
        ∙ ap (option_map (λ b. IdCollision (digest a b))) (none_below none)

    digest_collides : (id : List ℕ) → tells ≡ true → may_patch force over q ≡ None → first None ≡ Some id → may_patch force s q ≡ Some (IdCollision id)
    digest_collides id u may named =
        let two = both_none (early force s q) (option_map (λ b. IdCollision (digest a b)) (find above put)) (sym may_over ∙ may) in
        may_set ∙ (λ i. option_or (two.0 i) (option_map (λ b. IdCollision (digest a b)) (find_second above below put (no_refusal a (find above put) two.1) i)))
        ∙ as_refusal a (find below put) id (sym (or_none (option_map (digest a) (find below put))) ∙ (sym (first_is u None) ∙ named))

    digest_known : (k id : List ℕ) → tells ≡ true → may_patch force over q ≡ Some (IdCollision k) → first (Some k) ≡ Some id → may_patch force s q ≡ Some (IdCollision id)
    digest_known k id u refused named =
        let two = of_last force s q k (option_map (λ b. IdCollision (digest a b)) (find above put)) (sym may_over ∙ refused) in
        let one = named_id a (find above put) k two.1 in
        let there = find_there above put one.0 one.1 in
        let known : find (λ b. bytes_eq k (digest a b) || below b) put ≡ find (λ b. bytes_eq (digest a one.0) (digest a b) || below b) put = ap (λ d. find (λ b. bytes_eq d (digest a b) || below b) put) (sym one.2) in
        let same = find_known (digest a) above below one.0 put (λ b h e. each one.0 b there.0 there.1 e) one.1 in
        may_set ∙ ap (λ o. option_or o (option_map (λ b. IdCollision (digest a b)) (find (λ b. above b || below b) put))) two.0
        ∙ as_refusal a (find (λ b. above b || below b) put) id (is_first (option_map (digest a) (find (λ b. above b || below b) put)) (some_either one.0 one.1) (ap (λ o. option_or o (Some k)) (sym (ap (option_map (digest a)) known ∙ same)) ∙ (sym (first_is u (Some k)) ∙ named)))
      where
        -- bytes of the digest of some that collide do so
        each : (c b : List ℕ) → Has c put → above c ≡ true → bytes_eq (digest a c) (digest a b) ≡ true → above b ≡ true
        each c b there h e = by (bytes_eq c b) refl
          where
            by : (x : Bool) → bytes_eq c b ≡ x → above b ≡ true
            by true f = ap above (sym ((bytes_eq-Decides c b).0 f)) ∙ h
            by false f =
                let twin : has_twin (digest a) put b ≡ true = any_there (λ other. bytes_eq (digest a other) (digest a b) && not (bytes_eq other b)) c put there ((λ i. e i && not (f i))) in
                ap (λ y. is_other b (get over.contents (Text (digest a b))) || y) twin ∙ or-true (is_other b (get over.contents (Text (digest a b))))

        some_either : (c : List ℕ) → find above put ≡ Some c → option_map (digest a) (find (λ b. above b || below b) put) ≡ None → ⊥
        some_either c h none = at_most put h none
          where
            at_most : (xs : List (List ℕ)) → find above xs ≡ Some c → option_map (digest a) (find (λ b. above b || below b) xs) ≡ None → ⊥
            at_most [] h none = none-some c h
            at_most (y ∷ xs) h none = by (above y) (below y) h none (at_most xs)
              where
                by : (m n : Bool) → cond m (Some y) (find above xs) ≡ Some c → option_map (digest a) (cond (m || n) (Some y) (find (λ b. above b || below b) xs)) ≡ None → (find above xs ≡ Some c → option_map (digest a) (find (λ b. above b || below b) xs) ≡ None → ⊥) → ⊥
                by true n k none later = none-some (digest a y) (sym none)
                by false true k none later = none-some (digest a y) (sym none)
                by false false k none later = later k none

        is_first : (o : Option (List ℕ)) → (o ≡ None → ⊥) → option_or o (Some k) ≡ Some id → o ≡ Some id
        is_first None some h = absurd (some refl)
        is_first (Some d) some h = h

    digest_refused : (e : MbtError) → is_collision e ≡ false → may_patch force over q ≡ Some e → may_patch force s q ≡ Some e
    digest_refused e other refused = by (early force s q) refl (sym may_over ∙ refused)
      where
        by : (o : Option MbtError) → early force s q ≡ o → option_or o (option_map (λ b. IdCollision (digest a b)) (find above put)) ≡ Some e → may_patch force s q ≡ Some e
        by (Some r) is h = may_set ∙ ap (λ o. option_or o (option_map (λ b. IdCollision (digest a b)) (find (λ b. above b || below b) put))) is ∙ h
        by None is h = absurd (at (find above put) h)
          where
            at : (o : Option (List ℕ)) → option_map (λ b. IdCollision (digest a b)) o ≡ Some e → ⊥
            at None k = none-some e k
            at (Some b) k = false≢true (sym other ∙ ap is_collision (sym (same_Some (IdCollision (digest a b)) e k)))

  -- the same of any layout
  pub next_passes : may_patch force over q ≡ None → (tells ≡ true → first None ≡ None) → may_patch force s q ≡ None
  next_passes may none = by (has_digests s.layout) refl
    where
      by : (b : Bool) → has_digests s.layout ≡ b → may_patch force s q ≡ None
      by true d = digest_passes d may none
      by false d = sym (plain_alike d) ∙ may

  pub next_collides : (id : List ℕ) → tells ≡ true → may_patch force over q ≡ None → first None ≡ Some id → may_patch force s q ≡ Some (IdCollision id)
  next_collides id u may named = by (has_digests s.layout) refl
    where
      by : (b : Bool) → has_digests s.layout ≡ b → may_patch force s q ≡ Some (IdCollision id)
      by true d = digest_collides d id u may named
      by false d = absurd (none-some id (sym (plain_first None d) ∙ named))

  pub next_known : (k id : List ℕ) → tells ≡ true → may_patch force over q ≡ Some (IdCollision k) → first (Some k) ≡ Some id → may_patch force s q ≡ Some (IdCollision id)
  next_known k id u refused named = by (has_digests s.layout) refl
    where
      by : (b : Bool) → has_digests s.layout ≡ b → may_patch force s q ≡ Some (IdCollision id)
      by true d = digest_known d k id u refused named
      by false d = sym (plain_alike d) ∙ refused ∙ ap (λ i. Some (IdCollision i)) (same_Some k id (sym (plain_first (Some k) d) ∙ named))

  pub next_refused : (e : MbtError) → is_collision e ≡ false → may_patch force over q ≡ Some e → may_patch force s q ≡ Some e
  next_refused e other refused = by (has_digests s.layout) refl
    where
      by : (b : Bool) → has_digests s.layout ≡ b → may_patch force s q ≡ Some e
      by true d = digest_refused d e other refused
      by false d = sym (plain_alike d) ∙ refused

  pub over_refused : (e : MbtError) → step force over q ≡ Err e → may_patch force over q ≡ Some e
  over_refused e h = due_refused (state_patched over q) (may_patch force over q) e h
