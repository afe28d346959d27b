-- What is known of the contents that are put, after one more tile.
use Rattle.mb_edit.proofs.Common.{and-false, ap, AreMarked, arith, Bool, bytes_eq, bytes_eq-Decides, bytes_of, Cell, cell_cmp, cell_eq, cell_eq-Decides, collides, cond, cons_option, Contents, drop}
use Rattle.mb_edit.proofs.Common.{Entries, false, false≢true, filter_map, get, has_twin, IfSome, is_eq, is_other, IsMarked, IsMarkOf, itself, length, List, list_any, Mark, None, not, Option, or-false}
use Rattle.mb_edit.proofs.Common.{or-true, refl, Some, subst, suc, sym, Text, true, zero, ℕ, [], ◌&&◌, ◌-◌, ◌<◌, ◌||◌, ◌∙◌, ◌∷◌, ◌≡◌, ◌≤◌}
use Rattle.std.proofs.Common.{find}
use Rattle.std.specs.BTreeMap as tree
use Rattle.std.specs.Map.{lookup}
use Rattle.mb_edit.specs.declared.collision.Marks.{Marks}

last_false : (a b c : Bool) → (a || (b || c)) ≡ false → c ≡ false
last_false false false c h = h
last_false _ _ c h = absurd (false≢true (sym h))

turned : (a b : List ℕ) → bytes_eq a b ≡ bytes_eq b a
turned a b = by (bytes_eq a b) refl (bytes_eq b a) refl
  where
    by : (x : Bool) → bytes_eq a b ≡ x → (y : Bool) → bytes_eq b a ≡ y → bytes_eq a b ≡ bytes_eq b a
    by true e y f = e ∙ sym ((bytes_eq-Decides b a).1 (sym ((bytes_eq-Decides a b).0 e)))
    by false e false f = e ∙ sym f
    by false e true f = absurd (false≢true (sym e ∙ (bytes_eq-Decides a b).1 (sym ((bytes_eq-Decides b a).0 f))))

-- a test that none passes, and one that a known element passes
none_both : {A : Type 0} (p q : A → Bool) (xs : List A) → list_any p xs ≡ false → list_any (λ x. p x && q x) xs ≡ false
none_both p q [] h = refl
none_both p q (x ∷ xs) h = by (p x) h (none_both p q xs)
  where
    by : (b : Bool) → (b || list_any p xs) ≡ false → (list_any p xs ≡ false → list_any (λ x. p x && q x) xs ≡ false) → ((b && q x) || list_any (λ x. p x && q x) xs) ≡ false
    by true h rest = absurd (false≢true (sym h))
    by false h rest = rest h

any_known : (p : List ℕ → Bool) (known : List ℕ) (xs : List (List ℕ)) → list_any (bytes_eq known) xs ≡ true → p known ≡ true → list_any p xs ≡ true
any_known p known [] h k = absurd (false≢true h)
any_known p known (x ∷ xs) h k = by (bytes_eq known x) refl h (λ e. any_known p known xs e k)
  where
    by : (b : Bool) → bytes_eq known x ≡ b → (b || list_any (bytes_eq known) xs) ≡ true → (list_any (bytes_eq known) xs ≡ true → list_any p xs ≡ true) → (p x || list_any p xs) ≡ true
    by true e h rest = ap (λ b. b || list_any p xs) (ap p (sym ((bytes_eq-Decides known x).0 e)) ∙ k)
    by false e h rest = ap (λ b. p x || b) (rest h) ∙ or-true (p x)

find_alike : {A : Type 0} (test p q : A → Bool) (xs : List A) → list_any test xs ≡ false → ((x : A) → test x ≡ false → p x ≡ q x) → find p xs ≡ find q xs
find_alike test p q [] h same = refl
find_alike test p q (x ∷ xs) h same = by (test x) refl h (λ k. find_alike test p q xs k same)
  where
    by : (b : Bool) → test x ≡ b → (b || list_any test xs) ≡ false → (list_any test xs ≡ false → find p xs ≡ find q xs) → cond (p x) (Some x) (find p xs) ≡ cond (q x) (Some x) (find q xs)
    by true e h rest = absurd (false≢true (sym h))
    by false e h rest = ap (λ b. cond b (Some x) (find p xs)) (same x e) ∙ ap (cond (q x) (Some x)) (rest h)

-- whether bytes are others of the same digest
abbrev pub twin : (List ℕ → List ℕ) → List ℕ → List ℕ → Bool
twin digest bytes other = bytes_eq (digest other) (digest bytes) && not (bytes_eq other bytes)

module _ (digest : List ℕ → List ℕ) (contents : Contents) where
  twin_itself : (bytes : List ℕ) → twin digest bytes bytes ≡ false
  twin_itself bytes = ap (λ b. bytes_eq (digest bytes) (digest bytes) && not b) (itself bytes) ∙ and-false (bytes_eq (digest bytes) (digest bytes))

  twin_turned : (a b : List ℕ) → twin digest a b ≡ twin digest b a
  twin_turned a b = ap (λ x. x && not (bytes_eq b a)) (turned (digest b) (digest a)) ∙ ap (λ x. bytes_eq (digest a) (digest b) && not x) (turned b a)

  own : (bytes : List ℕ) (put : List (List ℕ)) → collides digest contents (bytes ∷ put) bytes ≡ collides digest contents put bytes
  own bytes put = ap (λ b. is_other bytes (get contents (Text (digest bytes))) || (b || has_twin digest put bytes)) (twin_itself bytes)

  -- bytes of a digest that none of the others has
  pub new_collides : (bytes : List ℕ) (put : List (List ℕ)) → list_any (λ other. bytes_eq (digest other) (digest bytes)) put ≡ false → collides digest contents (bytes ∷ put) bytes ≡ is_other bytes (get contents (Text (digest bytes)))
  new_collides bytes put h =
      own bytes put
      ∙ (ap (λ b. is_other bytes (get contents (Text (digest bytes))) || b) (none_both (λ other. bytes_eq (digest other) (digest bytes)) (λ other. not (bytes_eq other bytes)) put h)
      ∙ or-false (is_other bytes (get contents (Text (digest bytes)))))

  -- bytes of a digest that has a mark
  pub met_collides : (es : Entries) (bytes : List ℕ) (put : List (List ℕ)) (mark : Mark) (m : IsMarkOf digest contents es put (digest bytes) mark) → collides digest contents (bytes ∷ put) bytes ≡ (mark.collides || not (bytes_eq m.bytes bytes))
  met_collides es bytes put mark m = by (bytes_eq m.bytes bytes) refl
    where
      by : (b : Bool) → bytes_eq m.bytes bytes ≡ b → collides digest contents (bytes ∷ put) bytes ≡ (mark.collides || not b)
      by true e =
          own bytes put
          ∙ (ap (collides digest contents put) (sym ((bytes_eq-Decides m.bytes bytes).0 e))
          ∙ (sym m.says ∙ sym (or-false mark.collides)))
      by false e =
          let same : bytes_eq (digest m.bytes) (digest bytes) ≡ true = ap (λ d. bytes_eq d (digest bytes)) m.has_id ∙ itself (digest bytes) in
          let found : has_twin digest put bytes ≡ true = any_known (twin digest bytes) m.bytes put m.among (ap (λ b. b && not (bytes_eq m.bytes bytes)) same ∙ ap not e) in
          own bytes put
          ∙ (ap (λ b. is_other bytes (get contents (Text (digest bytes))) || b) found
          ∙ (or-true (is_other bytes (get contents (Text (digest bytes)))) ∙ sym (or-true mark.collides)))

  -- of other digests nothing changes
  unaffected : (bytes other : List ℕ) (put : List (List ℕ)) → twin digest other bytes ≡ false → collides digest contents (bytes ∷ put) other ≡ collides digest contents put other
  unaffected bytes other put h = ap (λ b. is_other other (get contents (Text (digest other))) || (b || has_twin digest put other)) h

  apart_marked : (es : Entries) (bytes : List ℕ) (put : List (List ℕ)) (id : List ℕ) (o : Option Mark) → bytes_eq (digest bytes) id ≡ false → IsMarked digest contents es put id o → IsMarked digest contents es (bytes ∷ put) id o
  apart_marked es bytes put id None away h = ap (λ b. b || list_any (λ other. bytes_eq (digest other) id) put) away ∙ h
  apart_marked es bytes put id (Some mark) away m = record {
    bytes = m.bytes;
    at_index = m.at_index;
    among = ap (λ b. bytes_eq m.bytes bytes || b) m.among ∙ or-true (bytes_eq m.bytes bytes);
    has_id = m.has_id;
    says = m.says ∙ sym (unaffected bytes m.bytes put (ap (λ d. bytes_eq (digest bytes) d && not (bytes_eq bytes m.bytes)) m.has_id ∙ ap (λ b. b && not (bytes_eq bytes m.bytes)) away));
  }

  -- nor for those behind bytes that don't collide
  rest_alike : (bytes : List ℕ) (put : List (List ℕ)) → collides digest contents (bytes ∷ put) bytes ≡ false → find (collides digest contents put) put ≡ find (collides digest contents (bytes ∷ put)) put
  rest_alike bytes put h =
      let no_twin : has_twin digest put bytes ≡ false = last_false (is_other bytes (get contents (Text (digest bytes)))) (twin digest bytes bytes) (has_twin digest put bytes) h in
      find_alike (twin digest bytes) (collides digest contents put) (collides digest contents (bytes ∷ put)) put no_twin (λ other k. sym (unaffected bytes other put (twin_turned other bytes ∙ k)))

  -- one more tile
  pub marked_more : (es : Entries) (put : List (List ℕ)) (bytes : List ℕ) (marks new : Marks) (index : ℕ) (c : Bool) → AreMarked digest contents es put marks → bytes_of es index ≡ Some bytes → ((q : Cell) → tree.get cell_cmp new.by_id q ≡ cond (is_eq (cell_cmp (Text (digest bytes)) q)) (Some (record { index = index; collides = c })) (tree.get cell_cmp marks.by_id q)) → c ≡ collides digest contents (bytes ∷ put) bytes → bytes_of es new.first ≡ cond c (Some bytes) (bytes_of es marks.first) → AreMarked digest contents es (bytes ∷ put) new
  marked_more es put bytes marks new index c a at updates says first = record { each = each; first = first ∙ found c says }
    where
      mark : Mark
      mark = record { index = index; collides = c }

      made : (id : List ℕ) → digest bytes ≡ id → IsMarkOf digest contents es (bytes ∷ put) id mark
      made id e = record { bytes = bytes; at_index = at; among = ap (λ b. b || list_any (bytes_eq bytes) put) (itself bytes); has_id = e; says = says }

      by : (id : List ℕ) (b : Bool) → bytes_eq (digest bytes) id ≡ b → IsMarked digest contents es (bytes ∷ put) id (cond (cell_eq (Text (digest bytes)) (Text id)) (Some mark) (tree.get cell_cmp marks.by_id (Text id)))
      by id true e =
          let same : digest bytes ≡ id = (bytes_eq-Decides (digest bytes) id).0 e in
          rw ((cell_eq-Decides (Text (digest bytes)) (Text id)).1 (ap Text same)) (made id same)
      by id false e = other (cell_eq (Text (digest bytes)) (Text id)) refl
        where
          same_text : Cell → List ℕ
          same_text (Text t) = t
          same_text _ = []

          other : (b : Bool) → cell_eq (Text (digest bytes)) (Text id) ≡ b → IsMarked digest contents es (bytes ∷ put) id (cond b (Some mark) (tree.get cell_cmp marks.by_id (Text id)))
          other false f = apart_marked es bytes put id (tree.get cell_cmp marks.by_id (Text id)) e (a.each id)
          other true f = absurd (false≢true (sym e ∙ (bytes_eq-Decides (digest bytes) id).1 (ap same_text ((cell_eq-Decides (Text (digest bytes)) (Text id)).0 f))))

      each : (id : List ℕ) → IsMarked digest contents es (bytes ∷ put) id (tree.get cell_cmp new.by_id (Text id))
      each id = subst (IsMarked digest contents es (bytes ∷ put) id) (sym (updates (Text id))) (by id (bytes_eq (digest bytes) id) refl)

      found : (c : Bool) → c ≡ collides digest contents (bytes ∷ put) bytes → cond c (Some bytes) (bytes_of es marks.first) ≡ find (collides digest contents (bytes ∷ put)) (bytes ∷ put)
      found true e = ap (λ b. cond b (Some bytes) (find (collides digest contents (bytes ∷ put)) put)) e
      found false e =
          a.first ∙ (rest_alike bytes put (sym e) ∙ ap (λ b. cond b (Some bytes) (find (collides digest contents (bytes ∷ put)) put)) e)

  -- whether bytes collide, by the mark of their id
  module _ (es : Entries) (put : List (List ℕ)) (marks : Marks) (a : AreMarked digest contents es put marks) (bytes : List ℕ) (id : Cell) (is : id ≡ Text (digest bytes)) where
    marked_by : (o : Option Mark) → tree.get cell_cmp marks.by_id id ≡ o → IsMarked digest contents es put (digest bytes) o
    marked_by o e = subst (IsMarked digest contents es put (digest bytes)) (ap (λ i. tree.get cell_cmp marks.by_id i) (sym is) ∙ e) (a.each (digest bytes))

    pub by_none : (r : Bool) → tree.get cell_cmp marks.by_id id ≡ None → r ≡ is_other bytes (get contents id) → r ≡ collides digest contents (bytes ∷ put) bytes
    by_none r e h = h ∙ (ap (λ i. is_other bytes (get contents i)) is ∙ sym (new_collides bytes put (marked_by None e)))

    pub by_true : (mark : Mark) → tree.get cell_cmp marks.by_id id ≡ Some mark → mark.collides ≡ true → mark.collides ≡ collides digest contents (bytes ∷ put) bytes
    by_true mark e h =
        let m = marked_by (Some mark) e in
        h ∙ sym (met_collides es bytes put mark m ∙ ap (λ b. b || not (bytes_eq m.bytes bytes)) h)

    pub by_false : (mark : Mark) (r : Bool) → tree.get cell_cmp marks.by_id id ≡ Some mark → mark.collides ≡ false → IfSome (bytes_of es mark.index) (λ met. r ≡ not (bytes_eq met bytes)) → r ≡ collides digest contents (bytes ∷ put) bytes
    by_false mark r e h other =
        let m = marked_by (Some mark) e in
        let answer : r ≡ not (bytes_eq m.bytes bytes) = subst (λ (o : Option (List ℕ)). IfSome o (λ met. r ≡ not (bytes_eq met bytes))) m.at_index other in
        answer ∙ sym (met_collides es bytes put mark m ∙ ap (λ b. b || not (bytes_eq m.bytes bytes)) h)

  -- before any tile, and after one without bytes
  pub none_marked : (es : Entries) (marks : Marks) → marks.by_id.entries ≡ [] → bytes_of es marks.first ≡ None → AreMarked digest contents es [] marks
  none_marked es marks empty first = record {
    each = λ id. subst (IsMarked digest contents es [] id) (sym (ap (λ xs. lookup (tree.is_at (cell_cmp (Text id))) xs) empty)) refl;
    first = first;
  }

  pub met_more : (es : Entries) (put : List (List ℕ)) (bytes : List ℕ) (marks new : Marks) (index : ℕ) (c : Bool) (text : List ℕ) → AreMarked digest contents es put marks → Some bytes ≡ bytes_of es index → text ≡ digest bytes → ((q : Cell) → tree.get cell_cmp new.by_id q ≡ cond (is_eq (cell_cmp (Text text) q)) (Some (record { index = index; collides = c })) (tree.get cell_cmp marks.by_id q)) → c ≡ collides digest contents (bytes ∷ put) bytes → bytes_of es new.first ≡ cond c (Some bytes) (bytes_of es marks.first) → AreMarked digest contents es (cons_option (bytes_of es index) put) new
  met_more es put bytes marks new index c text a at id updates says first =
      subst (λ (o : Option (List ℕ)). AreMarked digest contents es (cons_option o put) new) at
      (marked_more es put bytes marks new index c a (sym at) (λ q. updates q ∙ ap (λ t. cond (is_eq (cell_cmp (Text t) q)) (Some (record { index = index; collides = c })) (tree.get cell_cmp marks.by_id q)) id) says first)

-- where none collide, the first doesn't, nor do the others among themselves
pub rest_apart : (digest : List ℕ → List ℕ) (contents : Contents) (bytes : List ℕ) (put : List (List ℕ)) → find (collides digest contents (bytes ∷ put)) (bytes ∷ put) ≡ None → (collides digest contents put bytes ≡ false) × (find (collides digest contents put) put ≡ None)
rest_apart digest contents bytes put h = by (collides digest contents (bytes ∷ put) bytes) refl h
  where
    by : (c : Bool) → collides digest contents (bytes ∷ put) bytes ≡ c → cond c (Some bytes) (find (collides digest contents (bytes ∷ put)) put) ≡ None → (collides digest contents put bytes ≡ false) × (find (collides digest contents put) put ≡ None)
    by true e h = cc
    by false e h = (sym (own digest contents bytes put) ∙ e, rest_alike digest contents bytes put e ∙ h)

-- the bytes of a tile in front of those of the tiles behind it
put_from : (es : Entries) (i : ℕ) → i < length es → filter_map (λ e. e.1) (drop i es) ≡ cons_option (bytes_of es i) (filter_map (λ e. e.1) (drop (suc i) es))
put_from [] i lt = absurd (omega arith)
put_from (e ∷ es) zero lt = refl
put_from (e ∷ es) (suc i) lt = put_from es i (omega arith)

pub put_before : (es : Entries) (n : ℕ) → 0 < n → n ≤ length es → filter_map (λ e. e.1) (drop (n - 1) es) ≡ cons_option (bytes_of es (n - 1)) (filter_map (λ e. e.1) (drop n es))
put_before es n some within =
    let next : suc (n - 1) ≡ n = omega arith in
    put_from es (n - 1) (omega arith) ∙ ap (λ k. cons_option (bytes_of es (n - 1)) (filter_map (λ e. e.1) (drop k es))) next

pub none_put : (es : Entries) (n : ℕ) → length es ≤ n → filter_map (λ e. e.1) (drop n es) ≡ []
none_put [] zero h = refl
none_put [] (suc n) h = refl
none_put (e ∷ es) zero h = absurd (omega arith)
none_put (e ∷ es) (suc n) h = none_put es n (omega arith)
