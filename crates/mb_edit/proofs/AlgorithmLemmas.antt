-- A patch of the algorithm of its set leaves metadata that name it.
use Rattle.mb_edit.proofs.Common.{ap, Bool, bytes_eq, codes, cond, cons_option, entries, eq_by_cmp, Equal-is, false, false≢true, filter_map, find, get, get-entries, is_eq, is_null_at, landed, List}
use Rattle.mb_edit.proofs.Common.{meta_patched, Names, names_antisymmetric, NamesAlgorithm, nat_cmp, nat_list_cmp_total, None, not, Option, option_and_then, option_map, option_or, refl, slice_cmp}
use Rattle.mb_edit.proofs.Common.{Some, State, subst, sym, target_of, text_at, tied_itself, true, ℕ, [], ◌||◌, ◌∙◌, ◌∷◌, ◌≡◌}
use Rattle.mb_edit.proofs.PatchedLemmas.{get-meta_patched}
use Rattle.mb_constraints.specs.Algorithm.{algorithm_by, unknown_name}

-- whether two names are equal
abbrev same : List ℕ → List ℕ → Bool
same = eq_by_cmp (slice_cmp nat_cmp)

equal_names : (a b : List ℕ) → same a b ≡ true → a ≡ b
equal_names a b h = names_antisymmetric a b ((Equal-is (slice_cmp nat_cmp a b)).0 h)

name_itself : (a b : List ℕ) → a ≡ b → same a b ≡ true
name_itself a b e = subst (λ (x : List ℕ). same a x ≡ true) e (ap is_eq (tied_itself nat_list_cmp_total a))

-- a name that lands on itself, and on which no other lands
pub record IsOwn (name : List ℕ) : Type 0 where
  pub own : target_of name ≡ Some name
  pub only : (x : List ℕ) → target_of x ≡ Some name → x ≡ name

module _ (name : List ℕ) (n : IsOwn name) where
  one : (x : List ℕ) (o : Option (List ℕ)) → target_of x ≡ o → (v : Option (List ℕ)) (rest : List (List ℕ × Option (List ℕ))) → find (slice_cmp nat_cmp) name (cons_option (option_map (λ t. (t, v)) o) rest) ≡ cond (same name x) (Some v) (find (slice_cmp nat_cmp) name rest)
  one x None t v rest = by (same name x) refl
    where
      by : (b : Bool) → same name x ≡ b → find (slice_cmp nat_cmp) name rest ≡ cond b (Some v) (find (slice_cmp nat_cmp) name rest)
      by false e = refl
      by true e =
          let target : target_of x ≡ Some name = ap target_of (sym (equal_names name x e)) ∙ n.own in
          cc
  one x (Some target) t v rest = ap (λ b. cond b (Some v) (find (slice_cmp nat_cmp) name rest)) (by (same name target) refl (same name x) refl)
    where
      by : (b : Bool) → same name target ≡ b → (c : Bool) → same name x ≡ c → same name target ≡ same name x
      by true e c f =
          let here : target_of x ≡ Some name = t ∙ ap Some (sym (equal_names name target e)) in
          e ∙ sym (name_itself name x (sym (n.only x here)))
      by false e false f = e ∙ sym f
      by false e true f =
          let here : Some target ≡ Some name = sym t ∙ (ap target_of (sym (equal_names name x f)) ∙ n.own) in
          let equal : target ≡ name = cc in
          absurd (false≢true (sym e ∙ name_itself name target (sym equal)))

  find_own : (es : List (List ℕ × Option (List ℕ))) → find (slice_cmp nat_cmp) name (filter_map landed es) ≡ find (slice_cmp nat_cmp) name es
  find_own [] = refl
  find_own (e ∷ es) = one e.0 (target_of e.0) refl e.1 (filter_map landed es) ∙ ap (cond (same name e.0) (Some e.1)) (find_own es)

  -- its text after a patch: what the patch has, or else what was there
  pub own_text : (m p : Names) → text_at (meta_patched m p) name ≡ elim (get p name) as (λ _. Option (List ℕ)) [ Some v ↦ v | None ↦ text_at m name ]
  own_text m p =
      ap (λ o. option_and_then (λ v. v) o) (get-meta_patched m p name ∙ ap (λ o. cond (not (is_null_at (get p name))) (option_or o (get m name)) None) (find_own (entries p) ∙ sym (get-entries p name)))
      ∙ by (get p name)
    where
      by : (o : Option (Option (List ℕ))) → option_and_then (λ v. v) (cond (not (is_null_at o)) (option_or o (get m name)) None) ≡ elim o as (λ _. Option (List ℕ)) [ Some v ↦ v | None ↦ text_at m name ]
      by (Some None) = refl
      by _ = refl

algorithm_own : IsOwn (codes "hash_algorithm")
algorithm_own = record { own = refl; only = λ x h. by x (bytes_eq x (codes "agg_tiles_hash") || bytes_eq x (codes "agg_tiles_hash_before_apply")) (bytes_eq x (codes "agg_tiles_hash_after_apply")) h }
  where
    by : (x : List ℕ) (a b : Bool) → cond a None (Some (cond b (codes "agg_tiles_hash") x)) ≡ Some (codes "hash_algorithm") → x ≡ codes "hash_algorithm"
    by x true b h = cc
    by x false false h = cc
    by x false true h =
        let e : codes "agg_tiles_hash" ≡ codes "hash_algorithm" = cc in
        absurd (false≢true (sym (ap (λ l. bytes_eq l (codes "agg_tiles_hash")) e)))

abbrev after : Names → Option (Option (List ℕ)) → Option (List ℕ)
after m o = elim o as (λ _. Option (List ℕ)) [ Some v ↦ v | None ↦ text_at m (codes "hash_algorithm") ]

-- after a patch of the same algorithm the metadata name it still
pub algorithm_kept : (s q next : State) → NamesAlgorithm s → NamesAlgorithm q → q.algorithm ≡ s.algorithm → next.algorithm ≡ s.algorithm → next.metadata ≡ meta_patched s.metadata q.metadata → NamesAlgorithm next
algorithm_kept s q next a b alike kept e = record {
  known = ap unknown_name text ∙ known_by (get q.metadata (codes "hash_algorithm")) refl;
  named = ap algorithm_by text ∙ (named_by (get q.metadata (codes "hash_algorithm")) refl ∙ sym kept);
}
  where
    text : text_at next.metadata (codes "hash_algorithm") ≡ after s.metadata (get q.metadata (codes "hash_algorithm"))
    text = ap (λ (m : Names). text_at m (codes "hash_algorithm")) e ∙ own_text (codes "hash_algorithm") algorithm_own s.metadata q.metadata

    known_by : (o : Option (Option (List ℕ))) → get q.metadata (codes "hash_algorithm") ≡ o → unknown_name (after s.metadata o) ≡ None
    known_by None h = a.known
    known_by (Some v) h = ap (λ o. unknown_name (option_and_then (λ text. text) o)) (sym h) ∙ b.known

    named_by : (o : Option (Option (List ℕ))) → get q.metadata (codes "hash_algorithm") ≡ o → algorithm_by (after s.metadata o) ≡ s.algorithm
    named_by None h = a.named
    named_by (Some v) h = ap (λ o. algorithm_by (option_and_then (λ text. text) o)) (sym h) ∙ (b.named ∙ alike)
