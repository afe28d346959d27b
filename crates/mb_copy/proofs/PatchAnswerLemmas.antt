-- Answers of a copy with a patch, over stores that tell their tables or not.
use Rattle.mb_copy.proofs.Common.{Answers, ap, begun, begun_err, begun_ok, Bool, created, Err, expected_hash, false, false≢true, has_any, Held, IfErr, inl, inr, is_free, IsAnew, IsBegun, IsLeft, List}
use Rattle.mb_copy.proofs.Common.{Loads, made_type, may_be_patch, may_be_patched, may_copy_anew, may_copy_patched, MbtError, MbtilesCopier, MbtType, None, NonEmptyTargetFile, Ok, OnOk, Option}
use Rattle.mb_copy.proofs.Common.{patch_answer, refl, refused_by, Result, set_tables, Some, source_answer, source_patched, State, state_of, subst, sym, Tables, then, true, ℕ, [], ◌∙◌, ◌≡◌}
use Rattle.mb_copy.proofs.AnswerLemmas.{loaded_as, some_described}
use Rattle.mb_copy.specs.CopyingPatched.{IsAnsweredPatched, IsCopiedPatched, IsCopiedPatchedBy, IsPutPatched}

-- an answer that is Ok
due_none : (o : Option MbtError) → refused_by o ≡ Ok tt → o ≡ None
due_none None h = refl
due_none (Some e) h = cc

module _ (c : MbtilesCopier) (source patch : State) (tells : Bool) (told : Tables) where
  pub free_patched : (e : MbtError) → is_free e ≡ true → IsPutPatched c source patch tells told (Err e)
  free_patched e free = record { described = has_any told.descriptions; is_described = λ _. refl; answers = λ h. absurd (false≢true (sym h ∙ free)) }

  pub filled_patched : (tells ≡ true → told.descriptions ≡ [] → ⊥) → IsPutPatched c source patch tells told (Err NonEmptyTargetFile)
  filled_patched some = record { described = true; is_described = λ t. some_described told.descriptions (some t); answers = λ free. refl }

  pub anew_patched : (r : Result (Unit {0}) MbtError) → (tells ≡ true → told.descriptions ≡ []) → Answers (refused_by (may_copy_patched c false source patch)) r → IsPutPatched c source patch tells told r
  anew_patched r none a = record { described = false; is_described = λ t. sym (ap has_any (none t)); answers = a }

-- what is due of a source that was patched
pub patched_due : (c : MbtilesCopier) (source patch s : State) (after : Option (List ℕ)) (r : Result (Unit {0}) MbtError) → s ≡ source_patched source patch → after ≡ expected_hash c patch → Answers (refused_by (may_copy_anew c after s)) r → Answers (refused_by (may_copy_patched c false source patch)) r
patched_due c source patch s after r is expected a = subst (λ (o : Option MbtError). Answers (refused_by o) r) (ap (may_copy_anew c after) is ∙ ap (λ (x : Option (List ℕ)). may_copy_anew c x (source_patched source patch)) expected) a

-- what is left, and what is copied
pub left_patched : (c : MbtilesCopier) (source s : State) (r : Result (Unit {0}) MbtError) (old new : Tables) → s.layout ≡ source.layout → IfErr r (IsLeft c s old new) → IfErr r (IsLeft c source old new)
left_patched c source s (Ok done) old new layout a = a
left_patched c source s (Err e) old new layout a = by a
  where
    by : IsLeft c s old new e → IsLeft c source old new e
    by (inl kept) = inl kept
    by (inr m) = inr (record { free = m.free; none = m.none; made = m.made ∙ ap (λ (l : MbtType). created old (set_tables (made_type c l))) layout })

pub copied_patched : (c : MbtilesCopier) (source patch s : State) (after : Option (List ℕ)) (r : Result (Unit {0}) MbtError) (old new : Tables) → s ≡ source_patched source patch → after ≡ expected_hash c patch → Answers (refused_by (may_copy_anew c after s)) r → OnOk r (IsAnew c s old new) → OnOk r (IsCopiedPatched c source patch old new)
copied_patched c source patch s after (Err e) old new is expected a copied = copied
copied_patched c source patch s after (Ok done) old new is expected a copied = record {
  passed = due_none (may_copy_patched c false source patch) (patched_due c source patch s after (Ok done) is expected a);
  copied = subst (λ (x : State). IsAnew c x old new) is copied;
}

-- the same over a store that was asked before
pub copied_moved : (c : MbtilesCopier) (source patch : State) (r : Result (Unit {0}) MbtError) (old' old new : Tables) → old' ≡ old → OnOk r (IsCopiedPatched c source patch old' new) → OnOk r (IsCopiedPatched c source patch old new)
copied_moved c source patch r old' old new same a = subst (λ (t : Tables). OnOk r (IsCopiedPatched c source patch t new)) same a

-- what loading comes to, as a function of what is told
opened : {A : Type 0} (f : State → Result A MbtError) (t : Tables) (r : Result A MbtError) → Answers (begun f t) r → Answers (then (state_of t) f) r
unfolding begun
opened f t r a = a

module _ (c : MbtilesCopier) (patch_tells : Bool) (patch_told : Tables) (source_tells : Bool) (source_told : Tables) (tells : Bool) (told : Tables) where
  -- the patch doesn't load
  pub patch_refused : (e : MbtError) → (patch_tells ≡ true → Loads (state_of patch_told) (Err e)) → ((t : Tables) × Loads (state_of t) (Err e)) → IsAnsweredPatched c patch_tells patch_told source_tells source_told tells told (Err e)
  patch_refused e it own =
      let b = begun_err (patch_answer c (has_any told.descriptions) source_told) patch_tells patch_told e it own in
      record { patch = b.tables; is_patch = b.is_told; source = source_told; is_source = λ _. refl; described = has_any told.descriptions; is_described = λ _. refl; answers = b.answers }

  module _ (q : Held) (it : patch_tells ≡ true → Loads (state_of patch_told) (Ok q)) (own : (t : Tables) × Loads (state_of t) (Ok q)) where
    -- it is refused
    pub patch_untaken : (e : MbtError) → (is_free e ≡ false → may_be_patch c q.state ≡ Some e) → IsAnsweredPatched c patch_tells patch_told source_tells source_told tells told (Err e)
    patch_untaken e wrong =
        let b = begun_ok (patch_answer c (has_any told.descriptions) source_told) patch_tells patch_told q (Err e) it own (λ free. ap (λ o. then (refused_by o) (λ _. then (state_of source_told) (source_answer c (has_any told.descriptions) q.state))) (wrong free)) in
        record { patch = b.tables; is_patch = b.is_told; source = source_told; is_source = λ _. refl; described = has_any told.descriptions; is_described = λ _. refl; answers = b.answers }

    -- it is taken
    pub source_answered : (r : Result (Unit {0}) MbtError) (described : Bool) → may_be_patch c q.state ≡ None → (tells ≡ true → described ≡ has_any told.descriptions) → IsBegun (source_answer c described q.state) source_tells source_told r → IsAnsweredPatched c patch_tells patch_told source_tells source_told tells told r
    source_answered r described taken is s =
        let b = begun_ok (patch_answer c described s.tables) patch_tells patch_told q r it own (subst (λ (o : Option MbtError). Answers (then (refused_by o) (λ _. then (state_of s.tables) (source_answer c described q.state))) r) (sym taken) (opened (source_answer c described q.state) s.tables r s.answers)) in
        record { patch = b.tables; is_patch = b.is_told; source = s.tables; is_source = s.is_told; described = described; is_described = is; answers = b.answers }

    -- the source doesn't load
    pub source_refused : (e : MbtError) → may_be_patch c q.state ≡ None → (source_tells ≡ true → Loads (state_of source_told) (Err e)) → ((t : Tables) × Loads (state_of t) (Err e)) → IsAnsweredPatched c patch_tells patch_told source_tells source_told tells told (Err e)
    source_refused e taken it' own' = source_answered (Err e) (has_any told.descriptions) taken (λ _. refl) (begun_err (source_answer c (has_any told.descriptions) q.state) source_tells source_told e it' own')

    module _ (h : Held) (it' : source_tells ≡ true → Loads (state_of source_told) (Ok h)) (own' : (t : Tables) × Loads (state_of t) (Ok h)) where
      -- the source is refused
      pub source_untaken : (e : MbtError) → may_be_patch c q.state ≡ None → (is_free e ≡ false → may_be_patched c h.state ≡ Some e) → IsAnsweredPatched c patch_tells patch_told source_tells source_told tells told (Err e)
      source_untaken e taken wrong =
          source_answered (Err e) (has_any told.descriptions) taken (λ _. refl)
          (begun_ok (source_answer c (has_any told.descriptions) q.state) source_tells source_told h (Err e) it' own' (λ free. ap (λ o. then (refused_by o) (λ _. refused_by (may_copy_patched c (has_any told.descriptions) h.state q.state))) (wrong free)))

      -- it is copied
      pub patched_answered : (r : Result (Unit {0}) MbtError) → may_be_patch c q.state ≡ None → may_be_patched c h.state ≡ None → IsPutPatched c h.state q.state tells told r → IsAnsweredPatched c patch_tells patch_told source_tells source_told tells told r
      patched_answered r taken can p =
          source_answered r p.described taken p.is_described
          (begun_ok (source_answer c p.described q.state) source_tells source_told h r it' own' (subst (λ (o : Option MbtError). Answers (then (refused_by o) (λ _. refused_by (may_copy_patched c p.described h.state q.state))) r) (sym can) p.answers))

      pub patched_copied : (r : Result (Unit {0}) MbtError) (new : Tables) → may_be_patch c q.state ≡ None → may_be_patched c h.state ≡ None → OnOk r (IsCopiedPatched c h.state q.state told new) → OnOk r (IsCopiedPatchedBy c patch_tells patch_told source_tells source_told told new)
      patched_copied (Err e) new taken can a = a
      patched_copied (Ok done) new taken can a =
          let p = loaded_as patch_tells patch_told q it own in
          let s = loaded_as source_tells source_told h it' own' in
          record { patch_tables = p.tables; is_patch = p.is; patch = q.state; read = p.fact; is_whole = taken; source_tables = s.tables; is_source = s.is; source = h.state; loaded = s.fact; can_be_patched = can; copied = a }
