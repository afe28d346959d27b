-- What is made of the elements of a list, one after another.
use Rattle.set_options.proofs.Common.{ap, fold, IfSome, length, List, None, Option, refl, slice_get, Some, sym, take, ℕ, ◌+◌, ◌<◌, ◌∙◌, ◌≡◌, ◌≤◌}
use Rattle.std.proofs.lemmas.List.{take_all}
use Rattle.std.proofs.lemmas.List.Sums.{fold_more}
use Rattle.std.proofs.lemmas.Option.{get_or_from_slice_get, none-some, slice_get-get_or}

-- the element at an index, of which P is known
pub fold_at : {A B : Type 0} (f : B → A → B) (start : B) (es : List A) (i : ℕ) (d : A) (old new : B) (P : A → Type 0) → i < length es → IfSome (slice_get es i) P → ((e : A) → P e → new ≡ f old e) → old ≡ fold f start (take i es) → new ≡ fold f start (take (i + 1) es)
fold_at {A} f start es i d old new P within here step before = by (slice_get es i) refl here
  where
    by : (o : Option A) → slice_get es i ≡ o → IfSome o P → new ≡ fold f start (take (i + 1) es)
    by None at h = absurd (none-some _ (sym at ∙ slice_get-get_or es i d within))
    by (Some e) at h = step e h ∙ (ap (λ b. f b e) before ∙ (ap (f (fold f start (take i es))) (sym (get_or_from_slice_get es i e e at)) ∙ sym (fold_more f start es i e within)))

pub fold_end : {A B : Type 0} (f : B → A → B) (start : B) (es : List A) (i : ℕ) (made : B) → length es ≤ i → made ≡ fold f start (take i es) → made ≡ fold f start es
fold_end f start es i made end at = at ∙ ap (fold f start) (take_all i es end)
