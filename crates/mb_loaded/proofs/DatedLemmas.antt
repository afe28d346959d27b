-- Contents that are listed have an id, and tiles of a cache have times.
use Rattle.mb_loaded.proofs.Common.{All, All-cons, All-nil, All-permutation, ap, append_assoc, Bool, Cache, cond, Content, Dates, dates_for, false, false≢true, HasId, is_cache, is_null, is_some}
use Rattle.mb_loaded.proofs.Common.{length, List, MbtType, no_dates, None, nothing, Option, option_map, refl, Some, subst, suc, true, unwrap_or, ℕ, [], ◌++◌, ◌∙◌, ◌∷◌, ◌≡◌}
use Rattle.mb_loaded.specs.Editable.{AreTimes}
use Rattle.mb_lists.specs.FromRows.{AreIndexed, ids_from}
use Rattle.mb_lists.proofs.ContentLemmas.{at_middle, longer}

ids_after : (pre cs : List Content) → All (HasId (pre ++ cs)) (ids_from (length pre) cs)
ids_after pre [] = All-nil (HasId (pre ++ []))
ids_after pre (c ∷ cs) = by (is_null c.id) refl (ids_after (pre ++ c ∷ []) cs)
  where
    rest : All (HasId ((pre ++ c ∷ []) ++ cs)) (ids_from (length (pre ++ c ∷ [])) cs) → All (HasId (pre ++ c ∷ cs)) (ids_from (suc (length pre)) cs)
    rest ih = subst (λ n. All (HasId (pre ++ c ∷ cs)) (ids_from n cs)) (longer pre c) (subst (λ l. All (HasId l) (ids_from (length (pre ++ c ∷ [])) cs)) (append_assoc pre (c ∷ []) cs) ih)

    by : (b : Bool) → is_null c.id ≡ b → All (HasId ((pre ++ c ∷ []) ++ cs)) (ids_from (length (pre ++ c ∷ [])) cs) → All (HasId (pre ++ c ∷ cs)) (cond b (ids_from (suc (length pre)) cs) (length pre ∷ ids_from (suc (length pre)) cs))
    by true e ih = rest ih
    by false e ih = All-cons (HasId (pre ++ c ∷ cs)) (length pre) (ids_from (suc (length pre)) cs) (ap (λ o. is_null (unwrap_or o nothing).id) (at_middle pre c cs) ∙ e) (rest ih)

pub listed_have_ids : (contents : List Content) (live : ℕ) (order : List ℕ) → AreIndexed contents live order → All (HasId contents) order
listed_have_ids contents live order h = All-permutation (HasId contents) (ids_from 0 contents) order h.listed (ids_after [] contents)

-- a layout gives times to a tile that is put exactly where it has any, of their kinds
pub dates_some : (l : MbtType) → is_some (dates_for l) ≡ is_cache l
dates_some Cache = refl
dates_some _ = refl

pub dates_are : (l : MbtType) (d : Dates) → dates_for l ≡ Some d → AreTimes d
dates_are Cache d h = let e : no_dates ≡ d = cc in subst AreTimes e (record { fetched = refl; expires = refl; etag = refl })
dates_are _ d h = cc

-- other times are there exactly where times were
pub times_stay : (d : Dates) (o : Option Dates) → is_some (option_map (λ old. d) o) ≡ is_some o
times_stay d None = refl
times_stay d (Some old) = refl

pub times_are : (d : Dates) (o : Option Dates) → is_some o ≡ true → option_map (λ old. d) o ≡ Some d
times_are d (Some old) h = refl
times_are d None h = absurd (false≢true h)
