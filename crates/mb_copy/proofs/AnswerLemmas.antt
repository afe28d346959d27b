-- Answers of a copy over stores that tell their tables or not.
use Rattle.mb_copy.proofs.Common.{Answers, ap, begun, begun_err, begun_ok, Bool, copy_answer, Err, false, false≢true, has_any, Held, IfErr, inl, inr, into_answer, invalid, is_free, IsAnew, IsAnswered}
use Rattle.mb_copy.proofs.Common.{IsBegun, IsCopied, IsCopiedBy, IsLeft, IsLeftBy, IsOver, IsPutInto, List, Loads, made_state, may_copy, MbtError, MbtilesCopier, mode_missing, None, Ok, OnErr, OnOk}
use Rattle.mb_copy.proofs.Common.{Option, OutOfMemory, over_answer, refl, refused_by, Result, Some, State, state_of, StoreFault, subst, sym, TableDesc, Tables, then, true, [], ◌∙◌, ◌∷◌, ◌≡◌, ◌⊎◌}
use Rattle.mb_edit.proofs.AnswerLemmas.{SomeTables, some_tables}

pub some_described : (ds : List TableDesc) → (ds ≡ [] → ⊥) → true ≡ has_any ds
some_described [] h = absurd (h refl)
some_described (d ∷ ds) h = refl

-- an error of a store alone is free
pub store_free : (e : MbtError) → (e ≡ StoreFault) ⊎ (e ≡ OutOfMemory) → is_free e ≡ true
store_free e (inl h) = ap is_free h
store_free e (inr h) = ap is_free h

module _ (c : MbtilesCopier) (source : State) (tells : Bool) (told : Tables) where
  pub free_into : (e : MbtError) → is_free e ≡ true → IsPutInto c source tells told (Err e)
  free_into e free = record { target = told; described = has_any told.descriptions; is_target = λ _. refl; is_described = λ _. refl; answers = λ h. absurd (false≢true (sym h ∙ free)) }

  pub anew_into : (r : Result (Unit {0}) MbtError) → (tells ≡ true → told.descriptions ≡ []) → Answers (refused_by (may_copy c source (made_state c source))) r → IsPutInto c source tells told r
  anew_into r none a = record { target = told; described = false; is_target = λ _. refl; is_described = λ t. sym (ap has_any (none t)); answers = a }

  pub mode_into : (e : MbtError) → (tells ≡ true → told.descriptions ≡ [] → ⊥) → (is_free e ≡ false → mode_missing c ≡ Some e) → IsPutInto c source tells told (Err e)
  mode_into e some missing = record {
    target = told;
    described = true;
    is_target = λ _. refl;
    is_described = λ t. some_described told.descriptions (some t);
    answers = λ free. ap (λ o. then (refused_by o) (λ _. then (state_of told) (over_answer c source))) (missing free);
  }

  begun_is : (t : Tables) (r : Result (Unit {0}) MbtError) → Answers (begun (over_answer c source) t) r → Answers (then (state_of t) (over_answer c source)) r
  unfolding begun
  begun_is t r a = a

  pub over_into : (r : Result (Unit {0}) MbtError) → mode_missing c ≡ None → (tells ≡ true → told.descriptions ≡ [] → ⊥) → IsBegun (over_answer c source) tells told r → IsPutInto c source tells told r
  over_into r mode some b = record {
    target = b.tables;
    described = true;
    is_target = b.is_told;
    is_described = λ t. some_described told.descriptions (some t);
    answers = subst (λ (o : Option MbtError). Answers (then (refused_by o) (λ _. then (state_of b.tables) (over_answer c source))) r) (sym mode) (begun_is b.tables r b.answers);
  }

module _ (c : MbtilesCopier) (source_tells : Bool) (source_told : Tables) (tells : Bool) (told : Tables) where
  -- the source is refused
  pub source_refused : (e : MbtError) → (source_tells ≡ true → Loads (state_of source_told) (Err e)) → ((t : Tables) × Loads (state_of t) (Err e)) → IsAnswered c source_tells source_told tells told (Err e)
  source_refused e it own =
      let b = begun_err (copy_answer c (has_any told.descriptions) told) source_tells source_told e it own in
      record { source = b.tables; is_source = b.is_told; target = told; described = has_any told.descriptions; is_target = λ _. refl; is_described = λ _. refl; answers = b.answers }

  -- its hash is
  pub hash_refused : (h : Held) (e : MbtError) → (source_tells ≡ true → Loads (state_of source_told) (Ok h)) → ((t : Tables) × Loads (state_of t) (Ok h)) → (is_free e ≡ false → invalid c.validate h.state ≡ Some e) → IsAnswered c source_tells source_told tells told (Err e)
  hash_refused h e it own wrong =
      let b = begun_ok (copy_answer c (has_any told.descriptions) told) source_tells source_told h (Err e) it own (λ free. ap (λ o. then (refused_by o) (λ _. into_answer c h.state (has_any told.descriptions) told)) (wrong free)) in
      record { source = b.tables; is_source = b.is_told; target = told; described = has_any told.descriptions; is_target = λ _. refl; is_described = λ _. refl; answers = b.answers }

  -- it is copied
  pub put_answered : (h : Held) (r : Result (Unit {0}) MbtError) → (source_tells ≡ true → Loads (state_of source_told) (Ok h)) → ((t : Tables) × Loads (state_of t) (Ok h)) → invalid c.validate h.state ≡ None → IsPutInto c h.state tells told r → IsAnswered c source_tells source_told tells told r
  put_answered h r it own valid p =
      let b = begun_ok (copy_answer c p.described p.target) source_tells source_told h r it own (subst (λ (o : Option MbtError). Answers (then (refused_by o) (λ _. into_answer c h.state p.described p.target)) r) (sym valid) p.answers) in
      record { source = b.tables; is_source = b.is_told; target = p.target; described = p.described; is_target = p.is_target; is_described = p.is_described; answers = b.answers }

-- what a copy of a set that was loaded leaves
pub loaded_as : (tells : Bool) (told : Tables) (h : Held) → (tells ≡ true → Loads (state_of told) (Ok h)) → ((t : Tables) × Loads (state_of t) (Ok h)) → SomeTables tells told (λ t. state_of t ≡ Ok h.state)
loaded_as tells told h it own = some_tables tells told (λ t. state_of t ≡ Ok h.state) (λ e. (it e).0) (own.0, own.1.0)

pub copied_by : (c : MbtilesCopier) (tells : Bool) (told old new : Tables) (h : Held) → (tells ≡ true → Loads (state_of told) (Ok h)) → ((t : Tables) × Loads (state_of t) (Ok h)) → invalid c.validate h.state ≡ None → IsCopied c h.state (has_any old.descriptions) old new → IsCopiedBy c tells told old new
copied_by c tells told old new h it own valid copied =
    let s = loaded_as tells told h it own in
    record { tables = s.tables; is_told = s.is; source = h.state; loaded = s.fact; valid = valid; copied = copied }

pub left_by : (c : MbtilesCopier) (tells : Bool) (told old new : Tables) (h : Held) (e : MbtError) → (tells ≡ true → Loads (state_of told) (Ok h)) → ((t : Tables) × Loads (state_of t) (Ok h)) → IsLeft c h.state old new e → IsLeftBy c tells told old new e
left_by c tells told old new h e it own (inl same) = inl same
left_by c tells told old new h e it own (inr made) =
    let s = loaded_as tells told h it own in
    inr (record { tables = s.tables; is_told = s.is; source = h.state; loaded = s.fact; made = made })

-- whether anything is described
pub copied_anew : (c : MbtilesCopier) (source : State) (old new : Tables) → IsAnew c source old new → IsCopied c source (has_any old.descriptions) old new
copied_anew c source old new a = subst (λ (b : Bool). IsCopied c source b old new) (sym (ap has_any a.none)) a

pub copied_over : (c : MbtilesCopier) (source : State) (old new : Tables) → mode_missing c ≡ None → (old.descriptions ≡ [] → ⊥) → IsOver c source old new → IsCopied c source (has_any old.descriptions) old new
copied_over c source old new mode some o = subst (λ (b : Bool). IsCopied c source b old new) (some_described old.descriptions some) (mode, o)

-- answers over a store that was read before
pub begun_moved : {f : State → Result (Unit {0}) MbtError} (tells' tells : Bool) (told' told : Tables) (r : Result (Unit {0}) MbtError) → tells' ≡ tells → told' ≡ told → IsBegun f tells' told' r → IsBegun f tells told r
begun_moved tells' tells told' told r same holds b = record { tables = b.tables; is_told = λ t. b.is_told (same ∙ t) ∙ holds; answers = b.answers }

pub anew_moved : (c : MbtilesCopier) (source : State) (r : Result (Unit {0}) MbtError) (old' old new : Tables) → old' ≡ old → OnOk r (IsAnew c source old' new) → OnOk r (IsCopied c source (has_any old.descriptions) old new)
anew_moved c source (Ok done) old' old new same a = copied_anew c source old new (subst (λ (t : Tables). IsAnew c source t new) same a)
anew_moved c source (Err e) old' old new same a = a

pub over_moved : (c : MbtilesCopier) (source : State) (r : Result (Unit {0}) MbtError) (old' old new : Tables) → old' ≡ old → mode_missing c ≡ None → (old.descriptions ≡ [] → ⊥) → OnOk r (IsOver c source old' new) → OnOk r (IsCopied c source (has_any old.descriptions) old new)
over_moved c source (Ok done) old' old new same mode some a = copied_over c source old new mode some (subst (λ (t : Tables). IsOver c source t new) same a)
over_moved c source (Err e) old' old new same mode some a = a

pub left_moved : (c : MbtilesCopier) (source : State) (r : Result (Unit {0}) MbtError) (old' old new : Tables) → old' ≡ old → IfErr r (IsLeft c source old' new) → IfErr r (IsLeft c source old new)
left_moved c source r old' old new same a = subst (λ (t : Tables). IfErr r (IsLeft c source t new)) same a

pub over_left : (c : MbtilesCopier) (source : State) (r : Result (Unit {0}) MbtError) (old' old new : Tables) → old' ≡ old → OnErr r (new ≡ old') → IfErr r (IsLeft c source old new)
over_left c source (Ok done) old' old new same a = a
over_left c source (Err e) old' old new same a = inl (a ∙ same)

module _ (c : MbtilesCopier) (tells : Bool) (told old new : Tables) (h : Held) (it : tells ≡ true → Loads (state_of told) (Ok h)) (own : (t : Tables) × Loads (state_of t) (Ok h)) where
  pub all_copied : (r : Result (Unit {0}) MbtError) → invalid c.validate h.state ≡ None → OnOk r (IsCopied c h.state (has_any old.descriptions) old new) → OnOk r (IsCopiedBy c tells told old new)
  all_copied (Ok done) valid a = copied_by c tells told old new h it own valid a
  all_copied (Err e) valid a = a

  pub all_left : (r : Result (Unit {0}) MbtError) → IfErr r (IsLeft c h.state old new) → IfErr r (IsLeftBy c tells told old new)
  all_left (Ok done) a = a
  all_left (Err e) a = left_by c tells told old new h e it own a
