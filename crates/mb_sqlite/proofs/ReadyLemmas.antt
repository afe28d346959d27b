-- What comes of a call once the tables are made.
use Rattle.mb_sqlite.proofs.Common.{AreMade, ArePrepared, begun, Bool, CommitsNothing, CommitsOnce, Err, false, Ghosts, HasCleanDisk, Held, Idles, IfOk, IsReady, Leaves, MatchBool, MbtType, Ok}
use Rattle.mb_sqlite.proofs.Common.{OnceReady, OnErr, refl, Rests, Result, Sees, state, subst, sym, true, Within, ◌∙◌, ◌≡◌}

pub on_err : {X E : Type 0} (r : Result X E) (P : Type 0) → P → OnErr r P
on_err (Ok x) P p = tt
on_err (Err e) P p = p

-- what a step answers is what is handed on of it
pub handed : {X E F : Type 0} (answer : Result X E) (result : Result X F) (P : X → Type 0) → IfOk result (λ x. answer ≡ Ok x) → IfOk answer P → IfOk result P
handed answer (Ok x) P is p = subst (λ r. IfOk r P) is p
handed answer (Err e) P is p = tt

pub by_true : (b : Bool) (A B : Type 0) → b ≡ true → A → MatchBool b A B
by_true b A B is a = subst (λ b. MatchBool b A B) (sym is) a

pub by_false : (b : Bool) (A B : Type 0) → b ≡ false → B → MatchBool b A B
by_false b A B is c = subst (λ b. MatchBool b A B) (sym is) c

module _ {S : Type 0} (g : Ghosts S) (layout : MbtType) where
  pub ready_yet : (is_made : Bool) (h : Held S) → is_made ≡ true → IsReady g layout is_made h h
  unfolding IsReady
  ready_yet is_made h is = rw is refl

  pub ready_now : (is_made : Bool) (old new : Held S) → is_made ≡ false → new.in_transaction ≡ false → (HasCleanDisk (state g new) → ArePrepared g layout old new) → IsReady g layout is_made old new
  unfolding IsReady
  ready_now is_made old new is ended prepared = rw is (ended, prepared)

  -- an answer is seen of the database whose tables are made
  pub sees_ready : {X E : Type 0} (P : X → Held S → Held S → Type 0) (is_made : Bool) (old ready new : Held S) (r : Result X E) → IsReady g layout is_made old ready
      → CommitsOnce g (AreMade g layout (begun old)) old ready → CommitsNothing g ready new → (HasCleanDisk (state g new) → IfOk r (λ x. Within ready (P x)))
      → IfOk r (λ x. OnceReady g layout is_made old (Sees g (P x) new))
  sees_ready P is_made old ready new (Ok x) is_ready once none seen = record { ready = ready; is_ready = is_ready; once = once; after = record { survives = none; seen = seen } }
  sees_ready P is_made old ready new (Err e) is_ready once none seen = tt

  -- what a call leaves
  pub leaves_inside : (was is : Bool) (old : Held S) → old.in_transaction ≡ true → is ≡ was → Leaves g layout was is old old
  unfolding Leaves
  leaves_inside was is old inside same = by_true _ _ _ inside (refl, same)

  pub leaves_failed : (was is : Bool) (old new : Held S) → old.in_transaction ≡ false → was ≡ false → is ≡ was → Rests g old new → Leaves g layout was is old new
  unfolding Leaves
  leaves_failed was is old new outside unmade same rests = by_false _ _ _ outside (by_false _ _ _ (same ∙ unmade) (unmade, rests))

  pub leaves_ready : (was is : Bool) (old ready new : Held S) → old.in_transaction ≡ false → is ≡ true → IsReady g layout was old ready → CommitsOnce g (AreMade g layout (begun old)) old ready → Idles g new ready → Leaves g layout was is old new
  unfolding Leaves
  leaves_ready was is old ready new outside made is_ready once idles = by_false _ _ _ outside (by_true _ _ _ made (record { ready = ready; is_ready = is_ready; once = once; after = idles }))
