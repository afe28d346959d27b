-- Why steps of a conversion end.
use Rattle.tile_streaming.proofs.Common.{AddsCauses, arith, Bool, Err, false, false≢true, FindCauses, fits, IsChanged, Mark, of_write_error, Ok, PmtError, refl, Result, StepCauses, StreamError, subst, sym, true, ℕ, ◌∙◌, ◌≡◌, ◌≤◌}
use Rattle.std.proofs.Common.{IsErrAnd}
use Rattle.pm_format.specs.declared.compression.Compression.{Compression}
use Rattle.pm_format.specs.declared.compression.Compression.TheVariants as compression
use Rattle.pm_format.specs.declared.error.PmtError.TheVariants as errors
use Rattle.pm_format.specs.declared.error.ReadCause.TheVariants as causes
use Rattle.pm_writer.specs.Causes.{CreateCauses}
use Rattle.tile_bridge.specs.Writing.{WriteCauses}
use Rattle.tile_bridge.specs.declared.error.ConvertError.TheVariants as refused
use Rattle.tile_streaming.specs.declared.error.StreamError.TheVariants.{Convert, StoreChanged}
use Rattle.std.specs.Prelude.{IfSome}
use Rattle.tile_streaming.specs.Stored.{IsStored, Stored}

-- a writer that isn't begun under the label `None`
pub start_refused : (A B : Type 0) (label : Compression) (before now : ℕ) (e : PmtError) → label ≡ compression.None → CreateCauses {A = A} label before now (Err e) → AddsCauses {A = B} before now (Err (Convert (of_write_error e)))
start_refused A B label before now (errors.UnsupportedCompression refused) plain c = absurd (c.1 plain)
start_refused A B label before now (errors.Reading causes.Fault) plain c = c.1
start_refused A B label before now errors.OutOfMemory plain c = tt
start_refused A B label before now _ plain c = absurd c

-- a writer that isn't finished
pub end_refused : (A B : Type 0) (before now : ℕ) (e : PmtError) → WriteCauses {A = A} before now (Err e) → AddsCauses {A = B} before now (Err (Convert (of_write_error e)))
end_refused A B before now (errors.Reading causes.Fault) c = c
end_refused A B before now errors.OutOfMemory c = tt
end_refused A B before now _ c = absurd c

-- what a medium did in a step, and what a store did
module _ (A : Type 0) (changed : Type 0) (store store_now medium medium_now : ℕ) where
  pub add_step : (r : Result A StreamError) → AddsCauses medium medium_now r → StepCauses changed store store_now medium medium_now r
  add_step (Ok x) c = tt
  add_step (Err (Convert refused.MediumFault)) c = c
  add_step (Err (Convert refused.OutOfMemory)) c = tt
  add_step (Err _) c = absurd c

  pub find_step : (B : Type 0) (e : StreamError) → FindCauses {A = B} changed store store_now (Err e) → StepCauses {A = A} changed store store_now medium medium_now (Err e)
  find_step B StoreChanged c = c
  find_step B (Convert (refused.StoreFault place)) c = c
  find_step B (Convert refused.OutOfMemory) c = tt
  find_step B (Convert _) c = absurd c

-- the error of a step that is handed on
pub same_error : {A : Type 0} (e : StreamError) (r : Result A StreamError) (P : Result A StreamError → Type 0) → P (Err e) → IsErrAnd r (λ x. x ≡ e) → P r
same_error e (Ok x) P h is = absurd is
same_error e (Err x) P h is = subst (λ x. P (Err x)) (sym is) h

-- a step in a run: counts that began lower, and a store of which more is known
pub step_within : (A B : Type 0) (changed known : Type 0) (store store_then store_now medium medium_then medium_now : ℕ) (e : StreamError) → (changed → known) → store ≤ store_then → medium ≤ medium_then → StepCauses {A = B} changed store_then store_now medium_then medium_now (Err e)
    → StepCauses {A = A} known store store_now medium medium_now (Err e)
step_within A B changed known s st sn m mt mn StoreChanged more so mo c = more c
step_within A B changed known s st sn m mt mn (Convert (refused.StoreFault place)) more so mo c = (c.0, omega (arith, so, c.1))
step_within A B changed known s st sn m mt mn (Convert refused.MediumFault) more so mo c = omega (arith, mo, c)
step_within A B changed known s st sn m mt mn (Convert refused.OutOfMemory) more so mo c = tt
step_within A B changed known s st sn m mt mn (Convert _) more so mo c = absurd c

-- no mark that is stored changes in a store that tells
pub changed_untold : (tells tells_now : Bool) (t now : Stored) (m : Mark) → tells_now ≡ tells → now ≡ t → (tells ≡ true → IsStored t m) → IsChanged tells_now now m → tells ≡ false
changed_untold false tells_now t now m same told stored h = refl
changed_untold true tells_now t now m same told stored h =
    let s = stored refl in
    let here = subst (λ (x : Stored). IfSome (x m.id) (λ bytes. fits m bytes ≡ false)) told (h same) in
    absurd (false≢true (sym (subst (λ o. IfSome o (λ bytes. fits m bytes ≡ false)) s.1 here) ∙ s.2))
