-- An answer that is counted is Ok where it was.
use Rattle.std.proofs.Common.{Err, IfOk, Ok, Result, subst, sym}
use Rattle.mb_file.specs.Faults.{IsCounted}
use Rattle.mb_file.specs.declared.fault.FileFault.{FileFault}
use Rattle.mb_file.specs.declared.fault.FileFault.TheVariants.{Cell, Damaged, OutOfMemory, Outside, ReadOnly, Unread}
use Rattle.mb_file.specs.declared.fault.Faults.{Faults}
use Rattle.mb_store.specs.declared.store.StoreError.{StoreError}

pub counted_ok : {T : Type 0} (P : T → Type 0) (answer : Result T FileFault) (before now : Faults) (result : Result T StoreError) → IsCounted answer before now result → IfOk answer P → IfOk result P
counted_ok P (Ok value) before now result counted ok = subst (λ r. IfOk r P) (sym counted.0) ok
counted_ok P (Err OutOfMemory) before now result counted ok = subst (λ r. IfOk r P) (sym counted.0) tt
counted_ok P (Err Damaged) before now result counted ok = subst (λ r. IfOk r P) (sym counted.0) tt
counted_ok P (Err Unread) before now result counted ok = subst (λ r. IfOk r P) (sym counted.0) tt
counted_ok P (Err (Cell table kind)) before now result counted ok = subst (λ r. IfOk r P) (sym counted.0) tt
counted_ok P (Err ReadOnly) before now result counted ok = subst (λ r. IfOk r P) (sym counted.0) tt
counted_ok P (Err (Outside table)) before now result counted ok = subst (λ r. IfOk r P) (sym counted.0) tt
