-- What calls in turn keep.
use Rattle.byte_media.proofs.Common.{arith, List, Option, refl, ℕ, ◌∙◌}
use Rattle.byte_media.specs.Kept.{KeepsMedium, ReadsOnly}

module _ {B V : Type 0} (tells : B → Option (List ℕ)) (texts : B → V) (failed : B → ℕ) (steady : B → Type 0) where
  pub reads_same : (x : B) → ReadsOnly tells texts failed steady x x
  reads_same x = record { told = refl; versions = refl; faults = omega arith; calm = λ s. (s, refl) }

  pub reads_then : (x y z : B) → ReadsOnly tells texts failed steady x y → ReadsOnly tells texts failed steady y z → ReadsOnly tells texts failed steady x z
  reads_then x y z a b = record {
    told = b.told ∙ a.told;
    versions = b.versions ∙ a.versions;
    faults = omega (arith, a.faults, b.faults);
    calm = λ s. let p = a.calm s in let q = b.calm p.0 in (q.0, q.1 ∙ p.1);
  }

module _ {M V : Type 0} (told : M → Option (List ℕ)) (versions : M → Option V) (reads failed : M → ℕ) (steady : M → Type 0) where
  pub medium_same : (x : M) → KeepsMedium told versions reads failed steady x x
  medium_same x = record { tells = refl; versions_tell = refl; counted = omega arith; faults = omega arith; calm = λ s. (s, refl) }

  pub medium_then : (x y z : M) → KeepsMedium told versions reads failed steady x y → KeepsMedium told versions reads failed steady y z → KeepsMedium told versions reads failed steady x z
  medium_then x y z a b = record {
    tells = b.tells ∙ a.tells;
    versions_tell = b.versions_tell ∙ a.versions_tell;
    counted = omega (arith, a.counted, b.counted);
    faults = omega (arith, a.faults, b.faults);
    calm = λ s. let p = a.calm s in let q = b.calm p.0 in (q.0, q.1 ∙ p.1);
  }
