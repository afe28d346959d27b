-- What calls in turn keep.
use Rattle.byte_streams.proofs.Common.{arith, KeepsSink, List, Option, refl, ℕ, ◌∙◌}

module _ {O : Type 0} (held : O → Option (List ℕ)) (failed : O → ℕ) (steady : O → Type 0) where
  pub sink_same : (x : O) → KeepsSink held failed steady x x
  sink_same x = record { tells = refl; faults = omega arith; calm = λ s. (s, refl) }

  pub sink_then : (x y z : O) → KeepsSink held failed steady x y → KeepsSink held failed steady y z → KeepsSink held failed steady x z
  sink_then x y z a b = record {
    tells = b.tells ∙ a.tells;
    faults = omega (arith, a.faults, b.faults);
    calm = λ s. let p = a.calm s in let q = b.calm p.0 in (q.0, q.1 ∙ p.1);
  }
