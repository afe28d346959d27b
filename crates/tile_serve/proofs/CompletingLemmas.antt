-- Where the words are limits, the input is short, the archive opens and no count rose, a run is
-- done, or memory ran out.
use Rattle.tile_serve.proofs.Common.{arith, Done, Err, IfSome, inl, InputFault, InputTooLong, inr, is_some, IsFor, IsOk, IsShort, IsUniform, IsUnmodifiedRun, length, List, MAX_INPUT, None, Ok, opened}
use Rattle.tile_serve.proofs.Common.{OpeningCauses, OpensFor, Option, OutOfMemory, OutputFault, PmtError, refl, Refused, RefusesOpening, Result, Rose, ServeError, ServeLimits, ServeOutcome, Some}
use Rattle.tile_serve.proofs.Common.{SourceCauses, true, Usage, ℕ, ◌<◌, ◌≡◌, ◌⊎◌}
use Rattle.pm_format.specs.declared.error.PmtError.TheVariants as pm
use Rattle.pm_format.specs.declared.error.ReadCause.TheVariants as causes
use Rattle.tile_serve.specs.declared.error.ServeError.TheVariants as errors

long_short : (input : Option (List ℕ)) → IsShort input → is_some input ≡ true → IfSome input (λ bytes. MAX_INPUT < length bytes) → ⊥
long_short None short some long = absurd (cc)
long_short (Some bytes) short some long = omega (arith, short, long)

unusual : (words : Option ServeLimits) → is_some words ≡ true → IsFor words Usage → ⊥
unusual None some q = absurd (cc)
unusual (Some l) some q = q

opens_ok : {A : Type 0} (r : Result A PmtError) (e : PmtError) → IsOk r → r ≡ Err e → ⊥
opens_ok (Ok x) e ok q = absurd (cc)
opens_ok (Err y) e ok q = absurd (cc)

opening_valid : {A : Type 0} (r : Result A PmtError) (e : PmtError) (before now : ℕ) → IsOk r → (Rose before now → ⊥) → RefusesOpening r (errors.Opening e) → OpeningCauses before now (errors.Opening e) → ⊥
opening_valid r (pm.Reading causes.Fault) before now ok calm q c = calm c
opening_valid r (pm.Reading causes.PastEnd) before now ok calm q c = c
opening_valid r e before now ok calm q c = opens_ok r e ok q

refusal_valid : (b : List ℕ) (e : ServeError) (before now : ℕ) → IsOk (opened b) → (Rose before now → ⊥) → OpensFor (opened b) (Refused e) → SourceCauses (Some b) before now (Refused e) → IsUnmodifiedRun (Refused e) → ⊥
refusal_valid b (errors.Opening e) before now ok calm q c u = opening_valid (opened b) e before now ok calm q c
refusal_valid b errors.Fault before now ok calm q c u = calm c
refusal_valid b (errors.Modified x y) before now ok calm q c u = u
refusal_valid b (errors.Short x y) before now ok calm q c u = let no = c.0 in absurd (cc)
refusal_valid b errors.OutOfMemory before now ok calm q c u = c

refused_valid : (told : Option (List ℕ)) (e : ServeError) (before now : ℕ) → is_some told ≡ true → IfSome told (λ b. IsOk (opened b)) → (Rose before now → ⊥) → IfSome told (λ b. OpensFor (opened b) (Refused e)) → SourceCauses told before now (Refused e)
    → IsUnmodifiedRun (Refused e) → ⊥
refused_valid None e before now some ok calm q c u = absurd (cc)
refused_valid (Some b) e before now some ok calm q c u = refusal_valid b e before now ok calm q c u

pub complete_by : (words : Option ServeLimits) (input told : Option (List ℕ)) (versions : Option (ℕ → Option (List ℕ))) (before now : ℕ) (I O : Type 0) (o : ServeOutcome) → IsFor words o → (o ≡ InputTooLong → IfSome input (λ bytes. MAX_INPUT < length bytes))
    → IfSome told (λ b. OpensFor (opened b) o) → SourceCauses told before now o → (IsUniform versions → IsUnmodifiedRun o) → (o ≡ InputFault → I) → (o ≡ OutputFault → O)
    → is_some words ≡ true → IsShort input → is_some input ≡ true → is_some told ≡ true → IfSome told (λ b. IsOk (opened b)) → IsUniform versions → (I → ⊥) → (O → ⊥) → (Rose before now → ⊥) → (o ≡ Done) ⊎ (o ≡ OutOfMemory)
complete_by words input told versions before now I O Done for long opens c u i p w short some t ok uniform noi noo calm = inl refl
complete_by words input told versions before now I O OutOfMemory for long opens c u i p w short some t ok uniform noi noo calm = inr refl
complete_by words input told versions before now I O Usage for long opens c u i p w short some t ok uniform noi noo calm = absurd (unusual words w for)
complete_by words input told versions before now I O InputFault for long opens c u i p w short some t ok uniform noi noo calm = absurd (noi (i refl))
complete_by words input told versions before now I O OutputFault for long opens c u i p w short some t ok uniform noi noo calm = absurd (noo (p refl))
complete_by words input told versions before now I O InputTooLong for long opens c u i p w short some t ok uniform noi noo calm = absurd (long_short input short some (long refl))
complete_by words input told versions before now I O (Refused e) for long opens c u i p w short some t ok uniform noi noo calm = absurd (refused_valid told e before now t ok calm opens c (u uniform))
