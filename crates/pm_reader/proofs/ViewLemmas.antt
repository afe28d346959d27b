-- What is opened, and a text, as a view has them.
use Rattle.pm_reader.proofs.Common.{ap, Bool, Err, false, headed, Header, if◌then◌else◌, is_utf8, IsUtf8, List, Ok, Opened, PmtError, refl, Result, sym, text_read, true, viewed, ℕ, ◌∙◌, ◌≡◌}
use Rattle.std.proofs.lemmas.Str.{IsUtf8-from_is_utf8, is_utf8-from_IsUtf8}
use Rattle.pm_format.specs.declared.error.PmtError.TheVariants as errors

pub view_opens : (b : List ℕ) (o : Result Opened PmtError) (h : Header) → headed o ≡ Ok h → Ok b ≡ viewed b o
view_opens b (Ok o) h e = refl
view_opens b (Err f) h e = absurd (cc)

pub text_valid : (bytes text : List ℕ) → text ≡ bytes → IsUtf8 bytes → Ok text ≡ text_read (Ok bytes)
text_valid bytes text same utf8 = ap Ok same ∙ sym (ap (λ t. if t then Ok bytes else Err errors.InvalidMetadataUtf8Encoding) (is_utf8-from_IsUtf8 bytes utf8))

pub text_invalid : (bytes : List ℕ) → ¬ (IsUtf8 bytes) → Err errors.InvalidMetadataUtf8Encoding ≡ text_read (Ok bytes)
text_invalid bytes broken = go (is_utf8 bytes) refl
  where
    go : (t : Bool) → is_utf8 bytes ≡ t → Err errors.InvalidMetadataUtf8Encoding ≡ text_read (Ok bytes)
    go true e = absurd (broken (IsUtf8-from_is_utf8 bytes e))
    go false e = sym (ap (λ t. if t then Ok bytes else Err errors.InvalidMetadataUtf8Encoding) e)
