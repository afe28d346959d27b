-- The metadata's bytes as a text.
use Rattle.pm_reader.proofs.Common.{ap, Err, Header, IfSome, IsUtf8, List, None, Ok, Option, PmtError, range_read, Result, Some, subst, sym, zero-add, ℕ, ◌+◌, ◌∙◌, ◌≡◌}
use Rattle.pm_format.specs.declared.error.PmtError.TheVariants as errors
use Rattle.pm_reader.specs.Metadata.{IsTextOf, MetadataAnswers, metadata_read}

text_answers : (range : Result (List ℕ) PmtError) (bytes : List ℕ) (r : Result (List ℕ) PmtError) → range ≡ Ok bytes → IsTextOf bytes r → MetadataAnswers range r
text_answers range bytes (Ok text) is t = (is ∙ ap Ok (sym t.0), subst IsUtf8 (sym t.0) t.1)
text_answers range bytes (Err errors.InvalidMetadataUtf8Encoding) is t = (bytes, is, t)
text_answers range bytes (Err errors.OutOfMemory) is t = tt
text_answers range bytes (Err e) is t = absurd t

pub told_text : (told : Option (List ℕ)) (h : Header) (slice bytes : List ℕ) (r : Result (List ℕ) PmtError) → slice ≡ bytes → IsTextOf slice r → IfSome told (λ b. range_read b (0 + h.metadata_offset) h.metadata_length ≡ Ok bytes)
    → IfSome told (λ b. MetadataAnswers (metadata_read b h) r)
told_text None h slice bytes r same t range = tt
told_text (Some b) h slice bytes r same t range =
    let at : range_read b h.metadata_offset h.metadata_length ≡ Ok slice = ap (λ n. range_read b n h.metadata_length) (sym (zero-add h.metadata_offset)) ∙ (range ∙ ap Ok (sym same)) in
    text_answers (metadata_read b h) slice r at t
