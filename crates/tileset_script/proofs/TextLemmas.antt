-- Texts, a byte at a time.
use Rattle.tileset_script.proofs.Common.{ap, append-nil, arith, Bool, byte_of, drop, false, get_or, if_utf8, if◌then◌else◌, is_utf8, is_utf8-from_IsUtf8, IsUtf8, IsUtf8-from_is_utf8, length, List}
use Rattle.tileset_script.proofs.Common.{nat_eq, None, Option, option_and_then, option_map, plain, refl, Some, sym, take, take_all, true, unescaped, ℕ, [], ◌++◌, ◌-◌, ◌<◌, ◌∙◌, ◌∷◌, ◌≡◌, ◌≤◌}
use Rattle.std.proofs.lemmas.Bool.Decides.{nat_tests}
use Rattle.std.specs.Char.{is_ascii_graphic}

-- a byte that is no `%`
plain_first : (b : ℕ) (tail : List ℕ) → nat_eq b 37 ≡ false → unescaped (b ∷ tail) ≡ plain b (unescaped tail)
unfolding unescaped
plain_first b [] e = rw e refl
plain_first b (c ∷ []) e = rw e refl
plain_first b (c ∷ d ∷ tail) e = rw e refl

pub plain_taken : (b : ℕ) (tail : List ℕ) → (b ≡ 37 → ⊥) → is_ascii_graphic b ≡ true → unescaped (b ∷ tail) ≡ option_map (λ bytes. b ∷ bytes) (unescaped tail)
plain_taken b tail other in_range = let e : nat_eq b 37 ≡ false = grind (arith, nat_tests) in plain_first b tail e ∙ ap (λ t. if t then option_map (λ bytes. b ∷ bytes) (unescaped tail) else None) in_range

pub plain_refused : (b : ℕ) (tail : List ℕ) → (b ≡ 37 → ⊥) → is_ascii_graphic b ≡ false → unescaped (b ∷ tail) ≡ None
plain_refused b tail other out = let e : nat_eq b 37 ≡ false = grind (arith, nat_tests) in plain_first b tail e ∙ ap (λ t. if t then option_map (λ bytes. b ∷ bytes) (unescaped tail) else None) out

-- the byte of two digits
pub digits_taken : (digits : List ℕ) (b : ℕ) → 2 ≤ length digits → byte_of (get_or digits 0 0) (get_or digits 1 0) ≡ Some b
    → unescaped (37 ∷ digits) ≡ option_map (λ bytes. b ∷ bytes) (unescaped (take (length digits - 2) (drop 2 digits)))
unfolding unescaped
digits_taken [] b l e = absurd (omega arith)
digits_taken (high ∷ []) b l e = absurd (omega arith)
digits_taken (high ∷ low ∷ tail) b l e =
    ap (option_and_then (λ c. option_map (λ bytes. c ∷ bytes) (unescaped tail))) e ∙ ap (λ t. option_map (λ bytes. b ∷ bytes) (unescaped t)) (sym (take_all (length (high ∷ low ∷ tail) - 2) tail (omega arith)))

pub digits_refused : (digits : List ℕ) → 2 ≤ length digits → byte_of (get_or digits 0 0) (get_or digits 1 0) ≡ None → unescaped (37 ∷ digits) ≡ None
unfolding unescaped
digits_refused [] l e = absurd (omega arith)
digits_refused (high ∷ []) l e = absurd (omega arith)
digits_refused (high ∷ low ∷ tail) l e = ap (option_and_then (λ c. option_map (λ bytes. c ∷ bytes) (unescaped tail))) e

pub digits_missing : (tail : List ℕ) → length tail < 2 → unescaped (37 ∷ tail) ≡ None
unfolding unescaped
digits_missing [] l = refl
digits_missing (c ∷ []) l = refl
digits_missing (c ∷ d ∷ tail) l = absurd (omega arith)

pub ruleset next_bytes = (plain_taken, plain_refused)

pub ruleset escapes = (digits_taken, digits_refused, digits_missing)

pub bytes_end : (front word : List ℕ) (whole : Option (List ℕ)) → word ≡ [] → option_map (λ bytes. front ++ bytes) (unescaped word) ≡ whole → Some front ≡ whole
unfolding unescaped
bytes_end front word whole e w = sym (ap (λ x. option_map (λ bytes. front ++ bytes) (unescaped x)) e ∙ ap Some (append-nil front)) ∙ w

-- bytes in UTF-8, and others
pub text_good : (bytes : List ℕ) → IsUtf8 bytes → if_utf8 bytes ≡ Some bytes
text_good bytes h = ap (λ t. if t then Some bytes else None) (is_utf8-from_IsUtf8 bytes h)

pub text_bad : (bytes : List ℕ) → (IsUtf8 bytes → ⊥) → if_utf8 bytes ≡ None
text_bad bytes h = go (is_utf8 bytes) refl
  where
    go : (t : Bool) → is_utf8 bytes ≡ t → if_utf8 bytes ≡ None
    go true e = absurd (h (IsUtf8-from_is_utf8 bytes e))
    go false e = ap (λ t. if t then Some bytes else None) e
