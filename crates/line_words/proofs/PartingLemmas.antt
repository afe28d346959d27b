-- the first part of bytes
use Rattle.line_words.proofs.Common.{ap, arith, Bool, drop, false, get_or, IfSome, if◌then◌else◌, length, length-drop, List, MatchOption, nat_eq, nat_tests, None, Option, refl, slice_index, Some, suc}
use Rattle.line_words.proofs.Common.{sym, take, true, zero, ℕ, [], ◌++◌, ◌+◌, ◌-◌, ◌<◌, ◌∙◌, ◌∷◌, ◌≡◌, ◌≢◌}
use Rattle.std.proofs.lemmas.Bool.{eq-eqb, eqb-true}
use Rattle.std.proofs.lemmas.List.{drop-append-le, get_or_append_left, length-append, take-append-le, take_all}
use Rattle.memchr.specs.Find.{IsFirstByte, is_byte}
use Rattle.line_words.specs.Lines.{ended, lines_of}
use Rattle.line_words.specs.Parting.{HasNo, onto, parted, words_of}

other : (separator b : ℕ) → b ≢ separator → nat_eq b separator ≡ false
other separator b h = grind (arith, nat_tests)

same : (separator b : ℕ) → b ≡ separator → nat_eq b separator ≡ true
same separator b h = grind (arith, nat_tests)

later : (separator b : ℕ) (bytes : List ℕ) (n : ℕ) → HasNo separator (b ∷ bytes) (suc n) → HasNo separator bytes n
later separator b bytes n h k l = h (suc k) (omega arith)

with_separator : (separator : ℕ) (bytes : List ℕ) (n : ℕ) → n < length bytes → get_or bytes n 0 ≡ separator → HasNo separator bytes n
    → parted separator bytes ≡ take n bytes ∷ parted separator (drop (n + 1) bytes)
unfolding parted
with_separator separator [] n l e h = absurd (omega arith)
with_separator separator (b ∷ bytes) zero l e h = let test = same separator b e in rw test refl
with_separator separator (b ∷ bytes) (suc n) l e h =
    let test = other separator b (h 0 (omega arith)) in
    let next : suc n + 1 ≡ suc (n + 1) = omega arith in
    rw (test, next) (ap (onto b) (with_separator separator bytes n (omega arith) e (later separator b bytes n h)))

pub without_separator : (separator : ℕ) (bytes : List ℕ) → HasNo separator bytes (length bytes) → parted separator bytes ≡ bytes ∷ []
unfolding parted
without_separator separator [] h = refl
without_separator separator (b ∷ bytes) h =
    let test = other separator b (h 0 (omega arith)) in
    rw test (ap (onto b) (without_separator separator bytes (later separator b bytes (length bytes) h)))

-- what lies behind a separator
pub behind : (separator : ℕ) (bytes : List ℕ) (n : ℕ) → n < length bytes → get_or bytes n 0 ≡ separator → HasNo separator bytes n
    → parted separator bytes ≡ take n bytes ∷ parted separator (take (length bytes - (n + 1)) (drop (n + 1) bytes))
behind separator bytes n l e h = rw (take_all (length bytes - (n + 1)) (drop (n + 1) bytes) (omega (arith, length-drop (n + 1) bytes))) (with_separator separator bytes n l e h)

pub ruleset first_words = (behind, without_separator)

-- a line in front of others
more_parts : (part : List ℕ) (separator : ℕ) (bytes : List ℕ) → ended (part ∷ parted separator bytes) ≡ part ∷ ended (parted separator bytes)
unfolding parted
more_parts [] separator [] = refl
more_parts (c ∷ part) separator [] = refl
more_parts part separator (b ∷ bytes) = cased part (nat_eq b separator) (parted separator bytes)
  where
    cased : (part : List ℕ) (t : Bool) (parts : List (List ℕ)) → ended (part ∷ (if t then [] ∷ parts else onto b parts)) ≡ part ∷ ended (if t then [] ∷ parts else onto b parts)
    cased [] true parts = refl
    cased (c ∷ part) true parts = refl
    cased [] false [] = refl
    cased (c ∷ part) false [] = refl
    cased [] false (p ∷ parts) = refl
    cased (c ∷ part) false (p ∷ parts) = refl

pub line_behind : (bytes : List ℕ) (n : ℕ) → n < length bytes → get_or bytes n 0 ≡ 10 → HasNo 10 bytes n
    → lines_of bytes ≡ take n bytes ∷ lines_of (take (length bytes - (n + 1)) (drop (n + 1) bytes))
unfolding lines_of
line_behind bytes n l e h = ap ended (behind 10 bytes n l e h) ∙ more_parts (take n bytes) 10 (take (length bytes - (n + 1)) (drop (n + 1) bytes))

-- the same, whatever comes behind these bytes
pub line_before : (bytes more : List ℕ) (n : ℕ) → n < length bytes → get_or bytes n 0 ≡ 10 → HasNo 10 bytes n
    → lines_of (bytes ++ more) ≡ take n bytes ∷ lines_of (take (length bytes - (n + 1)) (drop (n + 1) bytes) ++ more)
unfolding lines_of
line_before bytes more n l e h =
    let at : (k : ℕ) → k < length bytes → get_or (bytes ++ more) k 0 ≡ get_or bytes k 0 = λ k below. get_or_append_left bytes more 0 k below in
    let none : HasNo 10 (bytes ++ more) n = λ k below same. h k below (sym (at k (omega (arith, below, l))) ∙ same) in
    let long : n < length (bytes ++ more) = omega (arith, l, length-append bytes more) in
    let split = with_separator 10 (bytes ++ more) n long (at n l ∙ e) none in
    let front : take n (bytes ++ more) ≡ take n bytes = take-append-le n bytes more (omega (arith, l)) in
    let back : drop (n + 1) (bytes ++ more) ≡ drop (n + 1) bytes ++ more = drop-append-le (n + 1) bytes more (omega (arith, l)) in
    let whole : take (length bytes - (n + 1)) (drop (n + 1) bytes) ≡ drop (n + 1) bytes = take_all (length bytes - (n + 1)) (drop (n + 1) bytes) (omega (arith, length-drop (n + 1) bytes)) in
    rw whole (ap ended (rw (front, back) at split) ∙ more_parts (take n bytes) 10 (drop (n + 1) bytes ++ more))

pub last_line : (bytes : List ℕ) → 0 < length bytes → HasNo 10 bytes (length bytes) → lines_of bytes ≡ bytes ∷ lines_of []
unfolding lines_of parted
last_line [] l h = absurd (omega arith)
last_line (b ∷ bytes) l h = ap ended (without_separator 10 (b ∷ bytes) h)

pub ruleset next_lines = (line_behind, last_line)

-- there is always a part
pub some_part : (separator : ℕ) (bytes : List ℕ) → 0 < length (parted separator bytes)
unfolding parted
some_part separator [] = omega arith
some_part separator (b ∷ bytes) = cased (nat_eq b separator) (parted separator bytes)
  where
    cased : (t : Bool) (parts : List (List ℕ)) → 0 < length (if t then [] ∷ parts else onto b parts)
    cased true parts = omega arith
    cased false [] = omega arith
    cased false (p ∷ parts) = omega arith

-- words behind a first one
pub more_words : (line word rest : List ℕ) → words_of line ≡ word ∷ words_of rest → length (words_of line) ≡ 1 → ⊥
more_words line word rest e h = let some = some_part 32 rest in let many = ap length e in omega arith

-- the first byte that is the separator
pub separator_there : (separator : ℕ) (bytes : List ℕ) (r : Option ℕ) → IsFirstByte (is_byte separator) bytes r → IfSome r (λ place. (place < length bytes) × (slice_index bytes place ≡ separator))
separator_there separator bytes None h = tt
separator_there separator bytes (Some k) h = (h.0.high, eqb-true (slice_index bytes k) separator h.1)

-- and none before it
pub separator_first : (separator : ℕ) (bytes : List ℕ) (r : Option ℕ) → IsFirstByte (is_byte separator) bytes r → MatchOption r (HasNo separator bytes (length bytes)) (HasNo separator bytes)
separator_first separator bytes None h = λ k l e. h k (omega arith) l (eq-eqb (slice_index bytes k) separator e)
separator_first separator bytes (Some k) h = λ j l e. h.0.before j (omega arith) l (eq-eqb (slice_index bytes j) separator e)
