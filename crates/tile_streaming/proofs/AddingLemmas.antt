-- Contents of marks that are added one after another.
use Rattle.tile_streaming.proofs.Common.{add_to, AddFits, adds_of, and_parts, ap, AreAdded, AreRead, arith, beq, Bool, drop, false, false≢true, fits, get_or, HaveLengths, is_gzip, is_some, IsAddedFor, IsRead, length, List, list_any, list_any_at, Mark, nat_eq, nat_le, nat_tests, Option, Options, overflow_of, refl, Some}
use Rattle.tile_streaming.proofs.Common.{subst, sym, take, take-append-drop, take_more, took_as, took_more, TookAll, true, WriterState, xxh3_64, ℕ, [], ◌&&◌, ◌++◌, ◌+◌, ◌<◌, ◌^◌, ◌∙◌, ◌∷◌, ◌≡◌}
use Rattle.tile_streaming.proofs.ReadLemmas.{adds_more, front_fits, lengths_read, next_fits, or_parts, read_more}
use Rattle.std.proofs.Common.{◌%◌}
use Rattle.tile_streaming.proofs.SizeLemmas.{small_is}
use Rattle.tile_streaming.specs.Finding.{has_size}
use Rattle.tile_streaming.specs.Marks.{mark_with}
use Rattle.tile_streaming.specs.Sizing.{is_too_long}
use Rattle.tile_streaming.specs.Stored.{Stored}

number_of : (a b : ℕ) → nat_eq a b ≡ true → a ≡ b
number_of a b h = grind (arith, nat_tests)

answer_of : (a b : Bool) → beq a b ≡ true → a ≡ b
answer_of true true h = refl
answer_of false false h = refl
answer_of true false h = absurd (false≢true h)
answer_of false true h = absurd (false≢true h)

-- what bytes have that fit a mark
pub record AreFit (m : Mark) (bytes : List ℕ) : Type 0 where
  pub length_is : length bytes % 2 ^ 32 ≡ m.length
  pub is_long : nat_le (2 ^ 32) (length bytes) ≡ m.is_long
  pub digest : xxh3_64 bytes ≡ m.digest
  pub gzip : is_gzip bytes ≡ m.gzip

fits_parts : (m : Mark) (bytes : List ℕ) → fits m bytes ≡ true → AreFit m bytes
fits_parts m bytes fit =
    let both = and_parts (has_size m (length bytes) && nat_eq (xxh3_64 bytes) m.digest) (beq (is_gzip bytes) m.gzip) fit in
    let parts = and_parts (has_size m (length bytes)) (nat_eq (xxh3_64 bytes) m.digest) both.0 in
    let sizes = and_parts (nat_eq (length bytes % 2 ^ 32) m.length) (beq (nat_le (2 ^ 32) (length bytes)) m.is_long) parts.0 in
    record { length_is = number_of _ _ sizes.0; is_long = answer_of _ _ sizes.1; digest = number_of _ _ parts.1; gzip = answer_of _ _ both.1 }

pub fits_mark : (m : Mark) (bytes : List ℕ) → fits m bytes ≡ true → mark_with m.id bytes ≡ m
fits_mark m bytes fit =
    let f = fits_parts m bytes fit in
    let size = f.length_is in
    let long = f.is_long in
    let digest = f.digest in
    let gzip = f.gzip in
    λ i. record { id = m.id; digest = digest i; length = size i; is_long = long i; gzip = gzip i }

-- what bytes are that were found, where they fit a mark
pub fits_read : (tells : Bool) (t : Stored) (m : Mark) (bytes : List ℕ) → m.is_long ≡ false → fits m bytes ≡ true → (tells ≡ true → t m.id ≡ Some bytes) → IsRead tells t m bytes
fits_read tells t m bytes short fit told =
    let f = fits_parts m bytes fit in
    record {
      size = sym (small_is (length bytes) (f.is_long ∙ short)) ∙ f.length_is;
      digest = λ some. f.digest;
      gzip = λ some. f.gzip;
      same = λ some u. told u;
    }

-- a mark in a list that doesn't overflow is of few bytes
pub short_mark : (marks : List Mark) (i : ℕ) (m : Mark) → overflow_of marks ≡ false → i < length marks → m ≡ get_or marks i m → m.is_long ≡ false
short_mark marks i m size far is = (or_parts m.is_long (nat_le (2 ^ 32) m.length) (by (is_too_long m) refl)).0
  where
    none : list_any is_too_long marks ≡ false
    none = (or_parts (list_any is_too_long marks) _ size).0

    by : (b : Bool) → is_too_long m ≡ b → is_too_long m ≡ false
    by false e = e
    by true e = absurd (false≢true (sym none ∙ list_any_at is_too_long marks i m far (ap is_too_long (sym is) ∙ e)))

-- nothing is read for a mark of no byte
pub none_read : (tells : Bool) (t : Stored) (m : Mark) → m.length ≡ 0 → IsRead tells t m []
none_read tells t m none = record {
  size = sym none;
  digest = λ some. absurd (omega (arith, none, some));
  gzip = λ some. absurd (omega (arith, none, some));
  same = λ some. absurd (omega (arith, none, some));
}

read_as : (tells now_tells : Bool) (t now : Stored) (m : Mark) (bytes : List ℕ) → now_tells ≡ tells → now ≡ t → IsRead now_tells now m bytes → IsRead tells t m bytes
read_as tells now_tells t now m bytes same told r = subst (λ b. IsRead b t m bytes) same (subst (λ x. IsRead now_tells x m bytes) told r)

module _ (o : Options) (tells now_tells : Bool) (t now : Stored) (marks : List Mark) (i : ℕ) (m : Mark) (old mid : Option (List ℕ)) (s : WriterState) (far : i < length marks) (is : m ≡ get_or marks i m) (so : AreAdded o tells t (take i marks) old mid s) where
  front : take (i + 1) marks ≡ take i marks ++ m ∷ []
  front = take_more marks i m far ∙ ap (λ x. take i marks ++ x ∷ []) (sym is)

  lengths : HaveLengths (take i marks) so.contents
  lengths = lengths_read tells t (take i marks) so.contents so.read

  -- it fits
  pub fits_now : overflow_of marks ≡ false → length o.metadata < 2 ^ 63 → (taken : List ℕ) → length taken ≡ m.length → 0 < m.length → AddFits o so.taken m.id taken
  fits_now fit metadata taken size some =
      let whole : (take i marks ++ m ∷ []) ++ drop (i + 1) marks ≡ marks = ap (λ xs. xs ++ drop (i + 1) marks) (sym front) ∙ take-append-drop (i + 1) marks in
      next_fits old o (take i marks) so.contents m so.taken taken metadata (front_fits (take i marks ++ m ∷ []) (drop (i + 1) marks) (ap overflow_of whole ∙ fit)) lengths so.took size some

  -- and with it one more is added
  pub added_next : (new : Option (List ℕ)) (next : WriterState) → now_tells ≡ tells → now ≡ t → is_some mid ≡ is_some old → IsAddedFor o so.taken now_tells now m mid new next → AreAdded o tells t (take (i + 1) marks) old new next
  added_next new next same told told_same a = record {
    contents = so.contents ++ a.bytes ∷ [];
    read = subst (λ ms. AreRead tells t ms (so.contents ++ a.bytes ∷ [])) (sym front) (read_more tells t (take i marks) so.contents m a.bytes so.read (read_as tells now_tells t now m a.bytes same told a.read));
    taken = add_to so.taken m.id a.added.taken;
    took = subst (λ gs. TookAll old gs (add_to so.taken m.id a.added.taken)) (sym (ap (λ ms. adds_of ms (so.contents ++ a.bytes ∷ [])) front ∙ adds_more (take i marks) so.contents m a.bytes lengths))
        (took_more old (adds_of (take i marks) so.contents) so.taken m.id a.bytes a.added.taken so.took (took_as (λ takes. takes a.bytes a.added.taken) mid old (sym told_same) a.added.took));
    writes = a.added.writes;
  }
