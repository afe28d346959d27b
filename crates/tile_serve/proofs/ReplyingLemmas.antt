-- What is answered to a line, by what was found for its id.
use Rattle.tile_serve.proofs.Common.{ap, archive_tile, AreTiles, asked, Bool, Bounded, Compares, Err, false, Finds, Found, found_at, HasTexts, IfOk, IfSome, if◌then◌else◌, inl, inr, is_held, is_read}
use Rattle.tile_serve.proofs.Common.{IsReadFor, IsThere, IsUniform, IsUnmodified, IsWanting, LeavesFound, LeavesTiles, List, lookup, nat_eq, None, Ok, OnErr, Option, refl, Request, request_of, Result}
use Rattle.tile_serve.proofs.Common.{ServeError, Some, subst, sym, Tile, tiles_after, tiles_asked, true, used, used-none, UsesOneLength, with_found, ℕ, ◌∙◌, ◌≡◌, ◌≢◌}
use Rattle.tile_serve.specs.declared.error.ServeError.TheVariants as errors
use Rattle.tile_serve.proofs.HoldingLemmas.{asked_unheld, found_held, tiles_found, tiles_used, used_or_same}

abbrev Tiles : Type 0
Tiles = Bounded (List ℕ)

-- a tile that is held is found
pub finds_held : (told : Option (List ℕ)) (old : Tiles) (t : ℕ) (d : List ℕ) → lookup (nat_eq t) old.pairs ≡ Some d → IfSome told (λ b. UsesOneLength b → AreTiles b old.pairs) → IfSome told (λ b. UsesOneLength b → Finds (archive_tile b t) (Ok (Tile d)))
finds_held None old t d q all = tt
finds_held (Some b) old t d q all = λ one. sym (found_held b old t d (all one) q)

pub tiles_used_told : (told : Option (List ℕ)) (old new : Tiles) (t : ℕ) → new ≡ used old t → IfSome told (λ b. UsesOneLength b → AreTiles b old.pairs) → IfSome told (λ b. UsesOneLength b → AreTiles b new.pairs)
tiles_used_told None old new t q all = tt
tiles_used_told (Some b) old new t q all = λ one. let P : Tiles → Type 0 = λ x. AreTiles b x.pairs in subst P (sym q) (tiles_used b old t (all one))

pub tiles_found_told : (told : Option (List ℕ)) (old new : Tiles) (t : ℕ) (found : Found) → new ≡ with_found old t found → IfSome told (λ b. UsesOneLength b → Finds (archive_tile b t) (Ok found)) → IfSome told (λ b. UsesOneLength b → AreTiles b old.pairs)
    → IfSome told (λ b. UsesOneLength b → AreTiles b new.pairs)
tiles_found_told None old new t found q is all = tt
tiles_found_told (Some b) old new t found q is all = λ one. let P : Tiles → Type 0 = λ x. AreTiles b x.pairs in subst P (sym q) (tiles_found b old t found (is one) (all one))

none_held : (old : Tiles) (t : ℕ) → lookup (nat_eq t) old.pairs ≡ None → is_held old t ≡ false
none_held old t q = cc

-- what was fetched for an id that isn't held
pub leaves_fetched : (old mid new : Tiles) (t : ℕ) (r : Result Found ServeError) → mid ≡ used old t → lookup (nat_eq t) old.pairs ≡ None → IfOk r (λ found. new ≡ with_found mid t found) → OnErr r (new ≡ mid) → LeavesFound old new t r
leaves_fetched old mid new t (Ok found) m none ok err =
    let same : mid ≡ old = m ∙ used-none old t none in
    asked_unheld old new t found (none_held old t none) (ok ∙ ap (λ (x : Tiles). with_found x t found) same)
leaves_fetched old mid new t (Err errors.OutOfMemory) m none ok err = inl (err ∙ (m ∙ used-none old t none))
leaves_fetched old mid new t x m none ok err = err ∙ (m ∙ used-none old t none)

unheld : (held : Bool) → (if held then false else true) ≡ true → held ≡ false
unheld true q = absurd (cc)
unheld false q = refl

reads_range : (b : List ℕ) (r : Option Request) (t : ℕ) (tag : List ℕ) (old : Tiles) → r ≡ Some (asked t tag) → IsReadFor b r old → (is_held old t ≡ false) × IsThere (archive_tile b t)
reads_range b None t tag old q range = absurd range
reads_range b (Some r) t tag old q range =
    let P : Option Request → Type 0 = λ x. IsReadFor b x old in
    let w : IsReadFor b (Some (asked t tag)) old = subst P q range in
    (unheld (is_held old t) w.0, w.1)

pub compares_found : {A : Type 0} (told : Option (List ℕ)) (opened : Option (List ℕ)) (versions : Option (ℕ → Option (List ℕ))) (number : ℕ) (line tag : List ℕ) (old : Tiles) (t : ℕ) (found : Found) (text : A) → request_of line ≡ Some (asked t tag)
    → IfSome told (λ b. UsesOneLength b → Compares opened versions number ((is_held old t ≡ false) × IsThere (archive_tile b t)) (Ok found))
    → IfSome told (λ b. UsesOneLength b → Compares {A = A} opened versions number (IsReadFor b (request_of line) old) (Ok text))
compares_found None opened versions number line tag old t found text some q = tt
compares_found (Some b) opened versions number line tag old t found text some q = λ one range. q one (reads_range b (request_of line) t tag old some range)

after_found : (b line tag : List ℕ) (old new : Tiles) (t : ℕ) (found : Found) → request_of line ≡ Some (asked t tag) → found ≡ found_at b t → new ≡ tiles_asked old t found → new ≡ tiles_after b (request_of line) old
after_found b line tag old new t found some is q = q ∙ (ap (λ f. tiles_asked old t f) is ∙ ap (λ r. tiles_after b r old) (sym some))

left_by : (b line tag : List ℕ) (old new : Tiles) (t : ℕ) (e : ServeError) → request_of line ≡ Some (asked t tag) → LeavesFound old new t (Err e) → LeavesTiles b (request_of line) old new (Err e)
left_by b line tag old new t errors.OutOfMemory some q = elim q [
  | inl same ↦ inl same
  | inr again ↦ elim (used_or_same old new t (found_at b t) again) [ inl same ↦ inl same | inr after ↦ inr (after_found b line tag old new t (found_at b t) some refl after) ]
]
left_by b line tag old new t (errors.Opening e) some q = q
left_by b line tag old new t x some q = q

pub tiles_error : (told : Option (List ℕ)) (line tag : List ℕ) (old new : Tiles) (t : ℕ) (e : ServeError) → request_of line ≡ Some (asked t tag) → LeavesFound old new t (Err e) → IfSome told (λ b. UsesOneLength b → LeavesTiles b (request_of line) old new (Err e))
tiles_error None line tag old new t e some q = tt
tiles_error (Some b) line tag old new t e some q = λ one. left_by b line tag old new t e some q

texts_differ : (opened : Option (List ℕ)) (text : ℕ → Option (List ℕ)) (n number : ℕ) (a b : List ℕ) → opened ≡ text n → opened ≡ Some a → a ≢ b → text number ≡ Some b → text n ≡ text number → ⊥
texts_differ opened text n number a b is one differ two same = let q : Some a ≡ Some b = sym one ∙ (is ∙ (same ∙ two)) in let r : a ≡ b = cc in differ r

same_text : {A : Type 0} (opened : Option (List ℕ)) (text : ℕ → Option (List ℕ)) (number : ℕ) (r : Result A ServeError) → (n : ℕ) × (opened ≡ text n) → HasTexts opened (Some text) number r → ((m n : ℕ) → text m ≡ text n) → IsUnmodified r
same_text opened text number (Err (errors.Modified a b)) first texts uniform = texts_differ opened text first.0 number a b first.1 texts.0 texts.1 texts.2 (uniform first.0 number)
same_text opened text number x first texts uniform = tt

pub unmodified_by : {A : Type 0} (opened : Option (List ℕ)) (versions : Option (ℕ → Option (List ℕ))) (number : ℕ) (r : Result A ServeError) → IfSome versions (λ text. (n : ℕ) × (opened ≡ text n)) → HasTexts opened versions number r → IsUniform versions → IsUnmodified r
unmodified_by opened None number r first texts uniform = absurd uniform
unmodified_by opened (Some text) number r first texts uniform = same_text opened text number r first texts uniform

error_unmodified : (A C : Type 0) (e : ServeError) → IsUnmodified {A = A} (Err e) → IsUnmodified {A = C} (Err e)
error_unmodified A C (errors.Opening e) q = tt
error_unmodified A C errors.Fault q = tt
error_unmodified A C (errors.Modified a b) q = q
error_unmodified A C (errors.Short a b) q = tt
error_unmodified A C errors.OutOfMemory q = tt

-- after a call
pub unmodified_after : (A C : Type 0) (versions again : Option (ℕ → Option (List ℕ))) (opened : Option (List ℕ)) (number : ℕ) (e : ServeError) → again ≡ versions → IfSome versions (λ text. (n : ℕ) × (opened ≡ text n)) → HasTexts {A = A} opened again number (Err e)
    → IsUniform versions → IsUnmodified {A = C} (Err e)
unmodified_after A C versions again opened number e same first texts uniform =
    let P : Option (ℕ → Option (List ℕ)) → Type 0 = λ v. HasTexts {A = A} opened v number (Err e) in
    error_unmodified A C e (unmodified_by {A = A} opened versions number (Err e) first (subst P same texts) uniform)

-- A line that isn't read for.

was_held : (held : Bool) → (if held then false else true) ≡ false → held ≡ true
was_held true q = refl
was_held false q = absurd (cc)

pub held_unread : (line tag : List ℕ) (old : Tiles) (t : ℕ) → request_of line ≡ Some (asked t tag) → is_read (request_of line) old ≡ false → is_held old t ≡ true
held_unread line tag old t some unread = was_held (is_held old t) (sym (ap (λ r. is_read r old) some) ∙ unread)

wanting_error : (e : ServeError) → IsWanting {A = Found} (Err e) → IsWanting {A = List ℕ} (Err e)
wanting_error (errors.Opening e) q = q
wanting_error x q = q

pub wanting_asked : (line tag : List ℕ) (old : Tiles) (t : ℕ) (e : ServeError) → request_of line ≡ Some (asked t tag) → (is_held old t ≡ true → IsWanting {A = Found} (Err e)) → is_read (request_of line) old ≡ false → IsWanting {A = List ℕ} (Err e)
wanting_asked line tag old t e some held unread = wanting_error e (held (held_unread line tag old t some unread))
