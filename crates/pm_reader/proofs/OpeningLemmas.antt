-- What the front of told bytes says of them.
use Rattle.pm_reader.proofs.Common.{ap, Bool, bytes_eq, codes, Compression, Entry, Err, false, Header, IfSome, if◌then◌else◌, inl, inr, IsErrAnd, IsOpenRefusal, length, List, nat_lt, None, Ok}
use Rattle.pm_reader.proofs.Common.{OpenAnswers, OpenCauses, Opened, opened, opened_front, Option, PmtError, ReaderState, Result, root_decoded, root_labelled, root_placed, slice_get, Some, subst, sym}
use Rattle.pm_reader.proofs.Common.{take, true, ℕ, ◌+◌, ◌∙◌, ◌≡◌, ◌⊎◌}
use Rattle.pm_format.specs.Header.{head, labelled, magic, byte_at, compressions, tile_types}
use Rattle.pm_format.specs.declared.compression.Compression.TheVariants as compression
use Rattle.pm_format.specs.declared.tile_type.TileType.{TileType}
use Rattle.pm_format.specs.declared.error.PmtError.TheVariants as errors
use Rattle.pm_format.specs.declared.error.ReadCause.TheVariants as causes

pub opened_by_front : (b front : List ℕ) → front ≡ take 16384 b → opened b ≡ opened_front front
unfolding opened
opened_by_front b front e = ap opened_front (sym e)

-- the front, seen as a slice
pub told_front : (told : Option (List ℕ)) (front bytes : List ℕ) → front ≡ bytes → IfSome told (λ b. bytes ≡ take 16384 b) → IfSome told (λ b. front ≡ take 16384 b)
told_front None front bytes e t = t
told_front (Some b) front bytes e t = e ∙ t

pub told_opens : (told : Option (List ℕ)) (front : List ℕ) (h : Header) (root : List Entry) → IfSome told (λ b. front ≡ take 16384 b) → opened_front front ≡ Ok (h, root) → IfSome told (λ b. opened b ≡ Ok (h, root))
told_opens None front h root t e = t
told_opens (Some b) front h root t e = opened_by_front b front t ∙ e

-- the same where they are told again
pub still_opens : (told again : Option (List ℕ)) (h : Header) (root : List Entry) → again ≡ told → IfSome told (λ b. opened b ≡ Ok (h, root)) → IfSome again (λ b. opened b ≡ Ok (h, root))
still_opens told again h root e t = let P : Option (List ℕ) → Type 0 = λ o. IfSome o (λ b. opened b ≡ Ok (h, root)) in subst P (sym e) t

answers_refused : (b : List ℕ) (f : PmtError) → opened b ≡ Err f → OpenAnswers b (Err f)
answers_refused b errors.OutOfMemory e = tt
answers_refused b (errors.Reading causes.Fault) e = tt
answers_refused b f e = e

pub told_refused : (told : Option (List ℕ)) (front : List ℕ) (r : Result ReaderState PmtError) (f : PmtError) → IsErrAnd r (λ y. y ≡ f) → IfSome told (λ b. front ≡ take 16384 b)
    → (f ≡ errors.OutOfMemory) ⊎ (opened_front front ≡ Err f) → IfSome told (λ b. OpenAnswers b r)
told_refused None front r f is t e = t
told_refused (Some b) front (Ok s) f is t e = absurd is
told_refused (Some b) front (Err g) f is t (inl e) = let P : PmtError → Type 0 = λ x. OpenAnswers b (Err x) in subst P (sym e ∙ sym is) tt
told_refused (Some b) front (Err g) f is t (inr e) = answers_refused b g (opened_by_front b front t ∙ (e ∙ ap Err (sym is)))

-- a refusal, where there is one, is one that bytes may have
abbrev pub Within : {A : Type 0} → Result A PmtError → Type 0
Within (Ok h) = Unit {0}
Within (Err e) = IsOpenRefusal e

either_within : {A : Type 0} (test : Bool) (x y : Result A PmtError) → Within x → Within y → Within (if test then x else y)
either_within true x y p q = p
either_within false x y p q = q

labels_within : (b : List ℕ) (directories tiles : Option Compression) (type : Option TileType) → Within (labelled b directories tiles type)
labels_within b None tiles type = tt
labels_within b (Some directories) None type = tt
labels_within b (Some directories) (Some tiles) None = tt
labels_within b (Some directories) (Some tiles) (Some type) = tt

head_within : (b : List ℕ) → Within (head b)
unfolding head
head_within b =
    let labels = labels_within b (slice_get compressions (byte_at 97 b)) (slice_get compressions (byte_at 98 b)) (slice_get tile_types (byte_at 99 b)) in
    either_within (nat_lt (length b) 7) _ _ tt (either_within (bytes_eq (take 7 b) magic) _ _ (either_within (nat_lt (length b) 127) _ _ tt labels) (either_within (bytes_eq (take 2 b) (codes "PM")) _ _ tt tt))

decoded_within : (h : Header) (root : Option (List Entry)) → Within (root_decoded h root)
decoded_within h None = tt
decoded_within h (Some es) = tt

labelled_within : (front : List ℕ) (h : Header) (label : Compression) → Within (root_labelled front h label)
labelled_within front h compression.None = decoded_within h _
labelled_within front h label = tt

placed_within : (front : List ℕ) (headed : Result Header PmtError) → Within headed → Within (root_placed front headed)
placed_within front (Err e) w = w
placed_within front (Ok h) w = either_within (nat_lt h.root_offset 127) _ _ tt (either_within (nat_lt (length front) (h.root_offset + h.root_length)) _ _ tt (labelled_within front h h.internal_compression))

pub front_within : (front : List ℕ) → Within (opened_front front)
front_within front = either_within (nat_lt (length front) 127) _ _ tt (placed_within front (head front) (head_within front))

caused : (before now : ℕ) (f : PmtError) → IsOpenRefusal f → OpenCauses {A = ReaderState} before now (Err f)
caused before now errors.OutOfMemory w = tt
caused before now (errors.Reading causes.Fault) w = absurd w
caused before now f w = w

pub refused_within : (before now : ℕ) (front : List ℕ) (r : Result ReaderState PmtError) (f : PmtError) → IsErrAnd r (λ y. y ≡ f) → (f ≡ errors.OutOfMemory) ⊎ (opened_front front ≡ Err f) → OpenCauses before now r
refused_within before now front (Ok s) f is e = absurd is
refused_within before now front (Err g) f is (inl e) = let P : PmtError → Type 0 = λ x. OpenCauses {A = ReaderState} before now (Err x) in subst P (sym e ∙ sym is) tt
refused_within before now front (Err g) f is (inr e) = caused before now g (let P : Result Opened PmtError → Type 0 = λ x. Within x in subst P (e ∙ ap Err (sym is)) (front_within front))
