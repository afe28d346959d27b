-- The directories that are built are those of the layout.
use Rattle.pm_writer.proofs.Common.{ap, dir_bytes, end_of, Entry, false, fits_root, found_uppers, IsCut, IsLaid, IsRooted, laid, Level, List, MatchOption, named, None, Option, pieces, root_of, Some}
use Rattle.pm_writer.proofs.Common.{stands_in_root, subst, sym, true, ℕ, [], ◌∙◌, ◌≡◌}
use Rattle.pm_writer.proofs.Laying.{laid_flat, laid_leaves}
use Rattle.pm_writer.proofs.Trying.{Trying, trying_found}

-- what holds of an option in its two cases
pub in_some : {A : Type 0} (N : Type 0) (P : A → Type 0) (o : Option A) (x : A) → o ≡ Some x → MatchOption o N P → P x
in_some N P o x e m = subst (λ z. MatchOption z N P) e m

pub in_none : {A : Type 0} (N : Type 0) (P : A → Type 0) (o : Option A) → o ≡ None → MatchOption o N P → N
in_none N P o e m = subst (λ z. MatchOption z N P) e m

pub flat_laid : (size : ℕ) (es : List Entry) (root : List ℕ) (lower upper : Level) → stands_in_root es ≡ true → root ≡ dir_bytes es → ((place : ℕ) → IsCut lower place []) → ((place : ℕ) → IsCut upper place []) → IsLaid root lower upper (laid size es)
flat_laid size es root lower upper q r l u = subst (IsLaid root lower upper) (sym (laid_flat size es q)) (record { root = r; leaves = l 0; uppers = u 0 })

pub leaves_laid : (size : ℕ) (es : List Entry) (root : List ℕ) (lower upper : Level) → stands_in_root es ≡ false → IsCut lower 0 (pieces size es) → fits_root (named lower) ≡ true → root ≡ dir_bytes (named lower) → ((place : ℕ) → IsCut upper place [])
    → IsLaid root lower upper (laid size es)
leaves_laid size es root lower upper q c f r u =
    let ls = pieces size es in
    subst (IsLaid root lower upper) (sym (laid_leaves size es q (ap fits_root (sym c.names) ∙ f))) (record { root = r ∙ ap dir_bytes c.names; leaves = c; uppers = u (end_of ls) })

-- a size that is tried
pub rooted : (upper : Level) (root : List ℕ) (place first size : ℕ) (es : List Entry) → IsCut upper place (pieces size es) → fits_root (named upper) ≡ true → root ≡ dir_bytes (named upper) → Trying place first size es
    → IsRooted upper root place (found_uppers place first es)
rooted upper root place first size es c f r t =
    subst (IsRooted upper root place) (trying_found place first size es (ap fits_root (sym c.names) ∙ f) t) (record { cut = c; root = r ∙ ap dir_bytes c.names })

pub not_rooted : (upper : Level) (place size : ℕ) (es : List Entry) → IsCut upper place (pieces size es) → fits_root (named upper) ≡ false → fits_root (root_of place (pieces size es)) ≡ false
not_rooted upper place size es c f = ap fits_root (sym c.names) ∙ f
