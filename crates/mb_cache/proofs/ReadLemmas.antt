-- Answers of reads.
use Rattle.mb_cache.proofs.Common.{Bool, Cell, Coord, coord_in, Err, false≢true, IfSome, is_free, IsRead, List, MbtError, Option, place_at, refl, row_at, Some, subst, sym, Tables, true, ℕ, ◌∙◌, ◌≡◌}

module _ {A : Type 0} (f : List Cell → Option A) (z x y : ℕ) (tells : Bool) (told : Tables) where
  -- memory ran out or the store failed
  pub read_free : (c : Coord) (e : MbtError) → coord_in z x y ≡ Some c → is_free e ≡ true → IsRead f z x y tells told (Err e)
  read_free c e at free = record {
    row = row_at told (place_at c);
    is_told = λ t. subst (λ (o : Option Coord). IfSome o (λ d. row_at told (place_at c) ≡ row_at told (place_at d))) (sym at) refl;
    answers = λ h. absurd (false≢true (sym h ∙ free));
  }
