-- Answers of a read of a tile with its stored digest.
use Rattle.mb_access.proofs.Common.{Answers, ap, begun_err, begun_free, begun_ok, Bool, bytes_in, Cell, Coord, coord_in, Err, false, false≢true, Hash, Held, is_free, List, MbtError, MbtType}
use Rattle.mb_access.proofs.Common.{Normalized, Ok, Option, option_map, refl, Result, state_of, subst, Tables, true, ℕ, ◌∙◌, ◌≡◌}
use Rattle.mb_access.specs.Hashed.{IsHashed, hash_by, hashed_answer, id_at, row_at, row_by}
use Rattle.mb_load.specs.Loading.{Loads}

abbrev Hashed : Type 0
Hashed = Option (List ℕ × Option (List ℕ))

-- in the other layouts the row doesn't matter
same_hash : (layout : MbtType) (t : Tables) (c : Option Coord) (id : Option Cell) → hash_by layout (row_by layout t c) id ≡ hash_by layout (row_at t c) id
same_hash (Normalized view Hash) t c id = refl
same_hash _ t c id = refl

-- the row that was asked for, by what the layout, the tables and the coordinate are
pub row_by_same : (row : Option (List Cell)) (l m : MbtType) (t u : Tables) (c d : Option Coord) → row ≡ row_by l t c → l ≡ m → t ≡ u → c ≡ d → row ≡ row_by m u d
row_by_same row l m t u c d h lm tu cd = h ∙ (ap (λ layout. row_by layout t c) lm ∙ (ap (λ told. row_by m told c) tu ∙ ap (λ coord. row_by m u coord) cd))

pub hashed_err : (z x y : ℕ) (tells : Bool) (told : Tables) (e : MbtError) → (tells ≡ true → Loads (state_of told) (Err e)) → ((t : Tables) × Loads (state_of t) (Err e)) → IsHashed z x y tells told (Err e)
hashed_err z x y tells told e it own = record { row = row_at told (coord_in z x y); is_told = λ _. refl; begun = begun_err (hashed_answer z x y (row_at told (coord_in z x y))) tells told e it own }

pub hashed_free : (z x y : ℕ) (tells : Bool) (told : Tables) (h : Held) (e : MbtError) → is_free e ≡ true → (tells ≡ true → Loads (state_of told) (Ok h)) → ((t : Tables) × Loads (state_of t) (Ok h)) → IsHashed z x y tells told (Err e)
hashed_free z x y tells told h e free it own = record { row = row_at told (coord_in z x y); is_told = λ _. refl; begun = begun_free (hashed_answer z x y (row_at told (coord_in z x y))) tells told h e free it own }

pub hashed_ok : (z x y : ℕ) (tells : Bool) (told : Tables) (h : Held) (row : Option (List Cell)) (r : Result Hashed MbtError) → (tells ≡ true → Loads (state_of told) (Ok h)) → ((t : Tables) × Loads (state_of t) (Ok h)) → (tells ≡ true → row ≡ row_by h.state.layout told (coord_in z x y)) → Answers (hashed_answer z x y row h.state) r → IsHashed z x y tells told r
hashed_ok z x y false told h row r it own at a = record { row = row; is_told = λ e. absurd (false≢true e); begun = begun_ok (hashed_answer z x y row) false told h r it own a }
hashed_ok z x y true told h row r it own at a = record { row = row_at told (coord_in z x y); is_told = λ _. refl; begun = begun_ok (hashed_answer z x y (row_at told (coord_in z x y))) true told h r it own (subst (λ d. Answers d r) same a) }
  where
    same : hashed_answer z x y row h.state ≡ hashed_answer z x y (row_at told (coord_in z x y)) h.state
    same =
        ap (λ r. hashed_answer z x y r h.state) (at refl)
        ∙ ap (λ hash. Ok (option_map (λ bytes. (bytes, hash)) (bytes_in h.state.tiles (coord_in z x y)))) (same_hash h.state.layout told (coord_in z x y) (id_at h.state.ids (coord_in z x y)))
