-- Reading the archive back that was written.
use Rattle.tile_bridge.proofs.Common.{answered, answered_by, ap, archive_map, arith, Bool, Coord, Err, get_or, GivesTile, GrewFrom, header_of, id_of, IfSome, IsErrAnd, IsHindered, IsOk, length, List}
use Rattle.tile_bridge.proofs.Common.{map, map-append, None, Ok, Option, Options, PmtError, ReadsAnswers, ReadsOnly, Result, Some, subst, sym, take, take_all, take_more, true, WellFormed, ℕ, [], ◌++◌}
use Rattle.tile_bridge.proofs.Common.{◌+◌, ◌<◌, ◌∙◌, ◌∷◌, ◌≡◌, ◌≤◌}
use Rattle.pm_format.specs.Sound.{Sound}
use Rattle.pm_format.specs.declared.error.PmtError.TheVariants as errors
use Rattle.pm_format.specs.declared.error.ReadCause.TheVariants as causes
use Rattle.pm_reader.proofs.SoundTileLemmas.{sound_tile}
use Rattle.pm_reader.proofs.OneLengthLemmas.{cacheable}
use Rattle.pm_reader.specs.Archives.{UsesOneLength}
use Rattle.pm_reader.specs.Caches.{Held}
use Rattle.pm_reader.specs.ReadsFrom.{ReadsFrom}
use Rattle.pm_reader.specs.declared.state.ReaderState.{ReaderState}

-- a well-formed archive is sound
pub is_sound : (b : List ℕ) (o : Options) (clustered : Bool) → WellFormed b o clustered → Sound b
is_sound b o clustered w = record { found = (header_of o clustered w.0, w.0.root); opens = w.1.opens; root = w.1.sound }

-- so are look-ups in a sound archive
pub tile_hindered : (b : List ℕ) (t : ℕ) (e : PmtError) → Sound b → GivesTile b t (Err e) → IsHindered e
tile_hindered b t errors.OutOfMemory s h = tt
tile_hindered b t (errors.Reading causes.Fault) s h = tt
tile_hindered b t e s h = absurd (let no : IsOk {T = Option (List ℕ)} {E = PmtError} (Err e) = subst IsOk h (sound_tile b t s) in cc)

-- after so many coordinates
pub record SoFar {B V : Type 0} (told : B → Option (List ℕ)) (texts : B → V) (count failed : B → ℕ) (steady : B → Type 0) (s : ReaderState) (x y : B) (held : Held) (coords : List Coord) (n : ℕ) (tiles : List (Option (List ℕ))) : Type 0 where
  pub from : IfSome (told y) (λ b. ReadsFrom b s held ⊥)
  pub answers : IfSome (told x) (λ b. (o : Options) → WellFormed b o true → tiles ≡ map (λ c. archive_map b (id_of c)) (take n coords))
  pub reads : GrewFrom (count x) (count y) (answered tiles + 1)
  pub counted : count x ≤ count y
  pub kept : ReadsOnly told texts failed steady x y
  pub still : failed y ≡ failed x

answered_more : (tiles : List (Option (List ℕ))) (tile : Option (List ℕ)) → answered (tiles ++ tile ∷ []) ≡ answered tiles + answered_by tile
answered_more [] tile = omega arith
answered_more (a ∷ tiles) tile = omega (arith, answered_more tiles tile)

pub reads_more : (first before now : ℕ) (tiles more : List (Option (List ℕ))) (tile : Option (List ℕ)) → more ≡ tiles ++ tile ∷ [] → GrewFrom first before (answered tiles + 1) → GrewFrom before now (answered_by tile) → GrewFrom first now (answered more + 1)
reads_more first before now tiles more tile push so more_reads = omega (arith, ap answered push, answered_more tiles tile, so, more_reads)

pub answer_more : (told again : Option (List ℕ)) (coords : List Coord) (i : ℕ) (c : Coord) (tiles more : List (Option (List ℕ))) (tile : Option (List ℕ)) → again ≡ told → i < length coords → c ≡ get_or coords i c → more ≡ tiles ++ tile ∷ []
    → IfSome told (λ b. (o : Options) → WellFormed b o true → tiles ≡ map (λ c. archive_map b (id_of c)) (take i coords)) → IfSome again (λ b. UsesOneLength b → tile ≡ archive_map b (id_of c))
    → IfSome told (λ b. (o : Options) → WellFormed b o true → more ≡ map (λ c. archive_map b (id_of c)) (take (i + 1) coords))
answer_more None again coords i c tiles more tile same low is push so answer = tt
answer_more (Some b) again coords i c tiles more tile same low is push so answer = λ o formed.
    let P : Option (List ℕ) → Type 0 = λ z. IfSome z (λ b. UsesOneLength b → tile ≡ archive_map b (id_of c)) in
    let at : Coord → Option (List ℕ) = λ c. archive_map b (id_of c) in
    let here : tile ≡ at c = (subst P same answer) (cacheable b o true formed) in
    let front : take (i + 1) coords ≡ take i coords ++ c ∷ [] = take_more coords i c low ∙ ap (λ z. take i coords ++ z ∷ []) (sym is) in
    push ∙ ap (λ z. z ++ tile ∷ []) (so o formed) ∙ ap (λ z. map at (take i coords) ++ z ∷ []) here ∙ sym (map-append at (take i coords) (c ∷ [])) ∙ ap (map at) (sym front)

-- a refusal when out of memory or a fault answers as it may
hindered_answers : (told : Option (List ℕ)) (coords : List Coord) (e : PmtError) (r : Result (List (Option (List ℕ))) PmtError) → IfSome told (λ b. (o : Options) → WellFormed b o true → IsHindered e) → IsErrAnd r (λ x. x ≡ e)
    → IfSome told (λ b. (o : Options) → WellFormed b o true → ReadsAnswers b coords r)
hindered_answers None coords e r h is = tt
hindered_answers (Some b) coords e (Ok x) h is = absurd is
hindered_answers (Some b) coords e (Err x) h is = λ o formed. subst IsHindered (sym is) (h o formed)

pub memory_answers : (told : Option (List ℕ)) (coords : List Coord) (r : Result (List (Option (List ℕ))) PmtError) → IsErrAnd r (λ x. x ≡ errors.OutOfMemory) → IfSome told (λ b. (o : Options) → WellFormed b o true → ReadsAnswers b coords r)
memory_answers None coords r is = tt
memory_answers (Some b) coords r is = hindered_answers (Some b) coords errors.OutOfMemory r (λ o formed. tt) is

pub tile_answers : (told again : Option (List ℕ)) (coords : List Coord) (t : ℕ) (e : PmtError) (r : Result (List (Option (List ℕ))) PmtError) → again ≡ told → IfSome again (λ b. UsesOneLength b → GivesTile b t (Err e)) → IsErrAnd r (λ x. x ≡ e)
    → IfSome told (λ b. (o : Options) → WellFormed b o true → ReadsAnswers b coords r)
tile_answers None again coords t e r same h is = tt
tile_answers (Some b) again coords t e r same h is =
    let P : Option (List ℕ) → Type 0 = λ z. IfSome z (λ b. UsesOneLength b → GivesTile b t (Err e)) in
    hindered_answers (Some b) coords e r (λ o formed. tile_hindered b t e (is_sound b o true formed) ((subst P same h) (cacheable b o true formed))) is

-- all coordinates are answered
pub all_answers : (told : Option (List ℕ)) (coords : List Coord) (n : ℕ) (tiles answers : List (Option (List ℕ))) → length coords ≤ n → answers ≡ tiles → IfSome told (λ b. (o : Options) → WellFormed b o true → tiles ≡ map (λ c. archive_map b (id_of c)) (take n coords))
    → IfSome told (λ b. (o : Options) → WellFormed b o true → answers ≡ map (λ c. archive_map b (id_of c)) coords)
all_answers None coords n tiles answers far same h = tt
all_answers (Some b) coords n tiles answers far same h = λ o formed. same ∙ h o formed ∙ ap (map (λ c. archive_map b (id_of c))) (take_all n coords far)
