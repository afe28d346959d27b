-- Files that are written, one after another, and what unpacking answers.
use Rattle.mb_tree.proofs.Common.{ap, arith, begun, Blob, Bool, Cell, cons_option, Coord, drop, entries, Err, false, false≢true, File, file_of, FileFormat, Files, files_by, files_of, filter_map}
use Rattle.mb_tree.proofs.Common.{format_due, get_or_from_slice_get, Held, IfSome, insert, is_free, is_wanting, IsCoord, IsFront, IsUnpacking, Keeps, length, List, Loads, MbtError, None, none-some}
use Rattle.mb_tree.proofs.Common.{Ok, OnErr, OnOk, Option, option_and_then, option_map, path_at, path_text, Place, refl, Result, slice_get, slice_get-get_or, Some, State, state_of, subst, suc, sym}
use Rattle.mb_tree.proofs.Common.{Tables, take, take_all, take_more, then, TileScheme, TileSet, true, turned, unpacked, unpacking, written, zero, ℕ, [], ◌++◌, ◌+◌, ◌-◌, ◌<◌, ◌^◌, ◌∙◌, ◌∷◌, ◌≡◌, ◌≤◌}
use Rattle.mb_lists.specs.Entries.{blob_cell, place_at}
use Rattle.mb_tree.proofs.RefusalLemmas.{not_free}
use Rattle.mb_tree.specs.Errors.{of_tree}
use Rattle.mb_tree.specs.declared.tree.TreeError.{TreeError}
use Rattle.mb_tree.specs.declared.tree.TreeError.TheVariants.{Fault, OutOfMemory}
use Rattle.mb_tree.specs.UnpackSteps.{IsPut, with_file}
use Rattle.mb_edit.proofs.EntryLemmas.{blob_of}

abbrev Entry : Type 0
Entry = Place × Option (List ℕ)

-- one more file at the end
written_one : (old : Files) (o : Option File) → written old (cons_option o []) ≡ with_file old o
written_one old (Some f) = refl
written_one old None = refl

written_more : (old : Files) (fs gs : List File) → written old (fs ++ gs) ≡ written (written old fs) gs
written_more old [] gs = refl
written_more old (f ∷ fs) gs = written_more (insert old f.0 f.1) fs gs

cons_join : (o : Option File) (fs gs : List File) → cons_option o (fs ++ gs) ≡ cons_option o fs ++ gs
cons_join (Some f) fs gs = refl
cons_join None fs gs = refl

files_join : (f : Entry → Option File) (es ds : List Entry) → filter_map f (es ++ ds) ≡ filter_map f es ++ filter_map f ds
files_join f [] ds = refl
files_join f (e ∷ es) ds = ap (cons_option (f e)) (files_join f es ds) ∙ cons_join (f e) (filter_map f es) (filter_map f ds)

pub put_more : (f : Entry → Option File) (es : List Entry) (i : ℕ) (first old new : Files) → i < length es → old ≡ written first (filter_map f (take i es)) → new ≡ with_file old (option_and_then f (slice_get es i)) → new ≡ written first (filter_map f (take (i + 1) es))
put_more f es i first old new lt so step = by (slice_get es i) refl
  where
    by : (o : Option Entry) → slice_get es i ≡ o → new ≡ written first (filter_map f (take (i + 1) es))
    by None at = absurd (none-some _ (sym at ∙ slice_get-get_or es i (record { zoom = 0; column = 0; row = 0 }, None) lt))
    by (Some e) at =
        step
        ∙ (ap (λ o. with_file old (option_and_then f o)) at
        ∙ (ap (λ m. with_file m (f e)) so
        ∙ (sym (written_one (written first (filter_map f (take i es))) (f e))
        ∙ (sym (written_more first (filter_map f (take i es)) (cons_option (f e) []))
        ∙ (ap (written first) (sym (files_join f (take i es) (e ∷ [])))
        ∙ ap (λ xs. written first (filter_map f xs)) (sym (take_more es i e lt ∙ ap (λ y. take i es ++ y ∷ []) (get_or_from_slice_get es i e e at))))))))

pub put_all : (f : Entry → Option File) (es : List Entry) (i : ℕ) (first new : Files) → length es ≤ i → new ≡ written first (filter_map f (take i es)) → new ≡ written first (filter_map f es)
put_all f es i first new end so = so ∙ ap (λ xs. written first (filter_map f xs)) (take_all i es end)

take_front : (xs ys : List File) → take (length xs) (xs ++ ys) ≡ xs
take_front [] [] = refl
take_front [] (y ∷ ys) = refl
take_front (x ∷ xs) ys = ap (λ l. x ∷ l) (take_front xs ys)

join_back : (i : ℕ) (es : List Entry) → take i es ++ drop i es ≡ es
join_back zero [] = refl
join_back (suc i) (e ∷ es) = ap (λ l. e ∷ l) (join_back i es)
join_back _ _ = refl

-- what is written so far is a front
pub front_of : (f : Entry → Option File) (es : List Entry) (i : ℕ) (first now : Files) → now ≡ written first (filter_map f (take i es)) → IsFront (filter_map f es) first now
front_of f es i first now so = (
  length (filter_map f (take i es)),
  so ∙ ap (written first) (sym (ap (take (length (filter_map f (take i es)))) (ap (filter_map f) (sym (join_back i es)) ∙ files_join f (take i es) (drop i es)) ∙ take_front (filter_map f (take i es)) (filter_map f (drop i es)))),
)

-- a tree that nothing was written into
nothing : (files : List File) (old new : Files) → new ≡ old → IsFront files old new
nothing files old new e = (0, e ∙ ap (written old) (sym (none files)))
  where
    none : (files : List File) → take 0 files ≡ []
    none [] = refl
    none (f ∷ fs) = refl

-- the tables of what is loaded: those that are told, or some
picked : (tells : Bool) (told : Tables) (h : Held) → (tells ≡ true → Loads (state_of told) (Ok h)) → ((t : Tables) × Loads (state_of t) (Ok h)) → (t : Tables) × (tells ≡ true → t ≡ told) × (state_of t ≡ Ok h.state)
picked true told h it own = (told, (λ _. refl), (it refl).0)
picked false told h it own = (own.0, (λ e. absurd (false≢true e)), own.1.0)

picked_refusal : (tells : Bool) (told : Tables) (e : MbtError) → (tells ≡ true → Loads (state_of told) (Err e)) → ((t : Tables) × Loads (state_of t) (Err e)) → (t : Tables) × (tells ≡ true → t ≡ told) × (is_free e ≡ false → state_of t ≡ Err e)
picked_refusal true told e it own = (told, (λ _. refl), it refl)
picked_refusal false told e it own = (own.0, (λ k. absurd (false≢true k)), own.1)

module _ (scheme : TileScheme) (tells : Bool) (told : Tables) (shows : Bool) (old new : Files) where
  pub load_refused : (e : MbtError) → (tells ≡ true → Loads (state_of told) (Err e)) → ((t : Tables) × Loads (state_of t) (Err e)) → new ≡ old → IsUnpacking scheme tells told shows old new (Err e)
  unfolding begun
  load_refused e it own same =
      let p = picked_refusal tells told e it own in
      record {
        tables = p.0;
        is_told = p.1;
        answers = λ w. ap (λ (d : Result State MbtError). then d unpacking) (p.2 (not_free e w));
        leaves = λ _. nothing (unpacked scheme (state_of p.0)) old new same;
      }

  module _ (h : Held) (it : tells ≡ true → Loads (state_of told) (Ok h)) (own : (t : Tables) × Loads (state_of t) (Ok h)) where
    pub format_refused : (e : MbtError) → (is_free e ≡ false → format_due h.state ≡ Err e) → new ≡ old → IsUnpacking scheme tells told shows old new (Err e)
    unfolding begun
    format_refused e due same =
        let p = picked tells told h it own in
        record {
          tables = p.0;
          is_told = p.1;
          answers = λ w. ap (λ (d : Result State MbtError). then d unpacking) p.2 ∙ ap (λ (d : Result FileFormat MbtError). then d (λ _. Ok tt)) (due (not_free e w));
          leaves = λ _. nothing (unpacked scheme (state_of p.0)) old new same;
        }

    files_due : (t : Tables) (format : FileFormat) → state_of t ≡ Ok h.state → format_due h.state ≡ Ok format → unpacked scheme (state_of t) ≡ files_of scheme format h.state.tiles
    files_due t format loads due = ap (unpacked scheme) loads ∙ ap (files_by scheme h.state.tiles) due

    pub writing_ended : (e : MbtError) (format : FileFormat) → format_due h.state ≡ Ok format → is_wanting e ≡ true → (shows ≡ true → IsFront (files_of scheme format h.state.tiles) old new) → IsUnpacking scheme tells told shows old new (Err e)
    writing_ended e format due wants front =
        let p = picked tells told h it own in
        record {
          tables = p.0;
          is_told = p.1;
          answers = λ w. absurd (false≢true (sym w ∙ wants));
          leaves = λ s. subst (λ (files : List File). IsFront files old new) (sym (files_due p.0 format p.2 due)) (front s);
        }

    pub all_written : (format : FileFormat) → format_due h.state ≡ Ok format → (shows ≡ true → new ≡ written old (files_of scheme format h.state.tiles)) → IsUnpacking scheme tells told shows old new (Ok tt)
    unfolding begun
    all_written format due all =
        let p = picked tells told h it own in
        record {
          tables = p.0;
          is_told = p.1;
          answers = ap (λ (d : Result State MbtError). then d unpacking) p.2 ∙ ap (λ (d : Result FileFormat MbtError). then d (λ _. Ok tt)) due;
          leaves = λ s. all s ∙ ap (written old) (sym (files_due p.0 format p.2 due));
        }

-- the file of one tile
pub back : (side row : ℕ) → row < side → side - 1 - (side - 1 - row) ≡ row
back side row lt = omega arith

same_path : (scheme : TileScheme) (format : FileFormat) (c : Coord) → IsCoord c → path_at scheme format (place_at c) ≡ path_text format c.z c.x (turned scheme c.z c.y)
same_path scheme format c within = ap (λ row. path_text format c.z c.x (turned scheme c.z row)) (back (2 ^ c.z) c.y within.row)

pub wrote : {E : Type 0} (r : Result (Unit {0}) E) (scheme : TileScheme) (format : FileFormat) (tiles : TileSet) (i : ℕ) (old new : Files) (c : Coord) (cell : Cell) (path bytes : List ℕ) → i < length (entries tiles) → IsCoord c → IfSome (slice_get (entries tiles) i) (λ e. (e.0 ≡ place_at c) × (blob_cell e.1 ≡ cell)) → cell ≡ Blob bytes → path ≡ path_text format c.z c.x (turned scheme c.z c.y) → OnOk r (new ≡ insert old path bytes) → OnOk r (IsPut scheme format tiles i old new)
wrote (Err x) scheme format tiles i old new c cell path bytes lt within here is at step = step
wrote (Ok u) scheme format tiles i old new c cell path bytes lt within here is at step = by (slice_get (entries tiles) i) refl here
  where
    by : (o : Option Entry) → slice_get (entries tiles) i ≡ o → IfSome o (λ e. (e.0 ≡ place_at c) × (blob_cell e.1 ≡ cell)) → new ≡ with_file old (option_and_then (file_of scheme format) (slice_get (entries tiles) i))
    by None found h = absurd (none-some _ (sym found ∙ slice_get-get_or (entries tiles) i (record { zoom = 0; column = 0; row = 0 }, None) lt))
    by (Some e) found h =
        let name : path ≡ path_at scheme format e.0 = at ∙ (sym (same_path scheme format c within) ∙ ap (path_at scheme format) (sym h.0)) in
        step
        ∙ (ap (λ p. insert old p bytes) name
        ∙ (ap (λ o. with_file old (option_map (λ b. (path_at scheme format e.0, b)) o)) (sym (blob_of e.1 bytes (h.1 ∙ is)))
        ∙ ap (λ o. with_file old (option_and_then (file_of scheme format) o)) (sym found)))

-- frames of calls in turn
pub keeps_both : {S : Type 0} (tells : S → Bool) (faults : S → ℕ) (steady : S → Type 0) (a b c : S) → Keeps tells faults steady a b → Keeps tells faults steady b c → Keeps tells faults steady a c
keeps_both tells faults steady a b c h k = record {
  tells = k.tells ∙ h.tells;
  faults = let one : faults a ≤ faults b = h.faults in let two : faults b ≤ faults c = k.faults in omega arith;
  steady = λ s. k.steady (h.steady s);
  calm = λ s. k.calm (h.steady s) ∙ h.calm s;
}

pub on_err : {A E : Type 0} (r : Result A E) (P : Type 0) → P → OnErr r P
on_err (Ok x) P p = tt
on_err (Err x) P p = p

pub tree_wanting : (e : TreeError) → is_wanting (of_tree e) ≡ true
tree_wanting Fault = refl
tree_wanting OutOfMemory = refl
