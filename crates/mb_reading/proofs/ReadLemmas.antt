-- A set that is read of one state of a database.
use Rattle.mb_reading.proofs.Common.{Bool, CompileError, content_table, Err, false, first_layout, Fits, fits, Flat, has_contents, inl, inr, is_there, IsUnfit, LacksLayout, List, master_text}
use Rattle.mb_reading.proofs.Common.{MatchBool, may_lack, MbtType, Metadata, Read, read_on, ReadsBy, ReadsEither, ReadsLayout, ReadsSet, ReadsTable, refl, Row, rows_text, Shows, Some, start, State}
use Rattle.mb_reading.proofs.Common.{Stays, subst, sym, TableName, tile_table, Tiles, true, understood, ℕ, ◌≡◌}
use Rattle.mb_reading.proofs.AskLemmas.{same_meaning, shows_before, shows_open}
use Rattle.mb_reading.proofs.TextLemmas.{rows_ask}

pub reads_table : (has : Bool) (table : TableName) (text : List ℕ) (s : State) (t u : Read) (rows : List Row) → has ≡ true → text ≡ rows_text table → Shows text s rows → u ≡ read_on table t rows → Fits table t.0 rows
    → ReadsTable has table s t u
unfolding ReadsTable
reads_table has table text s t u rows is named shown fills fit =
    subst (λ b. MatchBool b ((rows : List Row) × Shows (rows_text table) s rows × (u ≡ read_on table t rows) × Fits table t.0 rows) (u ≡ t)) (sym is) (rows, subst (λ text. Shows text s rows) named shown, fills, fit)

pub reads_nothing : (has : Bool) (table : TableName) (s : State) (t : Read) → has ≡ false → ReadsTable has table s t t
unfolding ReadsTable
reads_nothing has table s t isnt = subst (λ b. MatchBool b ((rows : List Row) × Shows (rows_text table) s rows × (t ≡ read_on table t rows) × Fits table t.0 rows) (t ≡ t)) (sym isnt) refl

-- what is read later is of the first state
pub reads_before : (has : Bool) (table : TableName) (s a : State) (t u : Read) → Stays s a → ReadsTable has table a t u → ReadsTable has table s t u
unfolding ReadsTable
reads_before true table s a t u stays h =
    (h.0, shows_before (rows_text table) (rows_ask table _ refl) s a h.0 (stays.same (shows_open (rows_text table) (rows_ask table _ refl) a h.0 h.1)) h.1, h.2, h.3)
reads_before false table s a t u stays h = h

pub unfit_by_text : (has : Bool) (table : TableName) (text : List ℕ) (s : State) (t : Read) (fault : CompileError) → has ≡ true → may_lack table ≡ true → text ≡ rows_text table → understood s.now.schema text ≡ Err fault
    → IsUnfit has table s t
unfolding IsUnfit
unfit_by_text has table text s t fault is may named refused = (is, may, inl (fault, subst (λ text. understood s.now.schema text ≡ Err fault) named refused))

pub unfit_by_rows : (has : Bool) (table : TableName) (text : List ℕ) (s : State) (t : Read) (rows : List Row) → has ≡ true → may_lack table ≡ true → text ≡ rows_text table → Shows text s rows → fits table t.0 rows ≡ false
    → IsUnfit has table s t
unfolding IsUnfit
unfit_by_rows has table text s t rows is may named shown odd = (is, may, inr (rows, subst (λ text. Shows text s rows) named shown, odd))

pub unfit_before : (has : Bool) (table : TableName) (s a : State) (t : Read) → Stays s a → IsUnfit has table a t → IsUnfit has table s t
unfolding IsUnfit
unfit_before has table s a t stays (is, may, inl refused) = (is, may, inl (refused.0, same_meaning (rows_text table) s a _ stays.now refused.1))
unfit_before has table s a t stays (is, may, inr odd) =
    (is, may, inr (odd.0, shows_before (rows_text table) (rows_ask table _ refl) s a odd.0 (stays.same (shows_open (rows_text table) (rows_ask table _ refl) a odd.0 odd.1)) odd.1, odd.2))

-- the metadata is no table of a layout
pub never_unfit : (has : Bool) (s : State) (t : Read) → ¬ IsUnfit has Metadata s t
unfolding IsUnfit
never_unfit has s t h = let e = h.1 in cc

module _ (layout : MbtType) (has_names has : Bool) (contents tiles : TableName) (s a b : State) (none : Read) (empty : none ≡ start layout) (same : has ≡ has_contents layout) (is : contents ≡ content_table layout)
    (last : tiles ≡ tile_table layout) (names more all : Read) (to_a : Stays s a) (to_b : Stays s b) (one : ReadsTable has_names Metadata s none names) where
  named : ReadsTable has_names Metadata s (start layout) names
  named = subst (λ t. ReadsTable has_names Metadata s t names) empty one

  held : ReadsTable has contents a names more → ReadsTable (has_contents layout) (content_table layout) s names more
  held two = subst (λ h. ReadsTable h (content_table layout) s names more) same (subst (λ table. ReadsTable has table s names more) is (reads_before has contents s a names more to_a two))

  pub reads_layout : ReadsTable has contents a names more → ReadsTable true tiles b more all → ReadsLayout layout has_names s all
  unfolding ReadsLayout
  reads_layout two three = (names, more, named, held two, subst (λ table. ReadsTable true table s more all) last (reads_before true tiles s b more all to_b three))

  pub lacks_contents : IsUnfit has contents a names → LacksLayout layout has_names s
  unfolding LacksLayout
  lacks_contents odd = (names, named, inl (subst (λ h. IsUnfit h (content_table layout) s names) same (subst (λ table. IsUnfit has table s names) is (unfit_before has contents s a names to_a odd))))

  pub lacks_tiles : ReadsTable has contents a names more → IsUnfit true tiles b more → LacksLayout layout has_names s
  unfolding LacksLayout
  lacks_tiles two odd = (names, named, inr (more, held two, subst (λ table. IsUnfit true table s more) last (unfit_before true tiles s b more to_b odd)))

pub reads_layout_before : (layout : MbtType) (has_names : Bool) (s a : State) (t : Read) → Stays s a → ReadsLayout layout has_names a t → ReadsLayout layout has_names s t
unfolding ReadsLayout
reads_layout_before layout has_names s a t stays (names, contents, one, two, three) =
    (names, contents, reads_before _ _ s a _ _ stays one, reads_before _ _ s a _ _ stays two, reads_before _ _ s a _ _ stays three)

pub reads_first : (layout : MbtType) (has_names : Bool) (s : State) (t : Read) → ReadsLayout layout has_names s t → ReadsEither layout has_names s t
unfolding ReadsEither
reads_first layout has_names s t read = inl read

pub reads_flat : (layout : MbtType) (has_names : Bool) (s a : State) (t : Read) → LacksLayout layout has_names s → Stays s a → ReadsLayout Flat has_names a t → ReadsEither layout has_names s t
unfolding ReadsEither
reads_flat layout has_names s a t lacks stays read = inr (lacks, reads_layout_before Flat has_names s a t stays read)

lacks_before : (layout : MbtType) (has_names : Bool) (s a : State) → Stays s a → LacksLayout layout has_names a → LacksLayout layout has_names s
unfolding LacksLayout
lacks_before layout has_names s a stays (names, one, inl odd) = (names, reads_before _ _ s a _ _ stays one, inl (unfit_before _ _ s a _ stays odd))
lacks_before layout has_names s a stays (names, one, inr (contents, two, odd)) = (names, reads_before _ _ s a _ _ stays one, inr (contents, reads_before _ _ s a _ _ stays two, unfit_before _ _ s a _ stays odd))

either_before : (layout : MbtType) (has_names : Bool) (s a : State) (t : Read) → Stays s a → ReadsEither layout has_names a t → ReadsEither layout has_names s t
unfolding ReadsEither
either_before layout has_names s a t stays (inl read) = inl (reads_layout_before layout has_names s a t stays read)
either_before layout has_names s a t stays (inr (lacks, read)) = inr (lacks_before layout has_names s a stays lacks, reads_layout_before Flat has_names s a t stays read)

by_before : (has_tiles : Bool) (layout : MbtType) (has_names : Bool) (s a : State) (t : Read) → Stays s a → ReadsBy has_tiles layout has_names a t → ReadsBy has_tiles layout has_names s t
by_before true layout has_names s a t stays read = either_before layout has_names s a t stays read
by_before false layout has_names s a t stays read = reads_layout_before layout has_names s a t stays read

pub reads_by_either : (has_tiles : Bool) (layout : MbtType) (has_names : Bool) (s : State) (t : Read) → has_tiles ≡ true → ReadsEither layout has_names s t → ReadsBy has_tiles layout has_names s t
reads_by_either has_tiles layout has_names s t is read = subst (λ b. ReadsBy b layout has_names s t) (sym is) read

pub reads_by_layout : (has_tiles : Bool) (layout : MbtType) (has_names : Bool) (s : State) (t : Read) → has_tiles ≡ false → ReadsLayout layout has_names s t → ReadsBy has_tiles layout has_names s t
reads_by_layout has_tiles layout has_names s t isnt read = subst (λ b. ReadsBy b layout has_names s t) (sym isnt) read

pub reads_set : (master : List Row) (text : List ℕ) (has_tiles : Bool) (layout : MbtType) (has_names : Bool) (s a : State) (t : Read) → text ≡ master_text → Shows text s master → has_tiles ≡ is_there master Tiles
    → first_layout master ≡ Some layout → has_names ≡ is_there master Metadata → Stays s a → ReadsBy has_tiles layout has_names a t → ReadsSet s t
unfolding ReadsSet
reads_set master text has_tiles layout has_names s a t named shown there is has stays read = (
  master,
  layout,
  subst (λ text. Shows text s master) named shown,
  is,
  subst (λ b. ReadsBy (is_there master Tiles) layout b s t) has (subst (λ b. ReadsBy b layout has_names s t) there (by_before has_tiles layout has_names s a t stays read)),
)
