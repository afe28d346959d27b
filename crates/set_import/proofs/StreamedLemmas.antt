-- Tables of a new store that an archive was streamed into.
use Rattle.set_import.proofs.Common.{ap, Archive, arith, Bool, document_edits, empty, Err, false, Flat, flat_made, get, HasTilesOf, Held, held_edited, IfErr, IfSome, ImportCauses, ImportError, inl, inr}
use Rattle.set_import.proofs.Common.{is_unwritten, IsFilled, IsLeft, IsSound, List, MakesChanges, None, Ok, Option, OutOfMemory, refl, Result, Some, started, State, Store, subst, sym, Tables}
use Rattle.set_import.proofs.Common.{TileJson, tiles_put, TileSet, true, true≢false, ℕ, [], ◌+◌, ◌∙◌, ◌∷◌, ◌≡◌, ◌≤◌, ◌<◌}
use Rattle.std.proofs.Common.{cond, get_or, is_some, length, nat_lt, ◌++◌, ◌||◌}
use Rattle.std.proofs.lemmas.Bool.{false≢true}
use Rattle.std.proofs.lemmas.List.Elements.{All-append}
use Rattle.std.specs.FinMap.{contains_key, entries, get-empty, get-entries, len}
use Rattle.mb_edit.proofs.EditedLemmas.{tiles_edited}
use Rattle.mb_edit.proofs.PutLemmas.{both_pass, put_loaded, put_state}
use Rattle.mb_edit.specs.Put.{may_put}
use Rattle.mb_lists.specs.Places.{address}
use Rattle.mb_load.proofs.CommittedLemmas.{is_committed}
use Rattle.mb_load.proofs.EmptyLemmas.{from_empty}
use Rattle.mb_load.specs.StateOf.{state_of}
use Rattle.mb_loaded.proofs.Listed.{at_right}
use Rattle.mb_loaded.proofs.MoreContents.{at_left}
use Rattle.mb_loaded.specs.Changing.{AreChangesOf, content_row_by, content_table, id_edited, is_own_table, name_edited, name_row_by, place_edited, tile_row_by}
use Rattle.mb_loaded.specs.Edits.{id_for, with_key}
use Rattle.mb_loaded.specs.Empty.{empty_state}
use Rattle.mb_loaded.specs.FromLast.{from_last, tile_patched}
use Rattle.mb_metadata.specs.NameEdits.{names_edited, with_touched}
use Rattle.mb_store.specs.declared.change.Change.{Change}
use Rattle.mb_store.specs.Store.{with_tables}
use Rattle.mb_tables.specs.Described.{is_table}
use Rattle.mb_tables.specs.Kind.{tile_table}
use Rattle.mb_tables.specs.Schema.{set_tables}
use Rattle.mb_tables.specs.Table.{table_eq}
use Rattle.mb_tables.specs.Tiles.{Place, place_cmp}
use Rattle.mb_tables.specs.declared.error.MbtError.TheVariants as stores
use Rattle.mb_tables.specs.declared.key.RowKey.{RowKey}
use Rattle.mb_tables.specs.declared.key.RowKey.TheVariants.{IntId, TextId, Tile}
use Rattle.mb_tables.specs.declared.kind.MbtType.{MbtType}
use Rattle.mb_tables.specs.declared.table.TableName.TheVariants.{Metadata, Tiles}
use Rattle.pm_format.specs.Directory.{Entry}
unfoldable use Rattle.pm_format.specs.Opened.{opened}
use Rattle.pm_format.specs.declared.error.PmtError.TheVariants as errors
use Rattle.pm_format.specs.declared.error.ReadCause.TheVariants as causes
use Rattle.pm_format.specs.declared.header.Header.{Header}
use Rattle.pm_reader.specs.Opening.{header_of, IsOpen, root_of}
use Rattle.pm_reader.specs.declared.state.ReaderState.{ReaderState}
use Rattle.pm_walk.proofs.PassedLemmas.{all_there, AllThere}
use Rattle.pm_walk.specs.Gathered.{AreGiven}
use Rattle.pm_walk.specs.Gathering.{Gathers}
use Rattle.pm_walk.specs.Collecting.{AreContentsOf}
use Rattle.pm_walk.specs.Parts.{full, tile_count}
use Rattle.pm_walk.specs.Walk.{all_walked}
use Rattle.pm_walk.specs.declared.extent.Extent.TheVariants.{Whole}
use Rattle.set_import.proofs.CountLemmas.{all_bytes, AreBytes, count_all, part_bytes}
use Rattle.set_import.proofs.FillingLemmas.{are_filled}
use Rattle.set_import.proofs.NewSetLemmas.{alone, base_new, made_empty, made_loads, started_new}
use Rattle.set_import.proofs.StreamLemmas.{whole_parted}
use Rattle.set_import.proofs.PutsLemmas.{apart_tables, commits_more, names_apart, puts_back}
use Rattle.set_import.specs.Batches.{AreFilled, AreFlat, ArePutInto, ArePuts, AreThere, end_of, Fills, IsBatchOf, IsPart, IsPlain, StopAnswers, StopCauses}
use Rattle.set_import.specs.Streaming.{empty_flat, HasFrontOf, IsFront, is_stopped, IsStoppedAt, reads_again, reads_streamed}
use Rattle.tile_hash.specs.declared.algorithm.HashAlgorithm.TheVariants.{Md5}
use Rattle.tile_import.proofs.AnswerLemmas.{are_tiles}
use Rattle.tile_import.proofs.EntryLemmas.{contents_on_board}
use Rattle.tile_import.proofs.RefusalLemmas.{tiles_taken}
use Rattle.tile_import.proofs.TilesLemmas.{none_on_board}
use Rattle.tile_import.specs.Import.{ReadCauses, reads_at_most}
use Rattle.tile_import.specs.Putting.{AreOnBoard, with_contents}
use Rattle.tile_import.specs.Refusals.{is_free, Reads}

-- a flat set takes any tiles
pub may_flat : (tiles : TileSet) → may_put (empty_state Flat Md5) tiles ≡ None
may_flat tiles = both_pass (empty_state Flat Md5) tiles Flat refl refl refl

-- what counts as edited of an empty flat set into which tiles were put
abbrev Put : Type 0
Put = Place × Option (List ℕ)

no_names : (es : List Put) → (from_last tile_patched empty_flat es).edited.names ≡ empty
no_names [] = refl
no_names (e ∷ es) = by e.1 (no_names es)
  where
    by : (o : Option (List ℕ)) → (from_last tile_patched empty_flat es).edited.names ≡ empty → (tile_patched (from_last tile_patched empty_flat es) (e.0, o)).edited.names ≡ empty
    by (Some bytes) rest = rest
    by None rest = rest

flat_still : (es : List Put) → (from_last tile_patched empty_flat es).state.layout ≡ Flat
flat_still [] = refl
flat_still (e ∷ es) = by e.1 (flat_still es)
  where
    by : (o : Option (List ℕ)) → (from_last tile_patched empty_flat es).state.layout ≡ Flat → (tile_patched (from_last tile_patched empty_flat es) (e.0, o)).state.layout ≡ Flat
    by (Some bytes) rest = rest
    by None rest = rest

no_ids : (es : List Put) → (from_last tile_patched empty_flat es).edited.ids ≡ empty
no_ids [] = refl
no_ids (e ∷ es) = by e.1 (no_ids es)
  where
    by : (o : Option (List ℕ)) → (from_last tile_patched empty_flat es).edited.ids ≡ empty → (tile_patched (from_last tile_patched empty_flat es) (e.0, o)).edited.ids ≡ empty
    by (Some bytes) rest = ap (λ (l : MbtType). with_key (from_last tile_patched empty_flat es).edited.ids (id_for l (from_last tile_patched empty_flat es).state.algorithm bytes)) (flat_still es) ∙ rest
    by None rest = rest

module _ (tiles : TileSet) (are : AreBytes tiles) where
  abbrev put : Held
  put = tiles_put empty_flat tiles

  pub batch_of : IsBatchOf (tiles_put empty_flat tiles) tiles
  batch_of = record {
    flat = flat_still (entries tiles);
    has = λ p. ap (λ (s : State). get s.tiles p) (put_state empty_flat tiles) ∙ (alone empty tiles p refl ∙ are p);
    places = λ p.
        tiles_edited empty_flat p (entries tiles)
        ∙ (ap (λ o. contains_key empty_flat.edited.places p || is_some o) (sym (get-entries tiles p))
        ∙ ap (λ b. b || contains_key tiles p) (ap is_some (get-empty place_cmp p)));
    ids = λ id. ap (λ m. contains_key m id) (no_ids (entries tiles)) ∙ ap is_some (get-empty {X = Unit {0}} _ id);
    names = λ name. ap (λ m. contains_key m name) (no_names (entries tiles)) ∙ ap is_some (get-empty {X = Unit {0}} _ name);
  }

  pub put_changes : (made new : Tables) → ArePutInto made new tiles → MakesChanges (tiles_put empty_flat tiles) made new
  put_changes made new into = record { changes = into.changes; are = puts_back put tiles batch_of into.changes into.puts; made = into.commits }

  -- with the names of a document
  module _ (t : TileJson) (cs ds : List Change) (puts : ArePuts tiles cs) (last : AreChangesOf (held_edited empty_flat (document_edits t)) ds) where
    abbrev named : Held
    named = held_edited empty_flat (document_edits t)

    abbrev both : Held
    both = held_edited put (document_edits t)

    first : AreChangesOf put cs
    first = puts_back put tiles batch_of cs puts

    same_names : both.edited.names ≡ named.edited.names
    same_names = ap (λ m. with_touched m (document_edits t)) (no_names (entries tiles))

    same_texts : both.state.metadata ≡ named.state.metadata
    same_texts = ap (λ (s : State). names_edited s.metadata (document_edits t)) (put_state empty_flat tiles)

    flat : both.state.layout ≡ Flat
    flat = flat_still (entries tiles)

    name_same : (key : RowKey) → name_edited both.edited key ≡ name_edited named.edited key
    name_same (TextId name) = ap (λ m. contains_key m name) same_names
    name_same (IntId n) = refl
    name_same (Tile zoom column row) = refl

    row_same : (key : RowKey) → name_row_by both.state key ≡ name_row_by named.state key
    row_same key = ap (λ m. name_row_by (record both.state { metadata = m }) key) same_texts ∙ by key
      where
        by : (key : RowKey) → name_row_by (record both.state { metadata = named.state.metadata }) key ≡ name_row_by named.state key
        by (TextId name) = refl
        by (IntId n) = refl
        by (Tile zoom column row) = refl

    nowhere : {A : Type 0} (key : RowKey) → place_edited named.edited key ≡ true → A
    nowhere (Tile zoom column row) e = absurd (false≢true (sym (ap is_some (get-empty {X = Unit {0}} place_cmp (record { zoom = zoom; column = column; row = row }))) ∙ e))
    nowhere (TextId name) e = absurd (false≢true e)
    nowhere (IntId n) e = absurd (false≢true e)

    no_id : {A : Type 0} (key : RowKey) → id_edited named.edited key ≡ true → A
    no_id (TextId text) e = absurd (false≢true (sym (ap is_some (get-empty {X = Unit {0}} _ _)) ∙ e))
    no_id (IntId n) e = absurd (false≢true (sym (ap is_some (get-empty {X = Unit {0}} _ _)) ∙ e))
    no_id (Tile zoom column row) e = absurd (false≢true e)

    pub both_changes : AreChangesOf (held_edited (tiles_put empty_flat tiles) (document_edits t)) (cs ++ ds)
    both_changes = record {
      tiles = record {
        made = λ key edited. let m = first.tiles.made key edited in (m.0, m.1, at_left cs ds m.0 m.1 m.2, m.3, m.4);
        only = All-append (λ (c : Change). table_eq c.table (tile_table both.state.layout) ≡ true → (place_edited both.edited c.key ≡ true) × (c.row ≡ tile_row_by both.state c.key)) cs ds
            (λ k d lt same. first.tiles.only k d lt same)
            (λ k d lt same. nowhere (get_or ds k d).key (last.tiles.only k d lt (subst (λ (l : MbtType). table_eq (get_or ds k d).table (tile_table l) ≡ true) flat same)).0);
      };
      contents = record {
        made = λ key edited. let m = first.contents.made key edited in (m.0, m.1, at_left cs ds m.0 m.1 m.2, m.3, m.4);
        only = All-append (λ (c : Change). table_eq c.table (content_table both.state.layout) ≡ true → (id_edited both.edited c.key ≡ true) × (c.row ≡ content_row_by both.state c.key)) cs ds
            (λ k d lt same. first.contents.only k d lt same)
            (λ k d lt same. no_id (get_or ds k d).key (last.contents.only k d lt (subst (λ (l : MbtType). table_eq (get_or ds k d).table (content_table l) ≡ true) flat same)).0);
      };
      names = record {
        made = λ key edited. let m = last.names.made key (sym (name_same key) ∙ edited) in let r = at_right cs ds m.0 m.1 m.2 in (r.0, m.1, r.1, m.3, m.4);
        only = All-append (λ (c : Change). table_eq c.table Metadata ≡ true → (name_edited both.edited c.key ≡ true) × (c.row ≡ name_row_by both.state c.key)) cs ds
            (λ k d lt same. apart_tables (get_or cs k d).table Tiles Metadata refl (puts.only k d lt).table same)
            (λ k d lt same. let it = last.names.only k d lt same in (name_same (get_or ds k d).key ∙ it.0, it.1 ∙ sym (row_same (get_or ds k d).key)));
      };
      tables = All-append (λ (c : Change). is_own_table both.state.layout c.table ≡ true) cs ds
          (λ k d lt. first.tables k d lt)
          (λ k d lt. subst (λ (l : MbtType). is_own_table l (get_or ds k d).table ≡ true) (sym flat) (last.tables k d lt));
    }

  pub named_changes : (t : TileJson) (made mid new : Tables) → ArePutInto made mid tiles → MakesChanges (held_edited empty_flat (document_edits t)) mid new → MakesChanges (held_edited (tiles_put empty_flat tiles) (document_edits t)) made new
  named_changes t made mid new into last = record {
    changes = into.changes ++ last.changes;
    are = both_changes t into.changes last.changes into.puts last.are;
    made = commits_more into.changes last.changes made mid new
        (names_apart tiles (held_edited empty_flat (document_edits t)) into.changes last.changes refl (λ p. ap is_some (get-empty {X = Unit {0}} place_cmp p)) into.puts last.are)
        into.commits last.made;
  }

-- a front of an import
pub front_stands : (told : Option (List ℕ)) (old new : Tables) (all : TileSet) (next : ℕ) → IsSound old → old.descriptions ≡ [] → IsSound new → AreBytes all → AreOnBoard all → IfSome told (λ b. HasTilesOf b all) → IsPart true (flat_made old) new all next → IsFront told (flat_made old) new
front_stands told old new all next sound none sound_new are board has part = record {
  tiles = part.done;
  are = by told has;
  on_board = on_board;
  rows = is_committed (tiles_put empty_flat part.done) (flat_made old) new changed.changes
      (put_loaded (flat_made old) empty_flat part.done (may_flat part.done) on_board (from_empty (flat_made old) Flat Md5 (made_empty old sound none)))
      changed.are changed.made sound_new;
  commits = changed;
}
  where
    bytes : AreBytes part.done
    bytes = part_bytes all part.done (λ p. nat_lt (address p) part.from) are part.parted

    changed : MakesChanges (tiles_put empty_flat part.done) (flat_made old) new
    changed = put_changes part.done bytes (flat_made old) new (part.into refl)

    within : (p : Place) (b : Bool) → is_some (cond b (get all p) None) ≡ true → contains_key all p ≡ true
    within p true h = h
    within p false h = absurd (false≢true h)

    on_board : AreOnBoard part.done
    on_board p there = board p (within p (nat_lt (address p) part.from) (sym (ap is_some (part.parted p)) ∙ there))

    by : (o : Option (List ℕ)) → IfSome o (λ b. HasTilesOf b all) → IfSome o (λ b. HasFrontOf b part.done)
    by None h = tt
    by (Some b) h = record { from = part.from; at = λ p on. part.parted p ∙ ap (λ x. cond (nat_lt (address p) part.from) x None) (h.at p on) }

-- all of it
pub all_filled : (told : Option (List ℕ)) (t : TileJson) (old new : Tables) (n : ℕ) (all : TileSet) → IsSound old → old.descriptions ≡ [] → IsSound new → AreBytes all → AreOnBoard all → IfSome told (λ b. HasTilesOf b all) → n ≡ len all
    → AreFilled old new all (held_edited empty_flat (document_edits t)) → IsFilled told t (started old) new n
all_filled told t old new n all sound none sound_new are board has count filled =
    are_filled told t (started old) new n empty_flat (held_edited (tiles_put empty_flat all) (document_edits t))
    (base_new old sound none)
    (record {
      between = tiles_put empty_flat all;
      put = record { tiles = all; are = has; on_board = board; count = count; may = may_flat all; is = refl };
      named = refl;
    })
    (ap state_of (started_new old none) ∙ made_loads old sound none)
    sound_new
    (subst (λ (x : Tables). MakesChanges (held_edited (tiles_put empty_flat all) (document_edits t)) x new) (sym (started_new old none)) (named_changes all are t (flat_made old) filled.mid new filled.into filled.last))

-- why a run of commits stops, and what is answered then
pub stop_causes : (most before now old new : ℕ) (e : ImportError) → StopCauses before now old new e → ImportCauses most before now old new (Err e)
stop_causes most before now old new (Archive (errors.Reading causes.Fault)) c = c
stop_causes most before now old new (Archive (errors.Reading causes.PastEnd)) c = tt
stop_causes most before now old new (Archive (errors.UnexpectedNumberOfBytesReturned asked got)) c = c
stop_causes most before now old new (Archive e) c = absurd c
stop_causes most before now old new (Store stores.StoreFault) c = c
stop_causes most before now old new (Store e) c = absurd c
stop_causes most before now old new OutOfMemory c = tt
stop_causes most before now old new e c = absurd c

pub has_stopped : (before now old new : ℕ) (e : ImportError) → StopCauses before now old new e → is_stopped e ≡ true
has_stopped before now old new (Archive (errors.Reading causes.Fault)) c = refl
has_stopped before now old new (Archive (errors.Reading causes.PastEnd)) c = refl
has_stopped before now old new (Archive (errors.UnexpectedNumberOfBytesReturned asked got)) c = refl
has_stopped before now old new (Archive e) c = absurd c
has_stopped before now old new (Store stores.StoreFault) c = refl
has_stopped before now old new (Store e) c = absurd c
has_stopped before now old new OutOfMemory c = refl
has_stopped before now old new e c = absurd c

pub stop_read : (told : Option (List ℕ)) (most : ℕ) (e : ImportError) → StopAnswers told e → IfSome told (λ b. Reads most b (Err e))
stop_read None most e s = tt
stop_read (Some b) most e s = λ free. absurd (true≢false (sym s ∙ free))

pub later_stop : (before mid now old m new : ℕ) (e : ImportError) → before ≤ mid → old ≤ m → StopCauses mid now m new e → StopCauses before now old new e
later_stop before mid now old m new (Archive (errors.Reading causes.Fault)) a b c = omega (arith, a, c)
later_stop before mid now old m new (Archive (errors.Reading causes.PastEnd)) a b c = tt
later_stop before mid now old m new (Archive (errors.UnexpectedNumberOfBytesReturned asked got)) a b c = c
later_stop before mid now old m new (Archive e) a b c = absurd c
later_stop before mid now old m new (Store stores.StoreFault) a b c = omega (arith, b, c)
later_stop before mid now old m new (Store e) a b c = absurd c
later_stop before mid now old m new OutOfMemory a b c = tt
later_stop before mid now old m new e a b c = absurd c

-- why a walk is refused
pub walk_causes : (most before now old new : ℕ) (e : ImportError) → ReadCauses most before now e → ImportCauses most before now old new (Err e)
walk_causes most before now old new (Store e) c = absurd c
walk_causes most before now old new e c = c

-- a new store has the tables of a flat set
pub flat_described : (t new : Tables) → t.descriptions ≡ [] → new ≡ flat_made t → AreFlat new.descriptions
flat_described t new none is = subst (λ (x : Tables). AreFlat x.descriptions) (sym is) (ap (λ ds. is_table (with_tables ds (set_tables Flat)) Tiles) none, ap (λ ds. is_table (with_tables ds (set_tables Flat)) Metadata) none)

pub flat_still_described : (old new : Tables) → AreFlat old.descriptions → new.descriptions ≡ old.descriptions → AreFlat new.descriptions
flat_still_described old new flat same = subst AreFlat (sym same) flat

-- the contents of all tile entries are there
pub all_are_there : (told : Option (List ℕ)) (s : ReaderState) (most : ℕ) (es : List Entry) (cs : List (List ℕ)) → IsOpen told s → AreGiven told (header_of s) (root_of s) most es cs → AreThere told (header_of s) es
all_are_there told s most es cs opens given = by told es given.gathered
  where
    none : (h : Header) (es : List Entry) → AreThere None h es
    none h [] = tt
    none h (e ∷ es) = (tt, none h es)

    each : (h : Header) (b : List ℕ) (es : List Entry) → AllThere h b es → AreThere (Some b) h es
    each h b [] there = tt
    each h b (e ∷ es) there = (there.0, each h b es there.2)

    by : (o : Option (List ℕ)) (es : List Entry) → IfSome o (λ b. Gathers Whole (all_walked b (header_of s, root_of s)) [] most (Ok es)) → AreThere o (header_of s) es
    by None es g = none (header_of s) es
    by (Some b) es g = subst (AreThere (Some b) (header_of s)) (sym g.1) (each (header_of s) b (full (all_walked b (header_of s, root_of s)).entries) (all_there b (header_of s, root_of s) g.0))

pub names_plain : (t : TileJson) (h : Held) → h ≡ held_edited empty_flat (document_edits t) → IsPlain h
names_plain t h is = subst IsPlain (sym is) (refl, λ id. ap is_some (get-empty {X = Unit {0}} _ id))

-- how often the archive is read
pub reads_all : (told : Option (List ℕ)) (s : ReaderState) (most before mid now : ℕ) (es : List Entry) (cs : List (List ℕ)) → IsOpen told s → AreGiven told (header_of s) (root_of s) most es cs
    → IfSome told (λ b. mid ≤ before + reads_at_most b) → now ≤ mid + length es → IfSome told (λ b. now ≤ before + reads_streamed b)
reads_all told s most before mid now es cs opens given first le = by told opens given.gathered first
  where
    by : (o : Option (List ℕ)) → IsOpen o s → IfSome o (λ b. Gathers Whole (all_walked b (header_of s, root_of s)) [] most (Ok es)) → IfSome o (λ b. mid ≤ before + reads_at_most b) → IfSome o (λ b. now ≤ before + reads_streamed b)
    by None opens g first = tt
    by (Some b) opens g first =
        let again : reads_again b (opened b) ≡ length es = ap (reads_again b) opens ∙ ap length (sym g.1) in
        omega (arith, first, le, again)

-- a part of tables that were made
pub moved_part : (tells : Bool) (made other now : Tables) (all : TileSet) (next : ℕ) → tells ≡ true → made ≡ other → IsPart tells made now all next → IsPart true other now all next
moved_part tells made other now all next t same part = subst (λ (x : Tables). IsPart true x now all next) same (subst (λ (b : Bool). IsPart b made now all next) t part)

pub whole_part : (made mid new : Tables) (all : TileSet) (next : ℕ) → ((p : Place) → contains_key all p ≡ true → address p < next) → ArePutInto made mid all → new ≡ mid → IsPart true made new all next
whole_part made mid new all next under into same = record {
  done = all;
  from = next;
  low = omega arith;
  parted = whole_parted all next under;
  into = λ t. subst (λ (x : Tables). ArePutInto made x all) (sym same) into;
}

-- what is made of an archive that was walked, and what a refusal leaves
module _ (told other : Option (List ℕ)) (s : ReaderState) (most : ℕ) (t : TileJson) (old new : Tables) (es list : List Entry) (names : Held) (cs : List (List ℕ)) (same_told : other ≡ told) (same_list : list ≡ es) (same_names : names ≡ held_edited empty_flat (document_edits t))
    (sound : IsSound old) (none : old.descriptions ≡ []) (sound_new : IsSound new) (opens : IsOpen told s) (given : AreGiven told (header_of s) (root_of s) most es cs) where
  as_told : {E : Type 0} (r : Result (Unit {0}) E) → Fills other (header_of s) old new list names r → Fills told (header_of s) old new es (held_edited empty_flat (document_edits t)) r
  as_told r f =
      subst (λ (h : Held). Fills told (header_of s) old new es h r) same_names
      (subst (λ (l : List Entry). Fills told (header_of s) old new l names r) same_list
      (subst (λ (o : Option (List ℕ)). Fills o (header_of s) old new list names r) same_told f))

  has_tiles_of : (found : List (List ℕ)) → AreContentsOf told (header_of s) es found → IfSome told (λ b. HasTilesOf b (with_contents empty es found))
  has_tiles_of found are = are_tiles told most (with_contents empty es found) (tiles_taken told (header_of s, root_of s) most es found (with_contents empty es found) opens given.gathered are refl)

  board_of : (found : List (List ℕ)) → AreOnBoard (with_contents empty es found)
  board_of found = contents_on_board empty es found given.shallow none_on_board

  pub streamed_filled : {E : Type 0} (n : ℕ) → n ≡ tile_count es → Fills {A = Unit {0}} {E = E} other (header_of s) old new list names (Ok tt) → IsFilled told t (started old) new n
  streamed_filled {E = E} n is f0 =
      let f = as_told {E = E} (Ok tt) f0 in
      all_filled told t old new n (with_contents empty es f.contents) sound none sound_new (all_bytes es f.contents) (board_of f.contents) (has_tiles_of f.contents f.are) (is ∙ count_all es f.contents f.are.0 given.ordered) f.by

  pub streamed_stopped : (e : ImportError) → is_stopped e ≡ true → StopAnswers other e → Fills {A = Unit {0}} other (header_of s) old new list names (Err e) → IsStoppedAt told old new e
  streamed_stopped e stops answers f0 =
      let f = as_told (Err e) f0 in
      elim f.by [
        | inl is ↦ inl is
        | inr part ↦ inr (
          none,
          front_stands told old new (with_contents empty es f.contents) (end_of 0 es) sound none sound_new (all_bytes es f.contents) (board_of f.contents) (has_tiles_of f.contents f.are) part,
          stops,
          subst (λ (o : Option (List ℕ)). IfSome o (λ b. is_free e ≡ true)) same_told answers,
        )
      ]

-- what one commit leaves, of a store that described something
pub left_stopped : (told : Option (List ℕ)) (old new : Tables) (r : Result ℕ ImportError) → (old.descriptions ≡ [] → ⊥) → IfErr r (IsLeft old new) → IfErr r (IsStoppedAt told old new)
left_stopped told old new (Ok n) some l = tt
left_stopped told old new (Err e) some (inl same) = inl same
left_stopped told old new (Err e) some (inr made) = absurd (some made.0)

unwritten_stops : (e : ImportError) → is_stopped e ≡ false → is_unwritten e ≡ false
unwritten_stops (Store stores.StoreFault) h = absurd (true≢false h)
unwritten_stops OutOfMemory h = absurd (true≢false h)
unwritten_stops e h = refl

pub refused_more : (P : Type 0) (r : Result ℕ ImportError) → IfErr r (λ e. is_unwritten e ≡ false → P) → IfErr r (λ e. is_stopped e ≡ false → P)
refused_more P (Ok n) h = tt
refused_more P (Err e) h = λ unstopped. h (unwritten_stops e unstopped)

pub reads_fewer : (told : Option (List ℕ)) (before now : ℕ) → IfSome told (λ b. now ≤ before + reads_at_most b) → IfSome told (λ b. now ≤ before + reads_streamed b)
reads_fewer None before now h = tt
reads_fewer (Some b) before now h = omega (arith, h)
