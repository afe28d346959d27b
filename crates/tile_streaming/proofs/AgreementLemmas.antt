-- Both ways to convert come to the same archive, and to the same refusal.
use Rattle.tile_streaming.proofs.Common.{aggregate, ap, arith, Bool, ConvertError, ConvertOptions, Coord, Err, false, false≢true, id_of, IfOk, IfSome, inl, inr, length, List, map, none-some, None, Ok, Option, Options, refl, Result, same_Some, Some, State, StreamCauses, StreamError, StreamLeaves, StreamReport, subst, sym, Tables, TileSet, true, as_report, ℕ, [], ◌<◌, ◌∙◌, ◌∷◌, ◌≡◌, ◌≢◌}
use Rattle.pm_format.specs.declared.compression.Compression.{Compression}
use Rattle.pm_format.specs.declared.compression.Compression.TheVariants as compression
use Rattle.pm_writer.proofs.Canonical.{canon_same}
use Rattle.pm_writer.specs.Archive.{canon}
use Rattle.std.specs.Prelude.{IsOk}
use Rattle.tile_bridge.specs.Common.{places_read}
use Rattle.tile_bridge.specs.Convert.{ConvertCauses, HoldsExactly, IsArchiveOf, IsConverted}
use Rattle.tile_bridge.specs.Leaves.{Leaves}
use Rattle.tile_bridge.specs.declared.error.ConvertError.TheVariants.{IndexEntryOverflow, MediumFault, MediumNotEmpty, OutOfMemory, ReadBack, Store, StoreFault, UnsupportedCompression}
use Rattle.tile_bridge.specs.declared.report.ConvertReport.{ConvertReport}
use Rattle.tile_streaming.specs.Agreement.{Agree, HasOneArchive, is_hindrance, IsSameArchive}
use Rattle.tile_streaming.specs.Common.{archive_map}
use Rattle.tile_streaming.specs.Hashing.{HasHash}
use Rattle.tile_streaming.specs.declared.error.StreamError.TheVariants.{Convert, StoreChanged}

-- two archives of the same tiles
module _ (tiles : TileSet) (a b : List ℕ) (one : HoldsExactly a tiles) (other : HoldsExactly b tiles) where
  same_tiles : (id : ℕ) → archive_map b id ≡ archive_map a id
  same_tiles id = has (archive_map b id) refl
    where
      lacks : (o : Option (List ℕ)) → archive_map a id ≡ o → archive_map b id ≡ None → None ≡ archive_map a id
      lacks None e none = sym e
      lacks (Some bytes) e none =
          let found = one.only id bytes e in
          absurd (none-some bytes (sym none ∙ ap (archive_map b) (sym found.2) ∙ other.each found.0 bytes found.1))

      has : (o : Option (List ℕ)) → archive_map b id ≡ o → archive_map b id ≡ archive_map a id
      has None e = e ∙ lacks (archive_map a id) refl e
      has (Some bytes) e =
          let found = other.only id bytes e in
          e ∙ sym (ap (archive_map a) (sym found.2) ∙ one.each found.0 bytes found.1)

-- with the same options they are the same bytes
same_bytes : (tiles : TileSet) (x y : Options) (a b : List ℕ) → IsArchiveOf a x tiles → IsArchiveOf b y tiles → y ≡ x → b ≡ a
same_bytes tiles x y a b one other same =
    other.one ∙ ap (λ o. canon o other.by_id) same
    ∙ canon_same x other.by_id one.by_id (λ id. other.has id ∙ same_tiles tiles a b one.holds other.holds id ∙ sym (one.has id))
    ∙ sym one.one

-- what is answered from archives of the same tiles
same_answers : (a b : List ℕ) → ((id : ℕ) → archive_map b id ≡ archive_map a id) → (coords : List Coord) → map (λ c. archive_map b (id_of c)) coords ≡ map (λ c. archive_map a (id_of c)) coords
same_answers a b same [] = refl
same_answers a b same (c ∷ coords) =
    ap (λ x. x ∷ map (λ k. archive_map b (id_of k)) coords) (same (id_of c))
    ∙ ap (λ xs. archive_map a (id_of c) ∷ xs) (same_answers a b same coords)

-- what is due is one
same_state : (d : Result State ConvertError) (x y : State) → d ≡ Ok x → d ≡ Ok y → x ≡ y
same_state d x y is other = subst (λ r. IfOk r (λ z. x ≡ z)) (sym is ∙ other) refl

-- what is answered where nothing hinders, unless it is Ok
abbrev refusal : Result State ConvertError → Option ConvertError
refusal (Ok s) = None
refusal (Err e) = Some e

abbrev labelled : Compression → Result State ConvertError → Option ConvertError
labelled compression.None d = refusal d
labelled label d = Some (UnsupportedCompression label)

abbrev refused : Compression → List ℕ → Result State ConvertError → Option ConvertError
refused label [] d = labelled label d
refused label (byte ∷ bytes) d = Some (MediumNotEmpty (length (byte ∷ bytes)))

other_label : (label : Compression) (d : Result State ConvertError) → label ≢ compression.None → labelled label d ≡ Some (UnsupportedCompression label)
other_label compression.None d other = absurd (other refl)
other_label _ d other = refl

module _ (o : Options) (d : Result State ConvertError) (old : List ℕ) where
  abbrev answer : Option ConvertError
  answer = refused o.internal_compression old d

  plain : old ≡ [] → o.internal_compression ≡ compression.None → answer ≡ refusal d
  plain empty label = ap (λ x. refused o.internal_compression x d) empty ∙ ap (λ x. labelled x d) label

  -- each error that is no hindrance is that one
  refuses : (e : ConvertError) → ConvertCauses o (Some d) (Some old) (Err e) → is_hindrance e ≡ false → answer ≡ Some e
  refuses (MediumNotEmpty n) c h = by old c
    where
      by : (bytes : List ℕ) → (0 < n) × (n ≡ length bytes) → refused o.internal_compression bytes d ≡ Some (MediumNotEmpty n)
      by [] is = absurd (omega (arith, is.0, is.1))
      by (byte ∷ bytes) is = ap (λ k. Some (MediumNotEmpty k)) (sym is.1)
  refuses (UnsupportedCompression label) c h =
      ap (λ x. refused o.internal_compression x d) c.0 ∙ ap (λ x. labelled x d) (sym c.1) ∙ other_label label d c.2
  refuses (Store place e) c h = plain c.0 c.1 ∙ ap refusal c.2
  refuses IndexEntryOverflow c h = plain c.0 c.1 ∙ ap refusal c.2
  refuses (ReadBack e) c h = absurd (none-some old (sym c.0))
  refuses (StoreFault place) c h = absurd (false≢true (sym h))
  refuses MediumFault c h = absurd (false≢true (sym h))
  refuses OutOfMemory c h = absurd (false≢true (sym h))

  -- and none comes where Ok does
  none_refused : (r : ConvertReport) → ConvertCauses o (Some d) (Some old) (Ok r) → answer ≡ None
  none_refused r c = plain c.0 c.1 ∙ by d c.2
    where
      by : (x : Result State ConvertError) → IsOk x → refusal x ≡ None
      by (Ok s) is = refl
      by (Err e) is = absurd (false≢true is)

  hindered : (r : ConvertReport) (e : ConvertError) → ConvertCauses o (Some d) (Some old) (Ok r) → ConvertCauses o (Some d) (Some old) (Err e) → is_hindrance e ≡ true
  hindered r e c f = by (is_hindrance e) refl
    where
      by : (t : Bool) → is_hindrance e ≡ t → is_hindrance e ≡ true
      by true is = is
      by false is = absurd (none-some e (sym (none_refused r c) ∙ refuses e f is))

module _ (gives : State → Options → Type 0) (o : ConvertOptions) (d : Result State ConvertError) (base_tells : Bool) (tells : List Bool) (told : List Tables) (before after : Tables) (coords : List Coord) (old a b : List ℕ) where
  abbrev Held : Result ConvertReport ConvertError → Type 0
  Held r = Leaves gives (Some d) o base_tells tells told coords r (Some old) (Some a) before after

  abbrev Streamed : Result StreamReport StreamError → Type 0
  Streamed s = StreamLeaves gives (Some d) true coords s (Some old) (Some b)

  same_archive : (r : ConvertReport) (s : StreamReport) → Held (Ok r) → Streamed (Ok s) → IsSameArchive gives d r a s b
  same_archive r s (inl untouched) streamed = absurd untouched.refused
  same_archive r s (inr held) (inl unwritten) = absurd unwritten.refused
  same_archive r s (inr held) (inr streamed) =
      let same : streamed.state ≡ held.state = same_state d streamed.state held.state streamed.is_due held.is_due in
      let one : IsConverted a held.options held.state.tiles coords r = held.medium in
      let other : IsConverted b streamed.options held.state.tiles coords (as_report s) = subst (λ x. IsConverted b streamed.options x.tiles coords (as_report s)) same streamed.medium in
      let tiles = same_tiles held.state.tiles a b one.archive.holds other.archive.holds in
      let options : HasOneArchive gives d → streamed.options ≡ held.options = λ only.
      only held.state held.is_due streamed.options held.options (subst (λ x. gives x streamed.options) same streamed.given) held.given in
      let bytes : HasOneArchive gives d → b ≡ a = λ only. same_bytes held.state.tiles held.options streamed.options a b one.archive other.archive (options only) in
      record {
        tiles = tiles;
        answers = other.answers ∙ same_answers a b tiles coords ∙ sym one.answers;
        aggregate = hash s.aggregate streamed.aggregate_is same held.aggregate_is;
        bytes = bytes;
        places = λ only. same_Some s.places r.places (sym other.places ∙ ap places_read (bytes only) ∙ one.places);
      }
    where
      hash : (h : Option (List ℕ)) → IfSome h (HasHash true streamed.state) → streamed.state ≡ held.state → r.aggregate ≡ aggregate held.state.algorithm held.state.tiles → IfSome h (λ x. x ≡ r.aggregate)
      hash None is same own = tt
      hash (Some x) is same own = is.told refl ∙ ap (λ s. aggregate s.algorithm s.tiles) same ∙ sym own

  pub agree : (held : Result ConvertReport ConvertError) (streamed : Result StreamReport StreamError)
      → ConvertCauses o.writer (Some d) (Some old) held → Held held
      → StreamCauses o.writer (Some d) true (Some old) streamed → Streamed streamed
      → Agree gives d held a streamed b
  agree (Ok r) (Ok s) c h k l = same_archive r s h l
  agree (Ok r) (Err (Convert f)) c h k l = hindered o.writer d old r f c k
  agree (Ok r) (Err StoreChanged) c h k l = absurd (false≢true (sym k.0))
  agree (Err e) (Ok s) c h k l = hindered o.writer d old (as_report s) e k c
  agree (Err e) (Err (Convert f)) c h k l = λ he hf. same_Some f e (sym (refuses o.writer d old f k hf) ∙ refuses o.writer d old e c he)
  agree (Err e) (Err StoreChanged) c h k l = absurd (false≢true (sym k.0))

-- options of the caller are one
pub callers_have_one : (o : ConvertOptions) (d : Result State ConvertError) → HasOneArchive (λ _ w. w ≡ o.writer) d
callers_have_one o d s is x y one other = one ∙ sym other
