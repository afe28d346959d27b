-- What an archive says beside its tiles lies within its types.
use Rattle.tile_extract.proofs.Common.{All, ap, arith, Bool, bytes_eq, codes, TilePart, dir_of, drop, Entry, Err, false, FitsSigned, Header, if◌then◌else◌, HasZooms, length, List, nat_lt, None, Ok}
use Rattle.tile_extract.proofs.Common.{Opened, opened, Option, part_options, OptionsFit, PmtError, refl, Result, root_decoded, root_labelled, root_placed, slice_get, slice_index, Some, subst, suc}
use Rattle.tile_extract.proofs.Common.{sym, take, true, w32, zero, ℕ, ℤ, [], ◌+◌, ◌<◌, ◌^◌, ◌∙◌, ◌∷◌, ◌≡◌}
use Rattle.std.proofs.lemmas.List.Elements.{All-head, All-tail, All-take}
use Rattle.std.specs.Int.{Width, cast_signed}
use Rattle.pm_format.specs.declared.compression.Compression.{Compression}
use Rattle.pm_format.specs.declared.compression.Compression.TheVariants as compression
use Rattle.pm_format.specs.declared.error.PmtError.TheVariants as errors
use Rattle.pm_format.specs.declared.header.TheConstants.{HEADER_SIZE, ROOT_END}
use Rattle.pm_format.specs.declared.tile_type.TileType.{TileType}
use Rattle.pm_format.specs.Header.{byte_at, compressions, fields, head, labelled, magic, tile_types}
use borrow.Author.Differences.{fits_in, read_fits}

-- a signed number of any bits lies within its type
signed_fits : (w : Width) (n : ℕ) → FitsSigned w (cast_signed w n)
signed_fits w n = omega (arith, fits_in, read_fits w n)

-- no test before an answer is the one that refuses
if_ok : {A : Type 0} (t : Bool) (e : PmtError) (r : Result A PmtError) (x : A) → (if t then Err e else r) ≡ Ok x → r ≡ Ok x
if_ok true e r x is = absurd (cc)
if_ok false e r x is = is

if_first : {A : Type 0} (t u : Bool) (e f : PmtError) (r : Result A PmtError) (x : A) → (if t then r else (if u then Err e else Err f)) ≡ Ok x → r ≡ Ok x
if_first true u e f r x is = is
if_first false true e f r x is = absurd (cc)
if_first false false e f r x is = absurd (cc)

-- a header is what stands at the places of its fields
record IsRead (front : List ℕ) (h : Header) : Type 0 where
  pub directories : Compression
  pub tiles : Compression
  pub type : TileType
  pub is : h ≡ fields front directories tiles type

labelled_read : (front : List ℕ) (directories tiles : Option Compression) (type : Option TileType) (h : Header) → labelled front directories tiles type ≡ Ok h → IsRead front h
labelled_read front None tiles type h is = absurd (cc)
labelled_read front (Some directories) None type h is = absurd (cc)
labelled_read front (Some directories) (Some tiles) None h is = absurd (cc)
labelled_read front (Some directories) (Some tiles) (Some type) h is = record { directories = directories; tiles = tiles; type = type; is = cc }

head_read : (front : List ℕ) (h : Header) → head front ≡ Ok h → IsRead front h
unfolding head
head_read front h is =
    let a = if_ok (nat_lt (length front) 7) errors.InvalidHeader _ h is in
    let b = if_first (bytes_eq (take 7 front) magic) (bytes_eq (take 2 front) (codes "PM")) errors.UnsupportedPmTilesVersion errors.InvalidMagicNumber _ h a in
    let c = if_ok (nat_lt (length front) HEADER_SIZE) errors.InvalidHeader _ h b in
    labelled_read front (slice_get compressions (byte_at 97 front)) (slice_get compressions (byte_at 98 front)) (slice_get tile_types (byte_at 99 front)) h c

-- an archive that opens has the header of its front, and a root that some bytes spell
decoded_parts : (h : Header) (bytes : List ℕ) (d : Option (List Entry)) (o : Opened) → dir_of bytes ≡ d → root_decoded h d ≡ Ok o → (o.0 ≡ h) × (dir_of bytes ≡ Some o.1)
decoded_parts h bytes None o found is = absurd (cc)
decoded_parts h bytes (Some es) o found is = let same : (h, es) ≡ o = cc in (ap (λ p. p.0) (sym same), found ∙ ap (λ p. Some p.1) same)

labelled_parts : (front : List ℕ) (h : Header) (label : Compression) (o : Opened) → root_labelled front h label ≡ Ok o → (o.0 ≡ h) × (bytes : List ℕ) × (dir_of bytes ≡ Some o.1)
labelled_parts front h compression.None o is =
    let bytes : List ℕ = take h.root_length (drop h.root_offset front) in
    let p = decoded_parts h bytes (dir_of bytes) o refl is in (p.0, bytes, p.1)
labelled_parts front h label o is = absurd (cc)

placed_parts : (front : List ℕ) (r : Result Header PmtError) (o : Opened) → root_placed front r ≡ Ok o → (r ≡ Ok o.0) × (bytes : List ℕ) × (dir_of bytes ≡ Some o.1)
placed_parts front (Err e) o is = absurd (cc)
placed_parts front (Ok h) o is =
    let a = if_ok (nat_lt h.root_offset HEADER_SIZE) errors.InvalidHeader _ o is in
    let b = if_ok (nat_lt (length front) (h.root_offset + h.root_length)) errors.InvalidHeader _ o a in
    let p = labelled_parts front h h.internal_compression o b in (ap Ok (sym p.0), p.1, p.2)

pub opened_parts : (b : List ℕ) (o : Opened) → opened b ≡ Ok o → (head (take ROOT_END b) ≡ Ok o.0) × (bytes : List ℕ) × (dir_of bytes ≡ Some o.1)
unfolding opened
opened_parts b o is = placed_parts (take ROOT_END b) (head (take ROOT_END b)) o (if_ok (nat_lt (length (take ROOT_END b)) HEADER_SIZE) errors.InvalidHeader _ o is)

-- each byte fits
byte_fits : (b : List ℕ) (at : ℕ) → All (λ byte. byte < 256) b → slice_index b at < 256
byte_fits [] at all = omega arith
byte_fits (x ∷ b) zero all = All-head (λ byte. byte < 256) x b all
byte_fits (x ∷ b) (suc at) all = byte_fits b at (All-tail (λ byte. byte < 256) x b all)

-- the options that are taken from an archive fit
pub options_fit : (b : List ℕ) (o : Opened) (text : List ℕ) (part : TilePart) → All (λ byte. byte < 256) b → opened b ≡ Ok o → HasZooms part → OptionsFit (part_options o.0 text part)
options_fit b o text part all is zoom =
    let r = head_read (take ROOT_END b) o.0 (opened_parts b o is).0 in
    let center : o.0.center_zoom < 2 ^ 8 = subst (λ z. z < 2 ^ 8) (sym (ap (λ h. h.center_zoom) r.is)) (byte_fits (take ROOT_END b) 118 (All-take (λ byte. byte < 256) ROOT_END b all)) in
    let degrees = λ (f : Header → ℤ) (n : ℕ) (at : f (fields (take ROOT_END b) r.directories r.tiles r.type) ≡ cast_signed w32 n). subst (FitsSigned w32) (sym (ap f r.is ∙ at)) (signed_fits w32 n) in
    record {
      min_zoom = omega (arith, zoom.0, zoom.1);
      max_zoom = omega (arith, zoom.1);
      min_longitude = degrees (λ h. h.min_longitude) _ refl;
      min_latitude = degrees (λ h. h.min_latitude) _ refl;
      max_longitude = degrees (λ h. h.max_longitude) _ refl;
      max_latitude = degrees (λ h. h.max_latitude) _ refl;
      center_zoom = center;
      center_longitude = degrees (λ h. h.center_longitude) _ refl;
      center_latitude = degrees (λ h. h.center_latitude) _ refl;
      least_leaf = omega arith;
      most_leaf = omega arith;
    }
