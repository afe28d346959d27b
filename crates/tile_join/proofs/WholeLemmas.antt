-- The parts of an archive that say the same of themselves, joined.
use Rattle.tile_join.proofs.Common.{ap, arith, Bool, drop, Err, found, Gathered, gathered_from, get_or, Header, JoinError, length, List, max, min, none_yet, Ok, Opened, Option, Options, opened, options_for, over_header, over_headers, PmtError, Read, refl, Result, slice_get, Some, subst, suc, sym, take, true, zero, ℕ, [], ◌++◌, ◌+◌, ◌∙◌, ◌∷◌, ◌≡◌, with_source, None, none-some, chain, last_of, false, if◌then◌else◌, ◌<◌, ◌^◌, ◌&&◌}
use Rattle.std.proofs.Common.{int_lt, ℤ, nat_le, nat_lt}
use Rattle.std.proofs.Math.Seq.{drop-append_seam, take-append_seam}
use Rattle.pm_format.specs.declared.error.PmtError.TheVariants as errors
use Rattle.pm_format.specs.declared.error.ReadCause.TheVariants as causes
use Rattle.std.specs.Int.{int_max, int_min}
use Rattle.pm_format.specs.Directory.{Entry}
use Rattle.pm_format.specs.WellFormed.{WellFormed, archive_bytes, data_part, front_bytes, header_of, leaf_part, Parts}
use Rattle.pm_format.specs.declared.header.TheConstants.{ROOT_END}
use Rattle.pm_format.proofs.ArchiveOpens.{front_length}
use Rattle.pm_reader.specs.Metadata.{metadata_read}
use Rattle.std.specs.FinMap.{FinMap, get, same_map, nat_cmp-IsAntisymmetric}
use Rattle.std.specs.Cmp.{nat_cmp_total}
use Rattle.std.specs.Ordering.{nat_cmp}
use Rattle.tile_extract.specs.declared.part.TilePart.{TilePart}
use Rattle.tile_join.proofs.JoinedLemmas.{IsFound, is_found}
use Rattle.tile_join.proofs.PartLemmas.{joins}
use Rattle.tile_join.specs.Common.{canon}
use Rattle.tile_join.specs.Join.{IsJoin, read_options}
use Rattle.tile_join.specs.Parts.{ArePartsOf, AreUsual, AreWith, Cover}

-- a header says what options say, and that their metadata lies behind the root
pub record Says (o : Options) (h : Header) : Type 0 where
  pub tile_compression : h.tile_compression ≡ o.tile_compression
  pub tile_type : h.tile_type ≡ o.tile_type
  pub min_zoom : h.min_zoom ≡ o.min_zoom
  pub max_zoom : h.max_zoom ≡ o.max_zoom
  pub min_longitude : h.min_longitude ≡ o.min_longitude
  pub min_latitude : h.min_latitude ≡ o.min_latitude
  pub max_longitude : h.max_longitude ≡ o.max_longitude
  pub max_latitude : h.max_latitude ≡ o.max_latitude
  pub center_zoom : h.center_zoom ≡ o.center_zoom
  pub center_longitude : h.center_longitude ≡ o.center_longitude
  pub center_latitude : h.center_latitude ≡ o.center_latitude
  pub metadata_offset : h.metadata_offset ≡ ROOT_END
  pub metadata_length : h.metadata_length ≡ length o.metadata

says_own : (o : Options) (p : Parts) → Says o (header_of o true p)
says_own o p = record {
  tile_compression = refl;
  tile_type = refl;
  min_zoom = refl;
  max_zoom = refl;
  min_longitude = refl;
  min_latitude = refl;
  max_longitude = refl;
  max_latitude = refl;
  center_zoom = refl;
  center_longitude = refl;
  center_latitude = refl;
  metadata_offset = refl;
  metadata_length = refl;
}

one_opened : (r : Result Opened PmtError) (x y : Opened) → r ≡ Ok x → r ≡ Ok y → x ≡ y
one_opened r x y a b = by (sym a ∙ b)
  where
    by : (◌≡◌ {A = Result Opened PmtError} (Ok x) (Ok y)) → x ≡ y
    by h = cc

found_says : (o : Options) (b : List ℕ) (f : Header × List Entry) → WellFormed b o true → IsFound b f → Says o f.0
found_says o b f w s =
    subst (Says o) (ap (λ p. p.0) (one_opened (opened b) (header_of o true w.0, w.0.root) s.out w.1.opens s.opens) ∙ s.header) (says_own o w.0)

-- all headers do
abbrev AllSay : Options → List Header → Type 0
AllSay o [] = Unit {0}
AllSay o (h ∷ hs) = Says o h × AllSay o hs

say_more : (o : Options) (hs : List Header) (h : Header) → AllSay o hs → Says o h → AllSay o (hs ++ h ∷ [])
say_more o [] h all says = (says, tt)
say_more o (x ∷ hs) h all says = (all.0, say_more o hs h all.1 says)

says_at : (o : Options) (hs : List Header) (k : ℕ) (h : Header) → AllSay o hs → slice_get hs k ≡ Some h → Says o h
says_at o [] k h all is = absurd (none-some h is)
says_at o (x ∷ hs) zero h all is = let same : x ≡ h = cc in subst (Says o) same all.0
says_at o (x ∷ hs) (suc k) h all is = says_at o hs k h all.1 is

all_say : (o : Options) (most n : ℕ) (g : Gathered) (bs : List (List ℕ)) (last : Gathered) → AreWith o bs → AllSay o g.headers → gathered_from most n g bs ≡ Ok last → AllSay o last.headers
all_say o most n g [] last are all is = let same : g ≡ last = cc in subst (λ x. AllSay o x.headers) same all
all_say o most n g (b ∷ bs) last are all is =
    by (found most n b) refl (λ f says at. all_say o most (n + 1) (with_source g n f) bs last are.1 (say_more o g.headers f.0 all says) at) is
  where
    by : (r : Result (Header × List Entry) JoinError) → found most n b ≡ r → ((f : Header × List Entry) → Says o f.0 → gathered_from most (n + 1) (with_source g n f) bs ≡ Ok last → AllSay o last.headers)
        → chain r (λ f. gathered_from most (n + 1) (with_source g n f) bs) ≡ Ok last → AllSay o last.headers
    by (Ok f) at rest is = rest f (found_says o b f are.0 (is_found most n b f at)) is
    by (Err e) at rest is = absurd (cc)

-- zooms and bounds that are the same stay
least_same : (n m k : ℕ) → n ≡ k → m ≡ k → min n m ≡ k
least_same n m k a b = omega (arith, a, b)

most_same : (n m k : ℕ) → n ≡ k → m ≡ k → max n m ≡ k
most_same n m k a b = omega (arith, a, b)

either : (b : Bool) (x y k : ℤ) → x ≡ k → y ≡ k → (if b then y else x) ≡ k
either true x y k p q = q
either false x y k p q = p

low_same : (x y k : ℤ) → x ≡ k → y ≡ k → int_min x y ≡ k
low_same x y k p q = either (int_lt y x) x y k p q

high_same : (x y k : ℤ) → x ≡ k → y ≡ k → int_max x y ≡ k
high_same x y k p q = either (int_lt y x) y x k q p

over_says : (o : Options) (h g : Header) → Says o h → Says o g → Says o (over_header h g)
over_says o h g a b = record {
  tile_compression = a.tile_compression;
  tile_type = a.tile_type;
  min_zoom = least_same h.min_zoom g.min_zoom o.min_zoom a.min_zoom b.min_zoom;
  max_zoom = most_same h.max_zoom g.max_zoom o.max_zoom a.max_zoom b.max_zoom;
  min_longitude = low_same h.min_longitude g.min_longitude o.min_longitude a.min_longitude b.min_longitude;
  min_latitude = low_same h.min_latitude g.min_latitude o.min_latitude a.min_latitude b.min_latitude;
  max_longitude = high_same h.max_longitude g.max_longitude o.max_longitude a.max_longitude b.max_longitude;
  max_latitude = high_same h.max_latitude g.max_latitude o.max_latitude a.max_latitude b.max_latitude;
  center_zoom = a.center_zoom;
  center_longitude = a.center_longitude;
  center_latitude = a.center_latitude;
  metadata_offset = a.metadata_offset;
  metadata_length = a.metadata_length;
}

all_over : (o : Options) (h : Header) (hs : List Header) → Says o h → AllSay o hs → Says o (over_headers h hs)
all_over o h [] says all = says
all_over o h (g ∷ hs) says all = all_over o (over_header h g) hs (over_says o h g says all.0) all.1

-- the options of such a header and the same metadata
same_options : (o : Options) (last : Header) (hs : List Header) (text : List ℕ) → AreUsual o → Says o (over_headers last hs) → text ≡ o.metadata → options_for last hs text ≡ o
same_options o last hs text usual s meta =
    let leaves = usual.leaves in
    let plain = usual.plain in
    let a = s.tile_compression in
    let b = s.tile_type in
    let c = s.min_zoom in
    let d = s.max_zoom in
    let e = s.min_longitude in
    let f = s.min_latitude in
    let g = s.max_longitude in
    let h = s.max_latitude in
    let x = s.center_zoom in
    let y = s.center_longitude in
    let z = s.center_latitude in
    λ i. record {
      internal_compression = sym plain i;
      tile_compression = a i;
      tile_type = b i;
      min_zoom = c i;
      max_zoom = d i;
      min_longitude = e i;
      min_latitude = f i;
      max_longitude = g i;
      max_latitude = h i;
      center_zoom = x i;
      center_longitude = y i;
      center_latitude = z i;
      metadata = meta i;
      max_leaf_entries = sym leaves i;
    }

-- the metadata of a well-formed archive is that of its options
behind : (front m rest : List ℕ) (at n : ℕ) → length front ≡ at → length m ≡ n → take n (drop at (front ++ (m ++ rest))) ≡ m
behind front m rest at n far size =
    ap (λ k. take n (drop k (front ++ (m ++ rest)))) (sym far) ∙ ap (take n) (drop-append_seam front (m ++ rest))
    ∙ ap (λ k. take k (m ++ rest)) (sym size) ∙ take-append_seam m rest

abbrev read_by : Option (List ℕ) → Result (List ℕ) PmtError
read_by o = elim o [ None ↦ Err (errors.Reading causes.PastEnd) | Some bytes ↦ Ok bytes ]

text_in : (b : List ℕ) (h : Header) (text : List ℕ) → metadata_read b h ≡ Ok text → text ≡ take h.metadata_length (drop h.metadata_offset b)
text_in b h text is = by (nat_le (h.metadata_offset + h.metadata_length) (length b) && nat_lt (h.metadata_offset + h.metadata_length) (2 ^ 64)) is
  where
    by : (t : Bool) → read_by (if t then Some (take h.metadata_length (drop h.metadata_offset b)) else None) ≡ Ok text → text ≡ take h.metadata_length (drop h.metadata_offset b)
    by true e = let same : take h.metadata_length (drop h.metadata_offset b) ≡ text = cc in sym same
    by false e = absurd (cc)

own_text : (o : Options) (b : List ℕ) (h : Header) (text : List ℕ) → WellFormed b o true → Says o h → metadata_read b h ≡ Ok text → text ≡ o.metadata
unfolding archive_bytes
own_text o b h text w s is =
    let p = w.0 in
    let at = s.metadata_offset in
    let long = s.metadata_length in
    text_in b h text is ∙ (λ i. take (long i) (drop (at i) (w.1.bytes i)))
    ∙ behind (front_bytes o true p) o.metadata (data_part p ++ leaf_part p) ROOT_END (length o.metadata) (front_length o true p w.1.small) refl

formed_at : (o : Options) (bs : List (List ℕ)) (k : ℕ) → AreWith o bs → k < length bs → WellFormed (get_or bs k []) o true
formed_at o [] k are low = absurd (omega (arith, low))
formed_at o (b ∷ bs) zero are low = are.0
formed_at o (b ∷ bs) (suc k) are low = formed_at o bs k are.1 (omega (arith, low))

-- and the last source is one of them
formed_last : (o : Options) (most : ℕ) (bs : List (List ℕ)) (r : Read bs most) → AreWith o bs → WellFormed (get_or bs (last_of bs) []) o true
formed_last o most [] r are =
    let none : none_yet ≡ r.found = no_more none_yet r.found r.gathers in
    absurd (none-some r.last (ap (λ g. slice_get g.headers 0) none ∙ r.lasts))
  where
    no_more : (x y : Gathered) → ◌≡◌ {A = Result Gathered JoinError} (Ok x) (Ok y) → x ≡ y
    no_more x y h = cc
formed_last o most (b ∷ bs) r are = formed_at o (b ∷ bs) (last_of (b ∷ bs)) are (omega arith)

read_same : (o : Options) (most : ℕ) (bs : List (List ℕ)) (r : Read bs most) → AreUsual o → AreWith o bs → read_options bs most r ≡ o
read_same o most bs r usual are =
    let all = all_say o most 0 none_yet bs r.found are tt r.gathers in
    let last = says_at o r.found.headers (last_of bs) r.last all r.lasts in
    same_options o r.last r.found.headers r.text usual (all_over o r.last r.found.headers last all)
    (own_text o (get_or bs (last_of bs) []) r.last r.text (formed_last o most bs r are) last r.metadata)

pub makes_whole : (o : Options) (tiles : FinMap nat_cmp (List ℕ)) (bs : List (List ℕ)) (parts : List TilePart) (most : ℕ) (b : List ℕ) → AreUsual o → AreWith o bs → ArePartsOf (get tiles) bs parts → Cover (get tiles) parts → IsJoin (Some bs) most b → b ≡ canon o tiles
makes_whole o tiles bs parts most b usual are own cover j =
    let options = j.of.0.1 ∙ read_same o most bs j.of.0.0 usual are in
    let same = same_map nat_cmp_total nat_cmp-IsAntisymmetric j.tiles tiles (λ id. j.of.1 id ∙ joins (get tiles) bs parts own cover id) in
    j.one ∙ (λ i. canon (options i) (same i))
