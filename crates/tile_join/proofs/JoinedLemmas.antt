-- The map of the archive that is joined.
use Rattle.tile_join.proofs.Common.{ap, append_assoc, AreOrdered, arith, Bool, drop, Entry, entry, Err, false, found, found_few, found_met, found_opened, gathered, Gathered, gathered_from, get_or, Header, if◌then◌else◌, InOrder}
use Rattle.tile_join.proofs.Common.{JoinError, length, List, look_in, looked, MAX_TILE_ID, met, nat_le, None, none-some, none_yet, numbered, Ok, Opened, opened, Option, over, Piece, piece, refl, Result, runs_met, slice_get, Some}
use Rattle.tile_join.proofs.Common.{subst, sym, take, true, whole, with_source, ℕ, [], ◌&&◌, ◌++◌, ◌+◌, ◌<◌, ◌∙◌, ◌∷◌, ◌≡◌, ◌≤◌}
use Rattle.std.proofs.Common.{◌||◌}
use Rattle.std.proofs.Math.Seq.{get_or-append_seam}
use Rattle.std.proofs.lemmas.List.{get_or_append_left, length-append}
use Rattle.tile_join.proofs.Common.{chain, slice_get-get_or}
use Rattle.tile_join.proofs.OverLemmas.{over_ordered}
use Rattle.std.proofs.lemmas.List.{length-drop, length-take-le}
use Rattle.pm_format.specs.LookUp.{archive_tile, filled}
use Rattle.pm_format.specs.declared.error.PmtError.TheVariants as errors
use Rattle.pm_format.specs.declared.error.ReadCause.TheVariants as causes
use Rattle.pm_walk.proofs.CoveringLemmas.{has_id, le_by, to_le}
use Rattle.pm_walk.proofs.WholeLemmas.{held}
use Rattle.pm_walk.specs.Parts.{clip, clip_all, parts, parts_of}
use Rattle.pm_walk.specs.declared.error.WalkError.{WalkError}
use Rattle.tile_extract.proofs.CutLemmas.{cut_held, parts_in_order}
use Rattle.tile_extract.specs.Part.{cut}
use Rattle.tile_extract.specs.declared.part.TilePart.{TilePart}
use Rattle.tile_join.proofs.Common.{and_parts, max, min, nat_eq, nat_lt, nat_tests, PmtError, tile_count, true≢false, ◌-◌, ◌^◌}
use Rattle.pm_walk.proofs.CoveringLemmas.{covering}
use Rattle.tile_join.proofs.MapLemmas.{LooksAs, over_has, over_lacks, SameData, spot}
use Rattle.tile_join.specs.Common.{archive_map, range_of}
use Rattle.tile_join.specs.Join.{joined, joined_over, no_tiles, over_tile}

-- where the contents of runs lie, is all that is asked for
look_same : (b : List ℕ) (p q : Piece) (o : Option Header) → q.entry.offset ≡ p.entry.offset → q.entry.length ≡ p.entry.length → look_in b q o ≡ look_in b p o
look_same b p q None at long = refl
look_same b p q (Some h) at long = ap (λ n. range_of b (h.data_offset + n) q.entry.length) at ∙ ap (range_of b (h.data_offset + p.entry.offset)) long

pub looked_same : (hs : List Header) (bs : List (List ℕ)) (p q : Piece) → SameData p q → looked hs bs q ≡ looked hs bs p
looked_same hs bs p q same = ap (λ k. look_in (get_or bs k []) q (slice_get hs k)) same.0 ∙ look_same (get_or bs p.source []) p q (slice_get hs p.source) same.1 same.2

-- the tile of a map at an id, by the run that has it: where its contents are there, they are the tile
pub record IsTile (hs : List Header) (bs : List (List ℕ)) (p : Piece) (tile : Option (List ℕ)) : Type 0 where
  pub some : 1 ≤ p.entry.length
  pub is : (bytes : List ℕ) → looked hs bs p ≡ Some bytes → tile ≡ Some bytes

abbrev pub TileAt : List Header → List (List ℕ) → Option (List ℕ) → Option Piece → Type 0
TileAt hs bs tile None = tile ≡ None
TileAt hs bs tile (Some p) = IsTile hs bs p tile

tile_as : (hs : List Header) (bs : List (List ℕ)) (tile : Option (List ℕ)) (a b : Option Piece) → LooksAs a b → TileAt hs bs tile a → TileAt hs bs tile b
tile_as hs bs tile None None same t = t
tile_as hs bs tile None (Some q) same t = absurd same
tile_as hs bs tile (Some p) None same t = absurd same
tile_as hs bs tile (Some p) (Some q) same t = record { some = let m = t.some in omega (arith, m, same.2); is = λ bytes there. t.is bytes (sym (looked_same hs bs p q same) ∙ there) }

-- one more source: the tiles of its map over those below
tile_over : (hs : List Header) (bs : List (List ℕ)) (t n : ℕ) (es : List Entry) (others : List Piece) (tile below : Option (List ℕ)) → AreOrdered 0 es None → InOrder n 0 others → TileAt hs bs below (spot t others)
    → ((e : Entry) → covering t es ≡ Some e → IsTile hs bs (piece n e) tile) → (covering t es ≡ None → tile ≡ None) → TileAt hs bs (over_tile tile below) (spot t (over 0 (numbered n es) others))
tile_over hs bs t n es others tile below o p is has lacks = by (covering t es) refl
  where
    by : (c : Option Entry) → covering t es ≡ c → TileAt hs bs (over_tile tile below) (spot t (over 0 (numbered n es) others))
    by None none =
        subst (λ x. TileAt hs bs (over_tile x below) (spot t (over 0 (numbered n es) others))) (sym (lacks none))
        (tile_as hs bs below (spot t others) (spot t (over 0 (numbered n es) others)) (over_lacks t n 0 0 es others (omega arith) o p none) is)
    by (Some e) some =
        let one = has e some in
        subst (TileAt hs bs (over_tile tile below)) (sym (over_has t n 0 es others e o some)) (record { some = one.some; is = λ bytes there. ap (λ x. over_tile x below) (one.is bytes there) })

-- the parts of entries have bytes
abbrev AllSome : List Entry → Type 0
AllSome [] = Unit {0}
AllSome (e ∷ es) = (1 ≤ e.length) × AllSome es

some_append : (xs ys : List Entry) → AllSome xs → AllSome ys → AllSome (xs ++ ys)
some_append [] ys a b = b
some_append (x ∷ xs) ys a b = (a.0, some_append xs ys a.1 b)

some_clip : (e : Entry) (i : ℕ × ℕ) → 1 ≤ e.length → AllSome (clip e i)
some_clip e i some = by (nat_le (max e.tile_id i.0) (min (e.tile_id + (e.run_length - 1)) i.1))
  where
    by : (t : Bool) → AllSome (if t then entry (max e.tile_id i.0) e.offset e.length (min (e.tile_id + (e.run_length - 1)) i.1 - max e.tile_id i.0 + 1) ∷ [] else [])
    by true = (some, tt)
    by false = tt

some_clips : (e : Entry) (is : List (ℕ × ℕ)) → 1 ≤ e.length → AllSome (clip_all e is)
some_clips e [] some = tt
some_clips e (i ∷ is) some = some_append (clip e i) (clip_all e is) (some_clip e i some) (some_clips e is some)

some_parts : (is : List (ℕ × ℕ)) (es : List Entry) → AllSome (parts is es)
some_parts is [] = tt
some_parts is (e ∷ es) = some_append (parts_of is e) (parts is es) (by (nat_eq e.length 0) refl) (some_parts is es)
  where
    by : (t : Bool) → nat_eq e.length 0 ≡ t → AllSome (if t then [] else clip_all e is)
    by true none = tt
    by false some = some_clips e is (grind (arith, nat_tests))

some_covering : (t : ℕ) (es : List Entry) (e : Entry) → AllSome es → covering t es ≡ Some e → 1 ≤ e.length
some_covering t [] e a is = absurd (none-some e is)
some_covering t (d ∷ es) e a is = by (has_id t d) (λ at. some_covering t es e a.1 at) is
  where
    by : (b : Bool) → (covering t es ≡ Some e → 1 ≤ e.length) → (if b then Some d else covering t es) ≡ Some e → 1 ≤ e.length
    by true rest is = let same : d ≡ e = cc in subst (λ x. 1 ≤ x.length) same a.0
    by false rest is = rest is

-- an archive whole, as a part
abbrev whole_part : TilePart
whole_part = record { intervals = whole; min_zoom = 0; max_zoom = 0 }

in_whole : (x y : Bool) → x ≡ true → ((x && y) || false) ≡ y
in_whole true true is = refl
in_whole true false is = refl
in_whole false y is = absurd (true≢false (sym is))

whole_cut : (b : List ℕ) (t : ℕ) → cut (archive_map b) whole_part t ≡ archive_map b t
whole_cut b t = ap (λ x. if x then archive_map b t else None) (in_whole (nat_le 0 t) (nat_le t MAX_TILE_ID) (to_le 0 t (omega arith))) ∙ twice (filled (archive_tile b t)) (nat_le t MAX_TILE_ID)
  where
    twice : (o : Option (List ℕ)) (y : Bool) → (if y then (if y then o else None) else None) ≡ (if y then o else None)
    twice o true = refl
    twice o false = refl

map_held : (b : List ℕ) (o : Opened) (t : ℕ) → opened b ≡ Ok o → (met b o).refusal ≡ None → archive_map b t ≡ held o.0 b (covering t (runs_met b o))
map_held b o t opens fine = sym (whole_cut b t) ∙ cut_held b o whole_part t opens fine

-- what is found of a source
pub record IsFound (b : List ℕ) (f : Header × List Entry) : Type 0 where
  pub out : Opened
  pub opens : opened b ≡ Ok out
  pub fine : (met b out).refusal ≡ None
  pub header : out.0 ≡ f.0
  pub runs : runs_met b out ≡ f.1

pub is_found : (most k : ℕ) (b : List ℕ) (f : Header × List Entry) → found most k b ≡ Ok f → IsFound b f
unfolding found
is_found most k b f is = by (opened b) refl is
  where
    few : (o : Opened) → opened b ≡ Ok o → (met b o).refusal ≡ None → (t : Bool) → found_few most o.0 (runs_met b o) t ≡ Ok f → IsFound b f
    few o opens fine true is = let same : (o.0, runs_met b o) ≡ f = cc in record { out = o; opens = opens; fine = fine; header = ap (λ p. p.0) same; runs = ap (λ p. p.1) same }
    few o opens fine false is = absurd (cc)

    by_met : (o : Opened) → opened b ≡ Ok o → (x : Option WalkError) → (met b o).refusal ≡ x → found_met most k o.0 (runs_met b o) x ≡ Ok f → IsFound b f
    by_met o opens (Some x) fine is = absurd (cc)
    by_met o opens None fine is = few o opens fine (nat_le (tile_count (runs_met b o)) most) is

    by : (r : Result Opened PmtError) → opened b ≡ r → found_opened most k b r ≡ Ok f → IsFound b f
    by (Err e) opens is = absurd (cc)
    by (Ok o) opens is = by_met o opens (met b o).refusal refl is

found_ordered : (b : List ℕ) (f : Header × List Entry) → IsFound b f → AreOrdered 0 f.1 None
found_ordered b f s = subst (λ l. AreOrdered 0 l None) s.runs (parts_in_order b s.out whole_part (omega arith, omega arith, tt) s.fine)

-- what an entry leads to
filled_some : (bytes : List ℕ) → 1 ≤ length bytes → filled (Ok (Some bytes)) ≡ Some bytes
filled_some [] some = absurd (omega (arith, some))
filled_some (x ∷ xs) some = refl

pub held_some : (h : Header) (b : List ℕ) (e : Entry) (bytes : List ℕ) → range_of b (h.data_offset + e.offset) e.length ≡ Some bytes → 1 ≤ length bytes → held h b (Some e) ≡ Some bytes
held_some h b e bytes there some =
    ap (λ r. filled (elim r as (λ _. Result (Option (List ℕ)) PmtError) [ None ↦ Err (errors.Reading causes.PastEnd) | Some x ↦ Ok (Some x) ])) there ∙ filled_some bytes some

range_long : (b : List ℕ) (at n : ℕ) (bytes : List ℕ) → range_of b at n ≡ Some bytes → length bytes ≡ n
range_long b at n bytes is = by (nat_le (at + n) (length b) && nat_lt (at + n) (2 ^ 64)) refl is
  where
    by : (t : Bool) → (nat_le (at + n) (length b) && nat_lt (at + n) (2 ^ 64)) ≡ t → (if t then Some (take n (drop at b)) else None) ≡ Some bytes → length bytes ≡ n
    by false fits is = absurd (none-some bytes is)
    by true fits is =
        let le = le_by (at + n) (length b) (and_parts (nat_le (at + n) (length b)) (nat_lt (at + n) (2 ^ 64)) fits).0 in
        let same : take n (drop at b) ≡ bytes = cc in
        let left = length-drop at b in
        ap length (sym same) ∙ length-take-le n (drop at b) (omega (arith, le, left))

pub looked_long : (hs : List Header) (bs : List (List ℕ)) (p : Piece) (bytes : List ℕ) → looked hs bs p ≡ Some bytes → length bytes ≡ p.entry.length
looked_long hs bs p bytes is = by (slice_get hs p.source) is
  where
    by : (o : Option Header) → look_in (get_or bs p.source []) p o ≡ Some bytes → length bytes ≡ p.entry.length
    by None is = absurd (none-some bytes is)
    by (Some h) is = range_long (get_or bs p.source []) (h.data_offset + p.entry.offset) p.entry.length bytes is

-- the tile of a source at an id is that of its run
run_tile : (hs : List Header) (bs : List (List ℕ)) (t k : ℕ) (b : List ℕ) (f : Header × List Entry) (e : Entry) → IsFound b f → get_or bs k [] ≡ b → slice_get hs k ≡ Some f.0 → covering t f.1 ≡ Some e → IsTile hs bs (piece k e) (archive_map b t)
run_tile hs bs t k b f e s one head is =
    let some : 1 ≤ e.length = some_covering t f.1 e (subst AllSome s.runs (some_parts whole (met b s.out).entries)) is in
    record {
      some = some;
      is = λ bytes there.
          let range : range_of b (f.0.data_offset + e.offset) e.length ≡ Some bytes = sym (ap (λ x. look_in x (piece k e) (slice_get hs k)) one ∙ ap (look_in b (piece k e)) head) ∙ there in
          let long = range_long b (f.0.data_offset + e.offset) e.length bytes range in
          map_held b s.out t s.opens s.fine ∙ ap (λ h. held h b (covering t (runs_met b s.out))) s.header ∙ ap (λ l. held f.0 b (covering t l)) s.runs ∙ ap (held f.0 b) is
          ∙ held_some f.0 b e bytes range (omega (arith, some, long));
    }

run_none : (t : ℕ) (b : List ℕ) (f : Header × List Entry) → IsFound b f → covering t f.1 ≡ None → archive_map b t ≡ None
run_none t b f s none = map_held b s.out t s.opens s.fine ∙ ap (λ l. held s.out.0 b (covering t l)) s.runs ∙ ap (held s.out.0 b) none

-- headers of more sources behind others
front_header : (xs ys : List Header) (k : ℕ) (d : Header) → k < length xs → slice_get (xs ++ ys) k ≡ slice_get xs k
front_header xs ys k d low =
    slice_get-get_or (xs ++ ys) k d (let n = length-append xs ys in omega (arith, low, n)) ∙ ap Some (get_or_append_left xs ys d k low) ∙ sym (slice_get-get_or xs k d low)

next_header : (xs : List Header) (h : Header) → slice_get (xs ++ h ∷ []) (length xs) ≡ Some h
next_header xs h = slice_get-get_or (xs ++ h ∷ []) (length xs) h (let n = length-append xs (h ∷ []) in omega (arith, n)) ∙ ap Some (get_or-append_seam xs h [] h)

header_kept : (most n : ℕ) (g : Gathered) (bs : List (List ℕ)) (last : Gathered) (k : ℕ) (d : Header) → gathered_from most n g bs ≡ Ok last → k < length g.headers → slice_get last.headers k ≡ slice_get g.headers k
header_kept most n g [] last k d is low = let same : g ≡ last = cc in ap (λ x. slice_get x.headers k) (sym same)
header_kept most n g (b ∷ bs) last k d is low =
    by (found most n b) (λ f at. header_kept most (n + 1) (with_source g n f) bs last k d at (let m = length-append g.headers (f.0 ∷ []) in omega (arith, low, m))) is
  where
    by : (r : Result (Header × List Entry) JoinError) → ((f : Header × List Entry) → gathered_from most (n + 1) (with_source g n f) bs ≡ Ok last → slice_get last.headers k ≡ slice_get (g.headers ++ f.0 ∷ []) k)
        → chain r (λ f. gathered_from most (n + 1) (with_source g n f) bs) ≡ Ok last → slice_get last.headers k ≡ slice_get g.headers k
    by (Ok f) rest is = rest f is ∙ front_header g.headers (f.0 ∷ []) k d low
    by (Err e) rest is = absurd (cc)

-- what is gathered of sources behind others has the tiles of their maps over those below
pub record HasTiles (bs : List (List ℕ)) (n : ℕ) (last : Gathered) (t : ℕ) (one : Option (List ℕ)) : Type 0 where
  pub ordered : InOrder n 0 last.pieces
  pub tile : TileAt last.headers bs one (spot t last.pieces)

more_tiles : (most n : ℕ) (g : Gathered) (front bs rest : List (List ℕ)) (last : Gathered) (t : ℕ) (below : ℕ → Option (List ℕ)) → gathered_from most n g rest ≡ Ok last → front ++ rest ≡ bs → length front ≡ n → length g.headers ≡ n → InOrder n 0 g.pieces
    → TileAt last.headers bs (below t) (spot t g.pieces) → HasTiles bs (n + length rest) last t (joined_over below rest t)
more_tiles most n g front bs [] last t below is whole many heads order tile =
    let same : g ≡ last = cc in
    let none : n ≡ n + 0 = omega arith in
    record { ordered = subst (λ k. InOrder k 0 last.pieces) none (subst (λ x. InOrder n 0 x.pieces) same order); tile = subst (λ x. TileAt last.headers bs (below t) (spot t x.pieces)) same tile }
more_tiles most n g front bs (b ∷ rest) last t below is whole many heads order tile =
    by (found most n b) refl
    (λ f at so to. more_tiles most (n + 1) (with_source g n f) (front ++ b ∷ []) bs rest last t (λ id. over_tile (archive_map b id) (below id)) at (append_assoc front (b ∷ []) rest ∙ whole) (let m = length-append front (b ∷ []) in omega (arith, m, many))
    (let m = length-append g.headers (f.0 ∷ []) in omega (arith, m, heads)) so to) is
  where
    one : get_or bs n [] ≡ b
    one = ap (λ l. get_or l n []) (sym whole) ∙ ap (λ k. get_or (front ++ b ∷ rest) k []) (sym many) ∙ get_or-append_seam front b rest []

    by : (r : Result (Header × List Entry) JoinError) → found most n b ≡ r
        → ((f : Header × List Entry) → gathered_from most (n + 1) (with_source g n f) rest ≡ Ok last → InOrder (n + 1) 0 (over 0 (numbered n f.1) g.pieces) → TileAt last.headers bs (over_tile (archive_map b t) (below t)) (spot t (over 0 (numbered n f.1) g.pieces))
        → HasTiles bs (n + 1 + length rest) last t (joined_over (λ id. over_tile (archive_map b id) (below id)) rest t)) → chain r (λ f. gathered_from most (n + 1) (with_source g n f) rest) ≡ Ok last → HasTiles bs (n + length (b ∷ rest)) last t (joined_over below (b ∷ rest) t)
    by (Err e) at next is = absurd (cc)
    by (Ok f) at next is =
        let s = is_found most n b f at in
        let o = found_ordered b f s in
        let head : slice_get last.headers n ≡ Some f.0 =
        header_kept most (n + 1) (with_source g n f) rest last n f.0 is (let m = length-append g.headers (f.0 ∷ []) in omega (arith, m, heads)) ∙ ap (slice_get (g.headers ++ f.0 ∷ [])) (sym heads) ∙ next_header g.headers f.0 in
        let count : n + 1 + length rest ≡ n + length (b ∷ rest) = omega arith in
        subst (λ k. HasTiles bs k last t (joined_over below (b ∷ rest) t)) count
        (next f is (over_ordered n 0 0 f.1 g.pieces (omega arith) o order)
        (tile_over last.headers bs t n f.1 g.pieces (archive_map b t) (below t) o order tile (λ e has. run_tile last.headers bs t n b f e s one head has) (λ none. run_none t b f s none)))

pub sources_tiles : (most : ℕ) (bs : List (List ℕ)) (g : Gathered) (t : ℕ) → gathered most bs ≡ Ok g → HasTiles bs (0 + length bs) g t (joined bs t)
sources_tiles most bs g t is = more_tiles most 0 none_yet [] bs bs g t no_tiles is refl refl refl (omega arith) refl
