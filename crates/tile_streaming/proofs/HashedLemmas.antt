-- Contents of marks that are hashed one after another.
use Rattle.tile_streaming.proofs.Common.{All, All-get_or, and_parts, ap, append-nil, arith, Bool, coord_of, Coord, Err, false, false≢true, FindCauses, fits, get_or, HashAlgorithm, is_empty, IsChanged, length, List, Mark, nat_eq, nat_le, nat_tests, not, place_at, refl, Some, StreamError, subst, sym, take, take_more, true, ℕ, [], ◌++◌, ◌+◌, ◌<◌, ◌^◌, ◌∙◌, ◌∷◌, ◌≡◌, ◌≤◌}
use Rattle.std.proofs.Common.{flat_map, ◌%◌}
use Rattle.std.proofs.lemmas.Grind.{flat_map-append}
use Rattle.std.proofs.lemmas.List.{get_or_default, map-append}
use Rattle.tile_bridge.specs.declared.error.ConvertError.TheVariants.{OutOfMemory, StoreFault}
use Rattle.tile_hash.specs.HashStream.{HasTaken}
use Rattle.tile_hash.specs.declared.hash_stream.HashStream.{HashStream}
use Rattle.tile_streaming.proofs.AddingLemmas.{fits_mark}
use Rattle.tile_streaming.proofs.StepLemmas.{changed_untold}
use Rattle.tile_streaming.specs.Common.{tile_text}
use Rattle.tile_streaming.specs.Finding.{place_with}
use Rattle.tile_streaming.specs.Hashing.{AreHashed, AreReadAgain, IsHashed, IsReadAgain, tiles_with}
use Rattle.tile_streaming.specs.Spots.{mark_at, marks_at, no_mark}
use Rattle.tile_streaming.specs.declared.error.StreamError.TheVariants.{Convert, StoreChanged}
use Rattle.tile_streaming.specs.declared.spots.Spot.{Spot}
use Rattle.tile_streaming.specs.Stored.{IsStored, Stored}

-- what is read for a mark: nothing for one of no byte, else what fits
pub again_none : (tells : Bool) (t : Stored) (m : Mark) → is_empty m ≡ true → IsReadAgain tells t m []
again_none tells t m empty =
    let parts = and_parts (nat_eq m.length 0) (not m.is_long) empty in
    record { mark = λ some. absurd (some refl); same = λ some. absurd (some refl); none = λ e. (is_zero m.length parts.0, is_no m.is_long parts.1) }
  where
    is_zero : (n : ℕ) → nat_eq n 0 ≡ true → n ≡ 0
    is_zero n h = grind (arith, nat_tests)

    is_no : (b : Bool) → not b ≡ true → b ≡ false
    is_no false h = refl
    is_no true h = absurd (false≢true h)

pub again_fits : (tells : Bool) (t : Stored) (m : Mark) (bytes : List ℕ) → fits m bytes ≡ true → (tells ≡ true → t m.id ≡ Some bytes) → IsReadAgain tells t m bytes
again_fits tells t m bytes fit told =
    let is = fits_mark m bytes fit in
    record {
      mark = λ some. is;
      same = λ some u. told u;
      none = λ e. (
        sym (ap (λ (k : Mark). k.length) is) ∙ ap (λ (b : List ℕ). length b % 2 ^ 32) e,
        sym (ap (λ (k : Mark). k.is_long) is) ∙ ap (λ (b : List ℕ). nat_le (2 ^ 32) (length b)) e,
      );
    }

again_as : (tells now_tells : Bool) (t now : Stored) (m : Mark) (bytes : List ℕ) → now_tells ≡ tells → now ≡ t → IsReadAgain now_tells now m bytes → IsReadAgain tells t m bytes
again_as tells now_tells t now m bytes same told r = subst (λ b. IsReadAgain b t m bytes) same (subst (λ x. IsReadAgain now_tells x m bytes) told r)

again_more : (tells : Bool) (t : Stored) (ms : List Mark) (cs : List (List ℕ)) (m : Mark) (c : List ℕ) → AreReadAgain tells t ms cs → IsReadAgain tells t m c → AreReadAgain tells t (ms ++ m ∷ []) (cs ++ c ∷ [])
again_more tells t [] [] m c r one = (one, tt)
again_more tells t [] (d ∷ cs) m c r one = absurd r
again_more tells t (n ∷ ms) [] m c r one = absurd r
again_more tells t (n ∷ ms) (d ∷ cs) m c r one = (r.0, again_more tells t ms cs m c r.1 one)

-- a step in a run: a count that began lower, and a store of which more is known
find_within : (A B : Type 0) (changed known : Type 0) (store store_then store_now : ℕ) (e : StreamError) → (changed → known) → store ≤ store_then → FindCauses {A = B} changed store_then store_now (Err e) → FindCauses {A = A} known store store_now (Err e)
find_within A B changed known s st sn StoreChanged more so c = more c
find_within A B changed known s st sn (Convert (StoreFault place)) more so c = (c.0, omega (arith, so, c.1))
find_within A B changed known s st sn (Convert OutOfMemory) more so c = tt
find_within A B changed known s st sn (Convert _) more so c = absurd c

-- a tile that was hashed by its coordinate
pub hashed_as : (tells : Bool) (t : Stored) (a : HashAlgorithm) (before : List ℕ) (m : Mark) (s : HashStream) (c : Coord) (bytes : List ℕ) → c ≡ coord_of m.id → IsReadAgain tells t m bytes → HasTaken a s (before ++ tile_text (place_at c, Some bytes)) → IsHashed tells t a before m s
hashed_as tells t a before m s c bytes is read taken = record {
  bytes = bytes;
  read = read;
  taken = subst (λ d. HasTaken a s (before ++ tile_text (place_at d, Some bytes))) is taken;
}

-- one more tile
tiles_more : (tells : Bool) (t : Stored) (ms : List Mark) (cs : List (List ℕ)) (m : Mark) (c : List ℕ) → AreReadAgain tells t ms cs → tiles_with (ms ++ m ∷ []) (cs ++ c ∷ []) ≡ tiles_with ms cs ++ (place_with m.id, Some c) ∷ []
tiles_more tells t [] [] m c r = refl
tiles_more tells t [] (d ∷ cs) m c r = absurd r
tiles_more tells t (n ∷ ms) [] m c r = absurd r
tiles_more tells t (n ∷ ms) (d ∷ cs) m c r = ap (λ l. (place_with n.id, Some d) ∷ l) (tiles_more tells t ms cs m c r.1)

module _ (tells now_tells : Bool) (t now : Stored) (marks : List Mark) (spots : List Spot) (i : ℕ) (e : Spot) (d read_mark : Mark) (read_is : read_mark ≡ get_or marks (get_or spots i e).index d) (far : i < length spots) (within : All (λ s. s.index < length marks) spots) (same : now_tells ≡ tells) (told : now ≡ t) where
  abbrev s : Spot
  s = get_or spots i e

  abbrev ms : List Mark
  ms = marks_at marks (take i spots)

  at : s.index < length marks
  at = All-get_or (λ (s : Spot). s.index < length marks) spots i e far within

  pub hashed_next : (a : HashAlgorithm) (old new : HashStream) (so : AreHashed tells t a ms old) → IsHashed now_tells now a (flat_map tile_text (tiles_with ms so.contents)) read_mark new → AreHashed tells t a (marks_at marks (take (i + 1) spots)) new
  hashed_next a old new so one =
      let m = mark_at marks s in
      let is : read_mark ≡ m = read_is ∙ get_or_default marks s.index d no_mark at in
      let front : ms ++ m ∷ [] ≡ marks_at marks (take (i + 1) spots) = sym (map-append (mark_at marks) (take i spots) (s ∷ [])) ∙ sym (ap (marks_at marks) (take_more spots i e far)) in
      let read : IsReadAgain tells t m one.bytes = subst (λ n. IsReadAgain tells t n one.bytes) is (again_as tells now_tells t now read_mark one.bytes same told one.read) in
      let taken = subst (λ (n : Mark). HasTaken a new (flat_map tile_text (tiles_with ms so.contents) ++ tile_text (place_with n.id, Some one.bytes))) is one.taken in
      let texts : flat_map tile_text (tiles_with ms so.contents) ++ tile_text (place_with m.id, Some one.bytes) ≡ flat_map tile_text (tiles_with (ms ++ m ∷ []) (so.contents ++ one.bytes ∷ [])) =
      ap (λ l. flat_map tile_text (tiles_with ms so.contents) ++ l) (sym (append-nil (tile_text (place_with m.id, Some one.bytes)))) ∙ sym (flat_map-append tile_text (tiles_with ms so.contents) ((place_with m.id, Some one.bytes) ∷ [])) ∙ sym (ap (flat_map tile_text) (tiles_more tells t ms so.contents m one.bytes so.read)) in
      subst (λ l. AreHashed tells t a l new) front (record {
        contents = so.contents ++ one.bytes ∷ [];
        read = again_more tells t ms so.contents m one.bytes so.read read;
        taken = subst (HasTaken a new) texts taken;
      })

  -- a tile of a store that tells is there again
  pub hash_refused : (A : Type 0) (store store_then store_now : ℕ) (x : StreamError) → (tells ≡ true → All (IsStored t) marks) → store ≤ store_then → FindCauses {A = A} (IsChanged now_tells now read_mark) store_then store_now (Err x) → FindCauses {A = A} (tells ≡ false) store store_now (Err x)
  hash_refused A store store_then store_now x stored least c =
      find_within A A (IsChanged now_tells now read_mark) (tells ≡ false) store store_then store_now x
      (changed_untold tells now_tells t now read_mark same told (λ u. subst (IsStored t) (sym read_is) (All-get_or (IsStored t) marks s.index d at (stored u)))) least c
