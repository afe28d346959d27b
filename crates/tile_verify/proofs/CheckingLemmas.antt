-- The check of a whole archive, over bytes that may be told.
use Rattle.tile_verify.proofs.Common.{Answers, ap, Broken, capped, counted, Entry, Err, Fault, Header, header_of, IfSome, IsBreak, IsOpen, List, map, MAX_TILE_ID, MeetsAll, Met, None, Ok, Opened, opened, Opening}
use Rattle.tile_verify.proofs.Common.{Option, OutOfMemory, part_of, report_by, report_of, root_of, root_spot, Short, Some, subst, sym, tiles_below, tiles_of, VerifyError, VerifyReport, walk_of, walked, Walks, with_runs}
use Rattle.tile_verify.proofs.Common.{Result, ℕ, [], ◌++◌, ◌+◌, ◌∙◌, ◌≡◌}
use Rattle.pm_reader.specs.declared.state.ReaderState.{ReaderState}
use Rattle.tile_verify.proofs.SoundLemmas.{same_opened, sound_from_walk}
use Rattle.tile_verify.proofs.WalkingLemmas.{counted_from_zero}

-- nothing was met before
abbrev pub IsFirst : Met → Type 0
IsFirst m = (m.directories ≡ 0) × (m.tiles.items ≡ []) × (m.ids ≡ None)

-- the answer of a walk, with what was met
abbrev pub with_met : Met → Result Unit VerifyError → Result Met VerifyError
with_met m (Ok x) = Ok m
with_met m (Err e) = Err e

-- what a walk from nothing leaves
met_all : (b : List ℕ) (o : Opened) (old new : Met) (r : Result Unit VerifyError) → IsFirst old → Walks (walk_of b o) (tiles_of b o) old new r → MeetsAll b o (with_met new r)
met_all b o old new (Ok x) first w = (
  w.0,
  record {
    directories = w.1.directories ∙ ap (λ n. counted n (walk_of b o).directories) first.0 ∙ counted_from_zero (walk_of b o).directories;
    tiles = w.1.tiles ∙ ap (λ l. l ++ map part_of (tiles_of b o)) first.1;
    ids = w.1.ids ∙ ap (λ i. with_runs i (tiles_of b o)) first.2;
  },
)
met_all b o old new (Err (Broken at why n)) first w = (w.0, w.1 ∙ ap (λ k. counted k (walk_of b o).directories) first.0 ∙ counted_from_zero (walk_of b o).directories)
met_all b o old new (Err Fault) first w = tt
met_all b o old new (Err OutOfMemory) first w = tt
met_all b o old new (Err x) first w = absurd w

pub told_met : (told : Option (List ℕ)) (h : Header) (root whole : List Entry) (old new : Met) (r : Result Unit VerifyError) → root ≡ whole → IsFirst old
    → IfSome told (λ b. Walks (walked 6 h b root_spot 0 (MAX_TILE_ID + 1) root) (tiles_below 6 h b root) old new r) → IfSome told (λ b. MeetsAll b (h, whole) (with_met new r))
told_met None h root whole old new r same first w = tt
told_met (Some b) h root whole old new r same first w =
    met_all b (h, whole) old new r first (subst (λ es. Walks (walked 6 h b root_spot 0 (MAX_TILE_ID + 1) es) (tiles_below 6 h b es) old new r) same w)

pub sound : (b : List ℕ) (s : ReaderState) (met : Met) (r : VerifyReport) → opened b ≡ Ok (header_of s, root_of s) → MeetsAll b (header_of s, root_of s) (Ok met) → r ≡ report_by met.directories met.tiles.items → Answers b (Ok r)
sound b s met r opens m is =
    let o : Opened = (header_of s, root_of s) in (
      sound_from_walk b o opens m.0,
      λ p at. is ∙ ap (λ n. report_by n met.tiles.items) m.1.directories ∙ ap (report_by (capped (walk_of b o).directories)) m.1.tiles ∙ ap (report_of b) (same_opened o p (sym opens ∙ at)),
    )

pub told_sound : (told last : Option (List ℕ)) (s : ReaderState) (met : Met) (r : VerifyReport) → last ≡ told → IsOpen last s → r ≡ report_by met.directories met.tiles.items
    → IfSome last (λ b. MeetsAll b (header_of s, root_of s) (Ok met)) → IfSome told (λ b. Answers b (Ok r))
told_sound None last s met r same opens is m = tt
told_sound (Some b) last s met r same opens is m =
    sound b s met r (subst (λ a. IsOpen a s) same opens) (subst (λ a. IfSome a (λ c. MeetsAll c (header_of s, root_of s) (Ok met))) same m) is
