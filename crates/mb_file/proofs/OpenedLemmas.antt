-- The pages that bytes stand for, from call to call.
use Rattle.std.proofs.Common.{ap, IsTrue, length, List, None, Option, Some, subst, subst₂, sym, ℕ, ◌∙◌, ◌≡◌}
use Rattle.sqlite_disk.specs.declared.Disk.{Ghosts}
use Rattle.sqlite_disk.specs.declared.files.Files.{Files}
use Rattle.sqlite_pager.specs.Pager.{current, files, image, state, visible}
use Rattle.sqlite_pager.specs.declared.pager.Pager.{Pager}
use Rattle.sqlite_wal.specs.PageSize.{bytes_of, Names}
use Rattle.sqlite_wal.specs.Reads.{AreClean}
use Rattle.sqlite_wal.specs.Recovery.{Image, Pages, Recovers}
use Rattle.sqlite_wal.specs.declared.page_size.PageSize.{PageSize}
use Rattle.mb_file.specs.Recovered.{image_of, IsRecovered, used_by}

-- the size that is named
pub named_size : (o : Option PageSize) (size : PageSize) (n : ℕ) → o ≡ Some size → Names o n → bytes_of size ≡ n
named_size None size n is names = absurd (let e = is in cc)
named_size (Some found) size n is names = let same : found ≡ size = cc in ap bytes_of (sym same) ∙ names.1

same_some : {X : Type 0} (x y : X) → Some x ≡ Some y → x ≡ y
same_some x y is = cc

module _ {D : Type 0} {g : Ghosts D} where
  -- what a pager shows once it was recovered and its first page is loaded
  pub recovered_by : (old mid new : Pager D g) (usable : ℕ) (loaded : List ℕ) → Recovers (state old).page_size (image old) (state mid).committed → visible mid ≡ (state mid).committed
      → visible new ≡ visible mid → (state new).page_size ≡ (state mid).page_size → (state mid).page_size ≡ (state old).page_size → visible mid 1 ≡ Some (current new) → loaded ≡ current new
      → length loaded ≡ (state new).page_size → usable ≡ used_by loaded (length loaded) → IsRecovered (image old) new usable
  recovered_by old mid new usable loaded recovers shows same sized size first is long used = record {
    recovers = subst₂ (λ (n : ℕ) (p : Pages). Recovers n (image old) p) (sym (sized ∙ size)) (sym (same ∙ shows)) recovers;
    used = λ page there.
        let one : loaded ≡ page = is ∙ same_some (current new) page (sym first ∙ ap (λ (p : Pages). p 1) (sym same) ∙ there) in
        used ∙ ap (used_by loaded) long ∙ ap (λ bs. used_by bs (state new).page_size) one;
  }

  -- the bytes of a pager's files
  pub image_by : (pager : Pager D g) (pair : Files D) → files pager ≡ (pair.log, pair.db) → image pager ≡ image_of g pair
  image_by pager pair is = ap (λ (f : D × D). record { log = g.seen f.0; db = g.seen f.1 }) is

  pub clean_by : (pager : Pager D g) (pair : Files D) → files pager ≡ (pair.log, pair.db) → IsTrue (state pager).is_clean → AreClean g pair.log pair.db
  clean_by pager pair is clean = subst (λ (f : D × D). AreClean g f.0 f.1) is clean
