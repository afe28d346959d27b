use Rattle.std.proofs.Common.{refl, subst, sym, ◌∙◌}
use Rattle.sqlite_pages.proofs.Doubt.{clean_of}
use Rattle.sqlite_pager.specs.Pager.{state, visible}
use Rattle.sqlite_wal.specs.Recovery.{Image}
use Rattle.mb_file.specs.Recovered.{IsRecovered, IsSizeOf}
use Rattle.mb_file.proofs.OpenedLemmas.{clean_by, image_by}
use Rattle.mb_file.proofs.pages.FilePages.open.Goals as goal

pub returns-in-Ok-recover-clause-found : goal.returns-in-Ok-recover-clause-found
returns-in-Ok-recover-clause-found g c = λ trusted.
    let clean = clean_of _ trusted in
    let same = image_by c.in_ok-pager.pager c.sizes.new.files c.in_ok-pager.ensures.files ∙ c.sizes.ensures.still.seen in
    let found = subst (λ (i : Image). IsRecovered i c.recover.new.pager c.in-Ok-recover.usable) same (c.in-Ok-recover.ensures.found clean) in
    record {
      size = (state c.recover.new.pager).page_size;
      all = visible c.recover.new.pager;
      sized = subst (IsSizeOf _) (sym (c.recover.ensures.size ∙ c.in_ok-pager.ensures.size))
          (c.in-Ok.ensures.size (clean_by c.in_ok-pager.pager c.sizes.new.files c.in_ok-pager.ensures.files (c.recover.ensures.honest clean)));
      recovers = found.recovers;
      used = found.used;
      shown = refl;
    }
