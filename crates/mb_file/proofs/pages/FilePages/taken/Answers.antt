use Rattle.std.proofs.Common.{arith}
use Rattle.sqlite_pager.proofs.PagerLemmas.{visible_counted}
use Rattle.sqlite_pool.specs.StoredLaws.{trimmed_counted}
use Rattle.mb_file.proofs.MarkLemmas.{without_flag}
use Rattle.mb_file.proofs.pages.FilePages.taken.Goals as goal

pub returns : goal.returns
returns g c = record {
  live = λ is_open n unset.
      let among = without_flag c.loop-before.taken.items c.args.self.now.pager.count n (omega (arith, c.loop-before.invariant.long, c.page_count-before-end.ensures)) c.loop-before.invariant.first unset in
      (trimmed_counted c.args.self.now.usable _ _ (visible_counted c.args.self.now.pager is_open) n).1 (omega (arith, among.0)) among.1;
}
