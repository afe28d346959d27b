use Rattle.std.proofs.lemmas.Result.{err_from_is_err_and}
use Rattle.mb_file.proofs.NotedLemmas.{all_counted}
use Rattle.mb_file.proofs.OrderLemmas.{in_order_still}
use Rattle.mb_file.proofs.listing.Listing.count.Goals as goal

pub returns-in_err-complete-clause-lists : goal.returns-in_err-complete-clause-lists
returns-in_err-complete-clause-lists g c = λ trusted layout rows laid stored listed.
    let notes = c.complete.ensures.notes trusted layout rows laid stored listed.stands listed.notes in
    let p = err_from_is_err_and c.from_residual.result c.from_residual.ensures.1 in (
      record {
        stands = c.complete.ensures.stands trusted layout rows laid stored listed.stands;
        notes = notes;
        rowids = listed.rowids;
        sorted = λ is. in_order_still c.args.self.now.scan c.complete.new.self (listed.sorted is) c.complete.ensures.still;
      },
      rw p.1 tt,
    )

pub returns-clause-lists : goal.returns-clause-lists
returns-clause-lists g c = λ trusted layout rows laid stored listed.
    let notes = c.complete.ensures.notes trusted layout rows laid stored listed.stands listed.notes in (
      record {
        stands = c.complete.ensures.stands trusted layout rows laid stored listed.stands;
        notes = notes;
        rowids = listed.rowids;
        sorted = λ is. in_order_still c.args.self.now.scan c.complete.new.self (listed.sorted is) c.complete.ensures.still;
      },
      all_counted c.args.source.now.secret c.args.self.now.table c.args.self.now.of.columns rows c.complete.new.self c.in_ok-complete.ensures.whole notes,
    )
