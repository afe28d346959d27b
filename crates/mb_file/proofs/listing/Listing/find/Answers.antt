use Rattle.std.proofs.Common.{arith, IfOk, ◌≡◌}
use Rattle.std.specs.Prelude.{find}
use Rattle.std.proofs.lemmas.Result.{err_from_is_err_and}
use Rattle.mb_tables.specs.Key.{has_key}
use Rattle.mb_file.proofs.OrderLemmas.{in_order_still, looked_up}
use Rattle.mb_file.specs.FilePages.{IsTrusted, pages_of}
use Rattle.mb_file.specs.Listing.{AreApart, IsListed}
use Rattle.mb_file.proofs.listing.Listing.find.Goals as goal

pub returns-in_err-complete-clause-lists : goal.returns-in_err-complete-clause-lists
returns-in_err-complete-clause-lists g c = λ trusted layout rows laid stored listed.
    let p = err_from_is_err_and c.from_residual.result c.from_residual.ensures.1 in (
      record {
        stands = c.complete.ensures.stands trusted layout rows laid stored listed.stands;
        notes = c.complete.ensures.notes trusted layout rows laid stored listed.stands listed.notes;
        rowids = listed.rowids;
        sorted = λ is. in_order_still c.args.self.now.scan c.complete.new.self (listed.sorted is) c.complete.ensures.still;
      },
      λ apart. rw p.1 tt,
    )

pub returns-clause-lists : goal.returns-clause-lists
returns-clause-lists g c = λ trusted layout rows laid stored listed.
    let clean : IsTrusted c.complete.new.source.pages = omega (arith, trusted, c.look_up.ensures.kept.clean) in
    let read : IsListed layout c.args.source.now.pages.usable (pages_of c.args.source.now.pages) c.args.source.now.secret c.args.table rows (record c.args.self.now { scan = c.complete.new.self }) =
    record {
      stands = c.complete.ensures.stands clean layout rows laid stored listed.stands;
      notes = c.complete.ensures.notes clean layout rows laid stored listed.stands listed.notes;
      rowids = listed.rowids;
      sorted = λ is. in_order_still c.args.self.now.scan c.complete.new.self (listed.sorted is) c.complete.ensures.still;
    } in
    let ordered = c.put_in_order.ensures.listed layout _ _ _ _ rows c.in_ok-complete.ensures.whole read in (
      ordered,
      λ apart.
          looked_up c.args.source.now.pages c.complete.new.source.pages c.look_up.new.source.pages c.args.source.now.secret c.complete.new.source.secret c.args.table c.args.self.now.of c.put_in_order.new.self
          (λ all. AreApart c.args.table all → IfOk c.look_up.result (λ row. row ≡ find (has_key c.args.table c.args.key.now) all))
          c.complete.ensures.secret c.complete.ensures.pages c.complete.ensures.kept c.put_in_order.ensures.of c.look_up.ensures.finds trusted layout rows laid stored ordered c.put_in_order.ensures.sorted apart,
    )
