use Rattle.mb_file.proofs.OrderLemmas.{in_order_still}
use Rattle.mb_file.proofs.listing.Listing.page.Goals as goal

pub returns-clause-lists : goal.returns-clause-lists
returns-clause-lists g c = λ trusted layout rows laid stored listed.
    let stands = c.page.ensures.stands trusted layout rows laid stored listed.stands in (
      record {
        stands = stands.0;
        notes = c.page.ensures.notes trusted layout rows laid stored listed.stands listed.notes;
        rowids = listed.rowids;
        sorted = λ is. in_order_still c.args.self.now.scan c.page.new.self (listed.sorted is) c.page.ensures.still;
      },
      stands.1,
    )
