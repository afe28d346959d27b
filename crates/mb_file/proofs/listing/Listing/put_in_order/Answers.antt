use Rattle.std.proofs.Common.{int_cmp}
use Rattle.std.specs.Ordering.{nat_cmp, ordering_then}
use Rattle.mb_file.proofs.OrderLemmas.{in_order, number_first, rises_sorted}
use Rattle.mb_file.proofs.listing.Listing.put_in_order.Goals as goal

pub returns-then-not-self-clause-listed : goal.returns-then-not-self-clause-listed
returns-then-not-self-clause-listed c = λ layout usable secret pages table rows ended listed.
    in_order layout usable pages secret table rows c.args.self.now c.sort_unstable.new.self ended c.sort_unstable.ensures.permutation (rises_sorted (λ x y. ordering_then (nat_cmp x.number y.number) (int_cmp x.place y.place)) (λ a b is. number_first a.number b.number (int_cmp b.place a.place) is) c.sort_unstable.new.self.items c.sort_unstable.ensures.sorted) listed
