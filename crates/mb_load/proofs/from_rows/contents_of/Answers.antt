use Rattle.mb_load.proofs.Common.{all_new, all_present, are_distinct, AreContentsInOrder, cell_cmp, Content, content_from, content_kind_wrong, false, id_at, ids_from, ids_pass, ids_refused, IfNone}
use Rattle.mb_load.proofs.Common.{IfSome, IsPermutation, kinds_pass, kinds_refused, List, map, Option, option_or, rows_same, rules, subst, sym, tile_kind_wrong, true, ◌∙◌, ◌≡◌}
use Rattle.mb_lists.specs.declared.content_list.ContentList.{ContentList}
use Rattle.mb_load.proofs.from_rows.contents_of.Goals as goal

pub in_order-requires : goal.in_order-requires
in_order-requires c = all_present c.in_ok-items.items.items c.args.contents.items c.in_ok-items.ensures

pub returns-in-None-clause-tests : goal.returns-in-None-clause-tests
returns-in-None-clause-tests c =
    let twice = subst (λ (o : Option ContentList). IfNone o (are_distinct cell_cmp (map (id_at c.in_ok-items.items.items) (ids_from 0 c.in_ok-items.items.items)) ≡ false)) c.in-None.is c.in_ok-ordered.ensures.twice in
    (λ h. ids_refused c.in_ok-items.items.items c.args.contents.items (option_or (tile_kind_wrong c.args.layout c.args.rows.now) (content_kind_wrong c.args.layout c.args.contents.items)) c.in_ok-items.ensures twice, λ e. cc)

pub returns-then-not-have_kinds-clause-tests : goal.returns-then-not-have_kinds-clause-tests
returns-then-not-have_kinds-clause-tests c =
    let order : AreContentsInOrder c.in-Some.contents.items.items c.in-Some.contents.live c.in-Some.contents.order.items = subst (λ (o : Option ContentList). IfSome o (λ l. AreContentsInOrder l.items.items l.live l.order.items)) c.in-Some.is c.in_ok-ordered.ensures.order in
    let items : c.in-Some.contents.items.items ≡ c.in_ok-items.items.items = subst (λ (o : Option ContentList). IfSome o (λ l. l.items.items ≡ c.in_ok-items.items.items)) c.in-Some.is c.in_ok-ordered.ensures.items in
    let same : IsPermutation (ids_from 0 c.in-Some.contents.items.items) c.in-Some.contents.order.items = subst (λ (k : List Content). IsPermutation (ids_from 0 k) c.in-Some.contents.order.items) (sym items) (subst (λ (o : Option ContentList). IfSome o (λ l. IsPermutation (ids_from 0 c.in_ok-items.items.items) l.order.items)) c.in-Some.is c.in_ok-ordered.ensures.same) in
    let rows : c.in-Some.contents.items.items ≡ map content_from c.args.contents.items = items ∙ c.in_ok-items.ensures in
    let failed : c.have_kinds.result ≡ false = search rules in
    (λ h. kinds_refused c.args.layout c.in-Some.contents.items.items c.args.contents.items c.args.rows.now rows (ids_pass c.in-Some.contents.items.items c.in-Some.contents.live c.in-Some.contents.order.items c.args.contents.items rows order same) (sym c.have_kinds.ensures ∙ failed), λ e. cc)

pub returns-clause-tests : goal.returns-clause-tests
returns-clause-tests c =
    let order : AreContentsInOrder c.in-Some.contents.items.items c.in-Some.contents.live c.in-Some.contents.order.items = subst (λ (o : Option ContentList). IfSome o (λ l. AreContentsInOrder l.items.items l.live l.order.items)) c.in-Some.is c.in_ok-ordered.ensures.order in
    let items : c.in-Some.contents.items.items ≡ c.in_ok-items.items.items = subst (λ (o : Option ContentList). IfSome o (λ l. l.items.items ≡ c.in_ok-items.items.items)) c.in-Some.is c.in_ok-ordered.ensures.items in
    let same : IsPermutation (ids_from 0 c.in-Some.contents.items.items) c.in-Some.contents.order.items = subst (λ (k : List Content). IsPermutation (ids_from 0 k) c.in-Some.contents.order.items) (sym items) (subst (λ (o : Option ContentList). IfSome o (λ l. IsPermutation (ids_from 0 c.in_ok-items.items.items) l.order.items)) c.in-Some.is c.in_ok-ordered.ensures.same) in
    let rows : c.in-Some.contents.items.items ≡ map content_from c.args.contents.items = items ∙ c.in_ok-items.ensures in
    let passed : c.have_kinds.result ≡ true = search rules in
    kinds_pass c.args.layout c.in-Some.contents.items.items c.args.contents.items c.args.rows.now rows (ids_pass c.in-Some.contents.items.items c.in-Some.contents.live c.in-Some.contents.order.items c.args.contents.items rows order same) (sym c.have_kinds.ensures ∙ passed)

pub returns-clause-kept : goal.returns-clause-kept
returns-clause-kept c =
    let order : AreContentsInOrder c.in-Some.contents.items.items c.in-Some.contents.live c.in-Some.contents.order.items = subst (λ (o : Option ContentList). IfSome o (λ l. AreContentsInOrder l.items.items l.live l.order.items)) c.in-Some.is c.in_ok-ordered.ensures.order in
    let items : c.in-Some.contents.items.items ≡ c.in_ok-items.items.items = subst (λ (o : Option ContentList). IfSome o (λ l. l.items.items ≡ c.in_ok-items.items.items)) c.in-Some.is c.in_ok-ordered.ensures.items in
    let same : IsPermutation (ids_from 0 c.in-Some.contents.items.items) c.in-Some.contents.order.items = subst (λ (k : List Content). IsPermutation (ids_from 0 k) c.in-Some.contents.order.items) (sym items) (subst (λ (o : Option ContentList). IfSome o (λ l. IsPermutation (ids_from 0 c.in_ok-items.items.items) l.order.items)) c.in-Some.is c.in_ok-ordered.ensures.same) in
    let rows : c.in-Some.contents.items.items ≡ map content_from c.args.contents.items = items ∙ c.in_ok-items.ensures in
    rows_same c.in-Some.contents.items.items c.args.contents.items rows c.requires

pub returns-clause-indexed : goal.returns-clause-indexed
returns-clause-indexed c =
    let order : AreContentsInOrder c.in-Some.contents.items.items c.in-Some.contents.live c.in-Some.contents.order.items = subst (λ (o : Option ContentList). IfSome o (λ l. AreContentsInOrder l.items.items l.live l.order.items)) c.in-Some.is c.in_ok-ordered.ensures.order in
    let items : c.in-Some.contents.items.items ≡ c.in_ok-items.items.items = subst (λ (o : Option ContentList). IfSome o (λ l. l.items.items ≡ c.in_ok-items.items.items)) c.in-Some.is c.in_ok-ordered.ensures.items in
    let same : IsPermutation (ids_from 0 c.in-Some.contents.items.items) c.in-Some.contents.order.items = subst (λ (k : List Content). IsPermutation (ids_from 0 k) c.in-Some.contents.order.items) (sym items) (subst (λ (o : Option ContentList). IfSome o (λ l. IsPermutation (ids_from 0 c.in_ok-items.items.items) l.order.items)) c.in-Some.is c.in_ok-ordered.ensures.same) in
    let rows : c.in-Some.contents.items.items ≡ map content_from c.args.contents.items = items ∙ c.in_ok-items.ensures in
    record { rising = order; listed = same; present = all_present c.in-Some.contents.items.items c.args.contents.items rows }

pub returns-clause-fresh : goal.returns-clause-fresh
returns-clause-fresh c =
    let order : AreContentsInOrder c.in-Some.contents.items.items c.in-Some.contents.live c.in-Some.contents.order.items = subst (λ (o : Option ContentList). IfSome o (λ l. AreContentsInOrder l.items.items l.live l.order.items)) c.in-Some.is c.in_ok-ordered.ensures.order in
    let items : c.in-Some.contents.items.items ≡ c.in_ok-items.items.items = subst (λ (o : Option ContentList). IfSome o (λ l. l.items.items ≡ c.in_ok-items.items.items)) c.in-Some.is c.in_ok-ordered.ensures.items in
    let same : IsPermutation (ids_from 0 c.in-Some.contents.items.items) c.in-Some.contents.order.items = subst (λ (k : List Content). IsPermutation (ids_from 0 k) c.in-Some.contents.order.items) (sym items) (subst (λ (o : Option ContentList). IfSome o (λ l. IsPermutation (ids_from 0 c.in_ok-items.items.items) l.order.items)) c.in-Some.is c.in_ok-ordered.ensures.same) in
    let rows : c.in-Some.contents.items.items ≡ map content_from c.args.contents.items = items ∙ c.in_ok-items.ensures in
    all_new c.in-Some.contents.items.items c.args.contents.items rows
