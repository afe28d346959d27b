use Rattle.mb_loaded.proofs.Common.{ap, Content, false, length, List, listed, nat_eq, put_content, refl, sym, ℕ, [], ◌++◌, ◌∙◌, ◌∷◌, ◌≡◌}
use Rattle.mb_loaded.proofs.EditViews.{put_ids}
use Rattle.mb_loaded.proofs.ShareLemmas.{shared_dated, shared_view, shared_whole}
use Rattle.mb_loaded.proofs.editing.Editing.set_tiles.Goals as goal

pub invariant_of-self-2 : goal.invariant_of-self-2
invariant_of-self-2 c =
    let l = c.self.inside in
    let i = c.self.invariant in
    let order = c.list_id.ensures ∙ ap (λ (o : List ℕ). o ++ listed c.is_null.result c.len-contents.result) c.reserve.ensures.items in
    let content = put_content c.in_ok-id.id c.args.bytes in
    let contents = c.push_reserved.ensures.items ∙ ap (λ (x : List Content). x ++ content ∷ []) c.reserve-2.ensures.items in
    let index : c.len-contents.result ≡ length l.contents.items = c.len-contents.ensures ∙ (c.reserve-2.ensures.len ∙ l.contents.ok.0) in (
      shared_whole l.layout l.algorithm l.patch_type l.contents.items l.order.items l.tiles.items l.names.items i.0 i.1 c.args.coords.now content c.len-contents.result c.push_reserved.new.self.items c.put_at_each.new.tiles.items refl index contents c.in_ok-put_at_each.ensures.ok,
      put_ids l.layout l.algorithm l.patch_type l.contents.items l.order.items l.tiles.items l.names.items i.0 i.1 c.args.bytes c.in_ok-id.id c.is_null.result c.len-contents.result c.push_reserved.new.self.items c.list_id.new.order.items c.is_null.ensures index contents order,
      shared_dated l.layout l.algorithm l.patch_type l.contents.items l.order.items l.tiles.items l.names.items i.0 i.1 c.args.coords.now c.len-contents.result c.put_at_each.new.tiles.items i.2 c.in_ok-put_at_each.ensures.ok,
      i.3,
    )

pub returns-clause-ok : goal.returns-clause-ok
returns-clause-ok c =
    let l = c.self.inside in
    let i = c.self.invariant in
    let order = c.list_id.ensures ∙ ap (λ (o : List ℕ). o ++ listed c.is_null.result c.len-contents.result) c.reserve.ensures.items in
    let content = put_content c.in_ok-id.id c.args.bytes in
    let contents = c.push_reserved.ensures.items ∙ ap (λ (x : List Content). x ++ content ∷ []) c.reserve-2.ensures.items in
    let index : c.len-contents.result ≡ length l.contents.items = c.len-contents.ensures ∙ (c.reserve-2.ensures.len ∙ l.contents.ok.0) in
    let some : nat_eq (length c.args.coords.now) 0 ≡ false = sym c.is_empty.ensures ∙ c.if-is_empty.false in
    rw (← c.self.view_is) (shared_view l.layout l.algorithm l.patch_type l.contents.items l.order.items l.tiles.items l.names.items i.0 i.1 c.args.coords.now some c.args.bytes c.as_bytes.result.now c.in_ok-id.id c.is_null.result c.len-contents.result c.push_reserved.new.self.items c.list_id.new.order.items c.put_at_each.new.tiles.items c.as_bytes.ensures c.in_ok-id.ensures c.is_null.ensures index contents order c.in_ok-put_at_each.ensures.ok)
