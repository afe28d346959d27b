use Rattle.mb_edit.proofs.Common.{ap, bytes_of, Cell, cell_cmp, cond, digest, entries, IfSome, is_eq, List, Mark, Option, refl, Some, subst, sym, Text, ℕ, ◌∙◌, ◌≡◌}
use Rattle.std.specs.BTreeMap as tree
use Rattle.mb_edit.proofs.MarkLemmas.{met_more}
use Rattle.mb_edit.proofs.collision.meet.Goals as goal

pub returns-then-collides : goal.returns-then-collides
returns-then-collides c put marked =
    let a = c.args.base.now.state.algorithm in
    let bytes = c.in-Some.bytes.now in
    let mark : Mark = record { index = c.args.index; collides = c.collides_with-collides.result } in
    let is : c.args.id.now ≡ Text (digest a bytes) = subst (λ (o : Option (List ℕ)). IfSome o (λ bytes. c.args.id.now ≡ Text (digest a bytes))) (sym c.in-Some.ensures) c.requires in
    let says = c.collides_with-collides.ensures put is marked in
    met_more (digest a) c.args.base.now.state.contents (entries c.args.patch.now.state.tiles) put bytes c.args.marks.now (record { by_id = c.put_mark.new.by_id; first = c.args.index }) c.args.index c.collides_with-collides.result (digest a bytes) marked c.in-Some.ensures refl
    (λ q. c.in_ok-put_mark.ensures q ∙ ap (λ (i : Cell). cond (is_eq (cell_cmp i q)) (Some mark) (tree.get cell_cmp c.args.marks.now.by_id q)) (c.in_ok-id.ensures ∙ is)) says
    (sym c.in-Some.ensures ∙ ap (λ b. cond b (Some bytes) (bytes_of (entries c.args.patch.now.state.tiles) c.args.marks.now.first)) (sym c.if-collides.true))

pub returns-else-collides : goal.returns-else-collides
returns-else-collides c put marked =
    let a = c.args.base.now.state.algorithm in
    let bytes = c.in-Some.bytes.now in
    let mark : Mark = record { index = c.args.index; collides = c.collides_with-collides.result } in
    let is : c.args.id.now ≡ Text (digest a bytes) = subst (λ (o : Option (List ℕ)). IfSome o (λ bytes. c.args.id.now ≡ Text (digest a bytes))) (sym c.in-Some.ensures) c.requires in
    let says = c.collides_with-collides.ensures put is marked in
    met_more (digest a) c.args.base.now.state.contents (entries c.args.patch.now.state.tiles) put bytes c.args.marks.now (record { by_id = c.put_mark.new.by_id; first = c.args.marks.now.first }) c.args.index c.collides_with-collides.result (digest a bytes) marked c.in-Some.ensures refl
    (λ q. c.in_ok-put_mark.ensures q ∙ ap (λ (i : Cell). cond (is_eq (cell_cmp i q)) (Some mark) (tree.get cell_cmp c.args.marks.now.by_id q)) (c.in_ok-id.ensures ∙ is)) says
    (ap (λ b. cond b (Some bytes) (bytes_of (entries c.args.patch.now.state.tiles) c.args.marks.now.first)) (sym c.if-collides.false))
