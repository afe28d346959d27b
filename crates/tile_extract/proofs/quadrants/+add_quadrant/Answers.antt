use Rattle.tile_extract.proofs.Common.{ap, arith, block_start, Gathered, OnOk, subst, sym, ◌*◌, ◌+◌, ◌∙◌, ◌≡◌}
use Rattle.tile_extract.proofs.NumberLemmas.{children_below}
use Rattle.tile_extract.proofs.QuadrantLemmas.{first_child, last_child, left_out, taken_all}
use Rattle.tile_extract.proofs.quadrants.+add_quadrant.Goals as goal

pub returns-then-not-any_meets : goal.returns-then-not-any_meets
returns-then-not-any_meets t c = λ wanted wants g.
    left_out c.args.boxes.now wanted c.args.zoom c.args.level c.args.number c.tile_of.result c.area_of-area.result c.any_meets.result c.args.found.now.items
    (record { coord = c.tile_of.ensures.coord; level_is = c.tile_of.ensures.zoom; number_is = c.tile_of.ensures.number; low = c.requires.level; most = c.requires.zoom; area_is = c.area_of-area.ensures })
    c.any_meets.ensures c.if-not-any_meets.true wants g

pub returns-then-is_taken : goal.returns-then-is_taken
returns-then-is_taken t c = λ wanted wants g.
    let all = taken_all c.args.boxes.now wanted c.args.zoom c.args.level c.args.number c.tile_of.result c.area_of-area.result c.any_meets.result
    (record { coord = c.tile_of.ensures.coord; level_is = c.tile_of.ensures.zoom; number_is = c.tile_of.ensures.number; low = c.requires.level; most = c.requires.zoom; area_is = c.area_of-area.ensures })
    c.any_meets.ensures c.if-not-any_meets.false (c.is_taken.ensures.taken c.if-is_taken.true) wants in
    subst (λ n. OnOk c.add_interval.result (Gathered wanted n c.add_interval.new.found.items)) c.block_of-first.ensures.last
    (c.add_interval.ensures wanted (subst (λ n. Gathered wanted n c.args.found.now.items) (sym c.block_of-first.ensures.first) g)
    (λ id from below. all id (omega (arith, c.block_of-first.ensures.first, from)) (omega (arith, c.block_of-first.ensures.last, below))))

pub overflow_mul-children : goal.overflow_mul-children
overflow_mul-children t c =
    let other = c.is_taken.ensures.left c.if-is_taken.false in
    let b = children_below c.args.zoom c.args.level c.args.number (omega (arith, other, c.requires.level)) c.requires.zoom c.requires.number in
    omega (arith, b.0, b.1)

pub overflow_add-child-end : goal.overflow_add-child-end
overflow_add-child-end t c =
    let other = c.is_taken.ensures.left c.if-is_taken.false in
    let b = children_below c.args.zoom c.args.level c.args.number (omega (arith, other, c.requires.level)) c.requires.zoom c.requires.number in
    omega (arith, b.0, b.1)

pub loop-child-init : goal.loop-child-init
loop-child-init t c = λ wanted wants g.
    let other = c.is_taken.ensures.left c.if-is_taken.false in
    subst (λ n. Gathered wanted n c.args.found.now.items) (sym (first_child c.args.zoom c.args.level c.args.number (omega (arith, other, c.requires.level)))) g

pub returns : goal.returns
returns t c = λ wanted wants g.
    let other = c.is_taken.ensures.left c.if-is_taken.false in
    let last : c.loop-child.child ≡ 4 * c.args.number + 4 = omega (arith, c.loop-child-test.false, c.loop-child.auto.child-end) in
    subst (λ n. Gathered wanted n c.loop-child.found.items)
    (ap (block_start c.args.zoom (c.args.level + 1)) last ∙ last_child c.args.zoom c.args.level c.args.number (omega (arith, other, c.requires.level))) (c.loop-child.invariant wanted wants g)
