use Rattle.tile_hash.proofs.Common.{arith, length, refl, ◌%◌, ◌/◌, ◌∙◌, ◌≡◌}
use Rattle.tile_hash.proofs.Xxh64StreamLemmas.{lanes_begin, lanes_behind, taken_whole}
use Rattle.tile_hash.proofs.xxh_64.stream.Xxh64Stream.take_stripes.Goals as goal

pub loop-i-init : goal.loop-i-init
loop-i-init c = λ m took whole. lanes_begin c.args.self.now m c.args.piece.now took whole

pub loop-i-preserved : goal.loop-i-preserved
loop-i-preserved c = λ m took whole. c.striped-next.ensures ∙ lanes_behind c.loop-i.v m c.args.piece.now c.loop-i.i whole (c.loop-i.invariant m took whole)

pub returns-clause-taken : goal.returns-clause-taken
returns-clause-taken c = λ m took.
    let whole : length m % 32 ≡ 0 = omega (arith, took.total, c.requires.none) in
    let all : c.loop-i.i ≡ length c.args.piece.now / 32 = omega arith in
    taken_whole c.args.self.now _ m c.args.piece.now c.loop-i.v took whole c.requires.whole (rw all at (c.loop-i.invariant m took whole)) refl
