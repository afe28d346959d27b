use Rattle.mb_edit.proofs.Common.{ap, AreMarked, arith, blob_cell, Cell, cell_id, digest, drop, entries, filter_map, len-entries, length, length-map, List, slice_get, subst, sym, ◌-◌, ◌∙◌, ◌≡◌}
use Rattle.mb_edit.proofs.EntryLemmas.{id_read, past_end}
use Rattle.mb_edit.proofs.MarkLemmas.{none_marked, none_put, put_before}
use Rattle.mb_edit.proofs.collision.test_contents.Goals as goal

pub loop-left-init : goal.loop-left-init
loop-left-init c =
    let all : length (entries c.args.patch.now.state.tiles) ≡ c.tile_count-left.result = sym (c.tile_count-left.ensures ∙ len-entries c.args.patch.now.state.tiles) in
    record {
      within = omega (arith, all);
      marked = subst (λ put. AreMarked (digest c.args.base.now.state.algorithm) c.args.base.now.state.contents (entries c.args.patch.now.state.tiles) put (record { by_id = c.new.result; first = c.tile_count-left.result })) (sym (none_put (entries c.args.patch.now.state.tiles) c.tile_count-left.result (omega (arith, all))))
          (none_marked (digest c.args.base.now.state.algorithm) c.args.base.now.state.contents (entries c.args.patch.now.state.tiles) (record { by_id = c.new.result; first = c.tile_count-left.result }) c.new.ensures.empty (sym (past_end (entries c.args.patch.now.state.tiles) c.tile_count-left.result (omega (arith, all)))));
    }

pub loop-left-preserved : goal.loop-left-preserved
loop-left-preserved c = record {
  within = omega (arith, c.loop-left.invariant.within);
  marked = subst (λ put. AreMarked (digest c.args.base.now.state.algorithm) c.args.base.now.state.contents (entries c.args.patch.now.state.tiles) put c.meet.new.marks) (sym (put_before (entries c.args.patch.now.state.tiles) c.loop-left.left c.loop-left-test.true c.loop-left.invariant.within))
      (c.in_ok-meet.ensures (filter_map (λ e. e.1) (drop c.loop-left.left (entries c.args.patch.now.state.tiles))) c.loop-left.invariant.marked);
}

pub at-requires : goal.at-requires
at-requires c =
    let es = entries c.args.patch.now.state.tiles in
    let all : length c.args.ids.now ≡ length es = ap length c.requires.ids ∙ length-map es (λ e. cell_id c.args.base.now.state.layout c.args.base.now.state.algorithm (blob_cell e.1)) in
    omega (arith, all, c.loop-left-test.true, c.loop-left.invariant.within)

pub meet-requires : goal.meet-requires
meet-requires c = id_read c.args.base.now.state.layout c.args.base.now.state.algorithm (entries c.args.patch.now.state.tiles) (c.loop-left.left - 1) c.at.result.now c.requires.normalised (ap (λ (xs : List Cell). slice_get xs (c.loop-left.left - 1)) (sym c.requires.ids) ∙ c.at.ensures)
