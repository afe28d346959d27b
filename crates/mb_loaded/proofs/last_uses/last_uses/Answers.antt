use Rattle.mb_loaded.proofs.Common.{arith, length, Put, StoredTile, subst, sym, ℕ, ◌<◌, ◌∙◌, ◌≡◌}
use Rattle.mb_loaded.proofs.TakenLemmas.{all_noted, use_noted}
use Rattle.mb_loaded.proofs.last_uses.last_uses.Goals as goal

pub loop-index-preserved : goal.loop-index-preserved
loop-index-preserved c =
    let tiles = c.args.tiles.now in
    let i = c.loop-index.index in
    let t = c.index-tiles-index.result in
    let old = c.loop-index.last.items in
    let lt : i < length tiles = omega (arith, c.loop-index-test.true) in
    let fits : t.standing ≡ Put → t.contents < c.args.count = subst (λ (x : StoredTile). x.standing ≡ Put → x.contents < c.args.count) (sym c.index-tiles-index.is) (c.requires i t lt) in
    record {
      within = omega (arith, lt);
      each = c.note_use.ensures.each ∙ c.loop-index.invariant.each;
      noted = use_noted tiles i t old c.note_use.new.last.items lt c.index-tiles-index.is (λ p. subst (λ (n : ℕ). t.contents < n) (sym c.loop-index.invariant.each) (fits p)) c.note_use.ensures.put c.note_use.ensures.others c.loop-index.invariant.noted;
    }

pub returns : goal.returns
returns c = all_noted c.args.tiles.now c.loop-index.index c.loop-index.last.items (omega (arith, c.loop-index-test.false)) c.loop-index.invariant.noted
