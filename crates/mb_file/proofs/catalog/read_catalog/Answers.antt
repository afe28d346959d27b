use Rattle.std.proofs.Common.{[], refl, rules, subst, sym, ◌∙◌}
use Rattle.mb_file.proofs.CatalogLemmas.{catalog_of_none, reads_all, reads_more, Steps}
use Rattle.mb_file.proofs.catalog.read_catalog.Goals as goal

pub loop-init : goal.loop-init
loop-init g c = record {
  kept = search rules;
  pages = refl;
  read = λ clean layout rows laid stored. record {
    among = c.new-cursor.ensures.among layout _ _ rows;
    done = [];
    parts = sym (c.new-cursor.ensures.left layout _ 1 rows stored);
    lists = catalog_of_none c.args.count _ c.new.ensures.items c.new-2.ensures.items;
  };
}

pub loop-preserved : goal.loop-preserved
loop-preserved g c = record {
  kept = search rules;
  pages = search rules;
  read = reads_more g.P.Pages c.args.pages.now c.loop.pages c.advance.new.pages c.args.count c.loop.invariant.kept c.loop.invariant.pages c.advance.ensures.kept c.loop.cursor c.advance.new.self c.loop.catalog
      (subst (Steps g.P.Pages c.args.pages.now c.loop.pages c.advance.new.pages c.args.count c.loop.invariant.kept c.loop.invariant.pages c.advance.ensures.kept c.loop.cursor c.advance.new.self c.loop.catalog)
      c.if-not-branch.false c.in_ok-advance.ensures.taken)
      c.loop.invariant.read c.add.new.self c.record.result.now c.record-in-loop.result.now c.record.ensures c.record-in-loop.ensures
      (sym c.in_ok-is_sound.ensures ∙ c.if-not-branch-2.false) c.in_ok-add.ensures;
}

pub returns-then-not-branch-clause-read : goal.returns-then-not-branch-clause-read
returns-then-not-branch-clause-read g c =
    reads_all g.P.Pages c.args.pages.now c.loop.pages c.advance.new.pages c.args.count c.loop.invariant.kept c.loop.invariant.pages c.advance.ensures.kept c.loop.cursor c.advance.new.self c.loop.catalog
    (subst (Steps g.P.Pages c.args.pages.now c.loop.pages c.advance.new.pages c.args.count c.loop.invariant.kept c.loop.invariant.pages c.advance.ensures.kept c.loop.cursor c.advance.new.self c.loop.catalog)
    c.if-not-branch.true c.in_ok-advance.ensures.taken) c.loop.invariant.read
