use Rattle.mb_loaded.proofs.Common.{id_at, is_null, sym, ◌∙◌}
use Rattle.mb_loaded.proofs.TakenLemmas.{less_from, none_null}
use Rattle.mb_loaded.proofs.spending.is_spent.Goals as goal

pub returns-in-None : goal.returns-in-None
returns-in-None c = λ holds. (
  none_null (is_null (id_at c.args.contents.now c.args.at)) (id_at c.args.contents.now c.args.at) c.in-None.ensures,
  λ m there. less_from m c.args.index (sym (c.is_past.ensures m there) ∙ holds),
)
