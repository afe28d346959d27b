use Rattle.tileset_script.proofs.Common.{rules}
use Rattle.tileset_script.proofs.DraftLemmas.{moved_unfailing}
use Rattle.tileset_script.proofs.script.draft.Draft.begin.Goals as goal

pub returns-in_ok-push-clause-unfailing : goal.returns-in_ok-push-clause-unfailing
returns-in_ok-push-clause-unfailing c = λ st. record {
  earlier = moved_unfailing c.args.self.now.earlier.items c.push.new.self.items c.args.self.now.latest c.in-Some.before c.into_store.result c.in_ok-push.ensures.items c.into_store.ensures c.in-Some.ensures.value st.earlier st.latest;
  latest = search rules;
}
