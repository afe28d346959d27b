use Rattle.tileset_script.proofs.Common.{rules}
use Rattle.tileset_script.proofs.DraftLemmas.{first_removed, patches_unfailing, script_ended}
use Rattle.tileset_script.proofs.script.draft.Draft.finish.Goals as goal

pub returns-clause-script : goal.returns-clause-script
returns-clause-script c =
    script_ended c.args.self.settings.items c.args.self.queries.items c.options_of.result c.args.self.earlier.items c.in_ok-stores.stores.items c.remove-base.new.self.items c.args.self.latest c.remove-base.result c.in_ok-stores.ensures
    (first_removed c.in_ok-stores.stores.items c.remove-base.new.self.items c.remove-base.result (search rules) c.remove-base.ensures.value c.remove-base.ensures.items) c.options_of.ensures

pub returns-clause-unfailing : goal.returns-clause-unfailing
returns-clause-unfailing c = λ st.
    let both = patches_unfailing c.args.self.earlier.items c.in_ok-stores.stores.items c.remove-base.new.self.items c.args.self.latest c.remove-base.result c.in_ok-stores.ensures
    (first_removed c.in_ok-stores.stores.items c.remove-base.new.self.items c.remove-base.result (search rules) c.remove-base.ensures.value c.remove-base.ensures.items) st.earlier st.latest in
    record { base = both.0; patches = both.1 }
