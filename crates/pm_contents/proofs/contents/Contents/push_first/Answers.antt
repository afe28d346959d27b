use Rattle.pm_contents.proofs.Common.{ap, Contents, if◌then◌else◌, None, refl, ◌+◌, ◌∙◌, ◌≡◌}
use Rattle.std.specs.HashMap.{hash_map_len}
use Rattle.std.specs.Option.{is_some}
use Rattle.pm_contents.proofs.ContentLemmas.{IsFirst, finds_first, holds_first}
use Rattle.pm_contents.proofs.contents.Contents.push_first.Goals as goal

abbrev after : goal.After-self-1 → Contents
after c = record { firsts = c.insert.new.self; others = c.args.self.now.others; total = c.args.self.now.total + c.args.size }

first : (c : goal.After-self-1) → IsFirst c.args.self.now (after c) c.args.digest c.args.size
first c =
    let was : c.in-Ok.field-0 ≡ None = c.in-Ok.ensures.old ∙ c.requires.none in
    record {
      none = c.requires.none;
      updates = c.in-Ok.ensures.updates;
      count = c.in-Ok.ensures.len ∙ ap (λ o. hash_map_len c.args.self.now.firsts + (if is_some o then 0 else 1)) was;
      others = refl;
      total = refl;
    }

pub returns-clause-put : goal.returns-clause-put
returns-clause-put c = holds_first c.args.self.now (after c) c.args.digest c.args.size (first c)

pub returns-clause-finds : goal.returns-clause-finds
returns-clause-finds c = finds_first c.args.self.now (after c) c.args.digest c.args.size (first c)
