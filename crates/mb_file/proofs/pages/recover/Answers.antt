use Rattle.mb_file.proofs.OpenedLemmas.{recovered_by}
use Rattle.mb_file.proofs.pages.recover.Goals as goal

pub returns-then-states_count-clause-found : goal.returns-then-states_count-clause-found
returns-then-states_count-clause-found g c = λ clean.
    let was = c.load.ensures.keeps.stays.clean clean in
    recovered_by c.args.pager.now c.recover.new.self c.load.new.self c.in_ok-usable.usable c.loaded.result.now (c.in_default.ensures.found was) (c.in_default.ensures.clean was).1 c.load.ensures.pages
    c.load.ensures.keeps.stays.size c.recover.ensures.size (c.in_default-load.ensures.ok clean) c.loaded.ensures.value c.loaded.ensures.len c.in_ok-usable.ensures.reserved
