use Rattle.pm_reader.proofs.Common.{answer_of, ap, Entry, from_found, held_by_use, List, None, NotCached, Option, refl, scan, Some, subst, ◌∙◌, ◌≡◌}
use Rattle.pm_reader.proofs.RecentLemmas.{latest_held}
use Rattle.pm_reader.proofs.cache.recent.LruDirCache.find.Goals as goal

pub returns-in-Some-clause-answer : goal.returns-in-Some-clause-answer
returns-in-Some-clause-answer c =
    let held = latest_held c.args.self.now.directories c.promote.new.self c.args.offset c.promote.result _ c.promote.ensures.found c.if-not-promote.false c.promote.ensures.used c.latest.ensures in
    let same : Some c.in-Some.kept.now ≡ held_by_use c.args.self.now c.args.offset = cc in
    let P : Option (List Entry) → Type 0 = λ h. c.from.result ≡ answer_of h c.args.tile_id in
    subst P same (c.from.ensures ∙ ap from_found (c.find_tile_id.ensures ∙ ap (λ d. scan d c.args.tile_id) c.directory.ensures))

pub returns-in-None-clause-answer : goal.returns-in-None-clause-answer
returns-in-None-clause-answer c =
    let held = latest_held c.args.self.now.directories c.promote.new.self c.args.offset c.promote.result _ c.promote.ensures.found c.if-not-promote.false c.promote.ensures.used c.latest.ensures in
    let none : None ≡ held_by_use c.args.self.now c.args.offset = cc in
    let P : Option (List Entry) → Type 0 = λ h. NotCached ≡ answer_of h c.args.tile_id in
    subst P none refl
