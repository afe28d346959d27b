use Rattle.tile_streaming.proofs.Common.{ap, entries, find, List, not, sym, Tables, ℕ, ◌||◌, ◌∙◌, ◌≡◌}
use Rattle.mb_edit.specs.Common.{Text}
use Rattle.std.specs.BTreeSet.{contains}
use Rattle.tile_streaming.proofs.PutContentLemmas.{put_of}
use Rattle.tile_streaming.proofs.TakenLemmas.{none_taken, nothing_in, taken_in}
use Rattle.tile_streaming.specs.Collisions.{is_known, stands_under}
use Rattle.tile_streaming.specs.Suspects.{by_bytes, is_among}
use Rattle.tile_streaming.proofs.collisions.first_taken.Goals as goal

pub returns-then-is_empty-clause-answer : goal.returns-then-is_empty-clause-answer
returns-then-is_empty-clause-answer g c = λ u.
    let put = put_of (entries c.args.patch.now.state.tiles) in
    none_taken c.args.algorithm (g.S.TileStore.told c.args.base.now) c.args.rest.now c.args.known.now put
    (sym (c.in_ok-found.ensures.answer c.args.rest.now.layout c.args.algorithm c.requires.digests c.in_ok-ids.ensures u) ∙ (sym c.as_slice-digests.ensures.value ∙ nothing_in c.as_slice-digests.result.now c.is_empty.result c.is_empty.ensures c.if-is_empty.true))

pub returns-clause-answer : goal.returns-clause-answer
returns-clause-answer g c = λ u.
    let put = put_of (entries c.args.patch.now.state.tiles) in
    c.in_ok-first_standing.ensures
    ∙ taken_in c.args.algorithm (g.S.TileStore.told c.args.base.now) c.args.rest.now c.args.known.now put c.as_slice-digests.result.now (contains by_bytes c.in_ok-unnamed.unnamed)
    (c.as_slice-digests.ensures.value ∙ c.in_ok-found.ensures.answer c.args.rest.now.layout c.args.algorithm c.requires.digests c.in_ok-ids.ensures u)
    (λ d among. c.in_ok-unnamed.ensures.answer (c.in_ok-found.ensures.kept.tells ∙ u) d among ∙ ap (λ (t : Tables). not (stands_under t c.args.rest.now (Text d))) c.in_ok-found.ensures.kept.told)
