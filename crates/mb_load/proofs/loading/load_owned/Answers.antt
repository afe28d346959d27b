use Rattle.mb_load.proofs.Common.{refl, told_of, told_sound}
use Rattle.mb_load.proofs.LoadsFrom.{answer_loaded, answer_named, answer_whole}
use Rattle.mb_load.proofs.StateLemmas.{answer_of}
use Rattle.mb_load.proofs.loading.load_owned.Goals as goal

pub returns-clause-answer : goal.returns-clause-answer
returns-clause-answer c =
    answer_of (told_of c.args.store) c.in_ok-layout.layout c.loaded_from.result c.descriptions-described.result.now c.get_patch_type-patch_type.result c.in_ok-rows.rows.metadata.items c.in_ok-rows.rows.contents.items c.in_ok-rows.rows.tiles.items
    c.descriptions-described.ensures
    c.get_patch_type-patch_type.ensures
    c.in_ok-layout.ensures.layout
    c.in_ok-layout.ensures.metadata
    c.in_ok-layout.ensures.index
    c.in_ok-rows.ensures.metadata
    c.in_ok-rows.ensures.contents
    c.in_ok-rows.ensures.tiles
    c.loaded_from.ensures.loads

pub returns-clause-loaded : goal.returns-clause-loaded
returns-clause-loaded c = answer_loaded (told_of c.args.store) c.loaded_from.result (told_sound c.args.store refl) (returns-clause-answer c)

pub returns-clause-whole : goal.returns-clause-whole
returns-clause-whole c = answer_whole c.loaded_from.result (told_of c.args.store, returns-clause-answer c)

pub returns-clause-named : goal.returns-clause-named
returns-clause-named c = answer_named c.loaded_from.result (told_of c.args.store, returns-clause-answer c)
