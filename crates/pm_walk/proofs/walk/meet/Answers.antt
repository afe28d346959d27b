use Rattle.pm_walk.proofs.Common.{ap, header_of, meets, ◌∙◌}
use Rattle.pm_walk.proofs.MeetingLemmas.{leaf_left, leaf_met, leaf_refused, leaf_run, leaf_unmet, tile_met, tile_refused, tile_run}
use Rattle.pm_walk.proofs.walk.meet.Goals as goal

pub returns-in-Ok-clause-meets : goal.returns-in-Ok-clause-meets
returns-in-Ok-clause-meets g c = λ old held. tile_met g.T.TakesEntries.holds c.args.extent (g.B.Backend.told c.args.backend.now) (header_of c.args.state.now) c.args.intervals.now c.args.left c.args.entry c.args.end old c.take.new.collecting.taker c.take.new.collecting.room (tile_run _ c.is_leaf.result c.is_leaf.ensures c.if-not-is_leaf.true) (c.in-Ok.ensures.takes old held)

pub returns-in-Err-clause-meets : goal.returns-in-Err-clause-meets
returns-in-Err-clause-meets g c = λ old held. tile_refused g.T.TakesEntries.holds c.args.extent (g.B.Backend.told c.args.backend.now) (header_of c.args.state.now) c.args.intervals.now c.args.left c.args.entry c.args.end old c.take.new.collecting.taker c.take.new.collecting.room c.in-Err.error (tile_run _ c.is_leaf.result c.is_leaf.ensures c.if-not-is_leaf.true) (c.in-Err.ensures.takes old held)

pub returns-then-not-meets-clause-meets : goal.returns-then-not-meets-clause-meets
returns-then-not-meets-clause-meets g c = λ old held. leaf_unmet g.T.TakesEntries.holds c.args.extent (g.B.Backend.told c.args.backend.now) (header_of c.args.state.now) c.args.intervals.now c.args.left c.args.entry c.args.end old c.args.collecting.now.taker c.args.collecting.now.room c.meets.result held (leaf_run _ c.is_leaf.result c.is_leaf.ensures c.if-not-is_leaf.false) (c.meets.ensures ∙ ap (λ n. meets c.args.extent c.args.intervals.now n c.args.end) c.tile_id.ensures) c.if-not-meets.true

pub returns-in-Ok-read_directory-clause-meets : goal.returns-in-Ok-read_directory-clause-meets
returns-in-Ok-read_directory-clause-meets g c = λ old held.
    leaf_met g.T.TakesEntries.holds c.args.extent (g.B.Backend.told c.args.backend.now) (header_of c.args.state.now) c.args.intervals.now c.args.left c.args.entry c.args.end old c.args.collecting.now.taker c.args.collecting.now.room c.meets.result c.in-Ok-read_directory.leaf held c.requires.fits (leaf_run _ c.is_leaf.result c.is_leaf.ensures c.if-not-is_leaf.false) (c.meets.ensures ∙ ap (λ n. meets c.args.extent c.args.intervals.now n c.args.end) c.tile_id.ensures) c.if-not-meets.false c.offset.result c.length.result c.offset.ensures c.length.ensures c.in-Ok-read_directory.ensures.answer

pub returns-in-Err-read_directory-clause-meets : goal.returns-in-Err-read_directory-clause-meets
returns-in-Err-read_directory-clause-meets g c = λ old held.
    leaf_refused g.T.TakesEntries.holds c.args.extent (g.B.Backend.told c.args.backend.now) (header_of c.args.state.now) c.args.intervals.now c.args.left c.args.entry c.args.end old c.args.collecting.now.taker c.args.collecting.now.room c.meets.result c.in-Err-read_directory.error held c.requires.fits (leaf_run _ c.is_leaf.result c.is_leaf.ensures c.if-not-is_leaf.false) (c.meets.ensures ∙ ap (λ n. meets c.args.extent c.args.intervals.now n c.args.end) c.tile_id.ensures) c.if-not-meets.false c.offset.result c.length.result c.offset.ensures c.length.ensures c.in-Err-read_directory.ensures.answer

pub returns-in-Ok-read_directory-clause-deep : goal.returns-in-Ok-read_directory-clause-deep
returns-in-Ok-read_directory-clause-deep g c = leaf_left c.args.left c.args.entry c.requires.fits (leaf_run _ c.is_leaf.result c.is_leaf.ensures c.if-not-is_leaf.false)
