use Rattle.tile_streaming.proofs.Common.{refl, true}
use Rattle.tile_streaming.proofs.OverlaidLemmas.{marked_stands}
use Rattle.tile_streaming.proofs.overlaid.marked_base.Goals as goal

pub returns : goal.returns
returns c = λ tells told s held root.
    let over = c.in_ok-over.ensures in
    marked_stands tells told (record { over = c.in_ok-over.over; rest = record { layout = c.args.set.layout; marks = c.args.set.marks; is_whole = true } }) s c.args.set held root refl over.layout over.algorithm over.names over.tiles over.ids over.contents refl refl
