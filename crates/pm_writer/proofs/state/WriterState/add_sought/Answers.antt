use Rattle.pm_writer.proofs.Common.{arith, BothTold, piece_sought, refl, WroteFront, ◌+◌, ◌≡◌}
use Rattle.pm_writer.proofs.AddedBytes.{added_writes, ends_at, failed_writes, same_writes, sought_fits, within_end}
use Rattle.pm_writer.proofs.Took.{took_length}
use Rattle.pm_writer.proofs.state.WriterState.add_sought.Goals as goal

pub add-requires-clause-within : goal.add-requires-clause-within
add-requires-clause-within g c =
    let w = c.requires.writes in
    within_end w.0 _ c.args.self.now w.1 _ w.2 c.requires.alive (ends_at w.0 _ c.args.self.now w.1 c.args.self.now.adds.contents.total w.2 c.requires.alive refl)

pub returns-in-Ok-clause-added : goal.returns-in-Ok-clause-added
returns-in-Ok-clause-added g c = λ o adds taken w t f.
    let s = c.args.self.now in
    let x = c.args.bytes.now in
    let t0 = g.M.Backend.told c.args.medium.now in
    let t1 = g.M.Backend.told c.add.new.medium in
    let at = s.data_offset + s.adds.contents.total in
    let means = (w.held c.requires.alive).means in
    let end = ends_at o t0 s adds s.adds.contents.total w c.requires.alive refl in
    let same = took_length t0 x taken t in
    let fits = sought_fits o adds c.args.id at taken x c.args.sought end (omega arith) same f.found c.requires.fits in
    (fits, added_writes o adds t0 t1 s c.add.new.self c.args.id c.args.count at taken x c.args.sought w c.requires.alive end c.requires.counted fits t f.found (c.in-Ok.ensures.added adds taken means f) (λ k q. c.in-Ok.ensures.finds adds means k q) c.in-Ok.ensures.leaves)

pub returns-in-Err-OutOfMemory-clause-refused : goal.returns-in-Err-OutOfMemory-clause-refused
returns-in-Err-OutOfMemory-clause-refused g c = λ o adds w.
    let t0 = g.M.Backend.told c.args.medium.now in
    let t1 = g.M.Backend.told c.add.new.medium in
    let same : BothTold (λ b d. d ≡ b) t0 t1 = rw c.in-Err-OutOfMemory.field-0-is at c.in-Err-OutOfMemory.ensures.leaves in
    same_writes o adds t0 t1 c.args.self.now c.add.new.self w c.requires.alive (c.in-Err-OutOfMemory.ensures.refused adds ((w.held c.requires.alive).means)) c.in-Err-OutOfMemory.ensures.alike same

pub returns-in-Err-Fault-clause-refused : goal.returns-in-Err-Fault-clause-refused
returns-in-Err-Fault-clause-refused g c = λ o adds w.
    let s = c.args.self.now in
    let t0 = g.M.Backend.told c.args.medium.now in
    let t1 = g.M.Backend.told c.add.new.medium in
    let at = s.data_offset + s.adds.contents.total in
    let piece = piece_sought c.args.sought c.args.bytes.now in
    let wrote : BothTold (WroteFront at piece) t0 t1 = rw c.in-Err-Fault.field-0-is at c.in-Err-Fault.ensures.leaves in
    failed_writes o adds t0 t1 s c.add.new.self at piece w c.requires.alive (ends_at o t0 s adds s.adds.contents.total w c.requires.alive refl) wrote
