use Rattle.pm_writer.proofs.Common.{ap, arith, header_bytes, length, ◌∙◌}
use Rattle.pm_writer.proofs.AssembledParts.{archive_length}
use Rattle.pm_writer.proofs.FinishedArchive.{open_to, shown_told, state_of, whole_told}
use Rattle.pm_writer.proofs.Parts.{root_fits}
use Rattle.pm_writer.proofs.state.WriterState.finalize.Goals as goal

pub write_parts-requires-clause-small : goal.write_parts-requires-clause-small
write_parts-requires-clause-small g c =
    let w = c.requires.writes in
    let a = c.in-Ok.ensures.is w.0 w.1 (state_of w.0 _ c.args.self w.1 w.2 c.if-self.false) in
    omega (arith, root_fits w.0 w.1 w.2.of.fit, ap length a.directories.root, ap length c.deref-2.ensures.value)

pub write_parts-requires-clause-fits : goal.write_parts-requires-clause-fits
write_parts-requires-clause-fits g c =
    let w = c.requires.writes in
    let s = state_of w.0 _ c.args.self w.1 w.2 c.if-self.false in
    let a = c.in-Ok.ensures.is w.0 w.1 s in
    let f = (c.in-Ok.ensures.causes w.0 w.1 s).ends in
    omega (arith, archive_length w.0 w.1 w.2.of.fit, a.end, ap length a.directories.below, ap length c.deref.ensures.value, f)

pub write_parts-requires-clause-open : goal.write_parts-requires-clause-open
write_parts-requires-clause-open g c =
    let w = c.requires.writes in
    let a = c.in-Ok.ensures.is w.0 w.1 (state_of w.0 _ c.args.self w.1 w.2 c.if-self.false) in
    open_to w.0 w.1 _ c.in-Ok.parts.end a.end ((w.2.held c.if-self.false).bytes)

pub returns-in-Ok-write_parts-clause-bytes : goal.returns-in-Ok-write_parts-clause-bytes
returns-in-Ok-write_parts-clause-bytes g c = λ o adds w.
    let a = c.in-Ok.ensures.is o adds (state_of o _ c.args.self adds w c.if-self.false) in
    let header = c.write_bytes-header.ensures.bytes ∙ ap (λ h. header_bytes h) a.header in
    whole_told o adds _ _ c.deref.result.now c.deref-2.result.now c.write_bytes-header.result w.of.fit (c.deref.ensures.value ∙ a.directories.below) (c.deref-2.ensures.value ∙ a.directories.root) header ((w.held c.if-self.false).bytes) c.in-Ok-write_parts.ensures.done

pub returns-in-Ok-write_parts-clause-shown : goal.returns-in-Ok-write_parts-clause-shown
returns-in-Ok-write_parts-clause-shown g c = λ o adds w.
    let a = c.in-Ok.ensures.is o adds (state_of o _ c.args.self adds w c.if-self.false) in
    let header = c.write_bytes-header.ensures.bytes ∙ ap (λ h. header_bytes h) a.header in
    shown_told o adds _ _ c.deref.result.now c.deref-2.result.now c.write_bytes-header.result w.of.fit (c.deref.ensures.value ∙ a.directories.below) (c.deref-2.ensures.value ∙ a.directories.root) header ((w.held c.if-self.false).bytes) c.in-Ok-write_parts.ensures.shown

pub returns-clause-shown : goal.returns-clause-shown
returns-clause-shown g c = λ o adds w.
    let a = c.in-Ok.ensures.is o adds (state_of o _ c.args.self adds w c.if-self.false) in
    let header = c.write_bytes-header.ensures.bytes ∙ ap (λ h. header_bytes h) a.header in
    shown_told o adds _ _ c.deref.result.now c.deref-2.result.now c.write_bytes-header.result w.of.fit (c.deref.ensures.value ∙ a.directories.below) (c.deref-2.ensures.value ∙ a.directories.root) header ((w.held c.if-self.false).bytes) c.in-Err-write_parts.ensures.shown
