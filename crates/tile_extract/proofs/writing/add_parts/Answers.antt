use Rattle.tile_extract.proofs.Common.{ap, arith, Err, Gives, header_of, IfSome, length, medium_then, no_items, Ok, PartsPut, range_read, reads_then, subst, sym, ◌+◌, ◌∙◌, ◌∷◌, ◌≡◌}
use Rattle.tile_extract.proofs.PartsLemmas.{put_all_parts, put_more, put_refused, read_at, read_refused, rest_ordered}
use Rattle.tile_extract.proofs.writing.add_parts.Goals as goal

pub loop-part-preserved-in-Ok-add_part : goal.loop-part-preserved-in-Ok-add_part
loop-part-preserved-in-Ok-add_part g c =
    let i = c.loop-part.invariant in
    let k = c.read_contents.ensures.kept in
    let a = c.in-Ok-add_part.ensures in (
      λ o w.
          let s = i.0 o w in
          put_more o (header_of c.args.reader.now) (g.B.Backend.told c.args.source.now) (g.B.Backend.told c.loop-part.source) c.args.parts.now c.loop-part.rest.now c.in-Some.part.now c.in-Some.others.now (g.M.Backend.told c.loop-part.medium) (g.M.Backend.told c.add_part.new.medium) c.loop-part.writer c.add_part.new.writer c.as_slice.result.now s
          i.4.told a.kept.tells c.in-Some.ensures.cases.0
          (read_at (g.B.Backend.told c.loop-part.source) (header_of c.args.reader.now) c.offset.result c.length.result c.in-Some.part.now (Ok c.as_slice.result.now) c.offset.ensures c.length.ensures
          (subst (λ l. IfSome (g.B.Backend.told c.loop-part.source) (λ b. Gives (range_read b ((header_of c.args.reader.now).data_offset + c.offset.result) c.length.result) (Ok l))) (sym c.as_slice.ensures) c.in-Ok.ensures.answer))
          (a.added o s.mid s.writes),
      a.writes,
      a.alive,
      (c.in-Some.part.now.tile_id + c.in-Some.part.now.run_length, rest_ordered i.3.0 c.loop-part.rest.now c.in-Some.part.now c.in-Some.others.now c.in-Some.ensures.cases.0 i.3.1),
      reads_then _ _ _ _ _ _ _ i.4 k,
      medium_then _ _ _ _ _ _ _ _ i.5 a.kept,
      let n : length c.loop-part.rest.now ≡ length (c.in-Some.part.now ∷ c.in-Some.others.now) = ap length c.in-Some.ensures.cases.0 in omega (arith, i.6, a.compared, n),
      let n : length c.loop-part.rest.now ≡ length (c.in-Some.part.now ∷ c.in-Some.others.now) = ap length c.in-Some.ensures.cases.0 in omega (arith, i.7, c.read_contents.ensures.reads.most, n),
      c.in-Ok.ensures.still ∙ i.8,
      a.still ∙ i.9,
    )

pub loop-part-preserved : goal.loop-part-preserved
loop-part-preserved g c =
    let i = c.loop-part.invariant in
    let k = c.read_contents.ensures.kept in
    let a = c.in-Ok-add_part.ensures in (
      λ o w.
          let s = i.0 o w in
          put_more o (header_of c.args.reader.now) (g.B.Backend.told c.args.source.now) (g.B.Backend.told c.loop-part.source) c.args.parts.now c.loop-part.rest.now c.in-Some.part.now c.in-Some.others.now (g.M.Backend.told c.loop-part.medium) (g.M.Backend.told c.add_part.new.medium) c.loop-part.writer c.add_part.new.writer c.as_slice.result.now s
          i.4.told a.kept.tells c.in-Some.ensures.cases.0
          (read_at (g.B.Backend.told c.loop-part.source) (header_of c.args.reader.now) c.offset.result c.length.result c.in-Some.part.now (Ok c.as_slice.result.now) c.offset.ensures c.length.ensures
          (subst (λ l. IfSome (g.B.Backend.told c.loop-part.source) (λ b. Gives (range_read b ((header_of c.args.reader.now).data_offset + c.offset.result) c.length.result) (Ok l))) (sym c.as_slice.ensures) c.in-Ok.ensures.answer))
          (a.added o s.mid s.writes),
      a.writes,
      a.alive,
      (c.in-Some.part.now.tile_id + c.in-Some.part.now.run_length, rest_ordered i.3.0 c.loop-part.rest.now c.in-Some.part.now c.in-Some.others.now c.in-Some.ensures.cases.0 i.3.1),
      reads_then _ _ _ _ _ _ _ i.4 k,
      medium_then _ _ _ _ _ _ _ _ i.5 a.kept,
      let n : length c.loop-part.rest.now ≡ length (c.in-Some.part.now ∷ c.in-Some.others.now) = ap length c.in-Some.ensures.cases.0 in omega (arith, i.6, a.compared, n),
      let n : length c.loop-part.rest.now ≡ length (c.in-Some.part.now ∷ c.in-Some.others.now) = ap length c.in-Some.ensures.cases.0 in omega (arith, i.7, c.read_contents.ensures.reads.most, n),
      c.in-Ok.ensures.still ∙ i.8,
      a.still ∙ i.9,
    )

pub returns-clause-added : goal.returns-clause-added
returns-clause-added g c = λ o w.
    put_all_parts o (header_of c.args.reader.now) (g.B.Backend.told c.args.source.now) c.args.parts.now c.loop-part.rest.now (g.M.Backend.told c.loop-part.medium) c.loop-part.writer (no_items c.loop-part.rest.now c.in_default.ensures.cases) (c.loop-part.invariant.0 o w)

pub returns-in-Err-clause-added : goal.returns-in-Err-clause-added
returns-in-Err-clause-added g c = λ o w.
    let i = c.loop-part.invariant in
    let h = header_of c.args.reader.now in
    let source = g.B.Backend.told c.args.source.now in
    let again = g.B.Backend.told c.loop-part.source in
    let told = g.M.Backend.told c.loop-part.medium in
    subst (λ x. PartsPut o h source c.args.parts.now told c.loop-part.writer (Err x)) (sym c.of_reader.ensures)
    (read_refused o h source again c.args.parts.now c.loop-part.rest.now c.in-Some.part.now c.in-Some.others.now told c.loop-part.writer c.loop-part.writer (g.B.Backend.faults c.loop-part.source) (g.B.Backend.faults c.read_contents.new.backend) c.in-Err.error (i.0 o w)
    i.4.told c.in-Some.ensures.cases.0 (read_at again h c.offset.result c.length.result c.in-Some.part.now (Err c.in-Err.error) c.offset.ensures c.length.ensures c.in-Err.ensures.answer) c.in-Err.ensures.causes)

pub returns-in-Err-add_part-clause-added : goal.returns-in-Err-add_part-clause-added
returns-in-Err-add_part-clause-added g c = λ o w.
    let i = c.loop-part.invariant in
    let h = header_of c.args.reader.now in
    let again = g.B.Backend.told c.loop-part.source in
    let s = i.0 o w in
    put_refused o h (g.B.Backend.told c.args.source.now) again c.args.parts.now c.loop-part.rest.now c.in-Some.part.now c.in-Some.others.now (g.M.Backend.told c.loop-part.medium) (g.M.Backend.told c.add_part.new.medium) c.loop-part.writer c.add_part.new.writer c.as_slice.result.now c.in-Err-add_part.error s
    i.4.told c.in-Err-add_part.ensures.kept.tells c.in-Some.ensures.cases.0
    (read_at again h c.offset.result c.length.result c.in-Some.part.now (Ok c.as_slice.result.now) c.offset.ensures c.length.ensures
    (subst (λ l. IfSome again (λ b. Gives (range_read b (h.data_offset + c.offset.result) c.length.result) (Ok l))) (sym c.as_slice.ensures) c.in-Ok.ensures.answer))
    (c.in-Err-add_part.ensures.added o s.mid s.writes)
