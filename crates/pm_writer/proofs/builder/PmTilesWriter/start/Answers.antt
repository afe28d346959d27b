use Rattle.pm_writer.proofs.Common.{ap, arith, begun, if_some_map, length, rules, zeros, [], ◌+◌, ◌∙◌, ◌≡◌}
use Rattle.pm_writer.proofs.Beginning.{begun_is_hidden, metadata_hidden, metadata_written, room_enough, room_hidden, room_written}
use Rattle.pm_writer.proofs.builder.PmTilesWriter.start.Goals as goal

pub returns-in_err-put-clause-hidden : goal.returns-in_err-put-clause-hidden
returns-in_err-put-clause-hidden g c = room_hidden 16384 c.deref.result.now _ _ (c.deref.ensures.value ∙ c.in_ok-room.ensures) c.requires.empty c.put.ensures.part

pub put-requires-2-clause-within : goal.put-requires-2-clause-within
put-requires-2-clause-within g c =
    let room : c.deref.result.now ≡ zeros 16384 = c.deref.ensures.value ∙ c.in_ok-room.ensures in
    room_enough c.deref.result.now _ room (room_written c.deref.result.now _ _ c.requires.empty c.in_ok-put.ensures.done)

pub returns-in_err-put-2-clause-hidden : goal.returns-in_err-put-2-clause-hidden
returns-in_err-put-2-clause-hidden g c =
    let room : c.deref.result.now ≡ zeros 16384 = c.deref.ensures.value ∙ c.in_ok-room.ensures in
    metadata_hidden c.deref.result.now c.metadata_bytes-metadata.result.now _ _ room (room_written c.deref.result.now _ _ c.requires.empty c.in_ok-put.ensures.done) c.put-2.ensures.part

pub returns-clause-hidden : goal.returns-clause-hidden
returns-clause-hidden g c =
    let room : c.deref.result.now ≡ zeros 16384 = c.deref.ensures.value ∙ c.in_ok-room.ensures in
    metadata_hidden c.deref.result.now c.metadata_bytes-metadata.result.now _ _ room (room_written c.deref.result.now _ _ c.requires.empty c.in_ok-put.ensures.done) c.put-2.ensures.part

pub returns-clause-begun : goal.returns-clause-begun
returns-clause-begun g c =
    let room : c.deref.result.now ≡ zeros 16384 = c.deref.ensures.value ∙ c.in_ok-room.ensures in
    let bytes = metadata_written c.args.self.now c.deref.result.now c.metadata_bytes-metadata.result.now _ _ room c.metadata_bytes-metadata.ensures (room_written c.deref.result.now _ _ c.requires.empty c.in_ok-put.ensures.done) c.in_ok-put-2.ensures.done in
    record {
      of = record { settings = c.settings.ensures.is; plain = search rules; fit = c.settings.ensures.fit; place = ap (λ z. 16384 + length z) c.metadata_bytes-metadata.ensures };
      hidden = begun_is_hidden c.args.self.now [] _ bytes;
      held = λ e. record { means = c.new.ensures.means; ends = omega (arith, ap length c.metadata_bytes-metadata.ensures); bytes = bytes; finds = if_some_map (λ b. b ≡ begun c.args.self.now []) _ _ (λ b e. c.new.ensures.finds) bytes };
    }
