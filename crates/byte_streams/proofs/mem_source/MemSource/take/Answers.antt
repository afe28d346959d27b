use Rattle.byte_streams.proofs.Common.{ap, arith, drop, rules, take, ◌+◌, ◌-◌, ◌∙◌}
use Rattle.byte_streams.proofs.MemSourceLemmas.{next_bytes}
use Rattle.byte_streams.proofs.mem_source.MemSource.take.Goals as goal

pub returns-clause-takes : goal.returns-clause-takes
returns-clause-takes c =
    next_bytes c.args.self.now.bytes.items c.args.buffer.now c.copy_from_slice.new.self c.args.self.now.place c.min-count.result (search rules) (search rules) c.copy_from_slice.ensures.len
    (c.copy_from_slice.ensures.after
    ∙ ap (λ b. take (c.args.self.now.place + c.min-count.result - c.args.self.now.place) (drop c.args.self.now.place b)) c.deref.ensures.value
    ∙ ap (λ k. take k (drop c.args.self.now.place c.args.self.now.bytes.items)) (omega arith))
