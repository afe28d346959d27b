use Rattle.hex_pairs.proofs.Common.{ap, arith, decode_done, decode_err, decode_step, rules, slice_index, ◌*◌, ◌+◌}
use Rattle.hex_pairs.specs.Decoded.{bytes_of}
use Rattle.hex_pairs.proofs.ReadLemmas.{front_read}
use Rattle.hex_pairs.proofs.TableLemmas.{pair_read, pair_wrong}
use Rattle.hex_pairs.proofs.decoding.decode_into.Goals as goal

pub loop-i-init : goal.loop-i-init
loop-i-init c = front_read _ _ _ (search rules) c.read_blocks-done.ensures.digits c.read_blocks-done.ensures.read

pub loop-i-preserved : goal.loop-i-preserved
loop-i-preserved c =
    let first = slice_index c.args.digits.now (2 * c.loop-i.i) in
    let second = slice_index c.args.digits.now (2 * c.loop-i.i + 1) in
    let read = pair_read first second (2 * c.loop-i.i) c.high.result c.low.result c.high.ensures c.low.ensures (omega (arith, c.if-byte-gt255.false)) in
    decode_step _ _ c.loop-i.i _ (omega arith) (omega arith) read c.loop-i.invariant

pub returns-then-byte-gt255 : goal.returns-then-byte-gt255
returns-then-byte-gt255 c =
    let first = slice_index c.args.digits.now (2 * c.loop-i.i) in
    let second = slice_index c.args.digits.now (2 * c.loop-i.i + 1) in
    let wrong = pair_wrong first second (2 * c.loop-i.i) c.high.result c.low.result (omega (arith, c.type_inv.digits (2 * c.loop-i.i))) (omega (arith, c.type_inv.digits (2 * c.loop-i.i + 1))) c.high.ensures c.low.ensures c.if-byte-gt255.true in
    ap bytes_of (decode_err _ c.loop-i.bytes c.loop-i.i wrong.0 (omega arith) wrong.1 c.loop-i.invariant)

pub returns : goal.returns
returns c = decode_done _ _ c.loop-i.i (omega arith) (omega arith) c.loop-i.invariant
