use Rattle.tileset_script.proofs.Common.{ap₂, arith, HasRead, length, length-append, OnOk, subst, sym, take-append-drop, ◌++◌, ◌+◌, ◌<◌, ◌^◌, ◌∙◌, ◌≡◌}
use Rattle.tileset_script.proofs.ReaderLemmas.{pieces_joined}
use Rattle.tileset_script.proofs.script.reader.ScriptReader.take_piece.Goals as goal

pub returns : goal.returns
returns c = λ bytes small h.
    let front = c.split_at.result.0.now in
    let back = c.split_at.result.1.now in
    let parts : front ++ back ≡ c.args.piece.now = ap₂ (λ a b. a ++ b) c.split_at.ensures.front c.split_at.ensures.back ∙ take-append-drop (c.in-Some.place + 1) c.args.piece.now in
    let whole : (bytes ++ front) ++ back ≡ bytes ++ c.args.piece.now = pieces_joined bytes front back c.args.piece.now parts in
    let long : length ((bytes ++ front) ++ back) < 2 ^ 63 = subst (λ l. length l < 2 ^ 63) (sym whole) small in
    let first = c.in_ok-take_next.ensures bytes (omega (arith, long, length-append (bytes ++ front) back)) h in
    subst (λ all. OnOk c.take_next-2.result (HasRead all c.take_next-2.new.self)) whole (c.take_next-2.ensures (bytes ++ front) long first)
