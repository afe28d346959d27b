-- the bytes so far, and those of the rest
use Rattle.tileset_script.proofs.Common.{length, option_map, unescaped, ◌++◌, ◌≡◌}
use Rattle.tileset_script.proofs.script.text.unescape.Given as goal

abbrev pub invariant-loop-rest : goal.invariant-loop-rest
invariant-loop-rest l = option_map (λ bytes. l.bytes.items ++ bytes) (unescaped l.rest) ≡ unescaped l.fn.word

abbrev pub decreases-loop-rest : goal.decreases-loop-rest
decreases-loop-rest l = length l.rest
