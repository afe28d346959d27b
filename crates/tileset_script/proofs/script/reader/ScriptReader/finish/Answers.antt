use Rattle.tileset_script.proofs.Common.{arith, drafted, EndsAs, HasNo, length, lines_of, script_from, subst, sym, ◌-◌, ◌<◌, ◌^◌}
use Rattle.tileset_script.proofs.ReaderLemmas.{read_bad, read_good}
use Rattle.tileset_script.proofs.script.reader.ScriptReader.finish.Goals as goal

pub returns-then-is_bad-clause-reads : goal.returns-then-is_bad-clause-reads
returns-then-is_bad-clause-reads c = λ bytes small h. read_bad bytes c.args.self c.if-is_bad.true h

pub returns-clause-reads : goal.returns-clause-reads
returns-clause-reads c =
    let r = c.args.self in
    let ends = subst (λ l. r.number < 2 ^ 64 - 1 → HasNo 10 l (length l) → EndsAs (script_from r.number (drafted r.draft) (lines_of l)) c.end.result) c.as_slice.ensures.value c.end.ensures.ends in
    λ bytes small h. subst (λ due. EndsAs due c.end.result) (sym (read_good bytes r c.if-is_bad.false h)) (ends (omega (arith, h.small, small)) h.part)
