-- What a reader of a script keeps, from the first byte to the last.
use Rattle.tileset_script.proofs.Common.{ap, append-nil, append_assoc, arith, Draft, drafted, due_of, Err, false, HasNo, HasRead, length, lines_of, List, no_lines, None, script_from, script_of, Some}
use Rattle.tileset_script.proofs.Common.{sym, TakesLines, true, ℕ, [], ◌++◌, ◌∙◌, ◌≡◌}
use Rattle.tileset_script.specs.declared.script.reader.ScriptReader.{ScriptReader}
use Rattle.tileset_script.proofs.ScriptLemmas.{lines_begin}

-- all lines of an input
pub parse_ends : (input line : List ℕ) (m : ℕ) (d e : Draft) → d ≡ no_lines → TakesLines 1 d input (Some line) m e → script_of input ≡ script_from m e (lines_of line)
parse_ends input line m d e empty h = sym (lines_begin d input empty) ∙ (rw (append-nil, append-nil) at (h.1 []))

pub parse_stops : (input : List ℕ) (m : ℕ) (d e : Draft) → d ≡ no_lines → TakesLines 1 d input None m e → script_of input ≡ Err m
parse_stops input m d e empty h = sym (lines_begin d input empty) ∙ (rw append-nil at (h.1 []))

-- before the first byte
pub read_none : (d : Draft) (line more : List ℕ) → d ≡ no_lines → line ≡ [] → script_of ([] ++ more) ≡ due_of false 1 d (line ++ more)
read_none d line more empty none = rw none (sym (lines_begin d more empty))

pub no_part : (line : List ℕ) → line ≡ [] → HasNo 10 line (length line)
no_part line none k l = absurd (omega (arith, l, ap length none))

-- behind the last one
pub read_bad : (bytes : List ℕ) (r : ScriptReader) → r.is_bad ≡ true → HasRead bytes r → script_of bytes ≡ Err r.number
read_bad bytes r bad h = rw (append-nil, bad) at (h.whole [])

pub read_good : (bytes : List ℕ) (r : ScriptReader) → r.is_bad ≡ false → HasRead bytes r → script_of bytes ≡ script_from r.number (drafted r.draft) (lines_of r.line.items)
read_good bytes r good h = rw (append-nil bytes, append-nil r.line.items, good) at (h.whole [])

-- two pieces, one after the other
pub pieces_joined : (bytes front back piece : List ℕ) → front ++ back ≡ piece → (bytes ++ front) ++ back ≡ bytes ++ piece
pieces_joined bytes front back piece e = append_assoc bytes front back ∙ ap (λ l. bytes ++ l) e
