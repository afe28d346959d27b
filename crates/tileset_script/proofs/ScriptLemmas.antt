-- Scripts, a line at a time.
use Rattle.tileset_script.proofs.Common.{ap, arith, at_end, Draft, Err, false, HasNo, last_line, length, line_of, lines_of, List, no_lines, None, Option, option_and_then, parted, refl, Result, Script}
use Rattle.tileset_script.proofs.Common.{script_from, script_of, Some, sym, Takes, true, with_line, ℕ, [], ◌+◌, ◌<◌, ◌∙◌, ◌∷◌, ◌≡◌}

-- the first line, and the last
pub lines_begin : (d : Draft) (input : List ℕ) → d ≡ no_lines → script_from 1 d (lines_of input) ≡ script_of input
unfolding script_of
lines_begin d input e = ap (λ x. script_from 1 x (lines_of input)) e

none_left : (rest : List ℕ) → rest ≡ [] → lines_of rest ≡ []
unfolding lines_of parted
none_left rest e = rw e refl

-- a step that was taken, or not
takes_true : {T : Type 0} (o : Option T) (e : T) → Takes o true e → o ≡ Some e
takes_true (Some wanted) e h = ap Some (sym h.1)
takes_true None e h = absurd (cc)

takes_false : {T : Type 0} (o : Option T) (e : T) → Takes o false e → o ≡ None
takes_false (Some wanted) e h = absurd (cc)
takes_false None e h = refl

-- one line more, and a bad one
line_more : (n : ℕ) (d e : Draft) (line : List ℕ) (lines : List (List ℕ)) → Takes (option_and_then (with_line d) (line_of line)) true e → script_from n d (line ∷ lines) ≡ script_from (n + 1) e lines
line_more n d e line lines h = ap (λ o. elim o as (λ _. Result Script ℕ) [ None ↦ Err n | Some x ↦ script_from (n + 1) x lines ]) (takes_true (option_and_then (with_line d) (line_of line)) e h)

line_bad : (n : ℕ) (d e : Draft) (line : List ℕ) (lines : List (List ℕ)) → Takes (option_and_then (with_line d) (line_of line)) false e → script_from n d (line ∷ lines) ≡ Err n
line_bad n d e line lines h = ap (λ o. elim o as (λ _. Result Script ℕ) [ None ↦ Err n | Some x ↦ script_from (n + 1) x lines ]) (takes_false (option_and_then (with_line d) (line_of line)) e h)

-- behind all of them there may be a last line, that no line feed ends
pub ends_bare : (n : ℕ) (d : Draft) (line : List ℕ) → length line ≡ 0 → script_from n d (lines_of line) ≡ at_end n d
ends_bare n d [] e = ap (script_from n d) (none_left [] refl)
ends_bare n d (b ∷ line) e = absurd (omega (arith, e))

pub ends_bad : (n : ℕ) (d e : Draft) (line : List ℕ) → 0 < length line → HasNo 10 line (length line) → Takes (option_and_then (with_line d) (line_of line)) false e → script_from n d (lines_of line) ≡ Err n
ends_bad n d e line some single bad = ap (script_from n d) (last_line line some single) ∙ line_bad n d e line (lines_of []) bad

pub ends_last : (n m : ℕ) (d e : Draft) (line : List ℕ) → 0 < length line → HasNo 10 line (length line) → Takes (option_and_then (with_line d) (line_of line)) true e → m ≡ n + 1 → script_from n d (lines_of line) ≡ at_end m e
ends_last n m d e line some single taken next =
    rw next (ap (script_from n d) (last_line line some single) ∙ line_more n d e line (lines_of []) taken ∙ ends_bare (n + 1) e [] refl)
