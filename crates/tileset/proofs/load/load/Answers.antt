use Rattle.tileset.proofs.Common.{ap, append-nil, arith, IsAtEnd, IsShort, length, List, MAX_INPUT, None, Ok, Option, Script, script_of, Some, Spells, subst, sym, TakesAll, ℕ, ◌++◌, ◌<◌, ◌^◌, ◌∙◌}
use Rattle.tileset.proofs.Common.{◌≡◌, ◌≤◌}
use Rattle.tileset.specs.Outcomes.{of_input}
use Rattle.tileset.specs.Stands.{InputStands}
use Rattle.tileset.proofs.RunLemmas.{err_outcome}
use Rattle.tileset.proofs.StandsLemmas.{input_failed}
use Rattle.tileset.proofs.load.load.Goals as goal

-- what was left was short, and spells what was read of it
read_all : {took : List ℕ → Type 0} (left rest : Option (List ℕ)) (before now : ℕ) (s : Script) → TakesAll took left rest before now → IsAtEnd rest → ((bytes : List ℕ) → length bytes < 2 ^ 63 → took bytes → script_of bytes ≡ Ok s) → IsShort left × Spells left s
read_all None None before now s all end reads = (tt, tt)
read_all None (Some new) before now s all end reads = absurd all.lost
read_all (Some old) None before now s all end reads = absurd all.lost
read_all (Some old) (Some new) before now s all end reads =
    let same : old ≡ all.bytes = all.lost ∙ (ap (λ rest. all.bytes ++ rest) end ∙ append-nil all.bytes) in
    (subst (λ bytes. length bytes ≤ MAX_INPUT) (sym same) all.few, subst (λ bytes. script_of bytes ≡ Ok s) (sym same) (reads all.bytes (omega (arith, all.few)) all.took_them))

pub returns-clause-script : goal.returns-clause-script
returns-clause-script g c = (read_all _ _ _ _ _ c.in_ok-take_input.ensures.all c.in_ok-take_input.ensures.end (λ bytes small took. c.in_ok-finish.ensures.reads bytes small (took small))).1

pub returns-clause-short : goal.returns-clause-short
returns-clause-short g c = (read_all _ _ _ _ _ c.in_ok-take_input.ensures.all c.in_ok-take_input.ensures.end (λ bytes small took. c.in_ok-finish.ensures.reads bytes small (took small))).0

pub returns-in_err-take_input-clause-input_still : goal.returns-in_err-take_input-clause-input_still
returns-in_err-take_input-clause-input_still g c =
    subst (InputStands _ _) (sym (err_outcome c.from_residual.result (of_input c.in_err-take_input.field-0.0) c.from_residual.ensures.1)) (input_failed _ _ c.in_err-take_input.field-0.0 c.in_err-take_input.ensures.still)
