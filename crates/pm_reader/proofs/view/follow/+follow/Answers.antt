use Rattle.pm_reader.proofs.Common.{ap, arith, false, Ok, refl, sym, true, ◌∙◌, ◌≡◌}
use Rattle.pm_reader.proofs.ViewLookUpLemmas.{at_leaf_next, at_leaf_past, in_leaf_last, in_none, in_tile}
use Rattle.pm_reader.proofs.view.follow.+follow.Goals as goal

pub returns-in_default-clause-answer : goal.returns-in_default-clause-answer
returns-in_default-clause-answer t c =
    sym (in_none c.args.left _ _ _ _ (ap Ok (sym c.in_default.is) ∙ c.in_ok-entry.ensures.answer))

pub returns-then-not-is_leaf-clause-answer : goal.returns-then-not-is_leaf-clause-answer
returns-then-not-is_leaf-clause-answer t c =
    let tile : c.in-Some.entry.run_length ≡ 0 → ⊥ = λ e. let both : false ≡ true = c.if-not-is_leaf.ensures.1 e in absurd (cc) in
    c.contents.ensures.answer ∙ sym (in_tile c.args.left _ _ _ _ c.in-Some.entry (ap Ok (sym c.in-Some.is) ∙ c.in_ok-entry.ensures.answer) tile)

pub returns-then-left-eq0-clause-answer : goal.returns-then-left-eq0-clause-answer
returns-then-left-eq0-clause-answer t c =
    rw c.if-left-eq0.true (sym (in_leaf_last _ _ _ _ c.in-Some.entry (ap Ok (sym c.in-Some.is) ∙ c.in_ok-entry.ensures.answer) (c.if-not-is_leaf.ensures.0 refl)))

pub returns-in_default-range-clause-answer : goal.returns-in_default-range-clause-answer
returns-in_default-range-clause-answer t c =
    let some : c.args.left ≡ 0 → ⊥ = λ e. omega (arith, c.if-left-eq0.false, e) in
    sym (at_leaf_past c.args.left _ _ _ _ c.in-Some.entry _ _ (ap Ok (sym c.in-Some.is) ∙ c.in_ok-entry.ensures.answer) (c.if-not-is_leaf.ensures.0 refl) some c.offset.ensures (c.from-length.ensures ∙ c.length.ensures) c.in_default-range.ensures)

pub returns-clause-answer : goal.returns-clause-answer
returns-clause-answer t c =
    let some : c.args.left ≡ 0 → ⊥ = λ e. omega (arith, c.if-left-eq0.false, e) in
    c.follow.ensures.answer
    ∙ sym (at_leaf_next c.args.left _ _ _ _ c.in-Some.entry _ _ _ (ap Ok (sym c.in-Some.is) ∙ c.in_ok-entry.ensures.answer) (c.if-not-is_leaf.ensures.0 refl) some c.offset.ensures (c.from-length.ensures ∙ c.length.ensures) c.in-Some-range.ensures)
