use Rattle.pm_format.proofs.Common.{entry, get_or, None, offset_of, rules, SomeIff, subst, sym, ℕ, [], ◌++◌, ◌+◌, ◌<◌, ◌^◌, ◌∙◌, ◌∷◌, ◌≡◌}
use Rattle.pm_format.proofs.ColumnLemmas.{u64_number}
use Rattle.pm_format.proofs.EntryLemmas.{entries_step, entries_stop, entries_unplaced, entries_done}
use Rattle.pm_format.proofs.directory.decode.read_entries.Goals as goal

pub returns-in_err-number-clause-none : goal.returns-in_err-number-clause-none
returns-in_err-number-clause-none c = λ _. entries_stop _ _ _ _ _ _ _ _ _ c.loop-i-test.true c.requires.runs c.requires.lengths (sym (u64_number _) ∙ c.in_err-number.ensures.none) c.loop-i.invariant

pub returns-in_default-clause-none : goal.returns-in_default-clause-none
returns-in_default-clause-none c =
    let unplaced : offset_of c.loop-i.end c.in_ok-number.number ≡ None = sym c.in_default.ensures in
    λ _. entries_unplaced _ _ _ _ _ _ _ _ _ _ _ c.loop-i-test.true c.requires.runs c.requires.lengths (sym (u64_number _) ∙ c.in_ok-number.ensures.found) unplaced c.loop-i.invariant

pub loop-i-preserved : goal.loop-i-preserved
loop-i-preserved c =
    let made : c.new.result ≡ entry (get_or c.args.ids.now c.loop-i.i 0) c.in-Some.offset (get_or c.args.lengths.now c.loop-i.i 0) (get_or c.args.runs.now c.loop-i.i 0) = c.new.ensures in
    let pushed : c.push.new.self.items ≡ c.loop-i.entries.items ++ c.new.result ∷ [] = search rules in
    let length_is : c.from.result ≡ get_or c.args.lengths.now c.loop-i.i 0 = c.from.ensures in
    let following = subst (λ (n : ℕ). SomeIff c.checked_add-end.result (c.in-Some.offset + n < 2 ^ 64) (c.in-Some.offset + n)) length_is c.checked_add-end.ensures in
    rw (pushed, made) (entries_step _ _ _ _ _ _ _ _ _ _ _ _ _ c.loop-i-test.true c.requires.runs c.requires.lengths c.in_ok-number.ensures.place.1 (sym (u64_number _) ∙ c.in_ok-number.ensures.found) (sym c.in-Some.ensures) following c.loop-i.invariant)

pub returns-clause-found : goal.returns-clause-found
returns-clause-found c = entries_done _ _ _ _ _ _ _ _ _ c.loop-i-test.false c.requires.runs c.requires.lengths c.loop-i.invariant
