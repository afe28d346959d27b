use Rattle.std.proofs.Common.{arith, false, int_lt, None, of_z, pos, refl, rules, SFits, subst, subst₂, sym, to_z, true, w64, ℕ, ℤ, ◌+ℤ◌, ◌≡◌}
use Rattle.std.specs.Prelude.{SomeIff}
use Rattle.std.proofs.lemmas.Result.{err_from_is_err_and}
use Rattle.sqlite_btree.proofs.Results.{within_limit}
use Rattle.sqlite_btree.proofs.ViewLemmas.{ascends_rows}
use Rattle.sqlite_btree.specs.Batch.{IsBatchOf, TookFirst}
use Rattle.sqlite_btree.specs.Stored.{IsLaidIn}
use Rattle.sqlite_pages.specs.PageMap.{PageMap}
use Rattle.mb_file.proofs.CursorLemmas.{as_found, as_passed, first_taken, from_noted, ids_fit, never_below, none_taken}
use Rattle.mb_file.proofs.cursor.Cursor.advance.Goals as goal

pub returns-in_err-fill_empty-clause-taken : goal.returns-in_err-fill_empty-clause-taken
returns-in_err-fill_empty-clause-taken g c = λ clean layout rows laid table among.
    let fits : SFits w64 c.in-Some.next = search rules in
    let noted = as_passed _ c.in-Some.next c.in-Some.is fits in
    let p = err_from_is_err_and c.from_residual.result c.from_residual.ensures.1 in
    rw (p.1, p.2) (c.in_err-fill_empty.ensures.filled clean layout rows laid table among.valid among.rest (from_noted _ _ rows _ noted among.parts))

pub returns-in_err-next-clause-taken : goal.returns-in_err-next-clause-taken
returns-in_err-next-clause-taken g c = λ clean layout rows laid table among.
    let fits : SFits w64 c.in-Some.next = search rules in
    let noted = as_passed _ c.in-Some.next c.in-Some.is fits in
    let filled = c.in_ok-fill_empty.ensures.filled (omega (arith, clean, c.next.ensures.kept.clean)) layout rows laid table among.valid among.rest (from_noted _ _ rows _ noted among.parts) in
    let p = err_from_is_err_and c.from_residual-in_err-next.result c.from_residual-in_err-next.ensures.1 in
    rw (p.1, p.2) (within_limit _ _ _ _ _ c.fill_empty.ensures.kept.more_faults
    (c.in_err-next.ensures.done clean layout (subst (IsLaidIn layout) (sym c.fill_empty.ensures.pages) laid) (subst (λ (u : ℕ). IsBatchOf layout u c.fill_empty.new.batch) (sym c.fill_empty.ensures.kept.same_size) filled.valid)))

pub returns-then-not-branch-clause-taken : goal.returns-then-not-branch-clause-taken
returns-then-not-branch-clause-taken g c = λ clean layout rows laid table among.
    let fits : SFits w64 c.in-Some.next = search rules in
    let noted = as_passed _ c.in-Some.next c.in-Some.is fits in
    let filled = c.in_ok-fill_empty.ensures.filled (omega (arith, clean, c.next.ensures.kept.clean)) layout rows laid table among.valid among.rest (from_noted _ _ rows _ noted among.parts) in
    let took = subst₂ (λ (u : ℕ) (p : PageMap). TookFirst layout u p c.fill_empty.new.batch c.next.new.self false) c.fill_empty.ensures.kept.same_size c.fill_empty.ensures.pages
    (subst (λ b. TookFirst layout (g.P.Pages.size c.fill_empty.new.pages) (g.P.Pages.pages c.fill_empty.new.pages) c.fill_empty.new.batch c.next.new.self b) c.if-not-branch.true (c.in_ok-next.ensures.done clean layout (subst (IsLaidIn layout) (sym c.fill_empty.ensures.pages) laid) (subst (λ (u : ℕ). IsBatchOf layout u c.fill_empty.new.batch) (sym c.fill_empty.ensures.kept.same_size) filled.valid))) in
    none_taken layout _ _ rows c.args.self.now (record { batch = c.next.new.self; next = None }) _ _ noted refl filled took

pub returns-then-rowid-next-clause-taken : goal.returns-then-rowid-next-clause-taken
returns-then-rowid-next-clause-taken g c = λ clean layout rows laid table among.
    let fits : SFits w64 c.in-Some.next = search rules in
    let noted = as_passed _ c.in-Some.next c.in-Some.is fits in
    let filled = c.in_ok-fill_empty.ensures.filled (omega (arith, clean, c.next.ensures.kept.clean)) layout rows laid table among.valid among.rest (from_noted _ _ rows _ noted among.parts) in
    let took = subst₂ (λ (u : ℕ) (p : PageMap). TookFirst layout u p c.fill_empty.new.batch c.next.new.self true) c.fill_empty.ensures.kept.same_size c.fill_empty.ensures.pages
    (subst (λ b. TookFirst layout (g.P.Pages.size c.fill_empty.new.pages) (g.P.Pages.pages c.fill_empty.new.pages) c.fill_empty.new.batch c.next.new.self b) c.if-not-branch.false (c.in_ok-next.ensures.done clean layout (subst (IsLaidIn layout) (sym c.fill_empty.ensures.pages) laid) (subst (λ (u : ℕ). IsBatchOf layout u c.fill_empty.new.batch) (sym c.fill_empty.ensures.kept.same_size) filled.valid))) in
    let own : SFits w64 c.rowid-rowid.result = search rules in
    never_below layout _ _ rows _ c.next.new.self _ filled took (subst (λ (x : ℤ). int_lt x (to_z w64 (of_z w64 c.in-Some.next)) ≡ true) (as_found _ _ c.rowid-rowid.ensures own) c.if-rowid-next.true)

pub returns-clause-taken : goal.returns-clause-taken
returns-clause-taken g c = λ clean layout rows laid table among.
    let fits : SFits w64 c.in-Some.next = search rules in
    let noted = as_passed _ c.in-Some.next c.in-Some.is fits in
    let filled = c.in_ok-fill_empty.ensures.filled (omega (arith, clean, c.next.ensures.kept.clean)) layout rows laid table among.valid among.rest (from_noted _ _ rows _ noted among.parts) in
    let took = subst₂ (λ (u : ℕ) (p : PageMap). TookFirst layout u p c.fill_empty.new.batch c.next.new.self true) c.fill_empty.ensures.kept.same_size c.fill_empty.ensures.pages
    (subst (λ b. TookFirst layout (g.P.Pages.size c.fill_empty.new.pages) (g.P.Pages.pages c.fill_empty.new.pages) c.fill_empty.new.batch c.next.new.self b) c.if-not-branch.false (c.in_ok-next.ensures.done clean layout (subst (IsLaidIn layout) (sym c.fill_empty.ensures.pages) laid) (subst (λ (u : ℕ). IsBatchOf layout u c.fill_empty.new.batch) (sym c.fill_empty.ensures.kept.same_size) filled.valid))) in
    let own : SFits w64 c.rowid-rowid.result = search rules in
    first_taken layout _ _ rows c.args.self.now (record { batch = c.next.new.self; next = c.checked_add-self.result }) _ _ (ascends_rows table) (ids_fit table) noted filled took
    (subst (λ (x : ℤ). SomeIff c.checked_add-self.result (SFits w64 (x +ℤ pos 1)) (x +ℤ pos 1)) (as_found _ _ c.rowid-rowid.ensures own) c.checked_add-self.ensures)
