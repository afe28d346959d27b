use Rattle.mb_reading.proofs.Common.{Err, false, IfNone, IfOk, IfSome, is_input, IsFull, IsOdd, IsUnfit, may_lack, None, Ok, Option, read_of, ReadsTable, Result, rules, Some, state, true, ◌≡◌}
use Rattle.mb_reading.proofs.AskLemmas.{input_by}
use Rattle.mb_reading.proofs.ReadLemmas.{reads_nothing, reads_table, unfit_by_rows, unfit_by_text}
use Rattle.mb_reading.proofs.TextLemmas.{rows_ask}
use Rattle.mb_reading.proofs.reading.read_table.Goals as goal

-- what is said of a store that a call answers, or of none
if_some : {A E : Type 0} (r : Result (Option A) E) (P Q : A → Type 0) → ((a : A) → P a → Q a) → IfOk r (λ o. IfSome o P) → IfOk r (λ o. IfSome o Q)
if_some (Ok (Some a)) P Q f h = f a h
if_some (Ok None) P Q f h = tt
if_some (Err e) P Q f h = tt

if_none : {A E : Type 0} (r : Result (Option A) E) (P Q : Type 0) → (P → Q) → IfOk r (λ o. IfNone o P) → IfOk r (λ o. IfNone o Q)
if_none (Ok (Some a)) P Q f h = tt
if_none (Ok None) P Q f h = f h
if_none (Err e) P Q f h = tt

pub returns-then-not-has-clause-read : goal.returns-then-not-has-clause-read
returns-then-not-has-clause-read g c clean =
    let isnt : c.args.has ≡ false = search rules in
    reads_nothing c.args.has c.args.table (state g.S.Store c.args.connection.now) (read_of c.args.so_far) isnt

pub take_rows-requires-clause-asks : goal.take_rows-requires-clause-asks
take_rows-requires-clause-asks g c = rows_ask c.args.table c.rows_of.result.now c.rows_of.ensures

pub returns-in-Ok-clause-read : goal.returns-in-Ok-clause-read
returns-in-Ok-clause-read g c clean =
    let is : c.args.has ≡ true = search rules in
    let shown = c.in-Ok.ensures.shown clean in
    let t = read_of c.args.so_far in
    if_some c.finish.result (IsFull c.args.table c.in-Ok.filling) (λ full. ReadsTable c.args.has c.args.table (state g.S.Store c.args.connection.now) t (read_of full))
    (λ full h. (let it = h t shown.0 shown.2 in reads_table c.args.has c.args.table c.rows_of.result.now (state g.S.Store c.args.connection.now) t (read_of full) shown.0 is c.rows_of.ensures shown.1 it.0 it.1)) c.finish.ensures.full

pub returns-in-Ok-clause-unfit : goal.returns-in-Ok-clause-unfit
returns-in-Ok-clause-unfit g c clean =
    let is : c.args.has ≡ true = search rules in
    let shown = c.in-Ok.ensures.shown clean in
    let t = read_of c.args.so_far in
    if_none c.finish.result (IsOdd c.args.table c.in-Ok.filling) (IsUnfit c.args.has c.args.table (state g.S.Store c.args.connection.now) t)
    (λ h. (let it = h t shown.0 shown.2 in unfit_by_rows c.args.has c.args.table c.rows_of.result.now (state g.S.Store c.args.connection.now) t shown.0 is it.0 c.rows_of.ensures shown.1 it.1)) c.finish.ensures.odd

pub returns-in_ok-test_lacking-in-Err-clause-unfit :
    goal.returns-in_ok-test_lacking-in-Err-clause-unfit
returns-in_ok-test_lacking-in-Err-clause-unfit g c clean =
    let is : c.args.has ≡ true = search rules in
    let may : may_lack c.args.table ≡ true = search rules in
    let input : is_input c.in-Err.cause ≡ true = search rules in
    let fault = input_by c.in-Err.cause input in
    let refused = c.in-Err.ensures.refuses clean fault.0 fault.1 in
    unfit_by_text c.args.has c.args.table c.rows_of.result.now (state g.S.Store c.args.connection.now) (read_of c.args.so_far) fault.0 is may c.rows_of.ensures refused.0
