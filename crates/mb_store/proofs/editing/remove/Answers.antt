use Rattle.mb_store.proofs.Common.{ap, find, is_at, is_early, length, List, list_any, None, option_copied, refl, remove_key, Some, Stored, stored_cmp, sym, ◌∙◌, ◌≡◌}
use Rattle.mb_store.proofs.EditLemmas.{one_less, others_same, stored_without, there}
use Rattle.mb_store.proofs.StoredLemmas.{not_found}
use Rattle.mb_store.proofs.editing.remove.Goals as goal

pub loop-first-preserved : goal.loop-first-preserved
loop-first-preserved c =
    let keys : List Stored = c.loop-first.rows.stored.keys in
    let found : find (is_early c.args.key.0 c.args.start) keys ≡ Some c.in-Some.first.now = ap (λ (s : Stored). find (is_early s.0 c.args.start) keys) (sym c.loop-first.invariant.key) ∙ (sym c.first_early.ensures ∙ ap option_copied c.in-Some.is) in
    let at : c.set_arrival-in-Some.new.self ≡ (c.args.key.0, c.in-Some.first.now.1) = c.set_arrival-in-Some.ensures ∙ (λ i. ((c.loop-first.invariant.key i).0, c.arrival-arrival.ensures i)) in
    let made : c.remove.new.self.keys ≡ remove_key (is_at (stored_cmp (c.args.key.0, c.in-Some.first.now.1))) keys = c.remove.ensures.keys ∙ ap (λ (s : Stored). remove_key (is_at (stored_cmp s)) keys) at in
    record {
      key = c.set_arrival-in-Some-2.ensures ∙ (ap (λ (s : Stored). (s.0, 0)) c.set_arrival-in-Some.ensures ∙ ap (λ (s : Stored). (s.0, 0)) c.loop-first.invariant.key);
      stored = stored_without c.args.table (is_at (stored_cmp (c.args.key.0, c.in-Some.first.now.1))) c.loop-first.rows (record c.loop-first.rows { stored = c.remove.new.self }) c.remove.result made refl c.remove.ensures.len c.loop-first.invariant.stored;
      others = others_same c.args.key.0 c.args.start keys c.remove.new.self.keys c.in-Some.first.now found made ∙ c.loop-first.invariant.others;
    }

pub loop-first-smaller : goal.loop-first-smaller
loop-first-smaller c =
    let keys : List Stored = c.loop-first.rows.stored.keys in
    let found : find (is_early c.args.key.0 c.args.start) keys ≡ Some c.in-Some.first.now = ap (λ (s : Stored). find (is_early s.0 c.args.start) keys) (sym c.loop-first.invariant.key) ∙ (sym c.first_early.ensures ∙ ap option_copied c.in-Some.is) in
    let at : c.set_arrival-in-Some.new.self ≡ (c.args.key.0, c.in-Some.first.now.1) = c.set_arrival-in-Some.ensures ∙ (λ i. ((c.loop-first.invariant.key i).0, c.arrival-arrival.ensures i)) in
    one_less (length c.remove.new.self.keys) (length keys) c.remove.result c.remove.ensures.len
    (c.remove.ensures.test ∙ (ap (λ (s : Stored). list_any (is_at (stored_cmp s)) keys) at ∙ there c.args.key.0 c.args.start keys c.remove.new.self.keys c.in-Some.first.now found))

pub returns-clause-rows : goal.returns-clause-rows
returns-clause-rows c =
    let keys : List Stored = c.loop-first.rows.stored.keys in
    let none : find (is_early c.args.key.0 c.args.start) keys ≡ None = ap (λ (s : Stored). find (is_early s.0 c.args.start) keys) (sym c.loop-first.invariant.key) ∙ (sym c.first_early.ensures ∙ ap option_copied c.in_default.is) in
    sym (not_found (is_early c.args.key.0 c.args.start) keys none) ∙ c.loop-first.invariant.others
