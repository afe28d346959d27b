use Rattle.mb_store.proofs.Common.{all_rows, ap, refl, sym, TableRows, ◌∙◌}
use Rattle.std.specs.Vec.{vec_items}
use Rattle.mb_store.proofs.GatheredLemmas.{put_again, put_told, told_still}
use Rattle.mb_store.proofs.gathering.settle.Goals as goal

pub returns-then-is_empty-clause-told : goal.returns-then-is_empty-clause-told
returns-then-is_empty-clause-told c i u = told_still c.args.tables.now c.args.gathered.now c.close.new.self c.close.ensures.table (ap vec_items c.close.ensures.rows) u i

pub returns-in-Ok-clause-told : goal.returns-in-Ok-clause-told
returns-in-Ok-clause-told c =
    (λ i u. put_told c.args.tables.now c.exchange.new.tables c.close.new.self c.free.new.self c.put_all-settled.new.rows
    (put_again c.args.tables.now c.exchange-rows.new.tables c.exchange.new.tables c.close.new.self.table c.none-none.result c.put_all-settled.new.rows c.exchange-rows.ensures.put c.exchange.ensures.put)
    c.free.ensures.table
    (ap (all_rows c.put_all-settled.new.rows.stored.keys) (c.free.ensures.rows ∙ sym c.in-Ok.ensures.ok) ∙ (c.put_all-settled.ensures.told ∙ ap (λ (r : TableRows). all_rows r.stored.keys c.close.new.self.rows.items) c.exchange-rows.ensures.given)) u i)
    ∙ (λ i u. told_still c.args.tables.now c.args.gathered.now c.close.new.self c.close.ensures.table (ap vec_items c.close.ensures.rows) u i)

pub returns-in-Err-clause-told : goal.returns-in-Err-clause-told
returns-in-Err-clause-told c =
    (λ i u. put_told c.args.tables.now c.exchange.new.tables c.close.new.self (record { table = c.close.new.self.table; rows = c.put_all-settled.new.list; seen = c.close.new.self.seen; spread = c.close.new.self.spread; is_open = c.close.new.self.is_open }) c.put_all-settled.new.rows
    (put_again c.args.tables.now c.exchange-rows.new.tables c.exchange.new.tables c.close.new.self.table c.none-none.result c.put_all-settled.new.rows c.exchange-rows.ensures.put c.exchange.ensures.put)
    refl
    (c.put_all-settled.ensures.told ∙ ap (λ (r : TableRows). all_rows r.stored.keys c.close.new.self.rows.items) c.exchange-rows.ensures.given) u i)
    ∙ (λ i u. told_still c.args.tables.now c.args.gathered.now c.close.new.self c.close.ensures.table (ap vec_items c.close.ensures.rows) u i)
