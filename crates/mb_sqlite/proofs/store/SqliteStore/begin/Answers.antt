use Rattle.mb_sqlite.proofs.Common.{false, inl, refl, rules, true, ◌≡◌}
use Rattle.mb_sqlite.proofs.CommitLemmas.{nothing_once, nothing_yet}
use Rattle.mb_sqlite.proofs.ReadyLemmas.{leaves_failed, leaves_inside, leaves_ready, ready_now, ready_yet}
use Rattle.mb_sqlite.proofs.store.SqliteStore.begin.Goals as goal

pub returns-then-not-is_autocommit-clause-kept : goal.returns-then-not-is_autocommit-clause-kept
returns-then-not-is_autocommit-clause-kept g c =
    let s = c.args.self.now in let none = nothing_yet g.S.Store s.connection in record {
      once = nothing_once g.S.Store _ _ _ none;
      survives = λ _. none;
      inside = search rules;
      layout = refl;
      made = search rules;
      faults = search rules;
      fault = search rules;
      leaves = leaves_inside g.S.Store s.layout s.is_made s.is_made s.connection (search rules) refl;
    }

pub returns-in-Err-clause-kept : goal.returns-in-Err-clause-kept
returns-in-Err-clause-kept g c =
    let s = c.args.self.now in let outside : s.connection.in_transaction ≡ false = search rules in record {
      once = c.make.ensures.once;
      survives = search rules;
      inside = search rules;
      layout = refl;
      made = search rules;
      faults = search rules;
      fault = search rules;
      leaves = leaves_failed g.S.Store s.layout s.is_made s.is_made s.connection c.make.new.connection outside (search rules) refl (c.in-Err.ensures.rests outside);
    }

pub returns-in-Ok-clause-ready : goal.returns-in-Ok-clause-ready
returns-in-Ok-clause-ready g c =
    let s = c.args.self.now in let outside : s.connection.in_transaction ≡ false = search rules in
    ready_now g.S.Store s.layout s.is_made s.connection c.make.new.connection (search rules) (c.make.ensures.ended outside) c.in-Ok.ensures.prepared

pub returns-in-Ok-clause-kept : goal.returns-in-Ok-clause-kept
returns-in-Ok-clause-kept g c =
    let s = c.args.self.now in let t = c.make.new.connection in let outside : s.connection.in_transaction ≡ false = search rules in
    let ready = ready_now g.S.Store s.layout s.is_made s.connection t (search rules) (c.make.ensures.ended outside) c.in-Ok.ensures.prepared in record {
      once = c.make.ensures.once;
      survives = search rules;
      inside = search rules;
      layout = refl;
      made = refl;
      faults = search rules;
      fault = search rules;
      leaves = leaves_ready g.S.Store s.layout s.is_made true s.connection t t outside refl ready c.make.ensures.once (inl refl);
    }

pub returns-else-not-self-clause-ready : goal.returns-else-not-self-clause-ready
returns-else-not-self-clause-ready g c = let s = c.args.self.now in ready_yet g.S.Store s.layout s.is_made s.connection (search rules)

pub returns-else-not-self-clause-kept : goal.returns-else-not-self-clause-kept
returns-else-not-self-clause-kept g c =
    let s = c.args.self.now in let h = s.connection in let is : s.is_made ≡ true = search rules in
    let none = nothing_yet g.S.Store h in let once = nothing_once g.S.Store _ _ _ none in record {
      once = once;
      survives = λ _. none;
      inside = search rules;
      layout = refl;
      made = is;
      faults = search rules;
      fault = search rules;
      leaves = leaves_ready g.S.Store s.layout s.is_made s.is_made h h h (search rules) is (ready_yet g.S.Store s.layout s.is_made h is) once (inl refl);
    }
