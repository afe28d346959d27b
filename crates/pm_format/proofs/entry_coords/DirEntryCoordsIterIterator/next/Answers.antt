use Rattle.pm_format.proofs.Common.{ap, arith, length, List, suc, sym, ℕ, ◌+◌, ◌-◌, ◌<◌, ◌∙◌, ◌∷◌, ◌≡◌}
use Rattle.std.specs.List.{range_with_len}
use Rattle.pm_format.proofs.entry_coords.DirEntryCoordsIterIterator.next.Goals as goal

run_next : (id run taken first : ℕ) (s : List ℕ) → range_with_len (id + taken) (run - taken) ≡ s → taken < run → first ≡ id + taken → s ≡ first ∷ range_with_len (id + (taken + 1)) (run - (taken + 1))
run_next id run taken first s v h f =
    let one : run - taken ≡ suc (run - (taken + 1)) = omega arith in
    let next : id + taken + 1 ≡ id + (taken + 1) = omega arith in
    sym v ∙ (ap (range_with_len (id + taken)) one ∙ (ap (λ a. (id + taken) ∷ range_with_len a (run - (taken + 1))) next ∙ ap (λ a. a ∷ range_with_len (id + (taken + 1)) (run - (taken + 1))) (sym f)))

pub returns-clause-steps : goal.returns-clause-steps
returns-clause-steps c =
    run_next c.self.inside.entry.now.tile_id c.self.inside.entry.now.run_length c.self.inside.taken c.in-Ok.id c.args.self.now c.self.view_is (omega (arith, c.self.invariant.0, c.if-self.false)) (c.in-Ok.ensures.value ∙ ap (λ n. c.self.inside.entry.now.tile_id + n) c.from.ensures)

pub returns-clause-goes : goal.returns-clause-goes
returns-clause-goes c =
    let e = run_next c.self.inside.entry.now.tile_id c.self.inside.entry.now.run_length c.self.inside.taken c.in-Ok.id c.args.self.now c.self.view_is (omega (arith, c.self.invariant.0, c.if-self.false)) (c.in-Ok.ensures.value ∙ ap (λ n. c.self.inside.entry.now.tile_id + n) c.from.ensures) in
    record { on = λ _. (tt, tt, omega (arith, ap length e)); keeps = tt; rests = λ _. tt }
