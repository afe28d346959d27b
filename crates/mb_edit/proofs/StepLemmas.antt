-- The step of a patch that passes its tests.
use Rattle.mb_edit.proofs.Common.{ap, Bool, Held, held_patched, may_patch, None, Ok, State, state_patched, step, sym, ◌∙◌, ◌≡◌}
use Rattle.mb_edit.proofs.StateLemmas.{patched_state}
use Rattle.mb_load.specs.Loading.{due_by}

pub step_made : (force : Bool) (h : Held) (q : State) (new : Held) → may_patch force h.state q ≡ None → new ≡ held_patched h q → step force h.state q ≡ Ok new.state
step_made force h q new may made = ap (due_by (state_patched h.state q)) may ∙ ap Ok (sym (ap (λ (x : Held). x.state) made ∙ patched_state h q))
