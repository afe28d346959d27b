-- A name of the metadata that is put.
use Rattle.tile_command.proofs.Common.{ap, List, no_members, Option, put, sym, text_cell, ℕ, ◌∙◌, ◌≡◌}
use Rattle.tile_command.specs.Common.{Cell, Data, Members}
use Rattle.tile_command.specs.Document.{cell_data, with_stored}

pub stored_step : (old new : Members) (name : List ℕ) (cell : Cell) (d : Data) → d ≡ cell_data cell → new ≡ put name d old
    → (e : List ℕ × Option (List ℕ)) → (e.0 ≡ name) × (text_cell e.1 ≡ cell) → new ≡ with_stored old e
stored_step old new name cell d is step e p =
    step ∙ (ap (λ x. put name x old) (is ∙ ap cell_data (sym p.1)) ∙ ap (λ n. put n (cell_data (text_cell e.1)) old) (sym p.0))
