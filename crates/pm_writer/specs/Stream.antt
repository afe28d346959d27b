-- A writer together with the medium that it borrows.
use Rattle.std.specs.Prelude.{ℕ, List, Option}
use Rattle.pm_writer.specs.Common.{Options}
use Rattle.pm_writer.specs.Writing.{Writes}
use Rattle.pm_writer.specs.declared.state.WriterState.{WriterState}
use Rattle.pm_writer.specs.declared.stream.PmTilesStreamWriter.{PmTilesStreamWriter}

-- the told bytes of its medium hold the contents of these adds at their places
abbrev pub IsTied : {M : Type 0} → (M → Option (List ℕ)) → Options → PmTilesStreamWriter M WriterState → List (ℕ × List ℕ) → Type 0
IsTied told o w adds = Writes o (told w.medium.now) w.state adds
