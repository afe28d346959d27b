-- Which counts of faults stand, by how a run ends.
use Rattle.std.specs.Prelude.{ℕ, ◌≡◌}
use Rattle.tileset.specs.declared.outcome.Outcome.{Outcome}
use Rattle.tileset.specs.declared.outcome.Outcome.TheVariants.{InputFault, OutputFault, MediumFault, OutOfMemory}

-- that of the input, unless it failed or memory ran out
abbrev pub InputStands : ℕ → ℕ → Outcome → Type 0
InputStands before now InputFault = Unit {0}
InputStands before now OutOfMemory = Unit {0}
InputStands before now _ = now ≡ before

-- that of the output, unless it failed or memory ran out
abbrev pub OutputStands : ℕ → ℕ → Outcome → Type 0
OutputStands before now OutputFault = Unit {0}
OutputStands before now OutOfMemory = Unit {0}
OutputStands before now _ = now ≡ before

-- that of the medium, unless it failed or memory ran out
abbrev pub MediumStands : ℕ → ℕ → Outcome → Type 0
MediumStands before now MediumFault = Unit {0}
MediumStands before now OutOfMemory = Unit {0}
MediumStands before now _ = now ≡ before
