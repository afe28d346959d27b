-- What an add does to a writer, by the medium before and after it and the writer's state before and after it.
use Rattle.std.specs.Prelude.{◌≡◌, ℕ, List, [], Option, Result, OnOk, OnErr, length}
use Rattle.pm_writer.specs.Common.{Compression, Options, PmtError}
use Rattle.pm_format.specs.declared.compression.Compression.TheVariants as compression
use Rattle.pm_writer.specs.Adds.{contents_from}
use Rattle.pm_writer.specs.Causes.{AddCauses}
use Rattle.pm_writer.specs.Took.{AreUnlike, TookBy}
use Rattle.pm_writer.specs.Writing.{AddFits, RunFits, Writes, add_run_to, add_to, has_failed, run_size}
use Rattle.pm_writer.specs.declared.state.WriterState.{WriterState}

-- a state is that of some options and adds on what is told
abbrev pub WritesSome : Option (List ℕ) → WriterState → Type 0
WritesSome told s = (o : Options) × (adds : List (ℕ × List ℕ)) × Writes o told s adds

-- what holds of all options and adds that a state is of
abbrev pub WhereWrites : Option (List ℕ) → WriterState → (Options → List (ℕ × List ℕ) → Type 0) → Type 0
WhereWrites told s holds = (o : Options) (adds : List (ℕ × List ℕ)) → Writes o told s adds → holds o adds

-- what holds of what data is taken for
abbrev pub TakenFor : {M : Type 0} → (M → Option (List ℕ)) → (M → ℕ) → M → M → List ℕ → (List ℕ → Type 0) → Type 0
TakenFor told reads old new given holds = (taken : List ℕ) × TookBy (told old) (reads old) (reads new) given taken × holds taken

-- Ok added what the data is taken for under the id
abbrev pub IsAdded : {M : Type 0} → (M → Option (List ℕ)) → (M → ℕ) → M → M → WriterState → WriterState → ℕ → List ℕ → Result Unit PmtError → Type 0
IsAdded told reads old new before after id given result = WhereWrites (told old) before (λ o adds. OnOk result (TakenFor told reads old new given (λ taken. Writes o (told new) after (add_to adds id taken))))

-- an error added nothing
abbrev pub IsUnadded : {A M : Type 0} → (M → Option (List ℕ)) → M → M → WriterState → WriterState → Result A PmtError → Type 0
IsUnadded told old new before after result = WhereWrites (told old) before (λ o adds. OnErr result (Writes o (told new) after adds))

-- when each answer comes, by the label that the data would have to be plain under
abbrev pub IsCaused : {M : Type 0} → (Options → Compression) → (M → Option (List ℕ)) → (M → ℕ) → (M → ℕ) → M → M → WriterState → ℕ → List ℕ → Result Unit PmtError → Type 0
IsCaused label told reads faults old new before id given result = WhereWrites (told old) before (λ o adds. TakenFor told reads old new given
    (λ taken. AddCauses (label o) (has_failed before) (length given) (AddFits o adds id taken) (faults old) (faults new) result))

-- nothing is read where no content has the digest and the length of the data
abbrev pub IsQuiet : {M : Type 0} → (M → Option (List ℕ)) → (M → ℕ) → M → M → WriterState → List ℕ → Type 0
IsQuiet told reads old new before given = WhereWrites (told old) before (λ o adds. AreUnlike (contents_from [] adds) given → reads new ≡ reads old)

-- The same of a run of ids, all of which have what the data is taken for.
abbrev pub IsRunAdded : {M : Type 0} → (M → Option (List ℕ)) → (M → ℕ) → M → M → WriterState → WriterState → ℕ → ℕ → List ℕ → Result Unit PmtError → Type 0
IsRunAdded told reads old new before after id count given result = WhereWrites (told old) before (λ o adds. OnOk result (TakenFor told reads old new given (λ taken. Writes o (told new) after (add_run_to adds id count taken))))

abbrev pub IsRunCaused : {M : Type 0} → (M → Option (List ℕ)) → (M → ℕ) → (M → ℕ) → M → M → WriterState → ℕ → ℕ → List ℕ → Result Unit PmtError → Type 0
IsRunCaused told reads faults old new before id count given result = WhereWrites (told old) before (λ o adds. TakenFor told reads old new given
    (λ taken. AddCauses compression.None (has_failed before) (run_size count (length given)) (RunFits o adds id count taken) (faults old) (faults new) result))
