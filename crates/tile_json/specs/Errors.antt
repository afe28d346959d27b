-- What a reading answers.
use Rattle.std.specs.Prelude.{◌≡◌, Option, Some, None, Result, Ok, Err}
use Rattle.tile_json.specs.declared.error.DocumentError.{DocumentError}
use Rattle.tile_json.specs.declared.error.DocumentError.TheVariants.{Invalid, OutOfMemory}

-- what is wanted, refused exactly where nothing is; running out of memory may come in its place
abbrev pub Answers : {A : Type 0} → Option A → Result A DocumentError → Type 0
Answers wanted (Ok x) = wanted ≡ Some x
Answers wanted (Err Invalid) = wanted ≡ None
Answers wanted (Err OutOfMemory) = Unit {0}

-- the same of a call that leaves what is wanted behind
abbrev pub Leaves : {A B : Type 0} → Option A → A → Result B DocumentError → Type 0
Leaves wanted left (Ok _) = wanted ≡ Some left
Leaves wanted left (Err Invalid) = wanted ≡ None
Leaves wanted left (Err OutOfMemory) = Unit {0}
