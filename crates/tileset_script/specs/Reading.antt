-- What the reading of a script answers.
use Rattle.std.specs.Prelude.{ℕ, ◌≡◌, ◌≤◌, ◌+◌, ◌++◌, Bool, true, false, All, List, length, map, Option, Some, None, Result, Ok, Err, IfSome}
use Rattle.tileset_script.specs.Common.{lines_of, option_map, told_of, width}
use Rattle.tileset_script.specs.Script.{script_from, script_of}
use Rattle.tileset_script.specs.Script as definition
use Rattle.tileset_script.specs.Section.{NeverFails}
use Rattle.tileset_script.specs.declared.script.ParsedScript.{ParsedScript}
use Rattle.tileset_script.specs.declared.script.draft.Draft.{Draft}
use Rattle.tileset_script.specs.declared.script.error.ScriptError.{ScriptError}
use Rattle.tileset_script.specs.declared.script.error.ScriptError.TheVariants.{BadLine, OutOfMemory}
use Rattle.tileset_script.specs.declared.script.line.Line.{Line}
use Rattle.tileset_script.specs.declared.script.line.Line.TheVariants.{Row}

-- the script that was read
abbrev pub script_text : ParsedScript → definition.Script
script_text s = record { options = s.options; base = told_of s.base; patches = map told_of s.patches.items; queries = s.queries.items }

-- the script that is due, or the number of the bad line, unless memory ran out
abbrev pub EndsAs : Result definition.Script ℕ → Result ParsedScript ScriptError → Type 0
EndsAs due (Ok s) = due ≡ Ok (script_text s)
EndsAs due (Err (BadLine n)) = due ≡ Err n
EndsAs due (Err OutOfMemory) = Unit {0}

abbrev pub Reads : List ℕ → Result ParsedScript ScriptError → Type 0
Reads input result = EndsAs (script_of input) result

-- no call of a store of the script failed, and none is to fail
pub record ScriptNeverFails (s : ParsedScript) : Type 0 where
  pub base : NeverFails s.base
  pub patches : All NeverFails s.patches.items

-- a row has the width of its table
abbrev pub IsWide : Line → Type 0
IsWide (Row table row) = length row ≡ width table
IsWide _ = Unit {0}

-- what a draft that is kept stands for
abbrev pub drafted : Draft → definition.Draft
drafted d = record { settings = d.settings.items; earlier = map told_of d.earlier.items; latest = option_map (λ s. told_of s.store) d.latest; queries = d.queries.items }

-- the same of a draft
pub record DraftNeverFails (d : Draft) : Type 0 where
  pub earlier : All NeverFails d.earlier.items
  pub latest : IfSome d.latest (λ s. NeverFails s.store)

-- what stands after a step that may not be taken: what it gives, and where it gives nothing, whatever stands
abbrev pub Takes : {T : Type 0} → Option T → Bool → T → Type 0
Takes (Some wanted) taken new = (taken ≡ true) × (new ≡ wanted)
Takes None taken new = taken ≡ false

-- The lines of a text were taken, whatever comes behind it: this is behind them, or one of them is the first bad line.
abbrev pub TakesLines : ℕ → definition.Draft → List ℕ → Option (List ℕ) → ℕ → definition.Draft → Type 0
TakesLines n d text (Some rest) m e = (m + length rest ≤ n + length text) × ((more : List ℕ) → script_from n d (lines_of (text ++ more)) ≡ script_from m e (lines_of (rest ++ more)))
TakesLines n d text None m e = (m ≤ n + length text) × ((more : List ℕ) → script_from n d (lines_of (text ++ more)) ≡ Err m)
