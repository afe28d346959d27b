-- What a reader of a script keeps of the bytes that it took.
use Rattle.std.specs.Prelude.{ℕ, ◌≡◌, ◌≤◌, ◌+◌, ◌++◌, Bool, true, false, List, length, Result, Err}
use Rattle.tileset_script.specs.Common.{HasNo, lines_of}
use Rattle.tileset_script.specs.Reading.{DraftNeverFails, drafted}
use Rattle.tileset_script.specs.Script.{Draft, Script, script_from, script_of}
use Rattle.tileset_script.specs.declared.script.reader.ScriptReader.{ScriptReader}

-- the script whose lines from this one on are to come, or the bad line
abbrev pub due_of : Bool → ℕ → Draft → List ℕ → Result Script ℕ
due_of true n d rest = Err n
due_of false n d rest = script_from n d (lines_of rest)

-- whatever comes behind these bytes, the script of all is what the reader's lines say with those behind them
pub record HasRead (bytes : List ℕ) (r : ScriptReader) : Type 0 where
  pub whole : (more : List ℕ) → script_of (bytes ++ more) ≡ due_of r.is_bad r.number (drafted r.draft) (r.line.items ++ more)
  pub part : HasNo 10 r.line.items (length r.line.items)
  pub small : r.number + length r.line.items ≤ 1 + length bytes
  pub unfailing : DraftNeverFails r.draft
