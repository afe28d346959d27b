-- What the output gains by lines.
use Rattle.std.specs.Prelude.{◌≡◌, ◌≢◌, ◌≤◌, ℕ, true, ◌++◌, List, ◌∷◌, flat_map, Option, Some, IfSome, Err}
use Rattle.tile_serve.specs.Common.{Bounded, Gains, GainsFront, Grew, lines_of}
use Rattle.tile_serve.specs.Answers.{Answers, Causes, ReadsFor}
use Rattle.tile_serve.specs.Course.{AreAnswered, Course, IsBegun, Texts, tiles_behind}
use Rattle.tile_serve.specs.Reply.{replies, reply}
use Rattle.tile_serve.specs.Request.{request_of}
use Rattle.tile_serve.specs.Tiles.{is_read}
use Rattle.tile_serve.specs.declared.error.ServeError.{ServeError}
use Rattle.tile_serve.specs.declared.error.ServeError.TheVariants as serve
use Rattle.tile_serve.specs.declared.limits.ServeLimits.{ServeLimits}
use Rattle.tile_serve.specs.declared.outcome.ServeOutcome.{ServeOutcome}
use Rattle.tile_serve.specs.declared.outcome.ServeOutcome.TheVariants.{Done, Refused, Usage, InputFault, OutputFault, InputTooLong, OutOfMemory}

-- by one line: its reply, a front of it where the output failed or memory ran out, and nothing where it isn't answered
abbrev pub WritesLine : List ℕ → List ℕ → Option (List ℕ) → Option (List ℕ) → ServeOutcome → Type 0
WritesLine b line old new Done = Gains old new (reply b line)
WritesLine b line old new (Refused e) = (new ≡ old) × Answers b line (Err e)
WritesLine b line old new OutputFault = GainsFront old new (reply b line)
WritesLine b line old new OutOfMemory = GainsFront old new (reply b line)
WritesLine b line old new _ = ⊥

-- A line isn't answered. The lines before it were, their replies were written, and what was
-- read since is for this line.
pub record RefusedAt (b : List ℕ) (c : Course) (requests : List ℕ) (now : ℕ) (old new : Option (List ℕ)) (e : ServeError) : Type 0 where
  pub before : List (List ℕ)
  pub line : List ℕ
  pub behind : List (List ℕ)
  pub lines : lines_of requests ≡ before ++ line ∷ behind
  pub written : Gains old new (flat_map (reply b) before)
  pub mid : ℕ
  pub answered : AreAnswered b c before c.tiles c.reads mid
  pub reads : ReadsFor b (request_of line) mid now
  pub asked : is_read (request_of line) (tiles_behind b before c.tiles) ≡ true
  pub refused : Answers b line (Err e)

-- By all lines: each was answered and its reply written, one isn't answered, or a front of the replies was written.
abbrev pub WritesLines : List ℕ → Course → List ℕ → ℕ → Option (List ℕ) → Option (List ℕ) → ServeOutcome → Type 0
WritesLines b c requests now old new Done = Gains old new (replies b requests) × AreAnswered b c (lines_of requests) c.tiles c.reads now
WritesLines b c requests now old new (Refused e) = RefusedAt b c requests now old new e
WritesLines b c requests now old new OutputFault = GainsFront old new (replies b requests)
WritesLines b c requests now old new OutOfMemory = GainsFront old new (replies b requests)
WritesLines b c requests now old new _ = ⊥

-- lines over an archive that was opened
abbrev pub WritesOpened : ServeLimits → Texts → ℕ → ℕ → List ℕ → List ℕ → Option (List ℕ) → Option (List ℕ) → ServeOutcome → Type 0
WritesOpened limits texts before now b requests old new o = (c : Course) × IsBegun limits texts before c × WritesLines b c requests now old new o

-- By a run, with its limits, the texts of reads and two counts of reads: the replies, or a front of them. Where there
-- is no server, or no request was read, nothing was written.
abbrev pub Writes : ServeLimits → Texts → ℕ → ℕ → List ℕ → List ℕ → Option (List ℕ) → Option (List ℕ) → ServeOutcome → Type 0
Writes limits texts before now b requests old new Done = WritesOpened limits texts before now b requests old new Done
Writes limits texts before now b requests old new (Refused (serve.Opening e)) = new ≡ old
Writes limits texts before now b requests old new (Refused e) = WritesOpened limits texts before now b requests old new (Refused e)
Writes limits texts before now b requests old new OutputFault = GainsFront old new (replies b requests)
Writes limits texts before now b requests old new OutOfMemory = GainsFront old new (replies b requests)
Writes limits texts before now b requests old new Usage = new ≡ old
Writes limits texts before now b requests old new InputFault = new ≡ old
Writes limits texts before now b requests old new InputTooLong = new ≡ old

-- lines were answered, and the replies to these were written
pub record Served (b : List ℕ) (c : Course) (requests rest : List ℕ) (held : Bounded (List ℕ)) (now : ℕ) (old new : Option (List ℕ)) : Type 0 where
  pub done : List (List ℕ)
  pub lines : lines_of requests ≡ done ++ lines_of rest
  pub written : Gains old new (flat_map (reply b) done)
  pub answered : AreAnswered b c done c.tiles c.reads now
  pub tiles : held ≡ tiles_behind b done c.tiles

-- Another text ended lines: that of the opening and that of the last read, and they differ.
abbrev pub LinesTexts : Option (List ℕ) → Texts → ℕ → ServeOutcome → Type 0
LinesTexts opened texts number (Refused (serve.Modified a b)) = (opened ≡ Some a) × (a ≢ b) × IfSome texts (λ text. text number ≡ Some b)
LinesTexts opened texts number _ = Unit {0}

-- Another text ended a run: that of the first read, which opened the archive, and that of the
-- last one, and they differ.
abbrev pub RunTexts : Texts → ℕ → ℕ → ServeOutcome → Type 0
RunTexts texts before now (Refused (serve.Modified a b)) = (a ≢ b)
    × IfSome texts (λ text. (first : ℕ) × Grew before first 1 × (first ≤ now) × (text first ≡ Some a) × (text now ≡ Some b))
RunTexts texts before now _ = Unit {0}

-- why a line isn't answered, told or not: it is never running out of memory
abbrev pub RefusalCauses : Option (List ℕ) → ℕ → ℕ → ServeError → Type 0
RefusalCauses told before now serve.OutOfMemory = ⊥
RefusalCauses told before now e = Causes {A = Unit {0}} told before now (Err e)

-- What lines end in. The output's fault has its cause by its count, and running out of memory is free.
abbrev pub LinesEnd : Option (List ℕ) → ℕ → ℕ → ServeOutcome → Type 0
LinesEnd told before now Done = Unit {0}
LinesEnd told before now (Refused e) = RefusalCauses told before now e
LinesEnd told before now OutputFault = Unit {0}
LinesEnd told before now OutOfMemory = Unit {0}
LinesEnd told before now _ = ⊥

-- an outcome that ends a run before its last line
abbrev pub IsStop : ServeOutcome → Type 0
IsStop Done = ⊥
IsStop outcome = Unit {0}

-- no line was refused for another version text
abbrev pub IsUnmodifiedRun : ServeOutcome → Type 0
IsUnmodifiedRun (Refused (serve.Modified a b)) = ⊥
IsUnmodifiedRun _ = Unit {0}
