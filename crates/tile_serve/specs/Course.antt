-- Lines that are answered one after another, by what the server holds and how often it read.
use Rattle.std.specs.Prelude.{◌≡◌, ℕ, true, List, [], ◌∷◌, Option, Some, IfSome}
use Rattle.tile_serve.specs.Common.{Agree, Bounded, bounded, Grew}
use Rattle.tile_serve.specs.Answers.{IsReadFor, ReadsFor}
use Rattle.tile_serve.specs.Request.{request_of}
use Rattle.tile_serve.specs.Tiles.{is_read, tiles_after}
use Rattle.tile_serve.specs.declared.limits.ServeLimits.{ServeLimits}
use Rattle.tile_serve.specs.declared.outcome.ServeOutcome.{ServeOutcome}
use Rattle.tile_serve.specs.declared.outcome.ServeOutcome.TheVariants.{Done, Refused}

-- the version texts of reads by their numbers, where they are told
abbrev pub Texts : Type 0
Texts = Option (ℕ → Option (List ℕ))

-- what lines begin with: the text of the opening, those of all reads, the tiles that are held, and
-- the number of the last read
pub record Course : Type 0 where
  pub opened : Option (List ℕ)
  pub texts : Texts
  pub tiles : Bounded (List ℕ)
  pub reads : ℕ

abbrev pub course : Option (List ℕ) → Texts → Bounded (List ℕ) → ℕ → Course
course opened texts tiles reads = record { opened = opened; texts = texts; tiles = tiles; reads = reads }

-- A line is answered once: by no more reads than its look-up takes, and where a range was read for it, its text isn't
-- another one than that of the opening.
pub record IsAnswered (b : List ℕ) (c : Course) (line : List ℕ) (tiles : Bounded (List ℕ)) (before now : ℕ) : Type 0 where
  pub reads : ReadsFor b (request_of line) before now
  pub agrees : IsReadFor b (request_of line) tiles → IfSome c.texts (λ text. Agree c.opened (text now))

-- lines are answered in order, each by the tiles that the ones before it left
abbrev pub AreAnswered : List ℕ → Course → List (List ℕ) → Bounded (List ℕ) → ℕ → ℕ → Type 0
AreAnswered b c [] tiles before now = now ≡ before
AreAnswered b c (line ∷ lines) tiles before now =
    (mid : ℕ) × IsAnswered b c line tiles before mid × AreAnswered b c lines (tiles_after b (request_of line) tiles) mid now

-- the tiles that are held behind lines
abbrev pub tiles_behind : List ℕ → List (List ℕ) → Bounded (List ℕ) → Bounded (List ℕ)
tiles_behind b [] tiles = tiles
tiles_behind b (line ∷ lines) tiles = tiles_behind b lines (tiles_after b (request_of line) tiles)

-- one line: once it is answered, its tile is held; one that isn't answered was read for, by no more
-- reads than its look-up takes
abbrev pub Goes : List ℕ → Course → List ℕ → Bounded (List ℕ) → Bounded (List ℕ) → ℕ → ℕ → ServeOutcome → Type 0
Goes b c line tiles held before now Done = IsAnswered b c line tiles before now × (held ≡ tiles_after b (request_of line) tiles)
Goes b c line tiles held before now (Refused e) = ReadsFor b (request_of line) before now × (is_read (request_of line) tiles ≡ true)
Goes b c line tiles held before now _ = Unit {0}

-- an archive that one read opened, with limits of tiles: nothing is held yet
pub record IsBegun (limits : ServeLimits) (texts : Texts) (before : ℕ) (c : Course) : Type 0 where
  pub read : Grew before c.reads 1
  pub same : c.texts ≡ texts
  pub opened : IfSome texts (λ text. c.opened ≡ text c.reads)
  pub tiles : c.tiles ≡ bounded [] limits.tiles (Some limits.tile_bytes)
