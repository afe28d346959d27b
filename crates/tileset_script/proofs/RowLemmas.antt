-- Rows of words, a cell at a time, and rows that are added.
use Rattle.tileset_script.proofs.Common.{ap, append_assoc, arith, Bool, Bor, Cell, false, if◌then◌else◌, is_duplicate, length, List, MatchOption, None, not, Option, option_and_then, option_copied}
use Rattle.tileset_script.proofs.Common.{option_map, refl, row_added, row_of, Some, some_part, suc, sym, Tables, Takes, true, with_row, words_of, ℕ, [], ◌&&◌, ◌++◌, ◌+◌, ◌-◌, ◌<◌, ◌∙◌, ◌∷◌, ◌≡◌}
use Rattle.mb_tables.specs.Described.{is_table}
use Rattle.mb_tables.specs.declared.table.TableName.{TableName}
use Rattle.tileset_script.specs.Cell.{cell_of}

-- the words of what may be left
abbrev pub words_left : Option (List ℕ) → List (List ℕ)
words_left None = []
words_left (Some line) = words_of line

-- the first word of a line, whatever follows it
pub first_split : (line word : List ℕ) (more : Option (Bor (List ℕ))) → MatchOption more (words_of line ≡ word ∷ []) (λ rest. words_of line ≡ word ∷ words_of rest.now) → words_of line ≡ word ∷ words_left (option_copied more)
first_split line word None h = h
first_split line word (Some rest) h = h

-- behind cells, a row of as many cells as are left
abbrev pub behind_cells : List Cell → ℕ → List (List ℕ) → Option (List Cell)
behind_cells front n words = option_map (λ row. front ++ row) (row_of n words)

joined : (front : List Cell) (cell : Cell) (rows : Option (List Cell)) → option_map (λ row. front ++ row) (option_map (λ row. cell ∷ row) rows) ≡ option_map (λ row. (front ++ cell ∷ []) ++ row) rows
joined front cell None = refl
joined front cell (Some row) = ap Some (sym (append_assoc front (cell ∷ []) row))

first_cell : (front : List Cell) (n : ℕ) (word : List ℕ) (words : List (List ℕ)) (cell : Option Cell) → cell ≡ cell_of word → behind_cells front (suc n) (word ∷ words) ≡ option_map (λ row. front ++ row) (option_and_then (λ c. option_map (λ row. c ∷ row) (row_of n words)) cell)
first_cell front n word words cell e = ap (λ c. option_map (λ row. front ++ row) (option_and_then (λ d. option_map (λ row. d ∷ row) (row_of n words)) c)) (sym e)

opened : (front : List Cell) (width i : ℕ) (words : List (List ℕ)) → i < width → behind_cells front (width - i) words ≡ behind_cells front (suc (width - (i + 1))) words
opened front width i words l = let e : width - i ≡ suc (width - (i + 1)) = omega arith in ap (λ n. behind_cells front n words) e

-- one cell more
pub cell_more : (front : List Cell) (cell : Cell) (width i : ℕ) (line word : List ℕ) (more : Option (List ℕ)) (whole : Option (List Cell)) → i < width → words_of line ≡ word ∷ words_left more → Some cell ≡ cell_of word
    → behind_cells front (width - i) (words_of line) ≡ whole → behind_cells (front ++ cell ∷ []) (width - (i + 1)) (words_left more) ≡ whole
cell_more front cell width i line word more whole l split is w =
    sym (joined front cell (row_of (width - (i + 1)) (words_left more))) ∙ (sym (first_cell front (width - (i + 1)) word (words_left more) (Some cell) is)
    ∙ (ap (behind_cells front (suc (width - (i + 1)))) (sym split) ∙ (sym (opened front width i (words_of line) l) ∙ w)))

-- a word that is no cell
pub cell_bad : (front : List Cell) (width i : ℕ) (line word : List ℕ) (more : Option (List ℕ)) (whole : Option (List Cell)) → i < width → words_of line ≡ word ∷ words_left more → None ≡ cell_of word
    → behind_cells front (width - i) (words_of line) ≡ whole → None ≡ whole
cell_bad front width i line word more whole l split is w =
    sym (first_cell front (width - (i + 1)) word (words_left more) None is)
    ∙ (ap (behind_cells front (suc (width - (i + 1)))) (sym split) ∙ (sym (opened front width i (words_of line) l) ∙ w))

-- a word too few, a word too many, and as many as are wanted
pub word_missing : (front : List Cell) (width i : ℕ) (whole : Option (List Cell)) → i < width → behind_cells front (width - i) [] ≡ whole → None ≡ whole
word_missing front width i whole l w = sym (opened front width i [] l) ∙ w

none_for_more : (front : List Cell) (words : List (List ℕ)) → 0 < length words → behind_cells front 0 words ≡ None
none_for_more front [] l = absurd (omega arith)
none_for_more front (word ∷ words) l = refl

pub word_left : (front : List Cell) (line : List ℕ) (whole : Option (List Cell)) → behind_cells front 0 (words_of line) ≡ whole → None ≡ whole
word_left front line whole w = sym (none_for_more front (words_of line) (some_part 32 line)) ∙ w

-- a row that is taken stands
pub row_stands : (table : TableName) (row : List Cell) (t new : Tables) → Takes (row_added table row t) true new → new ≡ with_row t table row
row_stands table row t new = cased (is_table t.descriptions table && not (is_duplicate t table row))
  where
    cased : (b : Bool) → Takes (if b then Some (with_row t table row) else None) true new → new ≡ with_row t table row
    cased true h = h.1
    cased false h = absurd (let e : true ≡ false = h in cc)
