-- Pages of rows, one after the other.
use Rattle.tile_streaming.proofs.Common.{ap, arith, Bool, Cell, drop, false, length, List, nat_le, nat_tests, SeesTold, subst, sym, Tables, take, take_all, take-add, true, ℕ, ◌++◌, ◌+◌, ◌∙◌, ◌<◌, ◌≡◌, ◌≤◌}
use Rattle.mb_tables.specs.declared.table.TableName.{TableName}
use Rattle.std.proofs.lemmas.List.{length-drop, length-take}
use Rattle.std.specs.Prelude.{min, ◌-◌}

-- whether a page is a whole one
pub whole_page : (told page : List (List Cell)) (from size : ℕ) → 0 < size → page ≡ take size (drop from told) → nat_le size (length page) ≡ nat_le (from + size) (length told)
whole_page told page from size some is =
    let long : length page ≡ min size (length told - from) = ap length is ∙ (length-take size (drop from told) ∙ ap (min size) (length-drop from told)) in
    grind (arith, nat_tests, some, long)

-- a page that isn't a whole one is the last
last_page : (told : List (List Cell)) (count : ℕ) → nat_le count (length told) ≡ false → length told ≤ count
last_page told count last = grind (arith, nat_tests, last)

-- of what is seen of rows
module _ {X : Type 0} (sees : List (List Cell) → X → Type 0) where
  -- one more page
  pub page_told : (tells : Bool) (told page : List (List Cell)) (from size : ℕ) (old new : X) → (tells ≡ true → page ≡ take size (drop from told)) → ((rows : List (List Cell)) → sees rows old → sees (rows ++ page) new) → SeesTold sees tells (take from told) old → SeesTold sees tells (take (from + size) told) new
  page_told tells told page from size old new is step s = record {
    rows = s.rows ++ page;
    are_told = λ t. ap (λ l. l ++ page) (s.are_told t) ∙ (ap (λ l. take from told ++ l) (is t) ∙ sym (take-add from size told));
    sees = step s.rows s.sees;
  }

  -- all pages, where no row is behind them
  pub pages_whole : (tells : Bool) (told : List (List Cell)) (count : ℕ) (seen : X) → (tells ≡ true → length told ≤ count) → SeesTold sees tells (take count told) seen → SeesTold sees tells told seen
  pages_whole tells told count seen few s = record { rows = s.rows; are_told = λ t. s.are_told t ∙ take_all count told (few t); sees = s.sees }

  -- all pages, the last of which isn't a whole one
  pub pages_done : (tells : Bool) (told : List (List Cell)) (count : ℕ) (whole : Bool) (seen : X) → (tells ≡ true → whole ≡ nat_le count (length told)) → whole ≡ false → SeesTold sees tells (take count told) seen → SeesTold sees tells told seen
  pages_done tells told count whole seen is last s = pages_whole tells told count seen (λ t. last_page told count (sym (is t) ∙ last)) s

  -- the same over a store that was only read
  pub last_told : (table : TableName) (tells tells_now : Bool) (t now : Tables) (from : ℕ) (whole : Bool) (old new : X) → tells_now ≡ tells → now ≡ t → SeesTold sees tells (take from (t.rows table)) old
      → (SeesTold sees tells_now (take from (now.rows table)) old → SeesTold sees tells_now (take (from + 512) (now.rows table)) new) → (tells_now ≡ true → whole ≡ nat_le (from + 512) (length (now.rows table))) → whole ≡ false → SeesTold sees tells (t.rows table) new
  last_told table tells tells_now t now from whole old new same told s step is last =
      let before : SeesTold sees tells_now (take from (now.rows table)) old = subst (λ (x : Tables). SeesTold sees tells_now (take from (x.rows table)) old) (sym told) (subst (λ b. SeesTold sees b (take from (t.rows table)) old) (sym same) s) in
      subst (λ b. SeesTold sees b (t.rows table) new) same (subst (λ (x : Tables). SeesTold sees tells_now (x.rows table) new) told (pages_done tells_now (now.rows table) (from + 512) whole new is last (step before)))
