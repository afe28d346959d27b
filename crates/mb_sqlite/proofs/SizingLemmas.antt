-- Sizes that are added up.
use Rattle.mb_sqlite.proofs.Common.{add-one, AddsTable, ap, AreRead, arith, Bool, cases_Bool, cond, eqb-true, false, get_or, Ghosts, Held, inl, inr, is_table, is_utf8, IsLiveSize, IsTableSize, IsUtf8}
use Rattle.mb_sqlite.proofs.Common.{length, List, making_order, MatchBool, MbtType, min, None, Option, piece, piece_size, ReadsPiece, refl, Row, set_tables, slice_get, Some, Steps, subst, suc, sum_by}
use Rattle.mb_sqlite.proofs.Common.{sym, TableName, take, take_all, true, value_size, zero, ℕ, ℤ, [], ◌++◌, ◌+◌, ◌-◌, ◌<◌, ◌==◌, ◌^◌, ◌∙◌, ◌∷◌, ◌≡◌, ◌≤◌}
use Rattle.std.proofs.lemmas.List.Sums.{sum_by-append, sum_by-cons}
use Rattle.std.proofs.lemmas.Str.{IsUtf8-from_is_utf8, is_utf8-from_IsUtf8}
use Rattle.sqlite_value.specs.declared.value.Value.TheVariants as sql
use Rattle.mb_sqlite.proofs.StepLemmas.{Steps-all, Steps-next, Steps-push}

pub utf8_size : (t : List ℕ) → IsUtf8 t → value_size (sql.Text t) ≡ length t
utf8_size t is = ap (λ b. cond b (length t) 8) (is_utf8-from_IsUtf8 t is)

pub other_size : (t : List ℕ) → (¬ IsUtf8 t) → value_size (sql.Text t) ≡ 8
other_size t isnot = elim (cases_Bool (is_utf8 t)) [
  | inl is ↦ absurd (isnot (IsUtf8-from_is_utf8 t is))
  | inr isnt ↦ ap (λ b. cond b (length t) 8) isnt
]

-- a sum that stays at the greatest count
pub added : (m sum size more total : ℕ) → sum ≡ min (size + total) m → min (sum + more) m ≡ min (size + (total + more)) m
added m sum size more total is = omega (arith, is)

sum_first : {A : Type 0} (f : A → ℕ) (xs : List A) (n : ℕ) (x d : A) → n < length xs → x ≡ get_or xs n d → sum_by f (take (suc n) xs) ≡ sum_by f (take n xs) + f x
sum_first f [] n x d far is = absurd (omega (arith, far))
sum_first f (y ∷ ys) zero x d far is =
    let one : sum_by f (take (suc zero) (y ∷ ys)) ≡ f y + sum_by f [] = sum_by-cons f y [] in
    let none : sum_by f [] ≡ 0 = refl in
    let same : f x ≡ f y = ap f is in
    omega (arith, one, none, same)
sum_first f (y ∷ ys) (suc n) x d far is =
    let more : sum_by f (take (suc (suc n)) (y ∷ ys)) ≡ f y + sum_by f (take (suc n) ys) = sum_by-cons f y (take (suc n) ys) in
    let less : sum_by f (take (suc n) (y ∷ ys)) ≡ f y + sum_by f (take n ys) = sum_by-cons f y (take n ys) in
    omega (arith, more, less, sum_first f ys n x d (omega (arith, far)) is)

-- one more of the first elements
pub sum_taken : {A : Type 0} (f : A → ℕ) (m size sum next : ℕ) (xs : List A) (n : ℕ) (x d : A) → n < length xs → x ≡ get_or xs n d → sum ≡ min (size + sum_by f (take n xs)) m → next ≡ min (sum + f x) m
    → next ≡ min (size + sum_by f (take (n + 1) xs)) m
sum_taken f m size sum next xs n x d far at is step =
    step ∙ added m sum size (f x) (sum_by f (take n xs)) is ∙ ap (λ k. min (size + k) m) (sym (subst (λ k. sum_by f (take k xs) ≡ sum_by f (take n xs) + f x) (sym (add-one n)) (sum_first f xs n x d far at)))

-- all of them, whatever the bound
pub sum_enough : {A : Type 0} (f : A → ℕ) (xs : List A) (n m : ℕ) → length xs ≤ n → length xs ≤ m → sum_by f (take n xs) ≡ sum_by f (take m xs)
sum_enough f xs n m enough more = ap (sum_by f) (take_all n xs enough ∙ sym (take_all m xs more))

-- one more piece of a table
pub sum_next : {A : Type 0} (f : A → ℕ) (xs : List A) (x : A) → sum_by f (xs ++ x ∷ []) ≡ sum_by f xs + f x
sum_next f xs x =
    let none : sum_by f [] ≡ 0 = refl in
    omega (arith, sum_by-append f xs (x ∷ []), sum_by-cons f x [], none)

abbrev pub ArePieces : {S : Type 0} → Ghosts S → TableName → ℕ → Held S → Held S → Option ℤ → ℕ → Type 0
ArePieces g table size old new last sum = (pieces : List (List Row)) × Steps (ReadsPiece g table) pieces (old, None) (new, last) × (sum ≡ min (size + sum_by (piece_size table) pieces) (2 ^ 64 - 1))

module _ {S : Type 0} (g : Ghosts S) where
  pub next_piece : (table : TableName) (size sum more : ℕ) (found : List Row) (old mid new : Held S) (from last : Option ℤ) → ArePieces g table size old mid from sum → ReadsPiece g table found (mid, from) (new, last)
      → more ≡ min (sum + piece_size table found) (2 ^ 64 - 1) → ArePieces g table size old new last more
  next_piece table size sum more found old mid new from last before read is = (
    before.0 ++ found ∷ [],
    Steps-push (ReadsPiece g table) before.0 found (old, None) (mid, from) (new, last) before.1 read,
    is ∙ added (2 ^ 64 - 1) sum size (piece_size table found) (sum_by (piece_size table) before.0) before.2 ∙ ap (λ n. min (size + n) (2 ^ 64 - 1)) (sym (sum_next (piece_size table) before.0 found)),
  )

  pub no_pieces : (table : TableName) (size : ℕ) (old : Held S) → size < 2 ^ 64 → ArePieces g table size old old None size
  unfolding Steps
  no_pieces table size old fits =
      let none : sum_by (piece_size table) [] ≡ 0 = refl in
      ([], refl, omega (arith, fits, none))

  -- all pieces of a table, of which the last one is empty
  pub table_size : (table : TableName) (size sum : ℕ) (found : List Row) (old mid new : Held S) (from last : Option ℤ) (is_none : Bool) → ArePieces g table size old mid from sum → ReadsPiece g table found (mid, from) (new, last)
      → is_none ≡ (length found == 0) → is_none ≡ true → (total : ℕ) × IsTableSize g table old new total × (sum ≡ min (size + total) (2 ^ 64 - 1))
  table_size table size sum [] old mid new from last is_none before read is none = (
    sum_by (piece_size table) before.0,
    record { pieces = before.0; mid = mid; last = from; reads = before.1; ends = subst (λ l. AreRead g table mid new (from, 0) piece [] l) read.1 read; sum = refl },
    before.2,
  )
  table_size table size sum (x ∷ xs) old mid new from last is_none before read is none = absurd (omega (arith, eqb-true (length (x ∷ xs)) 0 (sym is ∙ none)))

  -- one more table of a layout
  pub adds_table : (layout : MbtType) (table : TableName) (size sum total : ℕ) (old new : Held S) → size ≡ min total (2 ^ 64 - 1)
      → MatchBool (is_table (set_tables layout) table) ((more : ℕ) × IsTableSize g table old new more × (sum ≡ min (size + more) (2 ^ 64 - 1))) ((new ≡ old) × (sum ≡ size))
      → (all : ℕ) × AddsTable g layout table (old, total) (new, all) × (sum ≡ min all (2 ^ 64 - 1))
  unfolding AddsTable
  adds_table layout table size sum total old new was step = by (is_table (set_tables layout) table) step
    where
      by : (b : Bool) → MatchBool b ((more : ℕ) × IsTableSize g table old new more × (sum ≡ min (size + more) (2 ^ 64 - 1))) ((new ≡ old) × (sum ≡ size))
          → (all : ℕ) × MatchBool b ((more : ℕ) × IsTableSize g table old new more × (all ≡ total + more)) (◌≡◌ {A = Held S × ℕ} (new, all) (old, total)) × (sum ≡ min all (2 ^ 64 - 1))
      by true step = (total + step.0, (step.0, step.1, refl), step.2 ∙ omega (arith, was))
      by false step = (total, ap (λ h. (h, total)) step.0, step.1 ∙ was)

  abbrev pub AreAdded : MbtType → ℕ → ℕ → Held S → Held S → Type 0
  AreAdded layout n size old new = (total : ℕ) × Steps (AddsTable g layout) (take n making_order) (old, 0) (new, total) × (size ≡ min total (2 ^ 64 - 1))

  pub no_tables : (layout : MbtType) (old : Held S) → AreAdded layout 0 0 old old
  unfolding Steps
  no_tables layout old = (0, refl, refl)

  pub next_table : (layout : MbtType) (table : TableName) (n size sum : ℕ) (old mid new : Held S) → slice_get making_order n ≡ Some table → AreAdded layout n size old mid
      → MatchBool (is_table (set_tables layout) table) ((more : ℕ) × IsTableSize g table mid new more × (sum ≡ min (size + more) (2 ^ 64 - 1))) ((new ≡ mid) × (sum ≡ size))
      → AreAdded layout (n + 1) sum old new
  next_table layout table n size sum old mid new at before step =
      let more = adds_table layout table size sum before.0 mid new before.2 step in
      (more.0, Steps-next (AddsTable g layout) making_order n table (old, 0) (mid, before.0) (new, more.0) at before.1 more.1, more.2)

  pub live_size_is : (layout : MbtType) (n size : ℕ) (old new : Held S) → length making_order ≤ n → AreAdded layout n size old new → IsLiveSize g layout old new size
  unfolding IsLiveSize
  live_size_is layout n size old new enough added = (added.0, Steps-all (AddsTable g layout) making_order n (old, 0) (new, added.0) enough added.1, added.2)
