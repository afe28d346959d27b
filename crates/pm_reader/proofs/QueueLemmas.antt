-- The walk by a queue is the walk by levels.
use Rattle.pm_reader.proofs.Common.{AllTiles, along, ap, append-nil, append_assoc, arith, Bool, entries_below, Entry, Err, false, flat_map, Header, Item, leaf_of, levels, List, nat_eq, nat_tests, Ok}
use Rattle.pm_reader.proofs.Common.{PmtError, queued, queued_by, refl, Result, subst, suc, sym, true, zero, ℕ, [], ◌++◌, ◌+◌, ◌<◌, ◌∙◌, ◌∷◌, ◌≡◌, ◌≢◌, ◌≤◌}
use Rattle.pm_format.specs.declared.error.PmtError.TheVariants as errors
use Rattle.pm_reader.proofs.LevelLemmas.{below_leaf, below_tile}

abbrev After : Header → List ℕ → ℕ → Result (List Entry) PmtError → List Entry → List Item
After h b left l es = elim l [ Err r ↦ Err r ∷ [] | Ok leaf ↦ along h b left es ]

along_tile : (h : Header) (b : List ℕ) (n : ℕ) (e : Entry) (es : List Entry) → nat_eq e.run_length 0 ≡ false → along h b n (e ∷ es) ≡ Ok e ∷ along h b n es
unfolding along
along_tile h b n e es tile =
    ap (λ test. elim test as (λ _. List Item) [ false ↦ Ok e ∷ along h b n es | true ↦ elim n as (λ _. List Item) [ zero ↦ Err errors.BudgetSpent ∷ [] | suc left ↦ After h b left (leaf_of h b e) es ] ]) tile

along_end : (h : Header) (b : List ℕ) (e : Entry) (es : List Entry) → nat_eq e.run_length 0 ≡ true → along h b 0 (e ∷ es) ≡ Err errors.BudgetSpent ∷ []
unfolding along
along_end h b e es leaf = ap (λ test. elim test as (λ _. List Item) [ false ↦ Ok e ∷ along h b 0 es | true ↦ Err errors.BudgetSpent ∷ [] ]) leaf

along_leaf : (h : Header) (b : List ℕ) (n : ℕ) (e : Entry) (es : List Entry) (l : Result (List Entry) PmtError) → nat_eq e.run_length 0 ≡ true → leaf_of h b e ≡ l → along h b (suc n) (e ∷ es) ≡ After h b n l es
unfolding along
along_leaf h b n e es l leaf is = ap (λ test. elim test as (λ _. List Item) [ false ↦ Ok e ∷ along h b (suc n) es | true ↦ After h b n (leaf_of h b e) es ]) leaf ∙ ap (λ x. After h b n x es) is

along_none : (h : Header) (b : List ℕ) (n : ℕ) → along h b n [] ≡ []
unfolding along
along_none h b n = refl

-- the same of a queue
abbrev Queued : Header → List ℕ → ℕ → Result (List Entry) PmtError → List Entry → List Item
Queued h b left l es = elim l [ Err r ↦ Err r ∷ [] | Ok leaf ↦ queued left h b (es ++ leaf) ]

queued_by_tile : (leaf : Entry → List Entry → List Item) (e : Entry) (es : List Entry) → nat_eq e.run_length 0 ≡ false → queued_by leaf (e ∷ es) ≡ Ok e ∷ queued_by leaf es
queued_by_tile leaf e es tile = ap (λ test. elim test as (λ _. List Item) [ false ↦ Ok e ∷ queued_by leaf es | true ↦ leaf e es ]) tile

queued_by_leaf : (leaf : Entry → List Entry → List Item) (e : Entry) (es : List Entry) → nat_eq e.run_length 0 ≡ true → queued_by leaf (e ∷ es) ≡ leaf e es
queued_by_leaf leaf e es is = ap (λ test. elim test as (λ _. List Item) [ false ↦ Ok e ∷ queued_by leaf es | true ↦ leaf e es ]) is

pub queued_tile : (h : Header) (b : List ℕ) (n : ℕ) (e : Entry) (es : List Entry) → nat_eq e.run_length 0 ≡ false → queued n h b (e ∷ es) ≡ Ok e ∷ queued n h b es
unfolding queued
queued_tile h b zero e es tile = queued_by_tile (λ f rest. Err errors.BudgetSpent ∷ []) e es tile
queued_tile h b (suc n) e es tile = queued_by_tile (λ f rest. Queued h b n (leaf_of h b f) rest) e es tile

pub queued_end : (h : Header) (b : List ℕ) (e : Entry) (es : List Entry) → nat_eq e.run_length 0 ≡ true → queued 0 h b (e ∷ es) ≡ Err errors.BudgetSpent ∷ []
unfolding queued
queued_end h b e es leaf = queued_by_leaf (λ f rest. Err errors.BudgetSpent ∷ []) e es leaf

pub queued_leaf : (h : Header) (b : List ℕ) (n : ℕ) (e : Entry) (es : List Entry) (l : Result (List Entry) PmtError) → nat_eq e.run_length 0 ≡ true → leaf_of h b e ≡ l → queued (suc n) h b (e ∷ es) ≡ Queued h b n l es
unfolding queued
queued_leaf h b n e es l leaf is = queued_by_leaf (λ f rest. Queued h b n (leaf_of h b f) rest) e es leaf ∙ ap (λ x. Queued h b n x es) is

pub queued_none : (h : Header) (b : List ℕ) (n : ℕ) → queued n h b [] ≡ []
unfolding queued
queued_none h b zero = refl
queued_none h b (suc n) = refl

-- one entry more in front keeps two walks the same
leaf_same : (h : Header) (b : List ℕ) (n : ℕ) (e : Entry) (A B : List Entry) (l : Result (List Entry) PmtError) → nat_eq e.run_length 0 ≡ true → leaf_of h b e ≡ l → along h b n A ≡ along h b n B → along h b (suc n) (e ∷ A) ≡ along h b (suc n) (e ∷ B)
leaf_same h b n e A B (Err r) leaf is same = along_leaf h b n e A (Err r) leaf is ∙ sym (along_leaf h b n e B (Err r) leaf is)
leaf_same h b n e A B (Ok d) leaf is same = along_leaf h b n e A (Ok d) leaf is ∙ (same ∙ sym (along_leaf h b n e B (Ok d) leaf is))

step_same : (h : Header) (b : List ℕ) (m : ℕ) (e : Entry) (A B : List Entry) (test : Bool) → nat_eq e.run_length 0 ≡ test → (nat_eq e.run_length 0 ≡ false → along h b m A ≡ along h b m B)
    → ((n : ℕ) → m ≡ suc n → along h b n A ≡ along h b n B) → along h b m (e ∷ A) ≡ along h b m (e ∷ B)
step_same h b m e A B false is tile leaf = along_tile h b m e A is ∙ (ap (λ z. Ok e ∷ z) (tile is) ∙ sym (along_tile h b m e B is))
step_same h b zero e A B true is tile leaf = along_end h b e A is ∙ sym (along_end h b e B is)
step_same h b (suc n) e A B true is tile leaf = leaf_same h b n e A B (leaf_of h b e) is refl (leaf n refl)

tails_same : (h : Header) (b : List ℕ) (Y Z X : List Entry) (m : ℕ) → ((k : ℕ) → k ≤ m → along h b k Y ≡ along h b k Z) → along h b m (X ++ Y) ≡ along h b m (X ++ Z)
tails_same h b Y Z [] m same = same m (omega arith)
tails_same h b Y Z (e ∷ X) m same =
    step_same h b m e (X ++ Y) (X ++ Z) (nat_eq e.run_length 0) refl (λ tile. tails_same h b Y Z X m same) (λ n is. tails_same h b Y Z X n (λ k low. same k (omega arith)))

pub is_tile : (run : ℕ) → run ≢ 0 → nat_eq run 0 ≡ false
is_tile run some = grind (arith, nat_tests)

pub is_some : (run : ℕ) → nat_eq run 0 ≡ false → run ≢ 0
is_some run e = λ z. let t : nat_eq run 0 ≡ true = grind (arith, nat_tests) in absurd (cc)

pub no_level : (h : Header) (b : List ℕ) (X : List Entry) → AllTiles X → flat_map (entries_below h b) X ≡ []
no_level h b [] all = refl
no_level h b (e ∷ X) all = ap (λ z. z ++ flat_map (entries_below h b) X) (below_tile h b e (is_tile e.run_length all.0)) ∙ no_level h b X all.1

-- what stands behind a level is reached only past one of its leaves
levels_same : (h : Header) (b : List ℕ) (Y Z X : List Entry) (m : ℕ) → (AllTiles X → Y ≡ Z) → ((k : ℕ) → k < m → along h b k Y ≡ along h b k Z) → along h b m (X ++ Y) ≡ along h b m (X ++ Z)
levels_same h b Y Z [] m tiles same = ap (along h b m) (tiles tt)
levels_same h b Y Z (e ∷ X) m tiles same =
    step_same h b m e (X ++ Y) (X ++ Z) (nat_eq e.run_length 0) refl (λ tile. levels_same h b Y Z X m (λ all. tiles (is_some e.run_length tile, all)) same) (λ n is. tails_same h b Y Z X n (λ k low. same k (omega arith)))

levels_none : (h : Header) (b : List ℕ) (k : ℕ) → levels k h b [] ≡ []
unfolding levels
levels_none h b zero = refl
levels_none h b (suc k) = levels_none h b k

levels_more : (h : Header) (b : List ℕ) (k : ℕ) (X : List Entry) → levels (suc k) h b X ≡ X ++ levels k h b (flat_map (entries_below h b) X)
unfolding levels
levels_more h b k X = refl

-- where a level has tile entries alone, no further level has entries
no_further : (h : Header) (b : List ℕ) (j k : ℕ) (X : List Entry) → AllTiles X → levels j h b (flat_map (entries_below h b) X) ≡ levels k h b (flat_map (entries_below h b) X)
no_further h b j k X all = ap (levels j h b) (no_level h b X all) ∙ (levels_none h b j ∙ (sym (levels_none h b k) ∙ sym (ap (levels k h b) (no_level h b X all))))

-- more levels than the budget are enough
enough : (h : Header) (b : List ℕ) (k m : ℕ) (X : List Entry) → m < k → along h b m (levels k h b X) ≡ along h b m (levels (suc k) h b X)
enough h b zero m X low = absurd (omega arith)
enough h b (suc j) m X low =
    ap (along h b m) (levels_more h b j X)
    ∙ (levels_same h b (levels j h b (flat_map (entries_below h b) X)) (levels (suc j) h b (flat_map (entries_below h b) X)) X m (λ all. no_further h b j (suc j) X all) (λ k less. enough h b j k (flat_map (entries_below h b) X) (omega arith))
    ∙ sym (ap (along h b m) (levels_more h b (suc j) X)))

abbrev NextLevel : Header → List ℕ → List Entry → List Entry
NextLevel h b X = flat_map (entries_below h b) X

-- the walk by a queue, whose front is what is left of a level, and its end what of the next one is there
abbrev IsWalk : Header → List ℕ → ℕ → List Entry → List Entry → Type 0
IsWalk h b n rest next = queued n h b (rest ++ next) ≡ along h b n (rest ++ levels (suc n) h b (next ++ NextLevel h b rest))

on_leaf : (h : Header) (b : List ℕ) (n : ℕ) (e : Entry) (rs next : List Entry) (l : Result (List Entry) PmtError) → nat_eq e.run_length 0 ≡ true → leaf_of h b e ≡ l → ((rest nx : List Entry) → IsWalk h b n rest nx) → IsWalk h b (suc n) (e ∷ rs) next
on_leaf h b n e rs next (Err r) leaf is ih = queued_leaf h b n e (rs ++ next) (Err r) leaf is ∙ sym (along_leaf h b n e (rs ++ levels (suc (suc n)) h b (next ++ NextLevel h b (e ∷ rs))) (Err r) leaf is)
on_leaf h b n e rs next (Ok d) leaf is ih =
    let joined : (next ++ d) ++ NextLevel h b rs ≡ next ++ NextLevel h b (e ∷ rs) = append_assoc next d (NextLevel h b rs) ∙ ap (λ z. next ++ (z ++ NextLevel h b rs)) (sym (below_leaf h b e (Ok d) leaf is)) in
    queued_leaf h b n e (rs ++ next) (Ok d) leaf is
    ∙ (ap (queued n h b) (append_assoc rs next d)
    ∙ (ih rs (next ++ d)
    ∙ (tails_same h b (levels (suc n) h b ((next ++ d) ++ NextLevel h b rs)) (levels (suc (suc n)) h b ((next ++ d) ++ NextLevel h b rs)) rs n (λ k low. enough h b (suc n) k ((next ++ d) ++ NextLevel h b rs) (omega arith))
    ∙ (ap (λ z. along h b n (rs ++ levels (suc (suc n)) h b z)) joined
    ∙ sym (along_leaf h b n e (rs ++ levels (suc (suc n)) h b (next ++ NextLevel h b (e ∷ rs))) (Ok d) leaf is)))))

on_entry : (h : Header) (b : List ℕ) (n : ℕ) (e : Entry) (rs next : List Entry) (test : Bool) → nat_eq e.run_length 0 ≡ test → ((m : ℕ) → n ≡ suc m → (rest nx : List Entry) → IsWalk h b m rest nx) → IsWalk h b n rs next → IsWalk h b n (e ∷ rs) next
on_entry h b n e rs next false is ih rest =
    let same : next ++ NextLevel h b rs ≡ next ++ NextLevel h b (e ∷ rs) = ap (λ z. next ++ (z ++ NextLevel h b rs)) (sym (below_tile h b e is)) in
    queued_tile h b n e (rs ++ next) is
    ∙ (ap (λ z. Ok e ∷ z) (rest ∙ ap (λ z. along h b n (rs ++ levels (suc n) h b z)) same)
    ∙ sym (along_tile h b n e (rs ++ levels (suc n) h b (next ++ NextLevel h b (e ∷ rs))) is))
on_entry h b zero e rs next true is ih rest = queued_end h b e (rs ++ next) is ∙ sym (along_end h b e (rs ++ levels 1 h b (next ++ NextLevel h b (e ∷ rs))) is)
on_entry h b (suc n) e rs next true is ih rest = on_leaf h b n e rs next (leaf_of h b e) is refl (ih n refl)

on_entries : (h : Header) (b : List ℕ) (n : ℕ) (rest next : List Entry) → ((m : ℕ) → n ≡ suc m → (rest nx : List Entry) → IsWalk h b m rest nx) → queued n h b next ≡ along h b n (levels (suc n) h b next) → IsWalk h b n rest next
on_entries h b n [] next ih base = base ∙ ap (λ z. along h b n (levels (suc n) h b z)) (sym (append-nil next))
on_entries h b n (e ∷ rs) next ih base = on_entry h b n e rs next (nat_eq e.run_length 0) refl ih (on_entries h b n rs next ih base)

-- a whole level
on_level : (h : Header) (b : List ℕ) (n : ℕ) (next : List Entry) → ((m : ℕ) → n ≡ suc m → (rest nx : List Entry) → IsWalk h b m rest nx) → queued n h b next ≡ along h b n (levels (suc n) h b next)
on_level h b n next ih =
    let none : queued n h b [] ≡ along h b n (levels (suc n) h b []) = queued_none h b n ∙ sym (ap (along h b n) (levels_none h b (suc n)) ∙ along_none h b n) in
    let level : IsWalk h b n next [] = on_entries h b n next [] ih none in
    ap (queued n h b) (sym (append-nil next))
    ∙ (level
    ∙ (sym (levels_same h b (levels n h b (NextLevel h b next)) (levels (suc n) h b (NextLevel h b next)) next n (λ all. no_further h b n (suc n) next all) (λ k less. enough h b n k (NextLevel h b next) less))
    ∙ sym (ap (along h b n) (levels_more h b n next))))

walks : (h : Header) (b : List ℕ) (n : ℕ) (rest next : List Entry) → IsWalk h b n rest next
walks h b zero rest next = on_entries h b zero rest next (λ m e. absurd (omega arith)) (on_level h b zero next (λ m e. absurd (omega arith)))
walks h b (suc n) rest next =
    let ih : (m : ℕ) → suc n ≡ suc m → (r nx : List Entry) → IsWalk h b m r nx = λ m e r nx. let P : ℕ → Type 0 = λ k. IsWalk h b k r nx in let same : n ≡ m = omega arith in subst P same (walks h b n r nx) in
    on_entries h b (suc n) rest next ih (on_level h b (suc n) next ih)

-- the queue of the root
pub queue_is_walk : (h : Header) (b : List ℕ) (n : ℕ) (root : List Entry) → queued n h b root ≡ along h b n (levels (suc n) h b root)
queue_is_walk h b zero root = on_level h b zero root (λ m e. absurd (omega arith))
queue_is_walk h b (suc n) root = on_level h b (suc n) root (λ m e r nx. let P : ℕ → Type 0 = λ k. IsWalk h b k r nx in let same : n ≡ m = omega arith in subst P same (walks h b n r nx))

-- more levels than are enough
pub enough_levels : (h : Header) (b : List ℕ) (root : List Entry) (budget more : ℕ) → along h b budget (levels (suc budget + more) h b root) ≡ along h b budget (levels (suc budget) h b root)
enough_levels h b root budget zero = let same : suc budget + 0 ≡ suc budget = omega arith in ap (λ k. along h b budget (levels k h b root)) same
enough_levels h b root budget (suc more) =
    let next : suc budget + suc more ≡ suc (suc budget + more) = omega arith in
    ap (λ k. along h b budget (levels k h b root)) next ∙ (sym (enough h b (suc budget + more) budget root (omega arith)) ∙ enough_levels h b root budget more)
