-- In a well-formed archive each leaf offset is used with one length.
use Rattle.pm_reader.proofs.Common.{AllLeaves, AllRead, AllSome, AllTiles, ap, append_assoc, archive_bytes, arith, below_root, Bool, ConsistsOf, Contains, Contains-append_cases, Contains-append_right}
use Rattle.pm_reader.proofs.Common.{data_part, dir_bytes, dir_of, drop, drop_at, entries_below, Entry, entry, Err, false, first_id, flat_map, front_bytes, HasOneLength, Header, header_of}
use Rattle.pm_reader.proofs.Common.{if◌then◌else◌, inl, inr, joined, leaf_of, leaf_part, length, length-append, level, List, NamesLeaves, NamesUppers, nat_eq, nat_le, nat_lt, nat_tests, None, Ok}
use Rattle.pm_reader.proofs.Common.{Opened, Option, Parts, PmtError, range_of, refl, Result, root_of, Some, subst, suc, sym, take, take_at, true, u64_at, UsesOneLength, WellFormed, zero, ℕ, [], ◌&&◌}
use Rattle.pm_reader.proofs.Common.{◌++◌, ◌+◌, ◌<◌, ◌^◌, ◌∙◌, ◌∷◌, ◌≡◌, ◌≤◌}
use Rattle.std.proofs.lemmas.Grind.{flat_map-append}
use Rattle.pm_format.specs.Options.{Options}
use Rattle.pm_format.proofs.ArchiveOpens.{front_length}
use Rattle.pm_reader.proofs.LevelLemmas.{in_flat_map, single_is}
use Rattle.pm_reader.proofs.QueueLemmas.{no_level}

-- a leaf is read from the bytes of its range
ranged : (test : Bool) (bytes x : List ℕ) → (if test then Some bytes else None) ≡ Some x → x ≡ bytes
ranged true bytes x q = cc
ranged false bytes x q = absurd (cc)

decoded : (d : Option (List Entry)) (bad : PmtError) (leaf : List Entry) → elim d as (λ _. Result (List Entry) PmtError) [ None ↦ Err bad | Some es ↦ Ok es ] ≡ Ok leaf → d ≡ Some leaf
decoded None bad leaf q = absurd (cc)
decoded (Some es) bad leaf q = cc

read_from : (r : Option (List ℕ)) (past bad : PmtError) (leaf : List Entry)
    → elim r as (λ _. Result (List Entry) PmtError) [ None ↦ Err past | Some bytes ↦ elim (dir_of bytes) as (λ _. Result (List Entry) PmtError) [ None ↦ Err bad | Some es ↦ Ok es ] ] ≡ Ok leaf → (x : List ℕ) × (r ≡ Some x) × (dir_of x ≡ Some leaf)
read_from None past bad leaf q = absurd (cc)
read_from (Some x) past bad leaf q = (x, refl, decoded (dir_of x) bad leaf q)

leaf_bytes : (h : Header) (b : List ℕ) (e : Entry) (leaf : List Entry) → leaf_of h b e ≡ Ok leaf → dir_of (take e.length (drop (h.leaf_offset + e.offset) b)) ≡ Some leaf
leaf_bytes h b e leaf q =
    let w = read_from (range_of b (h.leaf_offset + e.offset) e.length) _ _ leaf q in
    let bytes = take e.length (drop (h.leaf_offset + e.offset) b) in
    let same : w.0 ≡ bytes = ranged (nat_le (h.leaf_offset + e.offset + e.length) (length b) && nat_lt (h.leaf_offset + e.offset + e.length) (2 ^ 64)) bytes w.0 w.1 in
    ap dir_of (sym same) ∙ w.2

-- where a directory lies among those that lie one behind another from a place on, its entry being this one
record Named (place : ℕ) (ls : List (List Entry)) (e : Entry) : Type 0 where
  before : List (List Entry)
  leaf : List Entry
  after : List (List Entry)
  parts : ls ≡ before ++ leaf ∷ after
  offset : e.offset ≡ place + length (flat_map dir_bytes before)
  size : e.length ≡ length (dir_bytes leaf)

named : (place : ℕ) (ls : List (List Entry)) (e : Entry) → Contains (root_of place ls) e → Named place ls e
named place [] e c = absurd (omega (arith, c.1))
named place (l ∷ ls) e c =
    elim (Contains-append_cases (entry (first_id l) place (length (dir_bytes l)) 0 ∷ []) (root_of (place + length (dir_bytes l)) ls) e c) [
      | inl here ↦ let same = single_is (entry (first_id l) place (length (dir_bytes l)) 0) e here in
          record { before = []; leaf = l; after = ls; parts = refl; offset = omega (arith, ap (λ x. x.offset) same); size = ap (λ x. x.length) (sym same) }
      | inr there ↦ let w = named (place + length (dir_bytes l)) ls e there in
          record { before = l ∷ w.before; leaf = w.leaf; after = w.after; parts = ap (λ z. l ∷ z) w.parts; offset = omega (arith, w.offset, length-append (dir_bytes l) (flat_map dir_bytes w.before)); size = w.size }
    ]

-- also where more directories follow
named_before : (ls more : List (List Entry)) (e : Entry) → Named 0 ls e → Named 0 (ls ++ more) e
named_before ls more e w =
    record { before = w.before; leaf = w.leaf; after = w.after ++ more; parts = ap (λ z. z ++ more) w.parts ∙ append_assoc w.before (w.leaf ∷ w.after) more; offset = w.offset; size = w.size }

-- or others lie in front
named_behind : (ls more : List (List Entry)) (e : Entry) → Named (length (flat_map dir_bytes ls)) more e → Named 0 (ls ++ more) e
named_behind ls more e w =
    record {
      before = ls ++ w.before;
      leaf = w.leaf;
      after = w.after;
      parts = ap (λ z. ls ++ z) w.parts ∙ sym (append_assoc ls w.before (w.leaf ∷ w.after));
      offset = omega (arith, w.offset, ap length (flat_map-append dir_bytes ls w.before), length-append (flat_map dir_bytes ls) (flat_map dir_bytes w.before));
      size = w.size;
    }

-- no leaf is written without bytes
filled : (bytes : List ℕ) (l : List Entry) → dir_of bytes ≡ Some l → 0 < length bytes
unfolding dir_of u64_at
filled [] l q = absurd (cc)
filled (x ∷ xs) l q = omega arith

same_directory : (b1 b2 : List (List Entry)) (l1 l2 : List Entry) (a1 a2 : List (List Entry)) → AllRead (b1 ++ l1 ∷ a1) → AllRead (b2 ++ l2 ∷ a2) → b1 ++ l1 ∷ a1 ≡ b2 ++ l2 ∷ a2
    → length (flat_map dir_bytes b1) ≡ length (flat_map dir_bytes b2) → l1 ≡ l2
same_directory [] [] l1 l2 a1 a2 r1 r2 e n = cc
same_directory [] (x ∷ b2) l1 l2 a1 a2 r1 r2 e n = absurd (omega (arith, n, length-append (dir_bytes x) (flat_map dir_bytes b2), filled (dir_bytes x) x r2.0))
same_directory (x ∷ b1) [] l1 l2 a1 a2 r1 r2 e n = absurd (omega (arith, n, length-append (dir_bytes x) (flat_map dir_bytes b1), filled (dir_bytes x) x r1.0))
same_directory (x ∷ b1) (y ∷ b2) l1 l2 a1 a2 r1 r2 e n =
    let heads : x ≡ y = cc in
    let tails : b1 ++ l1 ∷ a1 ≡ b2 ++ l2 ∷ a2 = cc in
    same_directory b1 b2 l1 l2 a1 a2 r1.1 r2.1 tails (omega (arith, n, length-append (dir_bytes x) (flat_map dir_bytes b1), length-append (dir_bytes y) (flat_map dir_bytes b2), ap (λ z. length (dir_bytes z)) heads))

-- at one place lies one directory
one_length : (ls : List (List Entry)) (e f : Entry) → AllRead ls → Named 0 ls e → Named 0 ls f → e.offset ≡ f.offset → e.length ≡ f.length
one_length ls e f read v w same =
    let P : List (List Entry) → Type 0 = λ z. AllRead z in
    let leaves : v.leaf ≡ w.leaf = same_directory v.before w.before v.leaf w.leaf v.after w.after (subst P v.parts read) (subst P w.parts read) (sym v.parts ∙ w.parts) (omega (arith, v.offset, w.offset, same)) in
    v.size ∙ (ap (λ z. length (dir_bytes z)) leaves ∙ sym w.size)

-- what holds of each leaf holds of one of them
read_at : (before : List (List Entry)) (l : List Entry) (after : List (List Entry)) → AllRead (before ++ l ∷ after) → dir_of (dir_bytes l) ≡ Some l
read_at [] l after all = all.0
read_at (x ∷ before) l after all = read_at before l after all.1

contains_at : (before : List (List Entry)) (l : List Entry) (after : List (List Entry)) → Contains (before ++ l ∷ after) l
contains_at before l after = Contains-append_right before (l ∷ after) l (0, omega arith, refl)

piece : (X F D A b : List ℕ) (at n : ℕ) → b ≡ X ++ (F ++ (D ++ A)) → at ≡ length X + length F → n ≡ length D → take n (drop at b) ≡ D
piece X F D A b at n e place size =
    let joined : b ≡ (X ++ F) ++ (D ++ A) = e ∙ sym (append_assoc X F (D ++ A)) in
    let long : length (X ++ F) ≡ at = length-append X F ∙ sym place in
    ap (λ z. take n (drop at z)) joined ∙ (ap (take n) (drop_at (X ++ F) (D ++ A) at long) ∙ take_at D A n (sym size))

-- the directories below the root, and what is known of their entries
record Laid (h : Header) (b : List ℕ) (root : List Entry) (ls : List (List Entry)) : Type 0 where
  front : List ℕ
  bytes : b ≡ front ++ flat_map dir_bytes ls
  place : length front ≡ h.leaf_offset
  read : AllRead ls
  roots : (e : Entry) → Contains root e → e.run_length ≡ 0 → Named 0 ls e
  inside : (l : List Entry) (e : Entry) → Contains ls l → Contains l e → e.run_length ≡ 0 → Named 0 ls e

-- the directory that is read is the one that lies there
is_there : (h : Header) (b : List ℕ) (root : List Entry) (ls : List (List Entry)) (e : Entry) (leaf : List Entry) → Laid h b root ls → (w : Named 0 ls e) → leaf_of h b e ≡ Ok leaf → w.leaf ≡ leaf
is_there h b root ls e leaf laid w q =
    let F = flat_map dir_bytes w.before in
    let D = dir_bytes w.leaf in
    let A = flat_map dir_bytes w.after in
    let split : flat_map dir_bytes ls ≡ F ++ (D ++ A) = ap (flat_map dir_bytes) w.parts ∙ flat_map-append dir_bytes w.before (w.leaf ∷ w.after) in
    let at : h.leaf_offset + e.offset ≡ length laid.front + length F = omega (arith, laid.place, w.offset) in
    let from : take e.length (drop (h.leaf_offset + e.offset) b) ≡ D = piece laid.front F D A b (h.leaf_offset + e.offset) e.length (laid.bytes ∙ ap (λ z. laid.front ++ z) split) at w.size in
    let read_again = read_at w.before w.leaf w.after (let P : List (List Entry) → Type 0 = λ z. AllRead z in subst P w.parts laid.read) in
    let both : Some w.leaf ≡ Some leaf = sym read_again ∙ (ap dir_of (sym from) ∙ leaf_bytes h b e leaf q) in
    cc

from_below : (h : Header) (b : List ℕ) (f e : Entry) (test : Bool) (l : Result (List Entry) PmtError) → nat_eq f.run_length 0 ≡ test → leaf_of h b f ≡ l
    → Contains (elim test as (λ _. List Entry) [ false ↦ [] | true ↦ elim l as (λ _. List Entry) [ Err r ↦ [] | Ok leaf ↦ leaf ] ]) e → (f.run_length ≡ 0) × ((leaf : List Entry) × (leaf_of h b f ≡ Ok leaf) × Contains leaf e)
from_below h b f e false l t q c = absurd (omega (arith, c.1))
from_below h b f e true (Err r) t q c = absurd (omega (arith, c.1))
from_below h b f e true (Ok leaf) t q c = (grind (arith, nat_tests), (leaf, q, c))

among_flat_map : {X Y : Type 0} (f : X → List Y) (xs : List X) (y : Y) → Contains (flat_map f xs) y → (x : X) × Contains xs x × Contains (f x) y
among_flat_map f [] y c = absurd (omega (arith, c.1))
among_flat_map f (x ∷ xs) y c = elim (Contains-append_cases (f x) (flat_map f xs) y c) [
  | inl here ↦ (x, (0, omega arith, refl), here)
  | inr there ↦ let w = among_flat_map f xs y there in (w.0, Contains-append_right (x ∷ []) xs w.0 w.1, w.2)
]

-- each leaf entry of each level has its place among the directories
has_place : (h : Header) (b : List ℕ) (root : List Entry) (ls : List (List Entry)) (n : ℕ) (e : Entry) → Laid h b root ls → Contains (level n h b root) e → e.run_length ≡ 0 → Named 0 ls e
unfolding level
has_place h b root ls zero e laid c leaf = laid.roots e c leaf
has_place h b root ls (suc n) e laid c leaf =
    let above = among_flat_map (entries_below h b) (level n h b root) e c in
    let f = above.0 in
    let read = from_below h b f e (nat_eq f.run_length 0) (leaf_of h b f) refl refl above.2 in
    let named = has_place h b root ls n f laid above.1 read.0 in
    let same = is_there h b root ls f read.1.0 laid named read.1.1 in
    let P : List (List Entry) → Type 0 = λ z. Contains z named.leaf in
    laid.inside named.leaf e (subst P (sym named.parts) (contains_at named.before named.leaf named.after)) (subst (λ (z : List Entry). Contains z e) (sym same) read.1.2) leaf

laid_out : (h : Header) (b : List ℕ) (root : List Entry) (ls : List (List Entry)) → Laid h b root ls → HasOneLength h b root
laid_out h b root ls laid = λ e f x y same. one_length ls e f laid.read (has_place h b root ls x.depth e laid x.named x.leaf) (has_place h b root ls y.depth f laid y.named y.leaf) same

no_leaf : (es : List Entry) (e : Entry) → AllTiles es → Contains es e → e.run_length ≡ 0 → ⊥
no_leaf [] e all c z = absurd (omega (arith, c.1))
no_leaf (f ∷ es) e all c z = elim (Contains-append_cases (f ∷ []) es e c) [ inl here ↦ all.0 (ap (λ x. x.run_length) (single_is f e here) ∙ z) | inr there ↦ no_leaf es e all.1 there z ]

flat_levels : (h : Header) (b : List ℕ) (root : List Entry) (n : ℕ) → AllTiles root → AllTiles (level n h b root)
unfolding level
flat_levels h b root zero all = all
flat_levels h b root (suc n) all = subst AllTiles (sym (no_level h b (level n h b root) (flat_levels h b root n all))) tt

-- a root of tile entries alone
flat_root : (h : Header) (b : List ℕ) (root : List Entry) → AllTiles root → HasOneLength h b root
flat_root h b root all = λ e f x y same. absurd (no_leaf (level x.depth h b root) e (flat_levels h b root x.depth all) x.named x.leaf)

placed : (o : Options) (clustered : Bool) (p : Parts) (b : List ℕ) → b ≡ archive_bytes o clustered p → b ≡ (front_bytes o clustered p ++ (o.metadata ++ data_part p)) ++ leaf_part p
unfolding archive_bytes
placed o clustered p b e =
    e ∙ (ap (λ z. front_bytes o clustered p ++ z) (sym (append_assoc o.metadata (data_part p) (leaf_part p))) ∙ sym (append_assoc (front_bytes o clustered p) (o.metadata ++ data_part p) (leaf_part p)))

nonzero : (l : List Entry) (zs : List (List Entry)) → nat_eq (length (l ∷ zs)) 0 ≡ false
nonzero l zs = grind (arith, nat_tests)

leaves_place : (o : Options) (clustered : Bool) (p : Parts) (l : List Entry) (ls : List (List Entry)) → p.leaves ≡ l ∷ ls → length (dir_bytes p.root) ≤ 16257
    → length (front_bytes o clustered p ++ (o.metadata ++ data_part p)) ≡ (header_of o clustered p).leaf_offset
leaves_place o clustered p l ls some small =
    let test : nat_eq (length p.leaves) 0 ≡ false = ap (λ z. nat_eq (length z) 0) some ∙ nonzero l ls in
    let offset : (header_of o clustered p).leaf_offset ≡ 16384 + length o.metadata + length (data_part p) = ap (λ t. if t then 0 else (16384 + length o.metadata + length (data_part p))) test in
    omega (arith, offset, front_length o clustered p small, length-append (front_bytes o clustered p) (o.metadata ++ data_part p), length-append o.metadata (data_part p))

tiles_of : (ls : List (List Entry)) (l : List Entry) → AllLeaves ls → Contains ls l → AllTiles l
tiles_of [] l all c = absurd (omega (arith, c.1))
tiles_of (x ∷ ls) l all c = elim (Contains-append_cases (x ∷ []) ls l c) [ inl here ↦ subst AllTiles (single_is x l here) all.1 | inr there ↦ tiles_of ls l all.2 there ]

-- a directory of tile entries names none
none_inside : (ls more : List (List Entry)) (l : List Entry) (e : Entry) → AllLeaves more → Contains more l → Contains l e → e.run_length ≡ 0 → Named 0 ls e
none_inside ls more l e all c d leaf = absurd (no_leaf l e (tiles_of more l all c) d leaf)

abbrev Whole : Options → Bool → Parts → List ℕ → Type 0
Whole o clustered p b = HasOneLength (header_of o clustered p) b p.root

no_uppers : (uppers : List (List Entry)) → AllSome uppers → joined uppers ≡ [] → uppers ≡ []
no_uppers [] some q = refl
no_uppers ([] ∷ us) some q = absurd (some.0 refl)
no_uppers ((e ∷ es) ∷ us) some q = absurd (cc)

no_directory : (o : Options) (clustered : Bool) (p : Parts) (b : List ℕ) → p.root ≡ [] → Whole o clustered p b
no_directory o clustered p b none = flat_root (header_of o clustered p) b p.root (subst AllTiles (sym none) tt)

-- the directories below the root lie behind all else
laid_below : (o : Options) (clustered : Bool) (p : Parts) (b : List ℕ) (l : List Entry) (ls : List (List Entry)) → p.leaves ≡ l ∷ ls → ConsistsOf b o clustered p
    → ((e : Entry) → Contains p.root e → Named 0 (below_root p) e) → ((l : List Entry) (e : Entry) → Contains (below_root p) l → Contains l e → e.run_length ≡ 0 → Named 0 (below_root p) e) → Whole o clustered p b
laid_below o clustered p b l ls some w roots inside =
    laid_out (header_of o clustered p) b p.root (below_root p)
    (record { front = front_bytes o clustered p ++ (o.metadata ++ data_part p); bytes = placed o clustered p b w.bytes; place = leaves_place o clustered p l ls some w.small; read = w.read.1; roots = λ e c leaf. roots e c; inside = inside })

by_leaves : (o : Options) (clustered : Bool) (p : Parts) (b : List ℕ) (ls : List (List Entry)) → p.leaves ≡ ls → ConsistsOf b o clustered p → NamesLeaves p → Whole o clustered p b
by_leaves o clustered p b [] none w kind = no_directory o clustered p b (kind.root ∙ ap (root_of 0) none)
by_leaves o clustered p b (l ∷ ls) some w kind =
    let P : List Entry → Entry → Type 0 = λ z e. Contains z e in
    laid_below o clustered p b l ls some w
    (λ e c. named_before p.leaves p.uppers e (named 0 p.leaves e (subst (λ (z : List Entry). Contains z e) kind.root c)))
    (λ d e c in' leaf. elim (Contains-append_cases p.leaves p.uppers d c) [
      | inl low ↦ none_inside (below_root p) p.leaves d e kind.leaves low in' leaf
      | inr high ↦ absurd (no_upper p.uppers d kind.uppers high)
    ])
  where
    no_upper : (us : List (List Entry)) (d : List Entry) → us ≡ [] → Contains us d → ⊥
    no_upper [] d q c = omega (arith, c.1)
    no_upper (u ∷ us) d q c = cc

by_uppers : (o : Options) (clustered : Bool) (p : Parts) (b : List ℕ) (ls : List (List Entry)) → p.leaves ≡ ls → ConsistsOf b o clustered p → NamesUppers p → Whole o clustered p b
by_uppers o clustered p b [] none w kind =
    no_directory o clustered p b (kind.root ∙ ap (root_of (length (flat_map dir_bytes p.leaves))) (no_uppers p.uppers kind.uppers (kind.named ∙ ap (root_of 0) none)))
by_uppers o clustered p b (l ∷ ls) some w kind =
    laid_below o clustered p b l ls some w
    (λ e c. named_behind p.leaves p.uppers e (named (length (flat_map dir_bytes p.leaves)) p.uppers e (subst (λ (z : List Entry). Contains z e) kind.root c)))
    (λ d e c in' leaf. elim (Contains-append_cases p.leaves p.uppers d c) [
      | inl low ↦ none_inside (below_root p) p.leaves d e kind.leaves low in' leaf
      | inr high ↦ named_before p.leaves p.uppers e (named 0 p.leaves e (subst (λ (z : List Entry). Contains z e) kind.named (in_flat_map (λ z. z) p.uppers d e high in')))
    ])

parts_cacheable : (o : Options) (clustered : Bool) (p : Parts) (b : List ℕ) → ConsistsOf b o clustered p → Whole o clustered p b
parts_cacheable o clustered p b w =
    elim w.kinds [
      | inl flat ↦ flat_root (header_of o clustered p) b p.root flat.tiles
      | inr deep ↦ elim deep [ inl leaves ↦ by_leaves o clustered p b p.leaves refl w leaves | inr uppers ↦ by_uppers o clustered p b p.leaves refl w uppers ]
    ]

-- each leaf offset is used with one length
pub cacheable : (b : List ℕ) (o : Options) (clustered : Bool) → WellFormed b o clustered → UsesOneLength b
cacheable b o clustered w found opens =
    let both : ◌≡◌ {A = Result Opened PmtError} (Ok (header_of o clustered w.0, w.0.root)) (Ok found) = sym w.1.opens ∙ opens in
    let same : (header_of o clustered w.0, w.0.root) ≡ found = cc in
    let P : Opened → Type 0 = λ z. HasOneLength z.0 b z.1 in
    subst P same (parts_cacheable o clustered w.0 b w.1)
