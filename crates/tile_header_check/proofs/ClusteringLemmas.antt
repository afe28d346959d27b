-- Places that don't fall, and contents that are laid one behind another.
use Rattle.tile_header_check.proofs.Common.{ap, arith, Bool, capped, Err, false, first_unlaid, get_or, HeaderFault, if◌then◌else◌, laid, Lays, length, List, list_any, nat_eq, nat_lt, nat_tests, None, Ok, Option, refl, Result, RiseTo, Some}
use Rattle.tile_header_check.proofs.Common.{subst, sym, true, ℕ, [], ◌++◌, ◌+◌, ◌-◌, ◌<◌, ◌∙◌, ◌∷◌, ◌≡◌, ◌≤◌}
use Rattle.std.specs.Prelude.{MatchResult}
use Rattle.std.specs.Result.{is_ok}
use Rattle.std.proofs.lemmas.List.{get_or_append_left, length-append}
use Rattle.std.proofs.Math.Seq.{get_or-append_seam}
use Rattle.std.proofs.lemmas.List.Elements.{All-from_get_or}
use Rattle.std.proofs.lemmas.List.Folds.{list_any_at, list_any_none}
use Rattle.tile_header_check.specs.declared.fault.HeaderFault.TheVariants.{Clustered}

-- what holds of each of numbers, and of one more behind them
by_place : (ns : List ℕ) (last k : ℕ) (P : ℕ → Type 0) → k < length (ns ++ last ∷ []) → (k < length ns → P (get_or ns k 0)) → P last → P (get_or (ns ++ last ∷ []) k 0)
by_place ns last k P fits before at = split (nat_lt k (length ns)) refl
  where
    split : (b : Bool) → nat_lt k (length ns) ≡ b → P (get_or (ns ++ last ∷ []) k 0)
    split true is =
        let within : k < length ns = grind (arith, nat_tests) in
        subst P (sym (get_or_append_left ns (last ∷ []) 0 k within)) (before within)
    split false is =
        let len = length-append ns (last ∷ []) in
        let e : length ns ≡ k = grind (arith, nat_tests) in
        subst (λ i. P (get_or (ns ++ last ∷ []) i 0)) e (subst P (sym (get_or-append_seam ns last [] 0)) at)

-- the end is put behind the others, and a new end isn't below it
pub rise_push : (end new : ℕ) (ns : List ℕ) → end ≤ new → RiseTo end ns → RiseTo new (ns ++ end ∷ [])
rise_push end new ns up rise = (
  λ i j low fits. by_place ns end j (λ n. get_or (ns ++ end ∷ []) i 0 ≤ n) fits
      (λ inside. subst (λ n. n ≤ get_or ns j 0) (sym (get_or_append_left ns (end ∷ []) 0 i (omega (arith, low, inside)))) (rise.0 i j low inside))
      (by_place ns end i (λ n. n ≤ end) (omega (arith, low, fits)) (rise.1 i) (omega arith)),
  λ i fits. by_place ns end i (λ n. n ≤ new) fits (λ inside. let b = rise.1 i inside in omega (arith, b, up)) up,
)

-- a search by halves finds a number exactly where it is one of them
pub has_found : (ns : List ℕ) (n : ℕ) (r : Result ℕ ℕ)
    → MatchResult r (λ i. (i < length ns) × (get_or ns i 0 ≡ n)) (λ i. (i ≤ length ns) × ((k : ℕ) → k < i → get_or ns k 0 < n) × ((k : ℕ) → i ≤ k → k < length ns → n < get_or ns k 0)) → is_ok r ≡ list_any (nat_eq n) ns
has_found ns n (Ok i) found = sym (list_any_at (nat_eq n) ns i 0 found.0 (equal n (get_or ns i 0) found.1))
  where
    equal : (a b : ℕ) → b ≡ a → nat_eq a b ≡ true
    equal a b e = grind (arith, nat_tests)
has_found ns n (Err i) absent = sym (list_any_none (nat_eq n) ns (All-from_get_or (λ x. nat_eq n x ≡ false) ns 0 (λ k fits. split k fits (nat_lt k i) refl)))
  where
    below : (a b : ℕ) → b < a → nat_eq a b ≡ false
    below a b l = grind (arith, nat_tests)

    above : (a b : ℕ) → a < b → nat_eq a b ≡ false
    above a b l = grind (arith, nat_tests)

    split : (k : ℕ) → k < length ns → (b : Bool) → nat_lt k i ≡ b → nat_eq n (get_or ns k 0) ≡ false
    split k fits true is = below n (get_or ns k 0) (absent.1 k (grind (arith, nat_tests)))
    split k fits false is = above n (get_or ns k 0) (absent.2 k (grind (arith, nat_tests)) fits)

-- contents that are laid, and the tile entries behind them
pub laid_on : (entry end : ℕ) (begins : List ℕ) (part : ℕ × ℕ × ℕ) (parts : List (ℕ × ℕ × ℕ)) (next : ℕ × List ℕ) → laid end begins part ≡ Some next
    → first_unlaid entry end begins (part ∷ parts) ≡ first_unlaid (entry + 1) next.0 next.1 parts
unfolding first_unlaid
laid_on entry end begins part parts next is = ap (λ o. elim o as (λ _. Option HeaderFault) [ None ↦ Some (Clustered entry end part.0) | Some n ↦ first_unlaid (entry + 1) n.0 n.1 parts ]) is

-- the first that isn't
pub unlaid_at : (entry end : ℕ) (begins : List ℕ) (part : ℕ × ℕ × ℕ) (parts : List (ℕ × ℕ × ℕ)) → laid end begins part ≡ None → first_unlaid entry end begins (part ∷ parts) ≡ Some (Clustered entry end part.0)
unfolding first_unlaid
unlaid_at entry end begins part parts is = ap (λ o. elim o as (λ _. Option HeaderFault) [ None ↦ Some (Clustered entry end part.0) | Some n ↦ first_unlaid (entry + 1) n.0 n.1 parts ]) is

-- contents that begin at the end, and those that don't
pub laid_behind : (end : ℕ) (begins : List ℕ) (part : ℕ × ℕ × ℕ) (new_end : ℕ) (new_begins : List ℕ) → nat_eq part.0 end ≡ true → new_end ≡ capped (end + part.1) → new_begins ≡ begins ++ end ∷ [] → laid end begins part ≡ Some (new_end, new_begins)
unfolding laid
laid_behind end begins part new_end new_begins at is are =
    ap (λ t. if t then Some (capped (end + part.1), begins ++ end ∷ []) else (if list_any (nat_eq part.0) begins then Some (end, begins) else None)) at ∙ ap (λ n. Some (n, begins ++ end ∷ [])) (sym is) ∙ ap (λ ns. Some (new_end, ns)) (sym are)

pub laid_within : (end : ℕ) (begins : List ℕ) (part : ℕ × ℕ × ℕ) (has : Bool) → nat_eq part.0 end ≡ false → has ≡ list_any (nat_eq part.0) begins → laid end begins part ≡ (if has then Some (end, begins) else None)
unfolding laid
laid_within end begins part has past is =
    ap (λ t. if t then Some (capped (end + part.1), begins ++ end ∷ []) else (if list_any (nat_eq part.0) begins then Some (end, begins) else None)) past ∙ ap (λ t. if t then Some (end, begins) else None) (sym is)

-- what a loop over tile entries finds at one that isn't laid, behind one that is, and at their end
pub unlaid_found : (entry end : ℕ) (begins : List ℕ) (part : ℕ × ℕ × ℕ) (rest others : List (ℕ × ℕ × ℕ)) (fits : Bool) (new_end : ℕ) (new_begins : List ℕ) (whole : Option HeaderFault)
    → rest ≡ part ∷ others → Lays end begins part fits new_end new_begins → fits ≡ false → first_unlaid entry end begins rest ≡ whole → Some (Clustered entry end part.0) ≡ whole
unlaid_found entry end begins part rest others fits new_end new_begins whole first lays is whole_is =
    sym (unlaid_at entry end begins part others (lays ∙ ap (λ t. if t then Some (new_end, new_begins) else None) is)) ∙ sym (ap (first_unlaid entry end begins) first) ∙ whole_is

pub next_laid : (end : ℕ) (begins : List ℕ) (part : ℕ × ℕ × ℕ) (parts rest others : List (ℕ × ℕ × ℕ)) (fits : Bool) (new_end : ℕ) (new_begins : List ℕ) (whole : Option HeaderFault)
    → rest ≡ part ∷ others → length rest ≤ length parts → Lays end begins part fits new_end new_begins → fits ≡ true → first_unlaid (length parts - length rest) end begins rest ≡ whole
    → first_unlaid (length parts - length others) new_end new_begins others ≡ whole
next_laid end begins part parts rest others fits new_end new_begins whole first within lays is whole_is =
    let len : length rest ≡ length (part ∷ others) = ap length first in
    let index : length parts - length others ≡ length parts - length rest + 1 = omega (arith, len, within) in
    ap (λ n. first_unlaid n new_end new_begins others) index
    ∙ sym (laid_on (length parts - length rest) end begins part others (new_end, new_begins) (lays ∙ ap (λ t. if t then Some (new_end, new_begins) else None) is))
    ∙ sym (ap (first_unlaid (length parts - length rest) end begins) first) ∙ whole_is

pub all_laid : (entry end : ℕ) (begins : List ℕ) (rest : List (ℕ × ℕ × ℕ)) (whole : Option HeaderFault) → length rest ≡ 0 → first_unlaid entry end begins rest ≡ whole → None ≡ whole
unfolding first_unlaid
all_laid entry end begins [] whole empty whole_is = whole_is
all_laid entry end begins (part ∷ parts) whole empty whole_is = absurd (omega (arith, empty))
