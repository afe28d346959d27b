-- What stands before and behind the last byte of a kind.
use Rattle.mb_tree.proofs.Common.{ap, arith, Bool, cases_eq, cond, drop, eqb-false, eqb-true, false, get_or, get_or-drop, inl, inr, length, length-drop, List, MatchOption, None, Option, option_map}
use Rattle.mb_tree.proofs.Common.{refl, rfind_below, rsplit_once, Some, suc, sym, take, true, zero, ℕ, ◌+◌, ◌-◌, ◌<◌, ◌==◌, ◌∙◌, ◌≡◌, ◌≢◌, ◌≤◌, ◌⊎◌}
use Rattle.std.specs.Borrow.{Bor}
use Rattle.std.specs.Str.Pattern.{RFindsChar}
use Rattle.std.proofs.lemmas.Str.Pattern.{NoCharPasses-char}
use Rattle.std.proofs.lemmas.Str.{len_utf8_ascii}

pub none_below : (c : ℕ) (text : List ℕ) (n : ℕ) → ((i : ℕ) → i < n → get_or text i 0 ≢ c) → rfind_below c text n ≡ None
none_below c text zero h = refl
none_below c text (suc n) h = by (get_or text n 0 == c) refl (none_below c text n (λ i lt. h i (omega arith)))
  where
    by : (b : Bool) → (get_or text n 0 == c) ≡ b → rfind_below c text n ≡ None → cond b (Some n) (rfind_below c text n) ≡ None
    by true e rest = absurd (h n (omega arith) (eqb-true (get_or text n 0) c e))
    by false e rest = rest

pub last_below : (c : ℕ) (text : List ℕ) (k n : ℕ) → k < n → get_or text k 0 ≡ c → ((i : ℕ) → k < i → i < n → get_or text i 0 ≢ c) → rfind_below c text n ≡ Some k
last_below c text k zero lt at h = absurd (omega arith)
last_below c text k (suc n) lt at h = by (get_or text n 0 == c) refl (cases_eq k n) (λ less. last_below c text k n less at (λ i a b. h i a (omega arith)))
  where
    by : (b : Bool) → (get_or text n 0 == c) ≡ b → (k ≡ n) ⊎ (k ≢ n) → (k < n → rfind_below c text n ≡ Some k) → cond b (Some n) (rfind_below c text n) ≡ Some k
    by true e (inl same) rest = ap Some (sym same)
    by true e (inr other) rest = absurd (h n (omega (arith, other)) (omega arith) (eqb-true (get_or text n 0) c e))
    by false e (inl same) rest = absurd (eqb-false (get_or text n 0) c e (ap (λ i. get_or text i 0) (sym same) ∙ at))
    by false e (inr other) rest = rest (omega (arith, other))

-- takes the clause of `rsplit_once` at an ASCII character
pub split_is : (c : ℕ) (text : List ℕ) (r : Option (Bor (List ℕ) × Bor (List ℕ))) → c < 128
    → MatchOption r (RFindsChar c text None) (λ x. (i : ℕ) × (j : ℕ) × RFindsChar c text (Some (i, j)) × (x.0.now ≡ take i text) × (x.1.now ≡ drop j text) × (i ≤ j) × (length x.0.now ≡ i) × (length x.1.now + j ≡ length text))
    → option_map (λ x. (x.0.now, x.1.now)) r ≡ rsplit_once c text
unfolding rsplit_once
split_is c text None low h = sym (ap (option_map (λ i. (take i text, drop (i + 1) text))) (none_below c text (length text) (λ i lt. NoCharPasses-char c text i h low lt)))
split_is c text (Some x) low h =
    let i = h.0 in
    let j = h.1 in
    let next : j ≡ i + 1 = omega (arith, h.2.1.ends, len_utf8_ascii c low) in
    let later : (k : ℕ) → i < k → k < length text → get_or text k 0 ≢ c = λ k more lt e.
    let there : j + (k - j) ≡ k = omega arith in
    NoCharPasses-char c (drop j text) (k - j) h.2.0 low (omega (arith, length-drop j text)) (get_or-drop j text (k - j) 0 ∙ (ap (λ n. get_or text n 0) there ∙ e)) in
    let found : rfind_below c text (length text) ≡ Some i = last_below c text i (length text) (omega (arith, h.7)) (h.2.1.byte low) later in
    let front : x.0.now ≡ take i text = h.3 in
    let back : x.1.now ≡ drop (i + 1) text = h.4 ∙ ap (λ n. drop n text) next in
    (λ t. Some (front t, back t)) ∙ sym (ap (option_map (λ k. (take k text, drop (k + 1) text))) found)
