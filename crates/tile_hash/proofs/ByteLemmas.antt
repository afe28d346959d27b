-- Lists that have the same bytes from some byte on, and the words that are read there.
use Rattle.tile_hash.proofs.Common.{add-zero, add_assoc, ap, append_assoc, arith, drop, get_or-append-add, get_or-drop, get_or-take, get_or_append_left, length, List, lit<, refl, slice_index, sym}
use Rattle.tile_hash.proofs.Common.{take, take-append-drop, word64, ℕ, ◌++◌, ◌+◌, ◌<◌, ◌∙◌, ◌≡◌, ◌≤◌}

-- n bytes from byte i of b are those from byte j of c
abbrev pub SameBytes : ℕ → List ℕ → ℕ → List ℕ → ℕ → Type 0
SameBytes n b i c j = (k : ℕ) → k < n → slice_index b (i + k) ≡ slice_index c (j + k)

-- those from a later byte on
pub same_within : (n m o : ℕ) (b c : List ℕ) (i j : ℕ) → SameBytes n b i c j → o + m ≤ n → SameBytes m b (i + o) c (j + o)
same_within n m o b c i j same within = λ k below. rw (add_assoc i o k, add_assoc j o k) (same (o + k) (omega arith))

-- the front of two lists that are joined, and what is behind it
pub same_front : (n : ℕ) (a b : List ℕ) (i : ℕ) → i + n ≤ length a → SameBytes n (a ++ b) i a i
same_front n a b i within = λ k below. get_or_append_left a b 0 (i + k) (omega arith)

pub same_behind : (n : ℕ) (a b : List ℕ) (i : ℕ) → SameBytes n (a ++ b) (length a + i) b i
same_behind n a b i = λ k below. rw (add_assoc (length a) i k) (get_or-append-add a b (i + k) 0)

-- a part that is the end of a list
pub same_end : (n used from : ℕ) (b m : List ℕ) (i : ℕ) → take used b ≡ drop from m → i + n ≤ used → SameBytes n b i m (from + i)
same_end n used from b m i e within = λ k below.
    let inside : i + k < used = omega arith in
    sym (get_or-take used b (i + k) 0 inside) ∙ ap (λ (x : List ℕ). slice_index x (i + k)) e ∙ get_or-drop from m (i + k) 0
    ∙ ap (slice_index m) (sym (add_assoc from i k))

pub same_word : (b c : List ℕ) (i j : ℕ) → SameBytes 8 b i c j → word64 b i ≡ word64 c j
unfolding word64
same_word b c i j same =
    let e0 : slice_index b i ≡ slice_index c j = rw (add-zero i, add-zero j) at (same 0 (lit< tt)) in
    let e1 : slice_index b (i + 1) ≡ slice_index c (j + 1) = same 1 (lit< tt) in
    let e2 : slice_index b (i + 2) ≡ slice_index c (j + 2) = same 2 (lit< tt) in
    let e3 : slice_index b (i + 3) ≡ slice_index c (j + 3) = same 3 (lit< tt) in
    let e4 : slice_index b (i + 4) ≡ slice_index c (j + 4) = same 4 (lit< tt) in
    let e5 : slice_index b (i + 5) ≡ slice_index c (j + 5) = same 5 (lit< tt) in
    let e6 : slice_index b (i + 6) ≡ slice_index c (j + 6) = same 6 (lit< tt) in
    let e7 : slice_index b (i + 7) ≡ slice_index c (j + 7) = same 7 (lit< tt) in
    rw (e0, e1, e2, e3, e4, e5, e6, e7) refl

-- a word within such bytes
pub word_within : (n o : ℕ) (b c : List ℕ) (i j : ℕ) → SameBytes n b i c j → o + 8 ≤ n → word64 b (i + o) ≡ word64 c (j + o)
word_within n o b c i j same within = same_word b c (i + o) (j + o) (same_within n 8 o b c i j same within)

pub first_word : (n : ℕ) (b c : List ℕ) (i j : ℕ) → SameBytes n b i c j → 8 ≤ n → word64 b i ≡ word64 c j
first_word n b c i j same within = rw (add-zero i, add-zero j) at (word_within n 0 b c i j same (omega arith))

-- a list behind another one, in two parts
pub behind_parts : (m p a b : List ℕ) (k : ℕ) → a ≡ take k p → b ≡ drop k p → (m ++ a) ++ b ≡ m ++ p
behind_parts m p a b k front back = rw (front, back, append_assoc m (take k p) (drop k p), take-append-drop k p) refl
