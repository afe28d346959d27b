-- A path in its plain spelling is read as what it was made of.
use Rattle.mb_tree.proofs.Common.{all_ascii_digits, and_from, and_parts, ap, append_assoc, arith, Bool, decimal, dot, drop, eqb-true, false, false_from_ne_true, false≢true, FileFormat, format_in}
use Rattle.mb_tree.proofs.Common.{format_of, format_word, get_or, last_part, length, length-append, List, None, not, number_back, number_within, Option, option_and_then, option_map, path_text}
use Rattle.mb_tree.proofs.Common.{printed_digits, refl, rfind_below, rsplit_once, slash, Some, stem, suc, sym, take, tile_named, tile_path, TilePath, true, unwrap_or, zero, ℕ, [], ◌&&◌, ◌++◌, ◌+◌}
use Rattle.mb_tree.proofs.Common.{◌-◌, ◌<◌, ◌==◌, ◌^◌, ◌∙◌, ◌∷◌, ◌≡◌, ◌≢◌}
use Rattle.std.proofs.Math.Seq.{drop-append-add, get_or-append_right, get_or-append_seam, take-append_seam}
use Rattle.std.proofs.lemmas.Bool.Decides.{Decides-eqb}
use Rattle.std.proofs.lemmas.Str.Parse.{tells_all_ascii_digits}
use Rattle.mb_tree.proofs.SplitLemmas.{last_below, none_below}
use Rattle.mb_tree.specs.declared.format.FileFormat.TheVariants.{Png}

-- whether no byte is of a kind
abbrev pub lacks : ℕ → List ℕ → Bool
lacks c [] = true
lacks c (b ∷ bs) = not (b == c) && lacks c bs

not_true : (b : Bool) → not b ≡ true → b ≢ true
not_true true h e = false≢true h
not_true false h e = false≢true e

eqb_same : (b c : ℕ) → b ≡ c → (b == c) ≡ true
eqb_same b c e = (Decides-eqb b c).1 e

lacks_at : (c : ℕ) (text : List ℕ) → lacks c text ≡ true → (i : ℕ) → i < length text → get_or text i 0 ≢ c
lacks_at c [] h i lt = absurd (omega arith)
lacks_at c (b ∷ bs) h zero lt = λ e. not_true (b == c) (and_parts _ _ h).0 (eqb_same b c e)
lacks_at c (b ∷ bs) h (suc i) lt = let more : suc i < suc (length bs) = lt in lacks_at c bs (and_parts _ _ h).1 i (omega (arith, more))

lacks_both : (c : ℕ) (xs ys : List ℕ) → lacks c xs ≡ true → lacks c ys ≡ true → lacks c (xs ++ ys) ≡ true
lacks_both c [] ys h k = k
lacks_both c (x ∷ xs) ys h k = and_from _ _ (and_parts _ _ h).0 (lacks_both c xs ys (and_parts _ _ h).1 k)

other : (b c : ℕ) → b ≢ c → not (b == c) ≡ true
other b c h = ap not (false_from_ne_true (b == c) (λ e. h (eqb-true b c e)))

digits_lack : (c : ℕ) (ds : List ℕ) → c < 48 → all_ascii_digits ds ≡ true → lacks c ds ≡ true
digits_lack c [] low h = refl
digits_lack c (d ∷ ds) low h =
    let parts = tells_all_ascii_digits.parts d ds h in
    and_from _ _ (other d c (λ e. omega (arith, parts.0.0, e, low))) (digits_lack c ds low parts.1)

-- a text is split at the last byte of a kind
last_at : (c : ℕ) (front back : List ℕ) → lacks c back ≡ true → rfind_below c (front ++ c ∷ back) (length (front ++ c ∷ back)) ≡ Some (length front)
last_at c front back none = last_below c (front ++ c ∷ back) (length front) (length (front ++ c ∷ back)) (omega (arith, long)) (get_or-append_seam front c back 0) later
  where
    long : length (front ++ c ∷ back) ≡ length front + suc (length back)
    long = length-append front (c ∷ back)

    later : (i : ℕ) → length front < i → i < length (front ++ c ∷ back) → get_or (front ++ c ∷ back) i 0 ≢ c
    later i more lt e =
        let next : i - length front ≡ suc (i - length front - 1) = omega arith in
        lacks_at c back none (i - length front - 1) (omega (arith, long))
        (sym (ap (λ n. get_or (c ∷ back) n 0) next) ∙ (sym (get_or-append_right front (c ∷ back) i 0 (omega arith)) ∙ e))

pub split_at : (c : ℕ) (front back : List ℕ) → lacks c back ≡ true → rsplit_once c (front ++ c ∷ back) ≡ Some (front, back)
unfolding rsplit_once
split_at c front back none =
    ap (option_map (λ i. (take i (front ++ c ∷ back), drop (i + 1) (front ++ c ∷ back)))) (last_at c front back none)
    ∙ (λ t. Some (take-append_seam front (c ∷ back) t, drop-append-add front (c ∷ back) 1 t))

pub unsplit : (c : ℕ) (text : List ℕ) → lacks c text ≡ true → rsplit_once c text ≡ None
unfolding rsplit_once
unsplit c text none = ap (option_map (λ i. (take i text, drop (i + 1) text))) (none_below c text (length text) (lacks_at c text none))

-- the words of formats
words_lack : (f : FileFormat) → lacks slash (dot ∷ format_word f) ≡ true
words_lack Png = refl
words_lack _ = refl

no_dot : (f : FileFormat) → lacks dot (format_word f) ≡ true
no_dot Png = refl
no_dot _ = refl

pub named : (f : FileFormat) → format_of (format_word f) ≡ Some f
unfolding format_of
named Png = refl
named _ = refl

-- what three numbers and a format say
abbrev pub tile_made : FileFormat → ℕ → ℕ → ℕ → TilePath
tile_made f z x y = record { zoom = z; column = x; row = y; format = Some f }

-- these as a path, whatever stands before the first of them
module _ (f : FileFormat) (z x y : ℕ) (zoom : z < 2 ^ 8) (column : x < 2 ^ 32) (row : y < 2 ^ 32) where
  abbrev name : List ℕ
  name = decimal y ++ dot ∷ format_word f

  wide : (n : ℕ) → n < 2 ^ 32 → n < 2 ^ 64
  wide n lt = omega (arith, lt)

  name_lacks : lacks slash name ≡ true
  name_lacks = lacks_both slash (decimal y) (dot ∷ format_word f) (digits_lack slash (decimal y) (omega arith) (printed_digits y (wide y row))) (words_lack f)

  name_split : rsplit_once dot name ≡ Some (decimal y, format_word f)
  name_split = split_at dot (decimal y) (format_word f) (no_dot f)

  named_back : tile_named (decimal z) (decimal x) name ≡ Some (tile_made f z x y)
  named_back =
      let at : number_within 32 (stem name) ≡ Some y = ap (λ (o : Option (List ℕ × List ℕ)). number_within 32 (unwrap_or (option_map (λ split. split.0) o) name)) name_split ∙ number_back 32 y row (wide y row) in
      let of : format_in name ≡ Some f = ap (option_and_then (λ (split : List ℕ × List ℕ). format_of split.1)) name_split ∙ named f in
      let low : number_within 8 (decimal z) ≡ Some z = number_back 8 z zoom (omega (arith, zoom)) in
      let across : number_within 32 (decimal x) ≡ Some x = number_back 32 x column (wide x column) in
      made (number_within 8 (decimal z)) (number_within 32 (decimal x)) (number_within 32 (stem name)) (format_in name) low across at of
    where
      made : (a b c : Option ℕ) (g : Option FileFormat) → a ≡ Some z → b ≡ Some x → c ≡ Some y → g ≡ Some f
          → option_and_then (λ p. option_and_then (λ q. option_map (λ r. record { zoom = p; column = q; row = r; format = g }) c) b) a ≡ Some (tile_made f z x y)
      made a b c g i j k l = λ t. option_and_then (λ (p : ℕ). option_and_then (λ (q : ℕ). option_map (λ (r : ℕ). let tile : TilePath = record { zoom = p; column = q; row = r; format = l t } in tile) (k t)) (j t)) (i t)

  -- the first of the numbers behind a slash or alone
  pub read_at : (above path : List ℕ) → last_part above ≡ decimal z → path ≡ (above ++ slash ∷ decimal x) ++ slash ∷ name → tile_path path ≡ Some (tile_made f z x y)
  unfolding tile_path
  read_at above path last is =
      let outer : rsplit_once slash path ≡ Some (above ++ slash ∷ decimal x, name) = ap (rsplit_once slash) is ∙ split_at slash (above ++ slash ∷ decimal x) name name_lacks in
      let inner : rsplit_once slash (above ++ slash ∷ decimal x) ≡ Some (above, decimal x) = split_at slash above (decimal x) (digits_lack slash (decimal x) (omega arith) (printed_digits x (wide x column))) in
      ap (option_and_then (λ (n : List ℕ × List ℕ). option_and_then (λ (c : List ℕ × List ℕ). tile_named (last_part c.0) c.1 n.1) (rsplit_once slash n.0))) outer
      ∙ (ap (option_and_then (λ (c : List ℕ × List ℕ). tile_named (last_part c.0) c.1 name)) inner
      ∙ (ap (λ l. tile_named l (decimal x) name) last ∙ named_back))

  digits_alone : lacks slash (decimal z) ≡ true
  digits_alone = digits_lack slash (decimal z) (omega arith) (printed_digits z (omega (arith, zoom)))

  pub read_back : tile_path (path_text f z x y) ≡ Some (tile_made f z x y)
  read_back =
      read_at (decimal z) (path_text f z x y) (ap (λ (o : Option (List ℕ × List ℕ)). unwrap_or (option_map (λ split. split.1) o) (decimal z)) (unsplit slash (decimal z) digits_alone))
      (append_assoc (decimal z ++ slash ∷ decimal x) (slash ∷ decimal y) (dot ∷ format_word f))

  pub read_behind : (folder : List ℕ) → tile_path (folder ++ slash ∷ path_text f z x y) ≡ Some (tile_made f z x y)
  read_behind folder =
      let above : List ℕ = folder ++ slash ∷ decimal z in
      let last : last_part above ≡ decimal z = ap (λ (o : Option (List ℕ × List ℕ)). unwrap_or (option_map (λ split. split.1) o) above) (split_at slash folder (decimal z) digits_alone) in
      read_at above (folder ++ slash ∷ path_text f z x y) last
      (ap (λ (l : List ℕ). folder ++ slash ∷ l) (append_assoc (decimal z ++ slash ∷ decimal x) (slash ∷ decimal y) (dot ∷ format_word f))
      ∙ (sym (append_assoc folder (slash ∷ decimal z ++ slash ∷ decimal x) (slash ∷ name))
      ∙ ap (λ (l : List ℕ). l ++ slash ∷ name) (sym (append_assoc folder (slash ∷ decimal z) (slash ∷ decimal x)))))
