-- A walk through the entries that name directories beside a walk through all entries of these.
use Rattle.pm_writer.proofs.Common.{AllSome, ap, append-nil, append_assoc, arith, covers, cut, dir_bytes, drop, end_of, Entry, entry, false, first_id, flat_map, if◌then◌else◌, inl, inr, joined}
use Rattle.pm_writer.proofs.Common.{last_below, length, length-append, length-drop, List, Names, nat_le, nat_tests, nil_from_length, None, Option, pieces, refl, Rising, root_of, scan, Some, subst}
use Rattle.pm_writer.proofs.Common.{suc, sym, take, take-append-drop, Through, true, zero, ℕ, [], ◌++◌, ◌+◌, ◌<◌, ◌>>=◌, ◌∙◌, ◌∷◌, ◌≡◌, ◌≢◌, ◌≤◌}
use Rattle.pm_writer.proofs.Runs.{le_or}

pub last_yes : (t : ℕ) (found : Option Entry) (e : Entry) (es : List Entry) → e.tile_id ≤ t → last_below t found (e ∷ es) ≡ last_below t (Some e) es
last_yes t found e es h = let y : nat_le e.tile_id t ≡ true = grind (arith, nat_tests) in rw y refl

pub last_no : (t : ℕ) (found : Option Entry) (e : Entry) (es : List Entry) → t < e.tile_id → last_below t found (e ∷ es) ≡ last_below t found es
last_no t found e es h = let y : nat_le e.tile_id t ≡ false = grind (arith, nat_tests) in rw y refl

pub last_append : (t : ℕ) (found : Option Entry) (es fs : List Entry) → last_below t found (es ++ fs) ≡ last_below t (last_below t found es) fs
last_append t found [] fs = refl
last_append t found (e ∷ es) fs = last_append t (if nat_le e.tile_id t then Some e else found) es fs

rising_tail : (e : Entry) (es : List Entry) → Rising (e ∷ es) → Rising es
rising_tail e [] r = tt
rising_tail e (f ∷ es) r = r.1

root_yes : (t place : ℕ) (found : Option Entry) (l : List Entry) (ls : List (List Entry)) → first_id l ≤ t
    → last_below t found (root_of place (l ∷ ls)) ≡ last_below t (Some (entry (first_id l) place (length (dir_bytes l)) 0)) (root_of (place + length (dir_bytes l)) ls)
root_yes t place found l ls h = last_yes t found (entry (first_id l) place (length (dir_bytes l)) 0) (root_of (place + length (dir_bytes l)) ls) h

-- nothing changes where the first entry lies behind
pub last_behind : (t : ℕ) (found : Option Entry) (e : Entry) (es : List Entry) → t < e.tile_id → Rising (e ∷ es) → last_below t found (e ∷ es) ≡ found
last_behind t found e [] h r = last_no t found e [] h
last_behind t found e (f ∷ es) h r = last_no t found e (f ∷ es) h ∙ last_behind t found f es (omega (arith, h, r.0)) r.1

rising_right : (es fs : List Entry) → Rising (es ++ fs) → Rising fs
rising_right [] fs r = r
rising_right (e ∷ es) fs r = rising_right es fs (rising_tail e (es ++ fs) r)

-- what was found before doesn't matter where the first entry is at the id or before it
found_lost : (t : ℕ) (found other : Option Entry) (e : Entry) (es : List Entry) → e.tile_id ≤ t → last_below t found (e ∷ es) ≡ last_below t other (e ∷ es)
found_lost t found other e es h = last_yes t found e es h ∙ sym (last_yes t other e es h)

-- the directory that the id falls in, the last one that begins at it or before
pub record Falls (t place : ℕ) (back : List (List Entry)) (l : List Entry) (ls : List (List Entry)) : Type 0 where
  pub leaf : List Entry
  pub root : Entry
  pub names : Names place (back ++ l ∷ ls) root leaf
  pub at_root : (found : Option Entry) → last_below t found (root_of (place + end_of back) (l ∷ ls)) ≡ Some root
  pub at_leaf : (found : Option Entry) → last_below t found (joined (l ∷ ls)) ≡ last_below t None leaf

-- the first id of a list of leaves is below that of the next
apart : (m k : List Entry) (ls : List (List Entry)) → m ≢ [] → k ≢ [] → Rising (m ++ (k ++ joined ls)) → first_id m < first_id k
apart m [] ls a b r = absurd (b refl)
apart [] (f ∷ k) ls a b r = absurd (a refl)
apart (e ∷ es) (f ∷ k) ls a b r = last_first e es (k ++ joined ls) f r
  where
    last_first : (e : Entry) (es fs : List Entry) (f : Entry) → Rising (e ∷ (es ++ f ∷ fs)) → e.tile_id < f.tile_id
    last_first e [] fs f r = r.0
    last_first e (g ∷ es) fs f r = omega (arith, r.0, last_first g es fs f r.1)

behind_root : (t place : ℕ) (found : Option Entry) (m : List Entry) (ls : List (List Entry)) → t < first_id m → AllSome (m ∷ ls) → Rising (joined (m ∷ ls)) → last_below t found (root_of place (m ∷ ls)) ≡ found
behind_root t place found m [] h s r = last_no t found _ [] h
behind_root t place found m (k ∷ ls) h s r =
    last_no t found _ (root_of (place + length (dir_bytes m)) (k ∷ ls)) h
    ∙ behind_root t (place + length (dir_bytes m)) found k ls (omega (arith, h, apart m k ls s.0 s.1.0 r)) s.1 (rising_right m (joined (k ∷ ls)) r)

behind_leaf : (t : ℕ) (found : Option Entry) (m : List Entry) (ls : List (List Entry)) → t < first_id m → m ≢ [] → Rising (joined (m ∷ ls)) → last_below t found (joined (m ∷ ls)) ≡ found
behind_leaf t found [] ls h s r = absurd (s refl)
behind_leaf t found (e ∷ m) ls h s r = last_behind t found e (m ++ joined ls) h r

lost : (t : ℕ) (found other : Option Entry) (l es : List Entry) → l ≢ [] → first_id l ≤ t → last_below t found (l ++ es) ≡ last_below t other (l ++ es)
lost t found other [] es s h = absurd (s refl)
lost t found other (e ∷ l) es s h = found_lost t found other e (l ++ es) h

-- one directory further back
further : (place : ℕ) (back : List (List Entry)) (l m : List Entry) (ls : List (List Entry)) (e : Entry) (k : List Entry) → Names place ((back ++ l ∷ []) ++ m ∷ ls) e k → Names place (back ++ l ∷ m ∷ ls) e k
further place back l m ls e k n = record { before = n.before; after = n.after; parts = sym (append_assoc back (l ∷ []) (m ∷ ls)) ∙ n.parts; is = n.is }

next_place : (back : List (List Entry)) (l : List Entry) → end_of (back ++ l ∷ []) ≡ end_of back + length (dir_bytes l)
next_place [] l = omega (arith, ap length (append-nil (dir_bytes l)))
next_place (b ∷ back) l =
    length-append (dir_bytes b) (flat_map dir_bytes (back ++ l ∷ []))
    ∙ (ap (λ n. length (dir_bytes b) + n) (next_place back l)
    ∙ omega (arith, length-append (dir_bytes b) (flat_map dir_bytes back)))

pub falls : (t place : ℕ) (back : List (List Entry)) (l : List Entry) (ls : List (List Entry)) → first_id l ≤ t → AllSome (l ∷ ls) → Rising (joined (l ∷ ls)) → Falls t place back l ls
falls t place back l [] h s r =
    record {
      leaf = l;
      root = entry (first_id l) (place + end_of back) (length (dir_bytes l)) 0;
      names = record { before = back; after = []; parts = refl; is = refl };
      at_root = λ found. root_yes t (place + end_of back) found l [] h;
      at_leaf = λ found. ap (last_below t found) (append-nil l) ∙ (ap (last_below t found) (sym (append-nil l)) ∙ (lost t found None l [] s.0 h ∙ ap (last_below t None) (append-nil l)));
    }
falls t place back l (m ∷ ls) h s r =
    elim (le_or (first_id m) t) [
      | inl g ↦
          let f = falls t place (back ++ l ∷ []) m ls g s.1 (rising_right l (joined (m ∷ ls)) r) in
          let next : place + end_of (back ++ l ∷ []) ≡ place + end_of back + length (dir_bytes l) = omega (arith, next_place back l) in
          record {
            leaf = f.leaf;
            root = f.root;
            names = further place back l m ls f.root f.leaf f.names;
            at_root = λ found. root_yes t (place + end_of back) found l (m ∷ ls) h ∙ (ap (λ n. last_below t (Some (entry (first_id l) (place + end_of back) (length (dir_bytes l)) 0)) (root_of n (m ∷ ls))) (sym next) ∙ f.at_root _);
            at_leaf = λ found. last_append t found l (joined (m ∷ ls)) ∙ f.at_leaf _;
          }
      | inr g ↦
          record {
            leaf = l;
            root = entry (first_id l) (place + end_of back) (length (dir_bytes l)) 0;
            names = record { before = back; after = m ∷ ls; parts = refl; is = refl };
            at_root = λ found. root_yes t (place + end_of back) found l (m ∷ ls) h ∙ behind_root t (place + end_of back + length (dir_bytes l)) (Some (entry (first_id l) (place + end_of back) (length (dir_bytes l)) 0)) m ls g s.1 (rising_right l (joined (m ∷ ls)) r);
            at_leaf = λ found. last_append t found l (joined (m ∷ ls)) ∙ (behind_leaf t _ m ls g s.1.0 (rising_right l (joined (m ∷ ls)) r) ∙ (ap (last_below t found) (sym (append-nil l)) ∙ (lost t found None l [] s.0 h ∙ ap (last_below t None) (append-nil l))));
          }
    ]

pub through : (place : ℕ) (ls : List (List Entry)) (t : ℕ) → AllSome ls → Rising (joined ls) → Through place (root_of place ls) ls (joined ls) t
unfolding scan
through place [] t s r = refl
through place (l ∷ ls) t s r =
    elim (le_or (first_id l) t) [
      | inl h ↦
          let f = falls t place [] l ls h s r in
          let here : place + 0 ≡ place = omega arith in
          let met : last_below t None (root_of place (l ∷ ls)) ≡ Some f.root = subst (λ p. last_below t None (root_of p (l ∷ ls)) ≡ Some f.root) here (f.at_root None) in
          let e : scan (root_of place (l ∷ ls)) t ≡ Some f.root = ap (λ o. o >>= covers t) met ∙ ap (covers t) f.names.is ∙ ap Some (sym f.names.is) in
          rw e (f.leaf, f.names, ap (λ o. o >>= covers t) (sym (f.at_leaf None)))
      | inr h ↦
          let e : scan (root_of place (l ∷ ls)) t ≡ None = ap (λ o. o >>= covers t) (behind_root t place None l ls h s r) in
          rw e (ap (λ o. o >>= covers t) (behind_leaf t None l ls h s.0 r))
    ]

-- the ids of these entries rise as those of the directories do
pub names_rise : (place : ℕ) (ls : List (List Entry)) → AllSome ls → Rising (joined ls) → Rising (root_of place ls)
names_rise place [] s r = tt
names_rise place (l ∷ []) s r = tt
names_rise place (l ∷ m ∷ ls) s r = (apart l m ls s.0 s.1.0 r, names_rise (place + length (dir_bytes l)) (m ∷ ls) s.1 (rising_right l (joined (m ∷ ls)) r))

pub cut_joined : (n size : ℕ) (es : List Entry) → 1 ≤ size → length es ≤ n → joined (cut n size es) ≡ es
cut_joined zero size es h g = sym (nil_from_length es (omega arith))
cut_joined (suc n) size [] h g = refl
cut_joined (suc n) size (e ∷ es) h g =
    ap (λ t. take size (e ∷ es) ++ t) (cut_joined n size (drop size (e ∷ es)) h (omega (arith, length-drop size (e ∷ es), h, g)))
    ∙ take-append-drop size (e ∷ es)

pub cut_some : (n size : ℕ) (es : List Entry) → 1 ≤ size → AllSome (cut n size es)
cut_some zero size es h = tt
cut_some (suc n) size [] h = tt
cut_some (suc n) zero (e ∷ es) h = absurd (omega (arith, h))
cut_some (suc n) (suc size) (e ∷ es) h = (λ q. cc, cut_some n (suc size) (drop size es) h)

pub answer_as_one : (es : List Entry) (place size t : ℕ) → 1 ≤ size → Rising es → Through place (root_of place (pieces size es)) (pieces size es) es t
answer_as_one es place size t h r =
    let same = cut_joined (length es) size es h (omega arith) in
    let ls = pieces size es in
    let P : List Entry → Type 0 = λ z. Through place (root_of place ls) ls z t in
    subst P same (through place ls t (cut_some (length es) size es h) (subst Rising (sym same) r))
