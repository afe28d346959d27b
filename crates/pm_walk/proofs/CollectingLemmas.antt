-- Parts that are collected.
use Rattle.pm_walk.proofs.Common.{ap, append-nil, append_assoc, AreOrdered, arith, Collected, Collects, Entry, IfSome, List, MAX_TILE_ID, nat_tests, None, none-some, Option, refl, room_after, Some}
use Rattle.pm_walk.proofs.Common.{stays_within, sym, taken, true, ℕ, [], ◌++◌, ◌+◌, ◌∙◌, ◌∷◌, ◌≡◌, ◌≤◌}

pub if_some : {A : Type 0} (o : Option ℕ) → A → IfSome o (λ _. A)
if_some None a = tt
if_some (Some n) a = a

pub room_none : (ps : List Entry) → room_after None ps ≡ None
room_none [] = refl
room_none (p ∷ ps) = room_none ps

pub room_append : (room : Option ℕ) (ps qs : List Entry) → room_after room (ps ++ qs) ≡ room_after (room_after room ps) qs
room_append room [] qs = refl
room_append room (p ∷ ps) qs = room_append (taken room p.run_length) ps qs

pub collects_nothing : (a : Collected) → Collects a [] a
collects_nothing a = record { room = refl; parts = if_some a.room (sym (append-nil a.parts)) }

pub collects_twice : (a b c : Collected) (ps qs : List Entry) → Collects a ps b → Collects b qs c → Collects a (ps ++ qs) c
collects_twice a b c ps qs x y = record {
  room = y.room ∙ ap (λ r. room_after r qs) x.room ∙ sym (room_append a.room ps qs);
  parts = by_room b.room c.room y.room x.parts y.parts;
}
  where
    by_room : (rb rc : Option ℕ) → rc ≡ room_after rb qs → IfSome rb (λ _. b.parts ≡ a.parts ++ ps) → IfSome rc (λ _. c.parts ≡ b.parts ++ qs) → IfSome rc (λ _. c.parts ≡ a.parts ++ (ps ++ qs))
    by_room rb None is p q = tt
    by_room None (Some r) is p q = absurd (none-some r (sym (is ∙ room_none qs)))
    by_room (Some s) (Some r) is p q = q ∙ ap (λ l. l ++ qs) p ∙ append_assoc a.parts ps qs

pub ordered_more : (low : ℕ) (ps : List Entry) (end more : Option ℕ) → ((k : ℕ) → stays_within end k ≡ true → stays_within more k ≡ true) → AreOrdered low ps end → AreOrdered low ps more
ordered_more low [] end more f o = f low o
ordered_more low (p ∷ ps) end more f o = (o.0, o.1, o.2, ordered_more (p.tile_id + p.run_length) ps end more f o.3)

pub later : (m n k : ℕ) → m ≤ n → stays_within (Some m) k ≡ true → stays_within (Some n) k ≡ true
later m n k le h = grind (arith, nat_tests)

pub ordered_later : (low : ℕ) (ps : List Entry) (m n : ℕ) → m ≤ n → AreOrdered low ps (Some m) → AreOrdered low ps (Some n)
ordered_later low ps m n le o = ordered_more low ps (Some m) (Some n) (λ k. later m n k le) o

-- up to the end of a range that an id stays within
pub within_end : (m : ℕ) (end : Option ℕ) (k : ℕ) → stays_within end m ≡ true → stays_within (Some m) k ≡ true → stays_within end k ≡ true
within_end m None k h g = refl
within_end m (Some n) k h g = grind (arith, nat_tests)

pub ordered_end : (low : ℕ) (ps : List Entry) (m : ℕ) (end : Option ℕ) → stays_within end m ≡ true → AreOrdered low ps (Some m) → AreOrdered low ps end
ordered_end low ps m end h o = ordered_more low ps (Some m) end (λ k. within_end m end k h) o

-- one more part behind others
pub ordered_push : (low : ℕ) (ps : List Entry) (p : Entry) → 1 ≤ p.run_length → p.tile_id + p.run_length ≤ MAX_TILE_ID + 1 → AreOrdered low ps (Some p.tile_id) → AreOrdered low (ps ++ p ∷ []) (Some (p.tile_id + p.run_length))
ordered_push low [] p run within o = (grind (arith, nat_tests), run, within, grind (arith, nat_tests))
ordered_push low (q ∷ ps) p run within o = (o.0, o.1, o.2, ordered_push (q.tile_id + q.run_length) ps p run within o.3)

-- a run that stays within an end begins within it
pub starts_within : (end : Option ℕ) (id run : ℕ) → stays_within end (id + run) ≡ true → stays_within end id ≡ true
starts_within None id run h = refl
starts_within (Some n) id run h = grind (arith, nat_tests)
