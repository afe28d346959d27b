-- What the recently used directories are, after a use and after one is put.
use Rattle.pm_reader.proofs.Common.{AddsOnly, answer_of, ap, Bool, Bounded, Entry, Err, false, FetchLeaves, from_found, HoldsSame, IfOk, inl, inr, is_some, IsTrue, IsUsed, IsWithin, length, List}
use Rattle.pm_reader.proofs.Common.{nat_eq, None, NotCached, Ok, Option, option_map, PmtError, Puts, PutsRecent, refl, Result, scan, slice_get, Some, subst, sym, true, used, ℕ, ◌<◌, ◌∙◌, ◌≡◌, ◌⊎◌}
use Rattle.std.specs.Map.{lookup}
use Rattle.bounded_lru.proofs.HeldLemmas.{found-with_pair, latest-promoted, lookup-promoted, lookup-with_pair, used-none}

abbrev Uses : Type 0
Uses = Bounded (List Entry)

pub same_after_use : (old new : Uses) (k : ℕ) → IsUsed old new k → HoldsSame (λ o. lookup (nat_eq o) old.pairs) (λ o. lookup (nat_eq o) new.pairs)
same_after_use old new k e = λ o. ap (λ (b : Uses). lookup (nat_eq o) b.pairs) e ∙ lookup-promoted o k old.pairs

-- after a use the directory that is held stands in front
pub latest_held : (old new : Uses) (k : ℕ) (found : Bool) (latest : Option (List Entry)) → found ≡ is_some (lookup (nat_eq k) old.pairs) → found ≡ true → IsUsed old new k
    → latest ≡ option_map (λ (e : ℕ × List Entry). e.1) (slice_get new.pairs 0) → latest ≡ lookup (nat_eq k) old.pairs
latest_held old new k found latest is some e q = q ∙ (ap (λ (b : Uses). option_map (λ (e : ℕ × List Entry). e.1) (slice_get b.pairs 0)) e ∙ latest-promoted k old.pairs (sym is ∙ some))

-- what is held after a directory is given was held before, or is this directory
pub adds_put : {E : Type 0} (old new : Uses) (k : ℕ) (v : List Entry) (r : Result Bool E) → Puts length old new k v r → AddsOnly (λ o. lookup (nat_eq o) old.pairs) (λ o. lookup (nat_eq o) new.pairs) k (λ d. d ≡ v)
adds_put old new k v (Ok true) p = λ o d q. lookup-with_pair length old k o v d (sym (ap (λ (b : Uses). lookup (nat_eq o) b.pairs) p.1) ∙ q)
adds_put old new k v (Ok false) p = λ o d q. inl (sym (ap (λ (b : Uses). lookup (nat_eq o) b.pairs) p.1) ∙ q)
adds_put old new k v (Err e) p = λ o d q. inl (sym (ap (λ (b : Uses). lookup (nat_eq o) b.pairs) p) ∙ q)

-- and it is held where it is kept
pub held_put : {E : Type 0} (old new : Uses) (k : ℕ) (v : List Entry) (r : Result Bool E) → Puts length old new k v r → IsWithin length new → IfOk r (λ kept. IsTrue kept → lookup (nat_eq k) new.pairs ≡ Some v)
held_put old new k v (Ok true) p w = λ kept.
    let some : 0 < old.capacity = subst (λ n. 0 < n) (ap (λ (b : Uses). b.capacity) p.1) w.0 in
    ap (λ (b : Uses). lookup (nat_eq k) b.pairs) p.1 ∙ found-with_pair length old k v some p.0
held_put old new k v (Ok false) p w = λ kept. absurd (cc)
held_put old new k v (Err e) p w = tt

-- where nothing is known, nothing is held
pub not_held : (held : Option (List Entry)) (t : ℕ) → NotCached ≡ answer_of held t → held ≡ None
not_held None t q = refl
not_held (Some d) t q = absurd (known (scan d t) q)
  where
    known : (found : Option Entry) → NotCached ≡ from_found found → ⊥
    known None w = cc
    known (Some e) w = cc

-- what a call with a fetcher leaves, where it was called
pub fetched_put : {E : Type 0} (old mid new : Uses) (k t : ℕ) (gave : Result (List Entry) PmtError → Type 0) (d : List Entry) (found : Option Entry) (r : Result Bool E)
    → NotCached ≡ answer_of (lookup (nat_eq k) old.pairs) t → IsUsed old mid k → gave (Ok d) → found ≡ scan d t → Puts length mid new k d r
    → FetchLeaves (lookup (nat_eq k) old.pairs) gave t (IsUsed old new k) (PutsRecent old new k) (Ok found)
fetched_put {E = E} old mid new k t gave d found r answer used fetched is put =
    let none = not_held (lookup (nat_eq k) old.pairs) t answer in
    let puts = PutsRecent old new k in
    let stays = IsUsed old new k in
    let P : Option (List Entry) → Type 0 = λ held. FetchLeaves held gave t stays puts (Ok found) in
    subst P (sym none) (d, fetched, is, by_result r put)
  where
    by_result : (x : Result Bool E) → Puts length mid new k d x → PutsRecent old new k d ⊎ IsUsed old new k
    by_result (Ok true) p = let P : Uses → Type 0 = λ b. PutsRecent b new k d in inl (subst P (used ∙ used-none old k (not_held (lookup (nat_eq k) old.pairs) t answer)) p)
    by_result (Ok false) p = inr (p.1 ∙ used)
    by_result (Err e) p = inr (p ∙ used)
