-- What a look-up finds on its way through leaves.
use Rattle.pm_reader.proofs.Common.{ap, arith, Entry, entry_from, entry_in_leaf, Err, Follows, Gives, GrewBetween, Header, Held, hops_from, IsAtLevel, IsErrAnd, IsLeafEntry, IsTrusted, leaf_of, List}
use Rattle.pm_reader.proofs.Common.{nat_eq, nat_tests, Ok, Option, PmtError, Reached, reached, reached_leaf, refl, Result, scan, Some, subst, suc, sym, through, true, ℕ, ◌-◌, ◌∙◌, ◌≡◌, ◌≤◌}
use Rattle.pm_format.specs.declared.error.PmtError.TheVariants as errors
use Rattle.pm_format.specs.declared.error.ReadCause.TheVariants as causes
use Rattle.pm_reader.proofs.LevelLemmas.{level_below}

-- what the leaf of an entry has for an id, where it is there, and why not
abbrev Looked : ℕ → Result (List Entry) PmtError → Result (Option Entry) PmtError
Looked t l = elim l [ Err r ↦ Err r | Ok leaf ↦ Ok (scan leaf t) ]

found_by : (t : ℕ) (found : Option Entry) (l : Result (List Entry) PmtError) → Looked t l ≡ Ok found → (d : List Entry) × (l ≡ Ok d) × (found ≡ scan d t)
found_by t found (Ok d) q = (d, refl, cc)
found_by t found (Err f) q = absurd (cc)

pub found_in_leaf : (h : Header) (b : List ℕ) (t : ℕ) (e : Entry) (found : Option Entry) → entry_in_leaf h b t e ≡ Ok found → (d : List Entry) × (leaf_of h b e ≡ Ok d) × (found ≡ scan d t)
found_in_leaf h b t e found q = found_by t found (leaf_of h b e) q

refused_by : (t : ℕ) (f : PmtError) (l : Result (List Entry) PmtError) → Looked t l ≡ Err f → l ≡ Err f
refused_by t f (Ok d) q = absurd (cc)
refused_by t f (Err g) q = cc

pub refused_in_leaf : (h : Header) (b : List ℕ) (t : ℕ) (e : Entry) (f : PmtError) → entry_in_leaf h b t e ≡ Err f → leaf_of h b e ≡ Err f
refused_in_leaf h b t e f q = refused_by t f (leaf_of h b e) q

-- a leaf that is refused ends the look-up
refused_end : (next : List Entry → Reached) (f : PmtError) → (through next (Err f)).entry ≡ Err f
refused_end next errors.InvalidEntry = refl
refused_end next f = refl

-- a refusal that is wanted of one is wanted of the other
pub gives_refused : {A B : Type 0} (one : Result A PmtError) (other : Result B PmtError) (f : PmtError) → (one ≡ Err f → other ≡ Err f) → Gives one (Err f) → Gives other (Err f)
gives_refused one other errors.OutOfMemory to g = tt
gives_refused one other (errors.Reading causes.Fault) to g = tt
gives_refused one other (errors.UnexpectedNumberOfBytesReturned asked got) to g = g
gives_refused one other f to g = to g

pub leaf_entry : (h : Header) (b : List ℕ) (root : List Entry) (n : ℕ) (e : Entry) → suc n ≤ 6 → nat_eq e.run_length 0 ≡ true → IsAtLevel h b root (6 - suc n) (Some e) → IsLeafEntry h b root e
leaf_entry h b root n e few leaf at = record { depth = 6 - suc n; low = omega arith; named = at; leaf = grind (arith, nat_tests) }

-- where nothing is read, or what is found needs no leaf
pub follows_none : (h : Header) (b : List ℕ) (root : List Entry) (t n : ℕ) (found : Option Entry) (reads : ℕ) (held : Held) (idle : Type 0) (r : Option Entry) → entry_from n h b t found ≡ Ok r → IsTrusted h b root held idle
    → Follows h b root t n found reads reads held idle (Ok r)
follows_none h b root t n found reads held idle r is trust = record { answer = is; hops = omega arith; trusted = trust }

-- where the leaf is refused
pub follows_refused : (h : Header) (b : List ℕ) (root : List Entry) (t n : ℕ) (e : Entry) (before now : ℕ) (held : Held) (idle : Type 0) (f : PmtError) (result : Result (Option Entry) PmtError)
    → nat_eq e.run_length 0 ≡ true → Gives (entry_in_leaf h b t e) (Err f) → IsErrAnd result (λ y. y ≡ f) → GrewBetween before now 0 1 → IsTrusted h b root held idle
    → Follows h b root t (suc n) (Some e) before now held idle result
follows_refused h b root t n e before now held idle f (Ok x) leaf g is reads trust = absurd is
follows_refused h b root t n e before now held idle f (Err y) leaf g is reads trust =
    let P : PmtError → Type 0 = λ x. Gives (entry_from (suc n) h b t (Some e)) (Err x) in
    record {
      answer = subst P (sym is) (gives_refused (entry_in_leaf h b t e) _ f (λ q. ap (λ r. r.entry) (reached_leaf n h b t e (Err f) leaf (refused_in_leaf h b t e f q)) ∙ refused_end (λ leaf. reached n h b t (scan leaf t)) f) g);
      hops = omega (arith, reads.most);
      trusted = trust;
    }

-- where the leaf leads on
pub follows_on : (h : Header) (b : List ℕ) (root : List Entry) (t n : ℕ) (e : Entry) (next : Option Entry) (before between now : ℕ) (held : Held) (idle : Type 0) (result : Result (Option Entry) PmtError)
    → suc n ≤ 6 → nat_eq e.run_length 0 ≡ true → IsAtLevel h b root (6 - suc n) (Some e) → Gives (entry_in_leaf h b t e) (Ok next) → GrewBetween before between 0 1
    → (IsAtLevel h b root (6 - n) next → Follows h b root t n next between now held idle result) → Follows h b root t (suc n) (Some e) before now held idle result
follows_on h b root t n e next before between now held idle result few leaf at g reads rest =
    let w = found_in_leaf h b t e next g in
    let d = w.0 in
    let deep : 6 - n ≡ suc (6 - suc n) = omega arith in
    let P : ℕ → Type 0 = λ k. IsAtLevel h b root k next in
    let under : IsAtLevel h b root (6 - n) next = subst P (sym deep) (level_below h b root (6 - suc n) t e d next leaf at w.1 w.2) in
    let f = rest under in
    let same : entry_from (suc n) h b t (Some e) ≡ entry_from n h b t next = ap (λ r. r.entry) (reached_leaf n h b t e (Ok d) leaf w.1) ∙ ap (entry_from n h b t) (sym w.2) in
    let hop : hops_from (suc n) h b t (Some e) ≡ suc (hops_from n h b t next) = ap (λ r. r.leaves) (reached_leaf n h b t e (Ok d) leaf w.1) ∙ ap (λ z. suc (hops_from n h b t z)) (sym w.2) in
    record {
      answer = let Q : Result (Option Entry) PmtError → Type 0 = λ z. Gives z result in subst Q (sym same) f.answer;
      hops = omega (arith, hop, f.hops, reads.most);
      trusted = f.trusted;
    }
