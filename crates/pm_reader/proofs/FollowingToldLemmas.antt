-- The same over bytes that may be told, by how many leaves are left.
use Rattle.pm_reader.proofs.Common.{arith, Bool, Entry, entry_from, entry_in_leaf, Err, false, Follows, Gives, GrewBetween, Header, Held, IfSome, IsAtLevel, IsErrAnd, IsLeafEntry, IsTrue, IsTrusted}
use Rattle.pm_reader.proofs.Common.{List, nat_eq, nat_tests, None, Ok, Option, PmtError, Result, Some, subst, suc, sym, true, zero, ℕ, ◌-◌, ◌<◌, ◌↔◌, ◌≡◌, ◌≤◌}
use Rattle.pm_reader.proofs.FollowingLemmas.{follows_none, follows_on, follows_refused, leaf_entry}

pub is_tile : (leaf : Bool) (run : ℕ) → (IsTrue leaf ↔ (run ≡ 0)) → leaf ≡ false → nat_eq run 0 ≡ false
is_tile leaf run w n = grind (arith, nat_tests)

pub is_leaf : (leaf : Bool) (run : ℕ) → (IsTrue leaf ↔ (run ≡ 0)) → leaf ≡ true → nat_eq run 0 ≡ true
is_leaf leaf run w n = grind (arith, nat_tests)

pub told_none : (told : Option (List ℕ)) (h : Header) (root : List Entry) (t n : ℕ) (found : Option Entry) (reads : ℕ) (held : Held) (idle : Type 0) (r : Option Entry) → ((b : List ℕ) → entry_from n h b t found ≡ Ok r)
    → IfSome told (λ b. IsTrusted h b root held idle → IsAtLevel h b root (6 - n) found → Follows h b root t n found reads reads held idle (Ok r))
told_none None h root t n found reads held idle r is = tt
told_none (Some b) h root t n found reads held idle r is = λ trust at. follows_none h b root t n found reads held idle r (is b) trust

pub told_refused : (told : Option (List ℕ)) (h : Header) (root : List Entry) (t left : ℕ) (found : Option Entry) (e : Entry) (before now : ℕ) (old new : Held) (idle still : Type 0) (f : PmtError) (result : Result (Option Entry) PmtError)
    → 0 < left → left ≤ 6 → found ≡ Some e → nat_eq e.run_length 0 ≡ true
    → IfSome told (λ b. IsTrusted h b root old idle → IsLeafEntry h b root e → Gives (entry_in_leaf h b t e) (Err f))
    → IfSome told (λ b. IsTrusted h b root old idle → IsLeafEntry h b root e → IsTrusted h b root new still)
    → IsErrAnd result (λ y. y ≡ f) → GrewBetween before now 0 1
    → IfSome told (λ b. IsTrusted h b root old idle → IsAtLevel h b root (6 - left) found → Follows h b root t left found before now new still result)
told_refused told h root t zero found e before now old new idle still f result some few is leaf g trusted err reads = absurd (omega arith)
told_refused None h root t (suc n) found e before now old new idle still f result some few is leaf g trusted err reads = tt
told_refused (Some b) h root t (suc n) found e before now old new idle still f result some few is leaf g trusted err reads =
    let P : Option Entry → Type 0 = λ o. IsTrusted h b root old idle → IsAtLevel h b root (6 - suc n) o → Follows h b root t (suc n) o before now new still result in
    subst P (sym is) (λ trust at. let l = leaf_entry h b root n e few leaf at in follows_refused h b root t n e before now new still f result leaf (g trust l) err reads (trusted trust l))

pub told_on : (told again : Option (List ℕ)) (h : Header) (root : List Entry) (t left : ℕ) (found : Option Entry) (e : Entry) (next : Option Entry) (before between now : ℕ) (old mid new : Held) (idle going still : Type 0) (result : Result (Option Entry) PmtError)
    → again ≡ told → 0 < left → left ≤ 6 → found ≡ Some e → nat_eq e.run_length 0 ≡ true
    → IfSome told (λ b. IsTrusted h b root old idle → IsLeafEntry h b root e → Gives (entry_in_leaf h b t e) (Ok next))
    → IfSome told (λ b. IsTrusted h b root old idle → IsLeafEntry h b root e → IsTrusted h b root mid going)
    → GrewBetween before between 0 1
    → IfSome again (λ b. IsTrusted h b root mid going → IsAtLevel h b root (6 - (left - 1)) next → Follows h b root t (left - 1) next between now new still result)
    → IfSome told (λ b. IsTrusted h b root old idle → IsAtLevel h b root (6 - left) found → Follows h b root t left found before now new still result)
told_on told again h root t zero found e next before between now old mid new idle going still result same some few is leaf g trusted reads rest = absurd (omega arith)
told_on None again h root t (suc n) found e next before between now old mid new idle going still result same some few is leaf g trusted reads rest = tt
told_on (Some b) again h root t (suc n) found e next before between now old mid new idle going still result same some few is leaf g trusted reads rest =
    let Q : Option (List ℕ) → Type 0 = λ o. IfSome o (λ b. IsTrusted h b root mid going → IsAtLevel h b root (6 - (suc n - 1)) next → Follows h b root t (suc n - 1) next between now new still result) in
    let after : IsTrusted h b root mid going → IsAtLevel h b root (6 - (suc n - 1)) next → Follows h b root t (suc n - 1) next between now new still result = subst Q same rest in
    let less : suc n - 1 ≡ n = omega arith in
    let R : ℕ → Type 0 = λ k. IsTrusted h b root mid going → IsAtLevel h b root (6 - k) next → Follows h b root t k next between now new still result in
    let on = subst R less after in
    let P : Option Entry → Type 0 = λ o. IsTrusted h b root old idle → IsAtLevel h b root (6 - suc n) o → Follows h b root t (suc n) o before now new still result in
    subst P (sym is) (λ trust at. let l = leaf_entry h b root n e few leaf at in follows_on h b root t n e next before between now new still result few leaf at (g trust l) reads (on (trusted trust l)))
