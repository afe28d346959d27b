-- What a look-up of a tile answers.
use Rattle.pm_reader.proofs.Common.{ap, arith, data_behind, data_of, Entry, entry_from, Err, Finds, Follows, Gives, Header, Held, hops_by, hops_from, IfSome, IsAtLevel, IsErrAnd, IsTrusted, level}
use Rattle.pm_reader.proofs.Common.{List, None, Ok, Option, PmtError, range_of, range_read, Result, scan, Some, subst, sym, tile_by, tile_of, ℕ, ◌+◌, ◌-◌, ◌∙◌, ◌≡◌, ◌≤◌}
use Rattle.byte_media.specs.declared.backend.BackendResponse.{BackendResponse}
use Rattle.pm_reader.proofs.FollowingLemmas.{gives_refused}
use Rattle.pm_reader.proofs.LevelLemmas.{scan_is_in}

-- the root is level 0
at_root : (h : Header) (b : List ℕ) (root : List Entry) (t : ℕ) (found : Option Entry) → found ≡ scan root t → IsAtLevel h b root (6 - 6) found
unfolding level
at_root h b root t None e = tt
at_root h b root t (Some f) e = scan_is_in root t f (sym e)

-- from what the root has for an id
tile_is : (h : Header) (b : List ℕ) (root : List Entry) (t : ℕ) (found : Option Entry) → found ≡ scan root t → data_behind h b (entry_from 6 h b t found) ≡ tile_by 6 h b root t
unfolding tile_by
tile_is h b root t found e = ap (λ o. data_behind h b (entry_from 6 h b t o)) e

hops_are : (h : Header) (b : List ℕ) (root : List Entry) (t : ℕ) (found : Option Entry) → found ≡ scan root t → hops_from 6 h b t found ≡ hops_by 6 h b root t
unfolding hops_by
hops_are h b root t found e = ap (hops_from 6 h b t) e

abbrev Way : Header → List ℕ → List Entry → ℕ → Option Entry → ℕ → ℕ → Held → Held → Type 0 → Type 0 → Result (Option Entry) PmtError → Type 0
Way h b root t found before now old held idle still r = IsTrusted h b root old idle → IsAtLevel h b root (6 - 6) found → Follows h b root t 6 found before now held still r

finds_refused : (h : Header) (b : List ℕ) (root : List Entry) (t : ℕ) (found : Option Entry) (before now : ℕ) (held : Held) (still : Type 0) (f : PmtError) → found ≡ scan root t → Follows h b root t 6 found before now held still (Err f)
    → Finds h b root t before now held still (Err f)
finds_refused h b root t found before now held still f e w = record {
  answer = gives_refused (entry_from 6 h b t found) _ f (λ q. sym (tile_is h b root t found e) ∙ ap (data_behind h b) q) w.answer;
  hops = omega (arith, w.hops, hops_are h b root t found e);
  trusted = w.trusted;
}

pub told_refused : (told : Option (List ℕ)) (h : Header) (root : List Entry) (t : ℕ) (found : Option Entry) (before now : ℕ) (old held : Held) (idle still : Type 0) (f : PmtError) (result : Result (Option BackendResponse) PmtError)
    → found ≡ scan root t → IfSome told (λ b. Way h b root t found before now old held idle still (Err f)) → IsErrAnd result (λ y. y ≡ f)
    → IfSome told (λ b. IsTrusted h b root old idle → Finds h b root t before now held still (tile_of result))
told_refused None h root t found before now old held idle still f result e way is = tt
told_refused (Some b) h root t found before now old held idle still f (Ok r) e way is = absurd is
told_refused (Some b) h root t found before now old held idle still f (Err y) e way is =
    let P : PmtError → Type 0 = λ x. IsTrusted h b root old idle → Finds h b root t before now held still (Err x) in
    subst P (sym is) (λ trust. finds_refused h b root t found before now held still f e (way trust (at_root h b root t found e)))

pub told_none : (told : Option (List ℕ)) (h : Header) (root : List Entry) (t : ℕ) (found reached : Option Entry) (before now : ℕ) (old held : Held) (idle still : Type 0)
    → found ≡ scan root t → reached ≡ None → IfSome told (λ b. Way h b root t found before now old held idle still (Ok reached))
    → IfSome told (λ b. IsTrusted h b root old idle → Finds h b root t before now held still (Ok None))
told_none None h root t found reached before now old held idle still e none way = tt
told_none (Some b) h root t found reached before now old held idle still e none way = λ trust.
    let w = way trust (at_root h b root t found e) in
    record {
      answer = sym (tile_is h b root t found e) ∙ ap (data_behind h b) (w.answer ∙ ap Ok none);
      hops = omega (arith, w.hops, hops_are h b root t found e);
      trusted = w.trusted;
    }

-- the contents of the entry that was reached
data_refused : (o : Option (List ℕ)) (past f : PmtError) → elim o as (λ _. Result (List ℕ) PmtError) [ None ↦ Err past | Some bytes ↦ Ok bytes ] ≡ Err f → elim o as (λ _. Result (Option (List ℕ)) PmtError) [ None ↦ Err past | Some bytes ↦ Ok (Some bytes) ] ≡ Err f
data_refused None past f q = cc
data_refused (Some bytes) past f q = absurd (cc)

data_given : (o : Option (List ℕ)) (past : PmtError) (x : List ℕ) → elim o as (λ _. Result (List ℕ) PmtError) [ None ↦ Err past | Some bytes ↦ Ok bytes ] ≡ Ok x → elim o as (λ _. Result (Option (List ℕ)) PmtError) [ None ↦ Err past | Some bytes ↦ Ok (Some bytes) ] ≡ Ok (Some x)
data_given None past x q = absurd (cc)
data_given (Some bytes) past x q = cc

pub told_past : (told again : Option (List ℕ)) (h : Header) (root : List Entry) (t : ℕ) (found reached : Option Entry) (e : Entry) (off len before between now : ℕ) (old held : Held) (idle still : Type 0) (f : PmtError) (result : Result (Option BackendResponse) PmtError)
    → again ≡ told → found ≡ scan root t → reached ≡ Some e → off ≡ e.offset → len ≡ e.length → IfSome told (λ b. Way h b root t found before between old held idle still (Ok reached))
    → IfSome again (λ b. Gives (range_read b (h.data_offset + off) len) (Err f)) → now ≤ between + 1 → IsErrAnd result (λ y. y ≡ f)
    → IfSome told (λ b. IsTrusted h b root old idle → Finds h b root t before now held still (tile_of result))
told_past None again h root t found reached e off len before between now old held idle still f result same is some place size way g reads err = tt
told_past (Some b) again h root t found reached e off len before between now old held idle still f (Ok r) same is some place size way g reads err = absurd err
told_past (Some b) again h root t found reached e off len before between now old held idle still f (Err y) same is some place size way g reads err = λ trust.
    let w = way trust (at_root h b root t found is) in
    let Q : Option (List ℕ) → Type 0 = λ o. IfSome o (λ c. Gives (range_read c (h.data_offset + off) len) (Err f)) in
    let R : ℕ → Type 0 = λ n. Gives (range_read b (h.data_offset + n) len) (Err f) in
    let S : ℕ → Type 0 = λ n. Gives (range_read b (h.data_offset + e.offset) n) (Err f) in
    let tile : data_of h b e ≡ tile_by 6 h b root t = sym (ap (data_behind h b) (w.answer ∙ ap Ok some)) ∙ tile_is h b root t found is in
    let P : PmtError → Type 0 = λ x. Gives (tile_by 6 h b root t) (Err x) in
    record {
      answer = subst P (sym err) (gives_refused (range_read b (h.data_offset + e.offset) e.length) _ f (λ q. sym tile ∙ data_refused (range_of b (h.data_offset + e.offset) e.length) _ f q) (subst S size (subst R place (subst Q same g))));
      hops = omega (arith, w.hops, hops_are h b root t found is, reads);
      trusted = w.trusted;
    }

pub told_found : (told again : Option (List ℕ)) (h : Header) (root : List Entry) (t : ℕ) (found reached : Option Entry) (e : Entry) (off len before between now : ℕ) (old held : Held) (idle still : Type 0) (x : List ℕ)
    → again ≡ told → found ≡ scan root t → reached ≡ Some e → off ≡ e.offset → len ≡ e.length → IfSome told (λ b. Way h b root t found before between old held idle still (Ok reached))
    → IfSome again (λ b. Gives (range_read b (h.data_offset + off) len) (Ok x)) → now ≤ between + 1
    → IfSome told (λ b. IsTrusted h b root old idle → Finds h b root t before now held still (Ok (Some x)))
told_found None again h root t found reached e off len before between now old held idle still x same is some place size way g reads = tt
told_found (Some b) again h root t found reached e off len before between now old held idle still x same is some place size way g reads = λ trust.
    let w = way trust (at_root h b root t found is) in
    let Q : Option (List ℕ) → Type 0 = λ o. IfSome o (λ c. range_read c (h.data_offset + off) len ≡ Ok x) in
    let R : ℕ → Type 0 = λ n. range_read b (h.data_offset + n) len ≡ Ok x in
    let S : ℕ → Type 0 = λ n. range_read b (h.data_offset + e.offset) n ≡ Ok x in
    let tile : data_of h b e ≡ tile_by 6 h b root t = sym (ap (data_behind h b) (w.answer ∙ ap Ok some)) ∙ tile_is h b root t found is in
    record {
      answer = sym tile ∙ data_given (range_of b (h.data_offset + e.offset) e.length) _ x (subst S size (subst R place (subst Q same g)));
      hops = omega (arith, w.hops, hops_are h b root t found is, reads);
      trusted = w.trusted;
    }
