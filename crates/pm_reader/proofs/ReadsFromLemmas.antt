-- A reader and its cache, from one call to the next.
use Rattle.pm_reader.proofs.Common.{ap, archive_tile, arith, Finds, FindsUnmodified, Gives, GivesUnmodified, Held, hops, hops_by, hops_opened, IfSome, inl, inr, IsCacheable, IsTrusted, List, None}
use Rattle.pm_reader.proofs.Common.{OpensAs, Option, PmtError, ReaderState, ReadsByHops, ReadsFrom, Result, Some, subst, sym, tile_by, tile_opened, ℕ, ◌+◌, ◌≡◌}

-- the look-up by the state's parts is that of the archive
pub tile_is : (b : List ℕ) (s : ReaderState) (t : ℕ) → OpensAs b s → tile_by 6 s.header b s.root t ≡ archive_tile b t
tile_is b s t opens = sym (ap (tile_opened b t) opens)

pub hops_are : (b : List ℕ) (s : ReaderState) (t : ℕ) → OpensAs b s → hops_by 6 s.header b s.root t ≡ hops b t
hops_are b s t opens = sym (ap (hops_opened b t) opens)

-- where a cache changes no answer, it is trusted
pub trusted_by : (b : List ℕ) (s : ReaderState) (held : Held) (idle : Type 0) → ReadsFrom b s held idle → IsCacheable b idle → IsTrusted s.header b s.root held idle
trusted_by b s held idle r able = record {
  leaves = r.leaves able;
  lengths = elim able [ inl one ↦ inl (one (s.header, s.root) r.opens) | inr i ↦ inr i ];
}

-- what holds after a call that kept the trust
pub reads_on : (told again : Option (List ℕ)) (s : ReaderState) (old new : Held) (idle still : Type 0) → again ≡ told → (still → (o : ℕ) → new o ≡ None) → IfSome told (λ b. ReadsFrom b s old idle)
    → IfSome told (λ b. IsTrusted s.header b s.root old idle → IsTrusted s.header b s.root new still) → IfSome again (λ b. ReadsFrom b s new still)
reads_on None again s old new idle still same empty reads trusted = let P : Option (List ℕ) → Type 0 = λ o. IfSome o (λ b. ReadsFrom b s new still) in subst P (sym same) tt
reads_on (Some b) again s old new idle still same empty reads trusted =
    let P : Option (List ℕ) → Type 0 = λ o. IfSome o (λ b. ReadsFrom b s new still) in
    subst P (sym same) (record {
      opens = reads.opens;
      leaves = λ able. elim able [ inl one ↦ (trusted (trusted_by b s old idle reads (inl one))).leaves | inr i ↦ λ e d l q. let none = empty i (s.header.leaf_offset + e.offset) in absurd (cc) ];
    })

pub found_trusts : (told : Option (List ℕ)) (s : ReaderState) (t before now : ℕ) (old new : Held) (idle still : Type 0) (r : Result (Option (List ℕ)) PmtError)
    → IfSome told (λ b. IsTrusted s.header b s.root old idle → Finds s.header b s.root t before now new still r) → IfSome told (λ b. IsTrusted s.header b s.root old idle → IsTrusted s.header b s.root new still)
found_trusts None s t before now old new idle still r found = tt
found_trusts (Some b) s t before now old new idle still r found = λ trust. (found trust).trusted

pub found_answer : (told : Option (List ℕ)) (s : ReaderState) (t before now : ℕ) (old new : Held) (idle still : Type 0) (r given : Result (Option (List ℕ)) PmtError) → given ≡ r → IfSome told (λ b. ReadsFrom b s old idle)
    → IfSome told (λ b. IsTrusted s.header b s.root old idle → Finds s.header b s.root t before now new still r) → IfSome told (λ b. IsCacheable b idle → Gives (archive_tile b t) given)
found_answer None s t before now old new idle still r given same reads found = tt
found_answer (Some b) s t before now old new idle still r given same reads found = λ able.
    let P : Result (Option (List ℕ)) PmtError → Type 0 = λ x. Gives (archive_tile b t) x in
    let Q : Result (Option (List ℕ)) PmtError → Type 0 = λ x. Gives x r in
    subst P (sym same) (subst Q (tile_is b s t reads.opens) (found (trusted_by b s old idle reads able)).answer)

pub found_hops : (told : Option (List ℕ)) (s : ReaderState) (t before now : ℕ) (old new : Held) (idle still : Type 0) (r : Result (Option (List ℕ)) PmtError) → IfSome told (λ b. ReadsFrom b s old idle)
    → IfSome told (λ b. IsTrusted s.header b s.root old idle → Finds s.header b s.root t before now new still r) → IfSome told (λ b. IsCacheable b idle → ReadsByHops b t before now)
found_hops None s t before now old new idle still r reads found = tt
found_hops (Some b) s t before now old new idle still r reads found = λ able. omega (arith, (found (trusted_by b s old idle reads able)).hops, hops_are b s t reads.opens)

-- the same where version texts are compared
pub unmodified_trusts : (told : Option (List ℕ)) (s : ReaderState) (t before now : ℕ) (old new : Held) (idle still : Type 0) (r : Result (Option (List ℕ)) PmtError)
    → IfSome told (λ b. IsTrusted s.header b s.root old idle → FindsUnmodified s.header b s.root t before now new still r) → IfSome told (λ b. IsTrusted s.header b s.root old idle → IsTrusted s.header b s.root new still)
unmodified_trusts None s t before now old new idle still r found = tt
unmodified_trusts (Some b) s t before now old new idle still r found = λ trust. (found trust).trusted

pub unmodified_answer : (told : Option (List ℕ)) (s : ReaderState) (t before now : ℕ) (old new : Held) (idle still : Type 0) (r : Result (Option (List ℕ)) PmtError) → IfSome told (λ b. ReadsFrom b s old idle)
    → IfSome told (λ b. IsTrusted s.header b s.root old idle → FindsUnmodified s.header b s.root t before now new still r) → IfSome told (λ b. IsCacheable b idle → GivesUnmodified (archive_tile b t) (archive_tile b t) r)
unmodified_answer None s t before now old new idle still r reads found = tt
unmodified_answer (Some b) s t before now old new idle still r reads found = λ able.
    let Q : Result (Option (List ℕ)) PmtError → Type 0 = λ x. GivesUnmodified x x r in
    subst Q (tile_is b s t reads.opens) (found (trusted_by b s old idle reads able)).answer

pub unmodified_hops : (told : Option (List ℕ)) (s : ReaderState) (t before now : ℕ) (old new : Held) (idle still : Type 0) (r : Result (Option (List ℕ)) PmtError) → IfSome told (λ b. ReadsFrom b s old idle)
    → IfSome told (λ b. IsTrusted s.header b s.root old idle → FindsUnmodified s.header b s.root t before now new still r) → IfSome told (λ b. IsCacheable b idle → ReadsByHops b t before now)
unmodified_hops None s t before now old new idle still r reads found = tt
unmodified_hops (Some b) s t before now old new idle still r reads found = λ able. omega (arith, (found (trusted_by b s old idle reads able)).hops, hops_are b s t reads.opens)
