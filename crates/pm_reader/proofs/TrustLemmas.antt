-- A cache stays trusted.
use Rattle.pm_reader.proofs.Common.{AddsNone, AddsOnly, ap, arith, Entry, entry, Header, Held, HoldsLeaves, IfSome, inl, inr, IsLeafEntry, IsTrusted, leaf_of, List, None, Ok, Option, Some, sym, ℕ}
use Rattle.pm_reader.proofs.Common.{◌+◌, ◌∙◌, ◌≡◌}

pub trust_kept : (h : Header) (b : List ℕ) (root : List Entry) (old new : Held) (idle still : Type 0) → AddsNone old new → (idle → still) → IsTrusted h b root old idle → IsTrusted h b root new still
trust_kept h b root old new idle still adds stays t = record {
  leaves = λ e d l q. t.leaves e d l (adds (h.leaf_offset + e.offset) d q);
  lengths = elim t.lengths [ inl one ↦ inl one | inr i ↦ inr (stays i) ];
}

-- a leaf goes by the place and the length of its entry alone
pub same_leaf : (h : Header) (b : List ℕ) (e f : Entry) → e.offset ≡ f.offset → e.length ≡ f.length → leaf_of h b e ≡ leaf_of h b f
same_leaf h b e f o n = ap (λ z. leaf_of h b (entry 0 z e.length 0)) o ∙ ap (λ z. leaf_of h b (entry 0 f.offset z 0)) n

holds_more : (h : Header) (b : List ℕ) (root : List Entry) (old new : Held) (leaf : Entry) (d : List Entry) (at : ℕ) → AddsOnly old new at (λ x. x ≡ d) → at ≡ h.leaf_offset + leaf.offset → leaf_of h b leaf ≡ Ok d
    → ((e : Entry) → IsLeafEntry h b root e → e.offset ≡ leaf.offset → e.length ≡ leaf.length) → HoldsLeaves h b root old → HoldsLeaves h b root new
holds_more h b root old new leaf d at adds place is one holds e x l q =
    elim (adds (h.leaf_offset + e.offset) x q) [
      | inl was ↦ holds e x l was
      | inr w ↦ let o : e.offset ≡ leaf.offset = omega (arith, w.0, place) in same_leaf h b e leaf o (one e l o) ∙ (is ∙ ap Ok (sym w.1))
    ]

pub trust_more : (h : Header) (b : List ℕ) (root : List Entry) (old new : Held) (idle still : Type 0) (leaf : Entry) (d : List Entry) (at : ℕ) → AddsOnly old new at (λ x. x ≡ d) → at ≡ h.leaf_offset + leaf.offset → leaf_of h b leaf ≡ Ok d
    → IsLeafEntry h b root leaf → (idle → still) → (still → (o : ℕ) → new o ≡ None) → IsTrusted h b root old idle → IsTrusted h b root new still
trust_more h b root old new idle still leaf d at adds place is named stays empty t =
    elim t.lengths [
      | inl one ↦ record { leaves = holds_more h b root old new leaf d at adds place is (λ e l o. one e leaf l named o) t.leaves; lengths = inl one }
      | inr i ↦ record { leaves = λ e x l q. let none = empty (stays i) (h.leaf_offset + e.offset) in absurd (cc); lengths = inr (stays i) }
    ]

-- the same of bytes that may be told
pub told_kept : (told : Option (List ℕ)) (h : Header) (root : List Entry) (leaf : Entry) (old new : Held) (idle still : Type 0) → AddsNone old new → (idle → still)
    → IfSome told (λ b. IsTrusted h b root old idle → IsLeafEntry h b root leaf → IsTrusted h b root new still)
told_kept None h root leaf old new idle still adds stays = tt
told_kept (Some b) h root leaf old new idle still adds stays = λ t l. trust_kept h b root old new idle still adds stays t

pub told_more : (told : Option (List ℕ)) (h : Header) (root : List Entry) (old mid new : Held) (idle between still : Type 0) (leaf : Entry) (d : List Entry) (at : ℕ) → AddsNone old mid → (idle → between)
    → AddsOnly mid new at (λ x. x ≡ d) → at ≡ h.leaf_offset + leaf.offset → IfSome told (λ b. leaf_of h b leaf ≡ Ok d) → (between → still) → (still → (o : ℕ) → new o ≡ None)
    → IfSome told (λ b. IsTrusted h b root old idle → IsLeafEntry h b root leaf → IsTrusted h b root new still)
told_more None h root old mid new idle between still leaf d at none goes adds place is stays empty = tt
told_more (Some b) h root old mid new idle between still leaf d at none goes adds place is stays empty =
    λ t l. trust_more h b root mid new between still leaf d at adds place is l stays empty (trust_kept h b root old mid idle between none goes t)
