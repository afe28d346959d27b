-- The headers of the sources.
use Rattle.tile_join.proofs.Common.{All, ap, arith, Header, header_of, length, List, map, max, min, ReaderState, subst, suc, sym, ℕ, [], ◌+◌, ◌∙◌, ◌∷◌, ◌≡◌}
use Rattle.std.proofs.Common.{ℤ}
use Rattle.std.proofs.lemmas.List.Elements.{All-cons, All-nil}
use Rattle.std.specs.Int.{int_max, int_min}
use Rattle.tile_join.specs.Headers.{IsAlike, over_header, over_headers, UnlikeAt}

pub over_is : (h g : Header) (least most : ℕ) (west south east north : ℤ) → least ≡ min h.min_zoom g.min_zoom → most ≡ max h.max_zoom g.max_zoom → west ≡ int_min h.min_longitude g.min_longitude → south ≡ int_min h.min_latitude g.min_latitude
    → east ≡ int_max h.max_longitude g.max_longitude → north ≡ int_max h.max_latitude g.max_latitude
    → record h { min_zoom = least; max_zoom = most; min_longitude = west; min_latitude = south; max_longitude = east; max_latitude = north } ≡ over_header h g
over_is h g least most west south east north a b c d e f = λ i. record h { min_zoom = a i; max_zoom = b i; min_longitude = c i; min_latitude = d i; max_longitude = e i; max_latitude = f i }

-- with one more header
pub headers_more : (whole next all other : Header) (rest others : List ReaderState) (s : ReaderState) → rest ≡ s ∷ others → other ≡ header_of s → next ≡ over_header whole other → over_headers whole (map header_of rest) ≡ all → over_headers next (map header_of others) ≡ all
headers_more whole next all other rest others s first same is so =
    ap (λ h. over_headers h (map header_of others)) (is ∙ ap (over_header whole) same) ∙ sym (ap (λ l. over_headers whole (map header_of l)) first) ∙ so

-- those that are tested, and the rest
pub record Testing (last : Header) (all rest : List ReaderState) (number : ℕ) : Type 0 where
  pub unlike : (k : ℕ) → UnlikeAt last (map header_of rest) k → UnlikeAt last (map header_of all) (number + k)
  pub alike : All (IsAlike last) (map header_of rest) → All (IsAlike last) (map header_of all)
  pub many : number + length rest ≡ length all

pub none_tested : (last : Header) (all : List ReaderState) → Testing last all all 0
none_tested last all = record { unlike = λ k u. let at : k ≡ 0 + k = omega arith in subst (UnlikeAt last (map header_of all)) at u; alike = λ a. a; many = omega arith }

pub one_tested : (last other : Header) (all rest others : List ReaderState) (s : ReaderState) (number : ℕ) → rest ≡ s ∷ others → other ≡ header_of s → IsAlike last other → Testing last all rest number → Testing last all others (number + 1)
one_tested last other all rest others s number first same like t = record {
  unlike = λ k u.
      let one : UnlikeAt last (map header_of (s ∷ others)) (suc k) = (subst (IsAlike last) same like, u) in
      let at : number + suc k ≡ number + 1 + k = omega arith in
      subst (UnlikeAt last (map header_of all)) at (t.unlike (suc k) (subst (λ l. UnlikeAt last (map header_of l) (suc k)) (sym first) one));
  alike = λ a. t.alike (subst (λ l. All (IsAlike last) (map header_of l)) (sym first) (All-cons (IsAlike last) (header_of s) (map header_of others) (subst (IsAlike last) same like) a));
  many = let n : number + length rest ≡ length all = t.many in omega (arith, n, ap length first);
}

pub unlike_found : (last other : Header) (all rest others : List ReaderState) (s : ReaderState) (number : ℕ) → rest ≡ s ∷ others → other ≡ header_of s → (IsAlike last other → ⊥) → Testing last all rest number → UnlikeAt last (map header_of all) number
unlike_found last other all rest others s number first same unlike t =
    let one : UnlikeAt last (map header_of (s ∷ others)) 0 = λ like. unlike (subst (IsAlike last) (sym same) like) in
    let at : number + 0 ≡ number = omega arith in
    subst (UnlikeAt last (map header_of all)) at (t.unlike 0 (subst (λ l. UnlikeAt last (map header_of l) 0) (sym first) one))

pub all_tested : (last : Header) (all rest : List ReaderState) (number : ℕ) → rest ≡ [] → Testing last all rest number → All (IsAlike last) (map header_of all)
all_tested last all rest number none t = t.alike (subst (λ l. All (IsAlike last) (map header_of l)) (sym none) (All-nil (IsAlike last)))
