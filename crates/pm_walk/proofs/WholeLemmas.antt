-- The map of an archive, by the tile entries of its walk.
use Rattle.pm_walk.proofs.Common.{all_walked, and_parts, ap, archive_map, archive_tile, AreOrdered, arith, Bool, data_behind, drop, Entry, Err, Extent, false, filled, full, Header, if◌then◌else◌, inl}
use Rattle.pm_walk.proofs.Common.{inr, length, List, MAX_TILE_ID, nat_eq, nat_le, nat_lt, nat_tests, None, none-some, Ok, Opened, opened, Option, PmtError, range_of, refl, Result, Some, sym, take}
use Rattle.pm_walk.proofs.Common.{tile_opened, true, walked, Whole, ℕ, [], ◌&&◌, ◌++◌, ◌+◌, ◌<◌, ◌^◌, ◌∙◌, ◌∷◌, ◌≡◌, ◌≤◌, ◌⊎◌}
use Rattle.pm_format.specs.declared.error.PmtError.TheVariants as errors
use Rattle.pm_format.specs.declared.error.ReadCause.TheVariants as causes
use Rattle.pm_format.specs.LookUp.{tile_by}
use Rattle.pm_format.proofs.SearchLemmas.{le_or}
use Rattle.pm_walk.proofs.CoveringLemmas.{covering, covers_here, covers_later, has_id, none_below}
use Rattle.pm_walk.proofs.LookUpLemmas.{IsSought, walked_looked}
use Rattle.pm_walk.proofs.OrderLemmas.{walked_ordered}

-- the bytes that an entry leads to, at least one, or nothing
abbrev pub held : Header → List ℕ → Option Entry → Option (List ℕ)
held h b found = filled (data_behind h b (Ok found))

-- an entry without a byte leads to nothing
pub empty_held : (h : Header) (b : List ℕ) (e : Entry) → e.length ≡ 0 → held h b (Some e) ≡ None
empty_held h b e none = ap (λ n. filled (elim (range_of b (h.data_offset + e.offset) n) as (λ _. Result (Option (List ℕ)) PmtError) [ None ↦ Err (errors.Reading causes.PastEnd) | Some bytes ↦ Ok (Some bytes) ])) none
    ∙ by_test (nat_le (h.data_offset + e.offset + 0) (length b) && nat_lt (h.data_offset + e.offset + 0) (2 ^ 64))
  where
    by_test : (t : Bool) → filled (elim (if t then Some (take 0 (drop (h.data_offset + e.offset) b)) else None) as (λ _. Result (Option (List ℕ)) PmtError) [ None ↦ Err (errors.Reading causes.PastEnd) | Some bytes ↦ Ok (Some bytes) ]) ≡ None
    by_test true = refl
    by_test false = refl

-- no tile entry in order has an id past those of tiles
pub none_past : (t low : ℕ) (es : List Entry) (end : Option ℕ) → AreOrdered low es end → MAX_TILE_ID < t → covering t es ≡ None
none_past t low [] end o past = refl
none_past t low (e ∷ es) end o past =
    let not_in : has_id t e ≡ false = let m : e.tile_id + e.run_length ≤ MAX_TILE_ID + 1 = o.2 in grind (arith, nat_tests) in
    covers_later t e es not_in ∙ none_past t (e.tile_id + e.run_length) es end o.3 past

-- the tile of an archive at an id that its walk comes to
pub tile_found : (ext : Extent) (is : List (ℕ × ℕ)) (b : List ℕ) (o : Opened) (t : ℕ) → opened b ≡ Ok o → (walked ext 6 o.0 b is 0 None o.1).refusal ≡ None → IsSought ext is t
    → filled (archive_tile b t) ≡ held o.0 b (covering t (walked ext 6 o.0 b is 0 None o.1).entries)
unfolding tile_by
tile_found ext is b o t opens fine lies =
    ap (λ x. filled (tile_opened b t x)) opens ∙ ap (λ x. filled (data_behind o.0 b x)) (walked_looked ext 6 o.0 b is t lies 0 None o.1 fine refl)

-- entries that have bytes lead to what all of them do
full_none : (t : ℕ) (es : List Entry) → covering t es ≡ None → covering t (full es) ≡ None
full_none t [] none = refl
full_none t (e ∷ es) none = by_test (has_id t e) refl (λ n. full_none t es n) none
  where
    of_one : (y : Bool) → has_id t e ≡ false → covering t (full es) ≡ None → covering t ((if y then [] else e ∷ []) ++ full es) ≡ None
    of_one true has rest = rest
    of_one false has rest = covers_later t e (full es) has ∙ rest

    by_test : (x : Bool) → has_id t e ≡ x → (covering t es ≡ None → covering t (full es) ≡ None) → (if x then Some e else covering t es) ≡ None → covering t (full (e ∷ es)) ≡ None
    by_test true has rest none = absurd (none-some e (sym none))
    by_test false has rest none = of_one (nat_eq e.length 0) has (rest none)

pub full_held : (h : Header) (b : List ℕ) (t low : ℕ) (es : List Entry) (end : Option ℕ) → AreOrdered low es end → held h b (covering t (full es)) ≡ held h b (covering t es)
full_held h b t low [] end o = refl
full_held h b t low (e ∷ es) end o = by_test (has_id t e) refl (nat_eq e.length 0) refl (full_held h b t (e.tile_id + e.run_length) es end o.3)
  where
    later : (y : Bool) → has_id t e ≡ false → covering t ((if y then [] else e ∷ []) ++ full es) ≡ covering t (full es)
    later true has = refl
    later false has = covers_later t e (full es) has

    by_test : (x : Bool) → has_id t e ≡ x → (y : Bool) → nat_eq e.length 0 ≡ y → held h b (covering t (full es)) ≡ held h b (covering t es) → held h b (covering t (full (e ∷ es))) ≡ held h b (covering t (e ∷ es))
    by_test true has true empty rest =
        let ids = and_parts (nat_le e.tile_id t) (nat_lt t (e.tile_id + e.run_length)) has in
        let less : t < e.tile_id + e.run_length = grind (arith, nat_tests) in
        let none : e.length ≡ 0 = grind (arith, nat_tests) in
        ap (λ y. held h b (covering t ((if y then [] else e ∷ []) ++ full es))) empty
        ∙ ap (held h b) (full_none t es (none_below t (e.tile_id + e.run_length) es end o.3 less))
        ∙ sym (ap (held h b) (covers_here t e es has) ∙ empty_held h b e none)
    by_test true has false some rest =
        ap (λ y. held h b (covering t ((if y then [] else e ∷ []) ++ full es))) some
        ∙ ap (held h b) (covers_here t e (full es) has) ∙ sym (ap (held h b) (covers_here t e es has))
    by_test false has y empty rest = ap (held h b) (later (nat_eq e.length 0) has) ∙ rest ∙ sym (ap (held h b) (covers_later t e es has))

-- the map of an archive whose walk isn't refused
pub whole_map : (b : List ℕ) (o : Opened) (t : ℕ) → opened b ≡ Ok o → (all_walked b o).refusal ≡ None → archive_map b t ≡ held o.0 b (covering t (full (all_walked b o).entries))
whole_map b o t opens fine =
    by_id (le_or t MAX_TILE_ID) ∙ sym (full_held o.0 b t 0 (all_walked b o).entries None ordered)
  where
    ordered : AreOrdered 0 (all_walked b o).entries None
    ordered = walked_ordered Whole 6 o.0 b [] 0 None o.1 fine refl

    by_id : (t ≤ MAX_TILE_ID) ⊎ (MAX_TILE_ID < t) → archive_map b t ≡ held o.0 b (covering t (all_walked b o).entries)
    by_id (inl le) =
        let test : nat_le t MAX_TILE_ID ≡ true = grind (arith, nat_tests) in
        ap (λ y. if y then filled (archive_tile b t) else None) test ∙ tile_found Whole [] b o t opens fine tt
    by_id (inr past) =
        let test : nat_le t MAX_TILE_ID ≡ false = grind (arith, nat_tests) in
        ap (λ y. if y then filled (archive_tile b t) else None) test ∙ sym (ap (held o.0 b) (none_past t 0 (all_walked b o).entries None ordered past))
