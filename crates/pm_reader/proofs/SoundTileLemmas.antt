-- Look-ups in sound archives end well.
use Rattle.pm_reader.proofs.Common.{ap, archive_tile, arith, Bool, Contains, Contains-append_cases, data_behind, Entry, entry_from, Err, false, Header, inl, inr, IsOk, IsSome, leaf_of, List, nat_eq}
use Rattle.pm_reader.proofs.Common.{nat_tests, None, Ok, Option, PmtError, range_of, Reached, reached_last, reached_leaf, reached_none, reached_tile, refl, Result, scan, Some, subst, suc, sym}
use Rattle.pm_reader.proofs.Common.{tile_by, tile_opened, true, zero, ℕ, [], ◌+◌, ◌<◌, ◌∷◌, ◌≡◌, ◌≢◌, ◌≤◌}
use Rattle.tile_ids.specs.declared.id.TheConstants.{MAX_TILE_ID}
use Rattle.pm_format.specs.Sound.{EachEntry, HasData, Sound, SoundDirectory}
use Rattle.pm_format.specs.declared.error.PmtError.TheVariants as errors
use Rattle.pm_format.specs.declared.error.ReadCause.TheVariants as causes
use Rattle.pm_reader.proofs.LevelLemmas.{scan_is_in, single_is}
use Rattle.pm_reader.proofs.QueueLemmas.{is_some}

-- an entry among others lies below the limit, and so does its run
pub head_below : (P : Entry → ℕ → Type 0) (lo limit : ℕ) (e : Entry) (es : List Entry) → EachEntry P lo limit (e ∷ es) → (lo ≤ e.tile_id) × (e.tile_id < limit) × (e.tile_id + e.run_length ≤ limit)
head_below P lo limit e [] h = (h.0, h.1, h.2)
head_below P lo limit e (d ∷ es) h = let next = head_below P d.tile_id limit d es h.4 in (h.0, omega (arith, h.1, next.1), omega (arith, h.2, next.1))

-- what holds of each entry holds of one of them
each_of : (P : Entry → ℕ → Type 0) (low limit : ℕ) (es : List Entry) (e : Entry) → EachEntry P low limit es → Contains es e → (end : ℕ) × P e end
each_of P low limit [] e all c = absurd (omega (arith, c.1))
each_of P low limit (f ∷ []) e all c = let same = single_is f e c in (limit, subst (λ x. P x limit) same all.3)
each_of P low limit (f ∷ g ∷ es) e all c =
    elim (Contains-append_cases (f ∷ []) (g ∷ es) e c) [
      | inl here ↦ let same = single_is f e here in (g.tile_id, subst (λ x. P x g.tile_id) same all.3)
      | inr there ↦ each_of P g.tile_id limit (g ∷ es) e all.4 there
    ]

data_ok : (o : Option (List ℕ)) → IsSome o → IsOk (elim o as (λ _. Result (Option (List ℕ)) PmtError) [ None ↦ Err (errors.Reading causes.PastEnd) | Some bytes ↦ Ok (Some bytes) ])
data_ok None s = absurd (cc)
data_ok (Some bytes) s = refl

-- a look-up ends well where the leaf, or the contents, of what was found do
found_ok : (n : ℕ) (h : Header) (b : List ℕ) (t : ℕ) (found : Option Entry) → ((e : Entry) → found ≡ Some e → nat_eq e.run_length 0 ≡ true → IsOk (data_behind h b (entry_from n h b t (Some e))))
    → ((e : Entry) → found ≡ Some e → nat_eq e.run_length 0 ≡ false → HasData h b e) → IsOk (data_behind h b (entry_from n h b t found))
found_ok n h b t None leaf tile = let Q : Reached → Type 0 = λ r. IsOk (data_behind h b r.entry) in subst Q (sym (reached_none n h b t)) refl
found_ok n h b t (Some e) leaf tile = by_test (nat_eq e.run_length 0) refl
  where
    by_test : (test : Bool) → nat_eq e.run_length 0 ≡ test → IsOk (data_behind h b (entry_from n h b t (Some e)))
    by_test true q = leaf e refl q
    by_test false q =
        let Q : Reached → Type 0 = λ r. IsOk (data_behind h b r.entry) in
        subst Q (sym (reached_tile n h b t e q)) (data_ok (range_of b (h.data_offset + e.offset) e.length) (tile e refl q))

pub is_zero : (run : ℕ) → nat_eq run 0 ≡ true → run ≡ 0
is_zero run e = grind (arith, nat_tests)

found_is : (es : List Entry) (t : ℕ) (P : Entry → ℕ → Type 0) (low limit : ℕ) → EachEntry P low limit es → (e : Entry) → scan es t ≡ Some e → (end : ℕ) × P e end
found_is es t P low limit all e q = each_of P low limit es e all (scan_is_in es t e q)

tile_sound : (n : ℕ) (h : Header) (b : List ℕ) (low limit : ℕ) (es : List Entry) (t : ℕ) → SoundDirectory n h b low limit es → IsOk (tile_by n h b es t)
unfolding tile_by
tile_sound zero h b low limit es t all =
    let Q : Reached → Type 0 = λ r. IsOk (data_behind h b r.entry) in
    found_ok 0 h b t (scan es t) (λ e q z. subst Q (sym (reached_last h b t e z)) refl) (λ e q z. (found_is es t (λ x end. (x.run_length ≢ 0) × HasData h b x) low limit all e q).1.1)
tile_sound (suc n) h b low limit es t all =
    let P : Entry → ℕ → Type 0 = λ e end. (e.run_length ≢ 0 → HasData h b e) × (e.run_length ≡ 0 → (leaf : List Entry) × (leaf_of h b e ≡ Ok leaf) × SoundDirectory n h b e.tile_id end leaf) in
    let Q : Reached → Type 0 = λ r. IsOk (data_behind h b r.entry) in
    found_ok (suc n) h b t (scan es t)
    (λ e q z.
    let w = found_is es t P low limit all e q in
    let leaf = w.1.1 (is_zero e.run_length z) in
    subst Q (sym (reached_leaf n h b t e (Ok leaf.0) z leaf.1)) (tile_sound n h b e.tile_id w.0 leaf.0 t leaf.2))
    (λ e q z. (found_is es t P low limit all e q).1.0 (is_some e.run_length z))

pub sound_tile : (b : List ℕ) (t : ℕ) → Sound b → IsOk (archive_tile b t)
sound_tile b t s =
    let P : Result (Option (List ℕ)) PmtError → Type 0 = λ r. IsOk r in
    subst P (sym (ap (tile_opened b t) s.opens)) (tile_sound 6 s.found.0 b 0 (MAX_TILE_ID + 1) s.found.1 t s.root)
