-- The tiles of what parts come to, by their ids.
use Rattle.tile_extract.proofs.Common.{add_to, Adds, and_parts, ap, append-nil, append_assoc, Archive, AreOrdered, arith, Bool, covering, EndsBy, Entry, Err, ExtractError, false, filled, has_id}
use Rattle.tile_extract.proofs.Common.{has_room, Header, held, ids_of, if◌then◌else◌, in_run, IndexEntryOverflow, List, lt_by, nat_eq, nat_le, nat_lt, nat_tests, None, none_below, Ok, Option, Options}
use Rattle.tile_extract.proofs.Common.{PmtError, put_all, put_next, put_parts, range_of, range_with_len, refl, Result, Rises, Some, suc, sym, tile_in, true, zero, ℕ, [], ◌&&◌, ◌++◌, ◌+◌, ◌∙◌, ◌∷◌}
use Rattle.tile_extract.proofs.Common.{◌≡◌, ◌≢◌}
use Rattle.pm_format.specs.declared.error.PmtError.TheVariants as errors
use Rattle.pm_format.specs.declared.error.ReadCause.TheVariants as causes
use Rattle.tile_extract.proofs.AddedLemmas.{at_each, ends_add, ends_later, ends_rise, ok_is}

-- the bytes that an entry leads to, none where they aren't there
abbrev pub bytes_at : Header → List ℕ → Entry → List ℕ
bytes_at h b p = elim (range_of b (h.data_offset + p.offset) p.length) [ None ↦ [] | Some bytes ↦ bytes ]

-- adds of bytes at ids, and of parts, whether there is room for them or not
abbrev pub add_each : List ℕ → Adds → List ℕ → Adds
add_each bytes done [] = done
add_each bytes done (id ∷ ids) = add_each bytes (add_to done id bytes) ids

abbrev pub add_all : Header → List ℕ → List Entry → Adds → Adds
add_all h b [] done = done
add_all h b (p ∷ ps) done = add_all h b ps (add_each (bytes_at h b p) done (ids_of p))

-- what is added where there is room
put_each : (o : Options) (bytes ids : List ℕ) (done more : Adds) → put_all o bytes done ids ≡ Ok more → more ≡ add_each bytes done ids
put_each o bytes [] done more is = sym (ok_is done more is)
put_each o bytes (id ∷ ids) done more is = by_test (has_room o done id bytes) (λ at. put_each o bytes ids (add_to done id bytes) more at) is
  where
    by_test : (t : Bool) → (put_all o bytes (add_to done id bytes) ids ≡ Ok more → more ≡ add_each bytes (add_to done id bytes) ids)
        → (elim t as (λ _. Result Adds ExtractError) [ true ↦ put_all o bytes (add_to done id bytes) ids | false ↦ Err IndexEntryOverflow ]) ≡ Ok more → more ≡ add_each bytes (add_to done id bytes) ids
    by_test true rest is = rest is
    by_test false rest is = absurd (cc)

pub put_is : (o : Options) (h : Header) (b : List ℕ) (ps : List Entry) (done adds : Adds) → put_parts o h b ps done ≡ Ok adds → adds ≡ add_all h b ps done
put_is o h b [] done adds is = sym (ok_is done adds is)
put_is o h b (p ∷ ps) done adds is = by_range (range_of b (h.data_offset + p.offset) p.length) (λ mid at. put_is o h b ps mid adds at) is
  where
    by_put : (bytes : List ℕ) (r : Result Adds ExtractError) → ((mid : Adds) → put_parts o h b ps mid ≡ Ok adds → adds ≡ add_all h b ps mid) → put_all o bytes done (ids_of p) ≡ r → put_next (put_parts o h b ps) r ≡ Ok adds
        → adds ≡ add_all h b ps (add_each bytes done (ids_of p))
    by_put bytes (Err e) next put at = absurd (cc)
    by_put bytes (Ok mid) next put at = next mid at ∙ ap (add_all h b ps) (put_each o bytes (ids_of p) done mid put)

    by_range : (r : Option (List ℕ)) → ((mid : Adds) → put_parts o h b ps mid ≡ Ok adds → adds ≡ add_all h b ps mid)
        → (elim r as (λ _. Result Adds ExtractError) [ None ↦ Err (Archive (errors.Reading causes.PastEnd)) | Some bytes ↦ put_next (put_parts o h b ps) (put_all o bytes done (ids_of p)) ]) ≡ Ok adds
        → adds ≡ add_all h b ps (add_each (elim r as (λ _. List ℕ) [ None ↦ [] | Some bytes ↦ bytes ]) done (ids_of p))
    by_range None next at = absurd (cc)
    by_range (Some bytes) next at = by_put bytes (put_all o bytes done (ids_of p)) next refl at

-- no bytes add nothing, and others one add for each id
each_none : (ids : List ℕ) (done : Adds) → add_each [] done ids ≡ done
each_none [] done = refl
each_none (id ∷ ids) done = each_none ids done

each_filled : (byte : ℕ) (bytes ids : List ℕ) (done : Adds) → add_each (byte ∷ bytes) done ids ≡ done ++ at_each (byte ∷ bytes) ids
each_filled byte bytes [] done = sym (append-nil done)
each_filled byte bytes (id ∷ ids) done = each_filled byte bytes ids (done ++ (id, byte ∷ bytes) ∷ []) ∙ append_assoc done ((id, byte ∷ bytes) ∷ []) (at_each (byte ∷ bytes) ids)

-- bytes at ids in a row, before other adds
each_at : (bytes : List ℕ) (t n id : ℕ) (rest : Adds) → tile_in (at_each bytes (range_with_len id n) ++ rest) t ≡ (if in_run t id n then Some bytes else tile_in rest t)
each_at bytes t zero id rest = let none : in_run t id 0 ≡ false = grind (arith, nat_tests) in sym (ap (λ b. if b then Some bytes else tile_in rest t) none)
each_at bytes t (suc n) id rest = by_test (nat_eq id t) refl (each_at bytes t n (id + 1) rest)
  where
    by_test : (x : Bool) → nat_eq id t ≡ x → tile_in (at_each bytes (range_with_len (id + 1) n) ++ rest) t ≡ (if in_run t (id + 1) n then Some bytes else tile_in rest t)
        → (if x then Some bytes else tile_in (at_each bytes (range_with_len (id + 1) n) ++ rest) t) ≡ (if in_run t id (suc n) then Some bytes else tile_in rest t)
    by_test true same next =
        let e : id ≡ t = grind (arith, nat_tests) in
        let first : nat_le id t ≡ true = grind (arith, nat_tests) in
        let last : nat_lt t (id + suc n) ≡ true = grind (arith, nat_tests) in
        sym (ap (λ b. if b then Some bytes else tile_in rest t) (ap (λ b. b && nat_lt t (id + suc n)) first ∙ last))
    by_test false other next =
        let n_e : id ≢ t = grind (arith, nat_tests) in
        next ∙ ap (λ b. if b then Some bytes else tile_in rest t) (later (nat_le id t) refl)
      where
        later : (y : Bool) → nat_le id t ≡ y → in_run t (id + 1) n ≡ (y && nat_lt t (id + suc n))
        later true low =
            let behind : nat_le (id + 1) t ≡ true = grind (arith, nat_tests) in
            let end : id + 1 + n ≡ id + suc n = omega arith in
            ap (λ b. b && nat_lt t (id + 1 + n)) behind ∙ ap (nat_lt t) end
        later false low =
            let behind : nat_le (id + 1) t ≡ false = grind (arith, nat_tests) in
            ap (λ b. b && nat_lt t (id + 1 + n)) behind

-- what is added behind others, and what it has at an id
pub record AddedBehind (h : Header) (b : List ℕ) (ps : List Entry) (done adds : Adds) (t : ℕ) : Type 0 where
  pub rest : Adds
  pub whole : adds ≡ done ++ rest
  pub tile : tile_in rest t ≡ held h b (covering t ps)

-- what a part leads to
part_holds : (h : Header) (b : List ℕ) (p : Entry) → held h b (Some p) ≡ filled (Ok (Some (bytes_at h b p)))
part_holds h b p = by_range (range_of b (h.data_offset + p.offset) p.length)
  where
    by_range : (r : Option (List ℕ)) → filled (elim r as (λ _. Result (Option (List ℕ)) PmtError) [ None ↦ Err (errors.Reading causes.PastEnd) | Some x ↦ Ok (Some x) ]) ≡ filled (Ok (Some (elim r as (λ _. List ℕ) [ None ↦ [] | Some bytes ↦ bytes ])))
    by_range None = refl
    by_range (Some x) = refl

-- the adds of parts in order have at each id what the parts lead to
pub all_behind : (h : Header) (b : List ℕ) (ps : List Entry) (low : ℕ) (done : Adds) (t : ℕ) → AreOrdered low ps None → AddedBehind h b ps done (add_all h b ps done) t
all_behind h b [] low done t order = record { rest = []; whole = sym (append-nil done); tile = refl }
all_behind h b (p ∷ ps) low done t order = by_bytes (bytes_at h b p) (part_holds h b p) (λ mid. all_behind h b ps (p.tile_id + p.run_length) mid t order.3)
  where
    by_bytes : (bytes : List ℕ) → held h b (Some p) ≡ filled (Ok (Some bytes)) → ((mid : Adds) → AddedBehind h b ps mid (add_all h b ps mid) t) → AddedBehind h b (p ∷ ps) done (add_all h b ps (add_each bytes done (ids_of p))) t
    by_bytes [] holds next =
        let a = next (add_each [] done (ids_of p)) in
        record { rest = a.rest; whole = a.whole ∙ ap (λ l. l ++ a.rest) (each_none (ids_of p) done); tile = a.tile ∙ by_test (has_id t p) refl }
      where
        by_test : (x : Bool) → has_id t p ≡ x → held h b (covering t ps) ≡ held h b (if x then Some p else covering t ps)
        by_test true has =
            let ids = and_parts (nat_le p.tile_id t) (nat_lt t (p.tile_id + p.run_length)) has in
            ap (held h b) (none_below t (p.tile_id + p.run_length) ps None order.3 (lt_by t (p.tile_id + p.run_length) ids.1)) ∙ sym holds
        by_test false has = refl
    by_bytes (byte ∷ bytes) holds next =
        let a = next (add_each (byte ∷ bytes) done (ids_of p)) in
        record {
          rest = at_each (byte ∷ bytes) (ids_of p) ++ a.rest;
          whole = a.whole ∙ ap (λ l. l ++ a.rest) (each_filled byte bytes (ids_of p) done) ∙ append_assoc done (at_each (byte ∷ bytes) (ids_of p)) a.rest;
          tile = each_at (byte ∷ bytes) t p.run_length p.tile_id a.rest ∙ by_test a.rest a.tile (has_id t p);
        }
      where
        by_test : (rest : Adds) → tile_in rest t ≡ held h b (covering t ps) → (x : Bool) → (if x then Some (byte ∷ bytes) else tile_in rest t) ≡ held h b (if x then Some p else covering t ps)
        by_test rest tile true = sym holds
        by_test rest tile false = tile

pub all_held : (h : Header) (b : List ℕ) (ps : List Entry) (t : ℕ) → AreOrdered 0 ps None → tile_in (add_all h b ps []) t ≡ held h b (covering t ps)
all_held h b ps t order =
    let a = all_behind h b ps 0 [] t order in
    ap (λ l. tile_in l t) a.whole ∙ a.tile

-- they rise
each_ends : (bytes : List ℕ) (n id : ℕ) (done : Adds) → EndsBy done id → EndsBy (add_each bytes done (range_with_len id n)) (id + n)
each_ends bytes zero id done e = ends_later done id (id + 0) (omega arith) e
each_ends bytes (suc n) id done e = ends_later (add_each bytes (add_to done id bytes) (range_with_len (id + 1) n)) (id + 1 + n) (id + suc n) (omega arith) (each_ends bytes n (id + 1) (add_to done id bytes) (ends_add done id bytes e))

pub all_rise : (h : Header) (b : List ℕ) (ps : List Entry) (low : ℕ) (done : Adds) → AreOrdered low ps None → EndsBy done low → Rises 0 (add_all h b ps done)
all_rise h b [] low done order e = ends_rise done low e
all_rise h b (p ∷ ps) low done order e =
    all_rise h b ps (p.tile_id + p.run_length) (add_each (bytes_at h b p) done (ids_of p)) order.3 (each_ends (bytes_at h b p) p.run_length p.tile_id done (ends_later done low p.tile_id order.0 e))
