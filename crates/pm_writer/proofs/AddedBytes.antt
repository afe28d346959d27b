-- Bytes that are added to a medium, behind the contents that it has.
use Rattle.pm_writer.proofs.Common.{Adds, ap, append-nil, append_assoc, arith, begun, Bool, BothTold, bytes_eq, Contents, contents_from, data_end, data_of, drop, drop_at, false, FilledFits, Finds}
use Rattle.pm_writer.proofs.Common.{finds_alike, flat_map, flat_push, found_in, fresh, fresh_known, fresh_new, has_failed, if_both, if_some_map, IfSome, is_some, IsAlike, IsHidden, IsNew, IsTold}
use Rattle.pm_writer.proofs.Common.{IsWithin, length, length-append, List, list_any, Means, None, Option, Options, piece_sought, place_sought, put_new, refl, Some, Sought, subst, sym, take, Took}
use Rattle.pm_writer.proofs.Common.{true, with_run, WriterState, Writes, written, WroteFront, xxh3_64, zeros, ℕ, [], ◌++◌, ◌+◌, ◌<◌, ◌^◌, ◌∙◌, ◌∷◌, ◌≡◌, ◌≤◌}
use Rattle.pm_contents.specs.declared.sought.Sought.TheVariants as sought
use Rattle.pm_writer.proofs.Beginning.{begun_is_hidden, zeros_length}
use Rattle.pm_writer.proofs.ContentLemmas.{contents_push, contents_run}
use Rattle.pm_writer.proofs.MediumPieces.{both_now, both_tell, hidden_behind, written_behind}

pub begun_length : (o : Options) (adds : List (ℕ × List ℕ)) → length (begun o adds) ≡ data_end o adds
begun_length o adds = (let n = zeros_length 16384 in omega (arith, n, length-append (zeros 16384) (o.metadata ++ data_of adds), length-append o.metadata (data_of adds)))

-- the contents end where the told bytes do
pub ends_at : (o : Options) (told : Option (List ℕ)) (s : WriterState) (adds : List (ℕ × List ℕ)) (place : ℕ) → Writes o told s adds → has_failed s ≡ false → place ≡ s.adds.contents.total → s.data_offset + place ≡ data_end o adds
ends_at o told s adds place w alive p = let h = w.held alive in omega (arith, w.of.place, h.means.contents.total, p)

pub within_end : (o : Options) (told : Option (List ℕ)) (s : WriterState) (adds : List (ℕ × List ℕ)) (at : ℕ) → Writes o told s adds → has_failed s ≡ false → at ≡ data_end o adds → IfSome told (IsWithin at)
within_end o told s adds at w alive e = if_some_map (λ b. b ≡ begun o adds) (IsWithin at) told (λ b q. omega (arith, e, ap length q, begun_length o adds)) ((w.held alive).bytes)

-- one more add puts what is new of its bytes behind the others
pub data_more : (adds : List (ℕ × List ℕ)) (id : ℕ) (bytes : List ℕ) → data_of (adds ++ (id, bytes) ∷ []) ≡ data_of adds ++ fresh (contents_from [] adds) bytes
data_more adds id bytes = ap (flat_map (λ c. c)) (contents_push [] adds (id, bytes)) ∙ go (list_any (bytes_eq bytes) cs) refl
  where
    cs : List (List ℕ)
    cs = contents_from [] adds

    go : (b : Bool) → list_any (bytes_eq bytes) cs ≡ b → flat_map (λ c. c) (put_new cs bytes) ≡ flat_map (λ c. c) cs ++ fresh cs bytes
    go true e = rw e (sym (append-nil (flat_map (λ c. c) cs)))
    go false e = rw e (flat_push cs bytes)

-- and ends as much later
pub end_more : (o : Options) (adds : List (ℕ × List ℕ)) (id : ℕ) (bytes : List ℕ) → data_end o (adds ++ (id, bytes) ∷ []) ≡ data_end o adds + length (fresh (contents_from [] adds) bytes)
end_more o adds id bytes = omega (arith, ap length (data_more adds id bytes), length-append (data_of adds) (fresh (contents_from [] adds) bytes))

-- sought bytes are fresh as they were found
fresh_sought : (cs : List (List ℕ)) (x bytes : List ℕ) (s : Sought) → found_in cs x ≡ place_sought s → length x ≡ length bytes → length (fresh cs x) ≡ length (piece_sought s bytes)
fresh_sought cs x bytes (sought.Known place) f n = ap length (fresh_known cs x place f)
fresh_sought cs x bytes (sought.First digest) f n = ap length (fresh_new cs x f) ∙ n
fresh_sought cs x bytes (sought.Other content) f n = ap length (fresh_new cs x f) ∙ n

piece_is : (cs : List (List ℕ)) (x : List ℕ) (s : Sought) → found_in cs x ≡ place_sought s → piece_sought s x ≡ fresh cs x
piece_is cs x (sought.Known place) f = sym (fresh_known cs x place f)
piece_is cs x (sought.First digest) f = sym (fresh_new cs x f)
piece_is cs x (sought.Other content) f = sym (fresh_new cs x f)

-- what they were taken for lies on a medium that tells
left_taken : (cs : List (List ℕ)) (at : ℕ) (x bytes : List ℕ) (s : Sought) (t0 t1 : Option (List ℕ)) → Took t0 bytes x → found_in cs x ≡ place_sought s
    → BothTold (λ b c. c ≡ written b at (piece_sought s bytes)) t0 t1 → BothTold (λ b c. c ≡ written b at (fresh cs x)) t0 t1
left_taken cs at x bytes s None None t f h = h
left_taken cs at x bytes s None (Some c) t f h = absurd h
left_taken cs at x bytes s (Some b) None t f h = absurd h
left_taken cs at x bytes s (Some b) (Some c) t f h = h ∙ ap (written b at) (ap (piece_sought s) (sym t) ∙ piece_is cs x s f)

-- and is found there
found_taken : (d : Contents) (adds : List (ℕ × List ℕ)) (id n : ℕ) (x bytes : List ℕ) (s : Sought) (t0 t1 : Option (List ℕ)) → Took t0 bytes x → is_some t1 ≡ is_some t0 → found_in (contents_from [] adds) x ≡ place_sought s
    → IfSome t0 (λ b. found_in (contents_from [] adds) bytes ≡ place_sought s → Finds xxh3_64 d (contents_from [] (with_run adds id n bytes))) → IfSome t1 (λ b. Finds xxh3_64 d (contents_from [] (with_run adds id n x)))
found_taken d adds id n x bytes s t0 None t same f k = tt
found_taken d adds id n x bytes s None (Some c) t same f k = absurd (cc)
found_taken d adds id n x bytes s (Some b) (Some c) t same f k = subst (λ z. Finds xxh3_64 d (contents_from [] (with_run adds id n z))) (sym t) (k (ap (found_in (contents_from [] adds)) (sym t) ∙ f))

pub sought_fits : (o : Options) (adds : List (ℕ × List ℕ)) (id at : ℕ) (x bytes : List ℕ) (s : Sought) → at ≡ data_end o adds → length bytes < 2 ^ 32 → length x ≡ length bytes → found_in (contents_from [] adds) x ≡ place_sought s
    → at + length (piece_sought s bytes) < 2 ^ 64 → FilledFits o adds id x
sought_fits o adds id at x bytes s e z n f h = (omega (arith, z, n), omega (arith, e, end_more o adds id x, fresh_sought (contents_from [] adds) x bytes s f n, h))

-- new bytes that end past u64 don't fit
pub new_long : (o : Options) (adds : List (ℕ × List ℕ)) (id at size : ℕ) (x : List ℕ) → at ≡ data_end o adds → length x ≡ size → IsNew (contents_from [] adds) x → 2 ^ 64 ≤ at + size → FilledFits o adds id x → ⊥
new_long o adds id at size x e n new long fits = omega (arith, fits.1, end_more o adds id x, ap length (fresh_new (contents_from [] adds) x new), e, n, long)

-- a run of the same bytes has the contents of its first id, so it ends there
pub data_run : (adds : List (ℕ × List ℕ)) (id n : ℕ) (bytes : List ℕ) → 0 < n → data_of (with_run adds id n bytes) ≡ data_of (adds ++ (id, bytes) ∷ [])
data_run adds id n bytes some = ap (flat_map (λ c. c)) (contents_run [] adds id n bytes some ∙ sym (contents_push [] adds (id, bytes)))

-- the writer with a run more
pub added_writes : (o : Options) (adds : List (ℕ × List ℕ)) (t0 t1 : Option (List ℕ)) (s : WriterState) (after : Adds) (id n at : ℕ) (x bytes : List ℕ) (how : Sought) → Writes o t0 s adds → has_failed s ≡ false → at ≡ data_end o adds → 0 < n
    → FilledFits o adds id x → Took t0 bytes x → found_in (contents_from [] adds) x ≡ place_sought how → Means after (with_run adds id n x)
    → (Finds xxh3_64 s.adds.contents (contents_from [] adds) → found_in (contents_from [] adds) bytes ≡ place_sought how → Finds xxh3_64 after.contents (contents_from [] (with_run adds id n bytes)))
    → BothTold (λ b c. c ≡ written b at (piece_sought how bytes)) t0 t1 → Writes o t1 (record s { adds = after }) (with_run adds id n x)
added_writes o adds t0 t1 s after id n at x bytes how w alive e some fits t f m k h =
    let run = data_run adds id n x some in
    let more = run ∙ data_more adds id x in
    let piece = fresh (contents_from [] adds) x in
    let left = left_taken (contents_from [] adds) at x bytes how t0 t1 t f h in
    let laid : IfSome t1 (λ b. b ≡ begun o (with_run adds id n x)) =
    both_now (λ b. b ≡ begun o adds) (λ b. b ≡ begun o (with_run adds id n x)) (λ b c. c ≡ written b at piece) t0 t1
    (λ b c p q. q ∙ (written_behind b piece at (omega (arith, e, ap length p, begun_length o adds)) ∙ (ap (λ z. z ++ piece) p ∙ (joined (zeros 16384) o.metadata (data_of adds) piece ∙ ap (λ z. zeros 16384 ++ (o.metadata ++ z)) (sym more))))) ((w.held alive).bytes) left in
    record {
      of = record { settings = w.of.settings; plain = w.of.plain; fit = w.of.fit; place = w.of.place };
      hidden = begun_is_hidden o (with_run adds id n x) t1 laid;
      held = λ q. record {
        means = m;
        ends = omega (arith, fits.1, ap length run);
        bytes = laid;
        finds = found_taken after.contents adds id n x bytes how t0 t1 t (both_tell (λ b c. c ≡ written b at piece) t0 t1 left) f (if_some_map (λ b. Finds xxh3_64 s.adds.contents (contents_from [] adds)) _ t0 (λ b. k) ((w.held alive).finds));
      };
    }
  where
    joined : (a b c d : List ℕ) → (a ++ (b ++ c)) ++ d ≡ a ++ (b ++ (c ++ d))
    joined a b c d = simp append_assoc

-- a writer whose medium failed shows nothing
pub failed_writes : (o : Options) (adds : List (ℕ × List ℕ)) (t0 t1 : Option (List ℕ)) (s : WriterState) (after : Adds) (at : ℕ) (bytes : List ℕ) → Writes o t0 s adds → has_failed s ≡ false → at ≡ data_end o adds
    → BothTold (WroteFront at bytes) t0 t1 → Writes o t1 (record s { adds = after; failed = true }) adds
failed_writes o adds t0 t1 s after at bytes w alive e h = record {
  of = record { settings = w.of.settings; plain = w.of.plain; fit = w.of.fit; place = w.of.place };
  hidden = both_now (λ b. b ≡ begun o adds) IsHidden (WroteFront at bytes) t0 t1
      (λ b c p q.
      let long : length b ≡ at = omega (arith, e, ap length p, begun_length o adds) in
      let here : IsHidden b = begun_is_hidden o adds (Some b) p in
      subst IsHidden (sym q.2) (hidden_behind b (take q.0 bytes) at (omega (arith, e)) (omega (arith, long)) here)) ((w.held alive).bytes) h;
  held = λ q. absurd (cc);
}

-- the same writer, over bytes that didn't change
pub same_writes : (o : Options) (adds : List (ℕ × List ℕ)) (t0 t1 : Option (List ℕ)) (s : WriterState) (after : Adds) → Writes o t0 s adds → has_failed s ≡ false → Means after adds → IsAlike s.adds.contents after.contents
    → BothTold (λ b c. c ≡ b) t0 t1 → Writes o t1 (record s { adds = after }) adds
same_writes o adds t0 t1 s after w alive m a h = record {
  of = record { settings = w.of.settings; plain = w.of.plain; fit = w.of.fit; place = w.of.place };
  hidden = both_now IsHidden IsHidden (λ b c. c ≡ b) t0 t1 (λ b c p q. subst IsHidden (sym q) p) w.hidden h;
  held = λ q. record {
    means = m;
    ends = (w.held alive).ends;
    bytes = both_now (λ b. b ≡ begun o adds) (λ b. b ≡ begun o adds) (λ b c. c ≡ b) t0 t1 (λ b c p q. q ∙ p) ((w.held alive).bytes) h;
    finds = both_now (λ b. Finds xxh3_64 s.adds.contents (contents_from [] adds)) (λ b. Finds xxh3_64 after.contents (contents_from [] adds)) (λ b c. c ≡ b) t0 t1 (λ b c k q. finds_alike xxh3_64 s.adds.contents after.contents (contents_from [] adds) a k) ((w.held alive).finds) h;
  };
}

-- what a medium tells of the contents
pub told_contents : (o : Options) (told : Option (List ℕ)) (s : WriterState) (adds : List (ℕ × List ℕ)) → Writes o told s adds → has_failed s ≡ false → IfSome told (IsTold xxh3_64 s.data_offset s.adds.contents (contents_from [] adds))
told_contents o told s adds w alive = if_both (λ b. b ≡ begun o adds) (λ b. Finds xxh3_64 s.adds.contents (contents_from [] adds)) (IsTold xxh3_64 s.data_offset s.adds.contents (contents_from [] adds)) told
    (λ b e k. record { lies = ap (drop s.data_offset) e ∙ behind; finds = k }) ((w.held alive).bytes) ((w.held alive).finds)
  where
    front : s.data_offset ≡ length (zeros 16384 ++ o.metadata)
    front = let z = zeros_length 16384 in omega (arith, w.of.place, z, length-append (zeros 16384) o.metadata)

    behind : drop s.data_offset (begun o adds) ≡ data_of adds
    behind = ap (drop s.data_offset) (sym (append_assoc (zeros 16384) o.metadata (data_of adds))) ∙ drop_at (zeros 16384 ++ o.metadata) (data_of adds) s.data_offset (sym front)
