-- What the data of a run is taken for: its ids one after another, and what of it has to fit.
use Rattle.pm_writer.proofs.Common.{add_run_to, add_to, AddCauses, AddFits, ap, append-nil, append_assoc, arith, Bool, contents_from, data_end, data_of, false, FilledFits, flat_map, has_failed, length, List, map, Option, Options, PmtError, put_new, put_new_had, refl, Result}
use Rattle.pm_writer.proofs.Common.{run_size, RunFits, subst, suc, sym, Took, with_run, WriterState, Writes, zero, ℕ, [], ◌++◌, ◌+◌, ◌<◌, ◌^◌, ◌∙◌, ◌∷◌, ◌≡◌}
use Rattle.std.specs.List.{range_with_len}
use Rattle.pm_format.specs.declared.compression.Compression.TheVariants as compression
use Rattle.pm_writer.proofs.ContentLemmas.{contents_push}
use Rattle.pm_writer.proofs.Took.{filled_taken, took_length}

-- a run of no ids, or without data, adds nothing, and fits
pub none_sized : (n size : ℕ) → n ≡ 0 → run_size n size ≡ 0
none_sized n size h = rw h refl

pub empty_sized : (n size : ℕ) → size ≡ 0 → run_size n size ≡ 0
empty_sized zero size h = refl
empty_sized (suc n) size h = h

no_data : (adds : List (ℕ × List ℕ)) (id n : ℕ) → add_run_to adds id n [] ≡ adds
no_data adds id zero = refl
no_data adds id (suc n) = no_data adds (id + 1) n

pub run_of_none : (adds : List (ℕ × List ℕ)) (id n : ℕ) (given : List ℕ) → run_size n (length given) ≡ 0 → add_run_to adds id n given ≡ adds
run_of_none adds id n [] h = no_data adds id n
run_of_none adds id zero (b ∷ given) h = refl
run_of_none adds id (suc n) (b ∷ given) h = absurd (omega (arith, h))

pub none_fits : (o : Options) (told : Option (List ℕ)) (s : WriterState) (adds : List (ℕ × List ℕ)) (id n : ℕ) (given : List ℕ) → run_size n (length given) ≡ 0 → Writes o told s adds → has_failed s ≡ false → RunFits o adds id n given
none_fits o told s adds id zero given h w alive = tt
none_fits o told s adds id (suc n) [] h w alive = (omega arith, (w.held alive).ends)
none_fits o told s adds id (suc n) (b ∷ given) h w alive = absurd (omega (arith, h))

-- the ids of a run behind the others
pub run_listed : (adds : List (ℕ × List ℕ)) (id n : ℕ) (bytes : List ℕ) → with_run adds id n bytes ≡ adds ++ map (λ i. (i, bytes)) (range_with_len id n)
run_listed adds id zero bytes = sym (append-nil adds)
run_listed adds id (suc n) bytes = run_listed (adds ++ (id, bytes) ∷ []) (id + 1) n bytes ∙ append_assoc adds ((id, bytes) ∷ []) (map (λ i. (i, bytes)) (range_with_len (id + 1) n))

-- a run of data of at least one byte
pub run_filled : (adds : List (ℕ × List ℕ)) (id n : ℕ) (taken : List ℕ) → 0 < length taken → with_run adds id n taken ≡ add_run_to adds id n taken
run_filled adds id n [] some = absurd (omega (arith, some))
run_filled adds id zero (b ∷ taken) some = refl
run_filled adds id (suc n) (b ∷ taken) some = run_filled (adds ++ (id, b ∷ taken) ∷ []) (id + 1) n (b ∷ taken) some

pub run_taken : (told : Option (List ℕ)) (adds : List (ℕ × List ℕ)) (id n : ℕ) (given taken : List ℕ) → 0 < length given → Took told given taken → with_run adds id n taken ≡ add_run_to adds id n taken
run_taken told adds id n given taken some t = run_filled adds id n taken (omega (arith, took_length told given taken t, some))

pub run_causes : (told : Option (List ℕ)) (o : Options) (adds : List (ℕ × List ℕ)) (id n : ℕ) (given taken : List ℕ) (failed : Bool) (before now : ℕ) (r : Result (Unit {0}) PmtError) → 0 < n → 0 < length given → Took told given taken
    → AddCauses compression.None failed (length given) (FilledFits o adds id taken) before now r → AddCauses compression.None failed (run_size n (length given)) (RunFits o adds id n taken) before now r
run_causes told o adds id zero given taken failed before now r count some t c = absurd (omega (arith, count))
run_causes told o adds id (suc n) given taken failed before now r count some t c =
    let same : FilledFits o adds id taken ≡ AddFits o adds id taken = ap (λ more. (length taken < 2 ^ 32) × (data_end o more < 2 ^ 64)) (filled_taken told adds id given taken some t) in
    subst (λ f. AddCauses compression.None failed (length given) f before now r) same c

-- what fits once fits again, behind itself
pub fits_again : (o : Options) (adds : List (ℕ × List ℕ)) (id next : ℕ) (bytes : List ℕ) → AddFits o adds id bytes → AddFits o (add_to adds id bytes) next bytes
fits_again o adds id next [] f = f
fits_again o adds id next (b ∷ bytes) f =
    let x = b ∷ bytes in
    let once = adds ++ (id, x) ∷ [] in
    let cs = contents_from [] once in
    let had : put_new cs x ≡ cs = subst (λ z. put_new z x ≡ z) (sym (contents_push [] adds (id, x))) (rw (put_new_had (contents_from [] adds) x) refl) in
    let same : data_of (once ++ (next, x) ∷ []) ≡ data_of once = ap (flat_map (λ c. c)) (contents_push [] once (next, x) ∙ had) in
    (f.0, omega (arith, f.1, ap length same))
