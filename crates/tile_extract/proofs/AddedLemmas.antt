-- The tiles that parts come to, added in order.
use Rattle.tile_extract.proofs.Common.{add_run_to, add_to, AddCauses, AddFits, and_from, and_parts, ap, append-nil, append_assoc, arith, Bool, ByRoom, data_end, EndsBy, Err, ExtractError, false, has_room}
use Rattle.tile_extract.proofs.Common.{has_failed, IndexEntryOverflow, is_lt, is_some, is_sorted, length, List, lt_by, MediumFault, nat_cmp, nat_lt, nat_tests, never, of_write_error, Ok, Option, Options, PmtError, Puts}
use Rattle.tile_extract.proofs.Common.{PutsAll, range_with_len, refl, Result, Rises, Rose, RunFits, subst, suc, sym, to_lt, Took, took_as, true, true≢false, WriterState, Writes, zero, ℕ, [], ◌&&◌, ◌+◌, ◌<◌, ◌^◌, ◌∙◌, ◌∷◌, ◌≡◌}
use Rattle.tile_extract.proofs.Common.{◌≤◌}
use Rattle.std.specs.FinMap.Entries.{below_all}
use Rattle.pm_writer.proofs.AddedBytes.{data_run}
use Rattle.pm_writer.proofs.RunTaken.{fits_again, run_filled, run_of_none}
use Rattle.pm_writer.proofs.Took.{took_length}
use Rattle.pm_writer.specs.Writing.{data_of}
use Rattle.pm_format.specs.declared.compression.Compression.TheVariants as compression
use Rattle.pm_format.specs.declared.error.PmtError.TheVariants as errors
use Rattle.pm_format.specs.declared.error.ReadCause.TheVariants as causes

-- the same bytes at ids
abbrev pub at_each : List ℕ → List ℕ → List (ℕ × List ℕ)
at_each bytes [] = []
at_each bytes (id ∷ ids) = (id, bytes) ∷ at_each bytes ids

pub ok_is : {A E : Type 0} (x y : A) → ◌≡◌ {A = Result A E} (Ok x) (Ok y) → x ≡ y
ok_is x y e = cc

below_by : (x low : ℕ) (adds : List (ℕ × List ℕ)) → x < low → Rises low adds → below_all nat_cmp x adds ≡ true
below_by x low [] less r = refl
below_by x low (a ∷ adds) less r =
    let first : is_lt (nat_cmp x a.0) ≡ true = let le : low ≤ a.0 = r.0 in grind (arith, nat_tests) in
    and_from (is_lt (nat_cmp x a.0)) (below_all nat_cmp x adds) first (below_by x (a.0 + 1) adds (omega (arith, less, r.0)) r.1)

pub sorted_by : (low : ℕ) (adds : List (ℕ × List ℕ)) → Rises low adds → is_sorted nat_cmp adds ≡ true
sorted_by low [] r = refl
sorted_by low (a ∷ adds) r = and_from (below_all nat_cmp a.0 adds) (is_sorted nat_cmp adds) (below_by a.0 (a.0 + 1) adds (omega arith) r.1) (sorted_by (a.0 + 1) adds r.1)

rises_less : (low from : ℕ) (adds : List (ℕ × List ℕ)) → low ≤ from → Rises from adds → Rises low adds
rises_less low from [] le r = tt
rises_less low from (a ∷ adds) le r = (omega (arith, le, r.0), r.1)

pub ends_nothing : EndsBy [] 0
ends_nothing = λ more r. r

pub ends_later : (adds : List (ℕ × List ℕ)) (m n : ℕ) → m ≤ n → EndsBy adds m → EndsBy adds n
ends_later adds m n le e = λ more r. e more (rises_less m n more le r)

pub ends_rise : (adds : List (ℕ × List ℕ)) (m : ℕ) → EndsBy adds m → Rises 0 adds
ends_rise adds m e = subst (Rises 0) (append-nil adds) (e [] tt)

-- one more add
pub ends_add : (adds : List (ℕ × List ℕ)) (id : ℕ) (bytes : List ℕ) → EndsBy adds id → EndsBy (add_to adds id bytes) (id + 1)
ends_add adds id [] e = ends_later adds id (id + 1) (omega arith) e
ends_add adds id (b ∷ bytes) e = λ more r. subst (Rises 0) (sym (append_assoc adds ((id, b ∷ bytes) ∷ []) more)) (e ((id, b ∷ bytes) ∷ more) (omega arith, r))

-- adds that come to more all have room
pub with_room : {P : Type 0} (t : Bool) (Q : Type 0) (more : List (ℕ × List ℕ)) → (Q → P) → ByRoom t Q (Ok more ≡ Err IndexEntryOverflow) → P
with_room true Q more rest is = rest is
with_room false Q more rest is = absurd (cc)

-- all of them
pub ends_all : (takes : List ℕ → List ℕ → Type 0) (o : Options) (bytes : List ℕ) (n id : ℕ) (done more : List (ℕ × List ℕ)) → PutsAll takes o bytes done (range_with_len id n) (Ok more) → EndsBy done id → EndsBy more (id + n)
ends_all takes o bytes zero id done more is e = subst (λ l. EndsBy l (id + 0)) (sym (ok_is more done is)) (ends_later done id (id + 0) (omega arith) e)
ends_all takes o bytes (suc n) id done more is e =
    with_room (has_room o done id is.0) (PutsAll takes o bytes (add_to done id is.0) (range_with_len (id + 1) n) (Ok more)) more
    (λ at. ends_later more (id + 1 + n) (id + suc n) (omega arith) (ends_all takes o bytes n (id + 1) (add_to done id is.0) more at (ends_add done id is.0 e))) is.2

-- an add that fits, and one that doesn't
room_true : (o : Options) (done : List (ℕ × List ℕ)) (id : ℕ) (bytes : List ℕ) → AddFits o done id bytes → has_room o done id bytes ≡ true
unfolding has_room
room_true o done id bytes f = and_from (nat_lt (length bytes) (2 ^ 32)) (nat_lt (data_end o (add_to done id bytes)) (2 ^ 64)) (to_lt (length bytes) (2 ^ 32) f.0) (to_lt (data_end o (add_to done id bytes)) (2 ^ 64) f.1)

room_false : (o : Options) (done : List (ℕ × List ℕ)) (id : ℕ) (bytes : List ℕ) → (AddFits o done id bytes → ⊥) → has_room o done id bytes ≡ false
unfolding has_room
room_false o done id bytes unfit = never (nat_lt (length bytes) (2 ^ 32) && nat_lt (data_end o (add_to done id bytes)) (2 ^ 64)) (λ is.
    let p = and_parts (nat_lt (length bytes) (2 ^ 32)) (nat_lt (data_end o (add_to done id bytes)) (2 ^ 64)) is in
    unfit (lt_by (length bytes) (2 ^ 32) p.0, lt_by (data_end o (add_to done id bytes)) (2 ^ 64) p.1))

puts_next : (takes : List ℕ → List ℕ → Type 0) (o : Options) (bytes taken : List ℕ) (mid : List (ℕ × List ℕ)) (id : ℕ) (ids : List ℕ) (r : Result (List (ℕ × List ℕ)) ExtractError) → takes bytes taken → AddFits o mid id taken
    → PutsAll takes o bytes (add_to mid id taken) ids r → PutsAll takes o bytes mid (id ∷ ids) r
puts_next takes o bytes taken mid id ids r take fits next =
    (taken, take, subst (λ t. ByRoom t (PutsAll takes o bytes (add_to mid id taken) ids r) (r ≡ Err IndexEntryOverflow)) (sym (room_true o mid id taken fits)) next)

puts_over : (takes : List ℕ → List ℕ → Type 0) (o : Options) (bytes taken : List ℕ) (mid : List (ℕ × List ℕ)) (id : ℕ) (ids : List ℕ) → takes bytes taken → (AddFits o mid id taken → ⊥) → PutsAll takes o bytes mid (id ∷ ids) (Err IndexEntryOverflow)
puts_over takes o bytes taken mid id ids take unfit =
    let over : Result (List (ℕ × List ℕ)) ExtractError = Err IndexEntryOverflow in
    let same : over ≡ over = refl in
    (taken, take, subst (λ t. ByRoom t (PutsAll takes o bytes (add_to mid id taken) ids over) (over ≡ over)) (sym (room_false o mid id taken unfit)) same)

-- a run, whose ids all have what its data is taken for
pub same_ids : (a b m n : ℕ) → a ≡ b → m ≡ n → range_with_len a m ≡ range_with_len b n
same_ids a b m n p q = rw (p, q) refl

fits_on : (o : Options) (done : List (ℕ × List ℕ)) (id n : ℕ) (taken : List ℕ) → AddFits o done id taken → RunFits o (add_to done id taken) (id + 1) n taken
fits_on o done id zero taken fits = tt
fits_on o done id (suc n) taken fits = fits_again o done id (id + 1) taken fits

puts_run : (takes : List ℕ → List ℕ → Type 0) (o : Options) (bytes taken : List ℕ) (n id : ℕ) (done : List (ℕ × List ℕ)) → takes bytes taken → RunFits o done id n taken → PutsAll takes o bytes done (range_with_len id n) (Ok (add_run_to done id n taken))
puts_run takes o bytes taken zero id done take fits = refl
puts_run takes o bytes taken (suc n) id done take fits =
    puts_next takes o bytes taken done id (range_with_len (id + 1) n) (Ok (add_run_to (add_to done id taken) (id + 1) n taken)) take fits
    (puts_run takes o bytes taken n (id + 1) (add_to done id taken) take (fits_on o done id n taken fits))

-- which ends where its first id does
run_ends : (o : Options) (done : List (ℕ × List ℕ)) (id n : ℕ) (bytes : List ℕ) → data_end o (add_run_to done id (suc n) bytes) ≡ data_end o (add_to done id bytes)
run_ends o done id n [] = ap (data_end o) (run_of_none done id (suc n) [] refl)
run_ends o done id n (b ∷ bytes) =
    let x = b ∷ bytes in
    let some : 0 < length x = omega arith in
    let same : data_of (add_run_to done id (suc n) x) ≡ data_of (add_to done id x) = sym (ap data_of (run_filled done id (suc n) x some)) ∙ data_run done id (suc n) x (omega arith) in
    omega (arith, ap length same)

run_fits : (told new : Option (List ℕ)) (o : Options) (s : WriterState) (done : List (ℕ × List ℕ)) (id n : ℕ) (given taken other : List ℕ) → Writes o new s (add_run_to done id n taken) → has_failed s ≡ false → Took told given taken → Took told given other → RunFits o done id n other
    → RunFits o done id n taken
run_fits told new o s done id zero given taken other w alive t u fits = tt
run_fits told new o s done id (suc n) given taken other w alive t u fits = (omega (arith, took_length told given taken t, took_length told given other u, fits.0), omega (arith, run_ends o done id n taken, (w.held alive).ends))

pub run_added : (told new : Option (List ℕ)) (o : Options) (s : WriterState) (done : List (ℕ × List ℕ)) (id n : ℕ) (given taken other : List ℕ) → is_some new ≡ is_some told → Writes o new s (add_run_to done id n taken) → has_failed s ≡ false → Took told given taken → Took told given other → RunFits o done id n other
    → Puts o given done (range_with_len id n) new s (Ok tt)
run_added told new o s done id n given taken other same w alive t u fits =
    (add_run_to done id n taken, puts_run (Took new) o given taken n id done (took_as (λ takes. takes given taken) told new same t) (run_fits told new o s done id n given taken other w alive t u fits), w)

-- a run that is refused
run_over : (takes : List ℕ → List ℕ → Type 0) (o : Options) (bytes taken : List ℕ) (done : List (ℕ × List ℕ)) (id n : ℕ) → takes bytes taken → (RunFits o done id n taken → ⊥) → PutsAll takes o bytes done (range_with_len id n) (Err IndexEntryOverflow)
run_over takes o bytes taken done id zero take unfit = absurd (unfit tt)
run_over takes o bytes taken done id (suc n) take unfit = puts_over takes o bytes taken done id (range_with_len (id + 1) n) take unfit

pub run_refused : (told new : Option (List ℕ)) (o : Options) (given taken : List ℕ) (done : List (ℕ × List ℕ)) (id n size : ℕ) (s : WriterState) (failed : Bool) (before now : ℕ) (e : PmtError) → is_some new ≡ is_some told → failed ≡ false → Took told given taken
    → AddCauses compression.None failed size (RunFits o done id n taken) before now (Err e) → Puts o given done (range_with_len id n) new s (Err (of_write_error e))
run_refused told new o given taken done id n size s failed before now errors.Failed same alive take c = absurd (true≢false (sym c ∙ alive))
run_refused told new o given taken done id n size s failed before now (errors.UnsupportedCompression label) same alive take c = absurd (c.2 refl)
run_refused told new o given taken done id n size s failed before now errors.IndexEntryOverflow same alive take c = run_over (Took new) o given taken done id n (took_as (λ takes. takes given taken) told new same take) c.2
run_refused told new o given taken done id n size s failed before now (errors.Reading causes.Fault) same alive take c = tt
run_refused told new o given taken done id n size s failed before now errors.OutOfMemory same alive take c = tt
run_refused told new o given taken done id n size s failed before now e same alive take c = absurd c

pub add_faulted : (size : ℕ) (fits : Type 0) (failed : Bool) (before now : ℕ) (e : PmtError) → failed ≡ false → AddCauses compression.None failed size fits before now (Err e) → of_write_error e ≡ MediumFault → Rose before now
add_faulted size fits failed before now errors.Failed alive c is = absurd (true≢false (sym c ∙ alive))
add_faulted size fits failed before now (errors.UnsupportedCompression label) alive c is = absurd (c.2 refl)
add_faulted size fits failed before now errors.IndexEntryOverflow alive c is = absurd (cc)
add_faulted size fits failed before now (errors.Reading causes.Fault) alive c is = c.4
add_faulted size fits failed before now errors.OutOfMemory alive c is = absurd (cc)
add_faulted size fits failed before now e alive c is = absurd c

pub err_is : (x y : ExtractError) → ◌≡◌ {A = Result Unit ExtractError} (Err x) (Err y) → x ≡ y
err_is x y e = cc
