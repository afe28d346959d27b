-- What adds are taken for: their ids and lengths stay, and all that follows from these.
use Rattle.pm_writer.proofs.Common.{add_to, AddFits, All, All-cons, All-head, All-tail, AllSized, ap, AreFew, arith, below_all, Contents, drop, drop_more, Err, false, found_in, found_itself, FoundAs}
use Rattle.pm_writer.proofs.Common.{get_or, has_failed, IfOk, IfSome, is_lt, is_some, is_sorted, IsUnasked, length, List, MAX_TILE_ID, nat_cmp, None, Ok, Option, Options, place_sought, refl, Result}
use Rattle.pm_writer.proofs.Common.{Some, Sought, subst, suc, sum_by, sum_by-cons, sym, take, take-append-drop, Took, TookAll, TookBy, WriterState, Writes, xxh3_64, ℕ, [], ◌&&◌, ◌++◌, ◌+◌, ◌<◌, ◌∙◌}
use Rattle.pm_writer.proofs.Common.{◌∷◌, ◌≡◌, ◌≢◌, ◌≤◌}
use Rattle.byte_media.specs.declared.medium.WriteFault.{WriteFault}
use Rattle.pm_contents.specs.Span.{Stood}
use Rattle.pm_writer.proofs.Few.{add_fits}

-- data may be taken for itself
pub took_itself : (told : Option (List ℕ)) (bytes : List ℕ) → Took told bytes bytes
took_itself None bytes = (refl, λ b. refl)
took_itself (Some b) bytes = refl

pub itself_by : (told : Option (List ℕ)) (before now : ℕ) (bytes : List ℕ) → TookBy told before now bytes bytes
itself_by told before now bytes = (took_itself told bytes, λ s. refl)

-- what sought bytes are taken for, where the medium tells what they are found as
took_of : (told : Option (List ℕ)) (before now : ℕ) (c : Contents) (cs : List (List ℕ)) (x : List ℕ) (s : Sought) → IfSome told (λ b. found_in cs x ≡ place_sought s) → (Stood before now → IsUnasked c (xxh3_64 x) (length x))
    → (taken : List ℕ) × FoundAs xxh3_64 c cs x s taken → (taken : List ℕ) × TookBy told before now x taken × FoundAs xxh3_64 c cs x s taken
took_of None before now c cs x s k u f = (f.0, ((f.1.size, f.1.like), λ stood. f.1.unread (u stood)), f.1)
took_of (Some b) before now c cs x s k u f = (x, itself_by (Some b) before now x, found_itself xxh3_64 c cs x s k)

pub took_length : (told : Option (List ℕ)) (given taken : List ℕ) → Took told given taken → length taken ≡ length given
took_length None given taken t = t.0
took_length (Some b) given taken t = ap length t

-- what is told doesn't matter, but whether it is
pub took_as : (P : (List ℕ → List ℕ → Type 0) → Type 0) (old new : Option (List ℕ)) → is_some new ≡ is_some old → P (Took old) → P (Took new)
took_as P None None same p = p
took_as P None (Some b) same p = absurd (cc)
took_as P (Some a) None same p = absurd (cc)
took_as P (Some a) (Some b) same p = p

-- and where it is sought
pub sought_as : (told : Option (List ℕ)) (before now : ℕ) (c : Contents) (cs : List (List ℕ)) (x : List ℕ) (r : Result Sought WriteFault) → IfSome told (λ b. IfOk r (λ s. found_in cs x ≡ place_sought s)) → (Stood before now → IsUnasked c (xxh3_64 x) (length x))
    → IfOk r (λ s. (taken : List ℕ) × FoundAs xxh3_64 c cs x s taken) → IfOk r (λ s. (taken : List ℕ) × TookBy told before now x taken × FoundAs xxh3_64 c cs x s taken)
sought_as told before now c cs x (Ok s) k u f = took_of told before now c cs x s k u f
sought_as told before now c cs x (Err e) k u f = tt

module _ (told : Option (List ℕ)) where
  pub all_themselves : (adds : List (ℕ × List ℕ)) → TookAll told adds adds
  all_themselves [] = tt
  all_themselves (a ∷ adds) = (refl, took_itself told a.1, all_themselves adds)

  pub took_append : (gs ts hs us : List (ℕ × List ℕ)) → TookAll told gs ts → TookAll told hs us → TookAll told (gs ++ hs) (ts ++ us)
  took_append [] [] hs us t u = u
  took_append [] (x ∷ ts) hs us t u = absurd t
  took_append (g ∷ gs) [] hs us t u = absurd t
  took_append (g ∷ gs) (x ∷ ts) hs us t u = (t.0, t.1, took_append gs ts hs us t.2 u)

  -- one more add
  pub took_more : (gs ts : List (ℕ × List ℕ)) (id : ℕ) (given taken : List ℕ) → TookAll told gs ts → Took told given taken → TookAll told (add_to gs id given) (add_to ts id taken)
  took_more gs ts id [] [] all t = all
  took_more gs ts id [] (b ∷ taken) all t = absurd (omega (arith, took_length told [] (b ∷ taken) t))
  took_more gs ts id (b ∷ given) [] all t = absurd (omega (arith, took_length told (b ∷ given) [] t))
  took_more gs ts id (b ∷ given) (c ∷ taken) all t = took_append gs ts ((id, b ∷ given) ∷ []) ((id, c ∷ taken) ∷ []) all (refl, t, tt)

  -- what data of at least one byte is taken for stands behind the others
  pub filled_taken : (adds : List (ℕ × List ℕ)) (id : ℕ) (given taken : List ℕ) → 0 < length given → Took told given taken → adds ++ (id, taken) ∷ [] ≡ add_to adds id taken
  filled_taken adds id given [] some t = absurd (omega (arith, took_length told given [] t, some))
  filled_taken adds id given (b ∷ taken) some t = refl

  count_took : (gs ts : List (ℕ × List ℕ)) → TookAll told gs ts → length ts ≡ length gs
  count_took [] [] t = refl
  count_took [] (x ∷ ts) t = absurd t
  count_took (g ∷ gs) [] t = absurd t
  count_took (g ∷ gs) (x ∷ ts) t = ap suc (count_took gs ts t.2)

  sized_took : (gs ts : List (ℕ × List ℕ)) → TookAll told gs ts → AllSized gs → AllSized ts
  sized_took [] [] t s = tt
  sized_took [] (x ∷ ts) t s = absurd t
  sized_took (g ∷ gs) [] t s = absurd t
  sized_took (g ∷ gs) (x ∷ ts) t s = (omega (arith, took_length told g.1 x.1 t.1, s.0), sized_took gs ts t.2 s.1)

  total_took : (gs ts : List (ℕ × List ℕ)) → TookAll told gs ts → sum_by (λ a. length a.1) ts ≡ sum_by (λ a. length a.1) gs
  total_took [] [] t = refl
  total_took [] (x ∷ ts) t = absurd t
  total_took (g ∷ gs) [] t = absurd t
  total_took (g ∷ gs) (x ∷ ts) t =
      omega (arith, sum_by-cons (λ (a : ℕ × List ℕ). length a.1) g gs, sum_by-cons (λ (a : ℕ × List ℕ). length a.1) x ts, took_length told g.1 x.1 t.1, total_took gs ts t.2)

  pub few_took : (o : Options) (gs ts : List (ℕ × List ℕ)) → TookAll told gs ts → AreFew o gs → AreFew o ts
  few_took o gs ts t few = record {
    metadata = few.metadata;
    sized = sized_took gs ts t few.sized;
    count = omega (arith, count_took gs ts t, few.count);
    total = omega (arith, total_took gs ts t, few.total);
  }

  below_took : (id : ℕ) (gs ts : List (ℕ × List ℕ)) → TookAll told gs ts → below_all nat_cmp id ts ≡ below_all nat_cmp id gs
  below_took id [] [] t = refl
  below_took id [] (x ∷ ts) t = absurd t
  below_took id (g ∷ gs) [] t = absurd t
  below_took id (g ∷ gs) (x ∷ ts) t = ap (λ k. is_lt (nat_cmp id k) && below_all nat_cmp id ts) t.0 ∙ ap (λ b. is_lt (nat_cmp id g.0) && b) (below_took id gs ts t.2)

  pub sorted_took : (gs ts : List (ℕ × List ℕ)) → TookAll told gs ts → is_sorted nat_cmp ts ≡ is_sorted nat_cmp gs
  sorted_took [] [] t = refl
  sorted_took [] (x ∷ ts) t = absurd t
  sorted_took (g ∷ gs) [] t = absurd t
  sorted_took (g ∷ gs) (x ∷ ts) t = ap (λ k. below_all nat_cmp k ts && is_sorted nat_cmp ts) t.0 ∙ ap (λ b. b && is_sorted nat_cmp ts) (below_took g.0 gs ts t.2) ∙ ap (λ b. below_all nat_cmp g.0 gs && b) (sorted_took gs ts t.2)

  pub low_took : (gs ts : List (ℕ × List ℕ)) → TookAll told gs ts → All (λ a. a.0 ≤ MAX_TILE_ID) gs → All (λ a. a.0 ≤ MAX_TILE_ID) ts
  low_took [] [] t h = h
  low_took [] (x ∷ ts) t h = absurd t
  low_took (g ∷ gs) [] t h = absurd t
  low_took (g ∷ gs) (x ∷ ts) t h =
      let IsLow : ℕ × List ℕ → Type 0 = λ a. a.0 ≤ MAX_TILE_ID in
      All-cons IsLow x ts (subst (λ k. k ≤ MAX_TILE_ID) (sym t.0) (All-head IsLow g gs h)) (low_took gs ts t.2 (All-tail IsLow g gs h))

  filled_as : (given taken : List ℕ) → Took told given taken → given ≢ [] → taken ≢ []
  filled_as [] taken t some = absurd (some refl)
  filled_as (b ∷ given) taken t some = λ none. omega (arith, took_length told (b ∷ given) taken t, ap length none)

  pub filled_took : (gs ts : List (ℕ × List ℕ)) → TookAll told gs ts → All (λ a. a.1 ≢ []) gs → All (λ a. a.1 ≢ []) ts
  filled_took [] [] t h = h
  filled_took [] (x ∷ ts) t h = absurd t
  filled_took (g ∷ gs) [] t h = absurd t
  filled_took (g ∷ gs) (x ∷ ts) t h =
      let IsFilled : ℕ × List ℕ → Type 0 = λ a. a.1 ≢ [] in
      All-cons IsFilled x ts (filled_as g.1 x.1 t.1 (All-head IsFilled g gs h)) (filled_took gs ts t.2 (All-tail IsFilled g gs h))

  -- what each of few and short adds is taken for fits behind what those before it were taken for
  pub took_fits_at : (o : Options) (adds ts : List (ℕ × List ℕ)) (i : ℕ) (d : ℕ × List ℕ) (taken : List ℕ) → i < length adds → AreFew o adds → TookAll told (take i adds) ts → Took told (get_or adds i d).1 taken → AddFits o ts (get_or adds i d).0 taken
  took_fits_at o adds ts i d taken h few all t =
      let a = get_or adds i d in
      let rest = drop (i + 1) adds in
      let parts : adds ≡ take i adds ++ a ∷ rest = sym (take-append-drop i adds) ∙ ap (λ z. take i adds ++ z) (drop_more adds i d h) in
      let whole = took_append (take i adds) ts (a ∷ rest) ((a.0, taken) ∷ rest) all (refl, t, all_themselves rest) in
      add_fits o ts rest a.0 taken (few_took o (take i adds ++ a ∷ rest) (ts ++ (a.0, taken) ∷ rest) whole (subst (AreFew o) parts few))

-- over a medium that tells, adds are taken for themselves
pub told_themselves : (b : List ℕ) (gs ts : List (ℕ × List ℕ)) → TookAll (Some b) gs ts → ts ≡ gs
told_themselves b [] [] t = refl
told_themselves b [] (x ∷ ts) t = absurd t
told_themselves b (g ∷ gs) [] t = absurd t
told_themselves b (g ∷ gs) (x ∷ ts) t = ap (λ k. (k, x.1) ∷ ts) t.0 ∙ ap (λ y. (g.0, y) ∷ ts) t.1 ∙ ap (λ r. g ∷ r) (told_themselves b gs ts t.2)

-- so what is told of them is told of what they were given as
pub told_as_given : (P : List (ℕ × List ℕ) → List ℕ → Type 0) (old told : Option (List ℕ)) (gs ts : List (ℕ × List ℕ)) → is_some told ≡ is_some old → TookAll old gs ts → IfSome told (P ts) → IfSome told (P gs)
told_as_given P old None gs ts same all h = tt
told_as_given P None (Some b) gs ts same all h = absurd (cc)
told_as_given P (Some a) (Some b) gs ts same all h = subst (λ adds. P adds b) (told_themselves a gs ts all) h

pub all_took_as : (old new : Option (List ℕ)) (gs ts : List (ℕ × List ℕ)) → is_some new ≡ is_some old → TookAll old gs ts → TookAll new gs ts
all_took_as old new [] [] same t = tt
all_took_as old new [] (x ∷ ts) same t = absurd t
all_took_as old new (g ∷ gs) [] same t = absurd t
all_took_as old new (g ∷ gs) (x ∷ ts) same t = (t.0, took_as (λ takes. takes g.1 x.1) old new same t.1, all_took_as old new gs ts same t.2)

-- what an add that succeeded was taken for fits
pub written_fits : (told new : Option (List ℕ)) (o : Options) (s : WriterState) (done : List (ℕ × List ℕ)) (id : ℕ) (given taken other : List ℕ) → Writes o new s (add_to done id taken) → has_failed s ≡ false → Took told given taken → Took told given other → AddFits o done id other
    → AddFits o done id taken
written_fits told new o s done id given taken other w alive t u fits = (omega (arith, took_length told given taken t, took_length told given other u, fits.0), (w.held alive).ends)
