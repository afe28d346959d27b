-- Several sources of which one is read.
use Rattle.tile_join.proofs.Common.{All-get_or, All-set, all_told, ap, AreOnlyRead, Archive, arith, Different, drop, Err, get_or, get_or-map, get_or-set_other, get_or-set_same, IfSome, IndexEntryOverflow, JoinError, length, length-map, List, map}
use Rattle.tile_join.proofs.Common.{map-set, map-set_same, MediumFault, MediumNotEmpty, None, NoneFell, NoSource, Ok, Option, OthersStand, OutOfMemory, ReadsOnly, refl, Result, set, slice_index, Some, SourcesStand, SourceStands, subst, suc, sym, TooManyTiles}
use Rattle.tile_join.proofs.Common.{StandsAtError, total, zero, ℕ, [], ◌+◌, ◌<◌, ◌∙◌, ◌∷◌, ◌≡◌, ◌≤◌}
use Rattle.tile_join.specs.Common.{option_map}

-- facts on what may be told
pub if_told : {A : Type 0} (P R : A → Type 0) (told : Option A) → ((a : A) → told ≡ Some a → P a → R a) → IfSome told P → IfSome told R
if_told P R None f p = tt
if_told P R (Some a) f p = f a refl p

pub if_both : {A : Type 0} (P Q R : A → Type 0) (told : Option A) → ((a : A) → P a → Q a → R a) → IfSome told P → IfSome told Q → IfSome told R
if_both P Q R None f p q = tt
if_both P Q R (Some a) f p q = f a p q

pub where_told : {A : Type 0} (R : A → Type 0) (told : Option A) → ((a : A) → told ≡ Some a → R a) → IfSome told R
where_told R None f = tt
where_told R (Some a) f = f a refl

pub as_told : {A : Type 0} (P : A → Type 0) (told : Option A) (a : A) → told ≡ Some a → IfSome told P → P a
as_told P told a is p = subst (λ o. IfSome o P) is p

-- where all tell, each does
pub record IsToldAt (ts : List (Option (List ℕ))) (bs : List (List ℕ)) (n : ℕ) (d : Option (List ℕ)) : Type 0 where
  pub one : get_or ts n d ≡ Some (get_or bs n [])
  pub rest : drop n bs ≡ get_or bs n [] ∷ drop (n + 1) bs

pub told_long : (ts : List (Option (List ℕ))) (bs : List (List ℕ)) → all_told ts ≡ Some bs → length bs ≡ length ts
told_long [] bs is = let same : [] ≡ bs = cc in ap length (sym same)
told_long (None ∷ ts) bs is = absurd (cc)
told_long (Some b ∷ ts) bs is = by (all_told ts) (λ cs at. told_long ts cs at) is
  where
    by : (o : Option (List (List ℕ))) → ((cs : List (List ℕ)) → o ≡ Some cs → length cs ≡ length ts) → option_map (λ cs. b ∷ cs) o ≡ Some bs → length bs ≡ length (Some b ∷ ts)
    by None deeper is = absurd (cc)
    by (Some cs) deeper is = let same : b ∷ cs ≡ bs = cc in let one = deeper cs refl in omega (arith, ap length same, one)

pub told_at : (ts : List (Option (List ℕ))) (bs : List (List ℕ)) (n : ℕ) (d : Option (List ℕ)) → n < length ts → all_told ts ≡ Some bs → IsToldAt ts bs n d
told_at [] bs n d low is = absurd (omega (arith, low))
told_at (None ∷ ts) bs n d low is = absurd (cc)
told_at (Some b ∷ ts) bs n d low is = by (all_told ts) (λ m cs less at. told_at ts cs m d less at) is
  where
    by_index : (cs : List (List ℕ)) (m : ℕ) → m < length (Some b ∷ ts) → ((k : ℕ) → k < length ts → IsToldAt ts cs k d) → IsToldAt (Some b ∷ ts) (b ∷ cs) m d
    by_index cs zero less deeper = record { one = refl; rest = refl }
    by_index cs (suc k) less deeper =
        let a = deeper k (omega (arith, less)) in
        let e : suc k + 1 ≡ suc (k + 1) = omega arith in
        record { one = a.one; rest = a.rest ∙ ap (λ m. get_or cs k [] ∷ drop m (b ∷ cs)) (sym e) }

    by : (o : Option (List (List ℕ))) → ((m : ℕ) (cs : List (List ℕ)) → m < length ts → o ≡ Some cs → IsToldAt ts cs m d) → option_map (λ cs. b ∷ cs) o ≡ Some bs → IsToldAt (Some b ∷ ts) bs n d
    by None deeper is = absurd (cc)
    by (Some cs) deeper is = let same : b ∷ cs ≡ bs = cc in subst (λ l. IsToldAt (Some b ∷ ts) l n d) same (by_index cs n low (λ k less. deeper k cs less refl))

-- counts of which one is another
none_fell : (counts : List ℕ) (n count : ℕ) → slice_index counts n ≤ count → NoneFell counts (set counts n count)
none_fell [] n count up place = omega arith
none_fell (c ∷ cs) zero count up zero = up
none_fell (c ∷ cs) zero count up (suc place) = omega arith
none_fell (c ∷ cs) (suc n) count up zero = omega arith
none_fell (c ∷ cs) (suc n) count up (suc place) = none_fell cs n count up place

total_set : (counts : List ℕ) (n count : ℕ) → n < length counts → total (set counts n count) + slice_index counts n ≡ total counts + count
total_set [] n count low = absurd (omega (arith, low))
total_set (c ∷ cs) zero count low = omega arith
total_set (c ∷ cs) (suc n) count low = let a = total_set cs n count (omega (arith, low)) in omega (arith, a)

-- nothing is read
pub none_read : {B V : Type 0} (tells : B → Option (List ℕ)) (texts : B → V) (failed : B → ℕ) (steady : B → Type 0) (old : List B) → AreOnlyRead tells texts failed steady old old
none_read tells texts failed steady old = record { told = refl; versions = refl; faults = λ k. omega arith; calm = λ all. (all, refl) }

pub all_then : {B V : Type 0} (tells : B → Option (List ℕ)) (texts : B → V) (failed : B → ℕ) (steady : B → Type 0) (x y z : List B) → AreOnlyRead tells texts failed steady x y → AreOnlyRead tells texts failed steady y z → AreOnlyRead tells texts failed steady x z
all_then tells texts failed steady x y z a b = record {
  told = b.told ∙ a.told;
  versions = b.versions ∙ a.versions;
  faults = λ k. omega (arith, a.faults k, b.faults k);
  calm = λ s. let p = a.calm s in let q = b.calm p.0 in (q.0, q.1 ∙ p.1);
}

pub as_many : {B C : Type 0} (f : B → C) (old now : List B) → map f now ≡ map f old → length now ≡ length old
as_many f old now same = omega (arith, ap length same, length-map now f, length-map old f)

-- a source with a number is read
module _ {B V : Type 0} (tells : B → Option (List ℕ)) (texts : B → V) (failed reads : B → ℕ) (steady : B → Type 0) (now : List B) (n : ℕ) (x y : B) (low : n < length now) (is : x ≡ get_or now n x) where
  abbrev pub after : List B
  after = set now n y

  pub mapped_at : (f : B → ℕ) → slice_index (map f now) n ≡ f x
  mapped_at f = get_or-map f now n x 0 low ∙ ap f (sym is)

  pub mapped_now : (f : B → ℕ) → slice_index (map f after) n ≡ f y
  mapped_now f = ap (λ l. slice_index l n) (map-set f now n y) ∙ get_or-set_same (map f now) n (f y) 0 (omega (arith, low, length-map now f))

  pub one_read : ReadsOnly tells texts failed steady x y → AreOnlyRead tells texts failed steady now after
  one_read kept = record {
    told = map-set_same tells now n y x (kept.told ∙ ap tells is);
    versions = map-set_same texts now n y x (kept.versions ∙ ap texts is);
    faults = λ k.
        let up : slice_index (map failed now) n ≤ failed y = omega (arith, mapped_at failed, kept.faults) in
        omega (arith, none_fell (map failed now) n (failed y) up k, ap (λ l. slice_index l k) (map-set failed now n y));
    calm = λ all.
        let one : steady x = subst steady (sym is) (All-get_or steady now n x low all) in
        (All-set steady now n y (kept.calm one).0 all, map-set_same failed now n y x ((kept.calm one).1 ∙ ap failed is));
  }

  pub reads_grow : (k : ℕ) → reads y ≤ reads x + k → total (map reads after) ≤ total (map reads now) + k
  reads_grow k le =
      let t = total_set (map reads now) n (reads y) (omega (arith, low, length-map now reads)) in
      omega (arith, le, t, mapped_at reads, ap total (map-set reads now n y))

  -- what it tells, where all tell
  pub tells_at : (bs : List (List ℕ)) → all_told (map tells now) ≡ Some bs → tells x ≡ Some (get_or bs n [])
  tells_at bs told = ap tells is ∙ sym (get_or-map tells now n x (tells x) low) ∙ (told_at (map tells now) bs n (tells x) (omega (arith, low, length-map now tells)) told).one

  -- counts of faults
  pub others_stand : OthersStand n (map failed now) (map failed after)
  others_stand = λ j other. ap (λ l. slice_index l j) (map-set failed now n y) ∙ get_or-set_other (map failed now) n j (failed y) 0 other

  pub stand_all : failed y ≡ failed x → map failed after ≡ map failed now
  stand_all same = map-set_same failed now n y x (same ∙ ap failed is)

  pub sources_at : {A : Type 0} (r : Result A JoinError) → ((k : ℕ) (e : _) → r ≡ Err (Archive k e) → k ≡ n) → SourceStands (failed x) (failed y) r → SourcesStand (map failed now) (map failed after) r
  sources_at (Ok v) number stands = stand_all stands
  sources_at (Err (Archive k e)) number stands =
      let same : k ≡ n = number k e refl in
      subst (λ j. OthersStand j (map failed now) (map failed after) × StandsAtError (slice_index (map failed now) j) (slice_index (map failed after) j) e) (sym same)
      (others_stand, subst (λ m. StandsAtError m (slice_index (map failed after) n) e) (sym (mapped_at failed)) (subst (λ m. StandsAtError (failed x) m e) (sym (mapped_now failed)) stands))
  sources_at (Err OutOfMemory) number stands = tt
  sources_at (Err NoSource) number stands = stand_all stands
  sources_at (Err (MediumNotEmpty m)) number stands = stand_all stands
  sources_at (Err (Different k)) number stands = stand_all stands
  sources_at (Err (TooManyTiles m)) number stands = stand_all stands
  sources_at (Err IndexEntryOverflow) number stands = stand_all stands
  sources_at (Err MediumFault) number stands = stand_all stands
