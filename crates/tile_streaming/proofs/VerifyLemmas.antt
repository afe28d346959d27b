-- The test of a hash against the stored one.
use Rattle.tile_streaming.proofs.Common.{ap, Bool, codes, cond, Err, false, false≢true, FindCauses, IfOk, HasBytes, IfSome, is_free, is_some, IsEmpty, IsHeldOf, IsMarkedAs, IsPlain, IsRefused, List, MarkedSet, MbtError, None, Ok, Option, Options, refl, refusal_at, Result, Rose, RoseAt, Some, State}
use Rattle.tile_streaming.proofs.Common.{ConvertError, Stored, StreamCauses, StreamError, StreamReport, subst, sym, tested_due, text_at, true, unless, ℕ, [], ◌||◌, ◌∙◌, ◌∷◌, ◌≡◌, ◌≢◌}
unfoldable use Rattle.tile_streaming.proofs.Common.{aggregate}
use Rattle.mb_tables.specs.declared.error.MbtError.TheVariants.{AggHashMismatch, AggHashValueNotFound}
use Rattle.mb_tables.specs.declared.error.MbtError.TheVariants as free
use Rattle.std.proofs.lemmas.Slice.Eq.{bytes_eq-Decides}
use Rattle.std.specs.Str.{bytes_eq}
use Rattle.tile_bridge.specs.Outcome.{hash_wrong, unverified}
use Rattle.tile_bridge.specs.declared.error.ConvertError.TheVariants.{MediumFault, OutOfMemory, Store, StoreFault}
use Rattle.tile_streaming.proofs.DueLemmas.{hash_due}
use Rattle.tile_streaming.specs.Hashing.{HashCauses, IsHashOf, IsHashRefusal, IsRight, stored_hash}
use Rattle.tile_streaming.specs.declared.error.StreamError.TheVariants.{Convert, StoreChanged}

-- what is said of a store that was only read is said of it as it is now
pub store_moved : (P : Bool → Stored → Type 0) (tells tells_now : Bool) (t now : Stored) → tells_now ≡ tells → now ≡ t → P tells t → P tells_now now
store_moved P tells tells_now t now same told h = subst (λ b. P b now) (sym same) (subst (P tells) (sym told) h)

-- a marked set that isn't hashed
module _ (A : Type 0) (verify tells : Bool) (t : Stored) (m : MarkedSet) (store now : ℕ) where
  pub find_refused : (B : Type 0) (e : StreamError) → FindCauses {A = B} (tells ≡ false) store now (Err e) → HashCauses {A = A} verify tells t m store now (Err e)
  find_refused B StoreChanged c = c
  find_refused B (Convert (StoreFault place)) c = c
  find_refused B (Convert OutOfMemory) c = tt
  find_refused B (Convert _) c = absurd c

  -- or whose hash isn't the stored one
  pub hash_differs : (e : MbtError) (computed stored : List ℕ) → verify ≡ true → (is_free e ≡ false → e ≡ AggHashMismatch computed stored) → bytes_eq stored computed ≡ false → e ≢ free.StoreFault → stored_hash m ≡ Some stored → IsHashOf tells t m computed
      → HashCauses {A = A} verify tells t m store now (Err (Convert (refusal_at 0 e)))
  hash_differs free.StoreFault computed stored v is differ fault has hash = absurd (fault refl)
  hash_differs free.OutOfMemory computed stored v is differ fault has hash = tt
  hash_differs e computed stored v is differ fault has hash = (v, refl, subst (IsHashRefusal tells t m) (sym (is refl)) (has, differ, hash))

  pub hash_rose : (e : StreamError) (place : ℕ) → HashCauses {A = A} verify tells t m store now (Err e) → e ≡ Convert (StoreFault place) → RoseAt place (store ∷ []) (now ∷ [])
  hash_rose e place c is =
      let rose : (place ≡ 0) × Rose store now = subst (λ x. HashCauses {A = A} verify tells t m store now (Err x)) is c in
      subst (λ p. RoseAt p (store ∷ []) (now ∷ [])) (sym rose.0) rose.1

  pub hash_no_medium : (e : StreamError) → HashCauses {A = A} verify tells t m store now (Err e) → e ≡ Convert MediumFault → ⊥
  hash_no_medium e c is = subst (λ x. HashCauses {A = A} verify tells t m store now (Err x)) is c

-- a hash is reported where it was asked for
pub asked_is : (r : Result StreamReport StreamError) (hash : Option (List ℕ)) (asked : Bool) → is_some hash ≡ asked → IfOk r (λ x. x.aggregate ≡ hash) → IfOk r (λ x. is_some x.aggregate ≡ asked)
asked_is (Ok x) hash asked some is = ap is_some is ∙ some
asked_is (Err e) hash asked some is = tt

refusal_free : (tells : Bool) (t : Stored) (m : MarkedSet) (e : MbtError) → IsHashRefusal tells t m e → is_free e ≡ false
refusal_free tells t m AggHashValueNotFound r = refl
refusal_free tells t m (AggHashMismatch computed stored) r = refl
refusal_free tells t m _ r = absurd r

-- of a state of which the set is held, and whose bytes are stored
module _ (tells : Bool) (t : Stored) (m : MarkedSet) (u : tells ≡ true) (s : State) (held : IsMarkedAs s m) (has : HasBytes t s.tiles) where
  -- a hash is that of the state
  hash_told : (hash : List ℕ) → IsHashOf tells t m hash → hash ≡ aggregate s.algorithm s.tiles
  hash_told hash is = (is s held (λ v. has)).told u

  stored_is : stored_hash m ≡ text_at s.metadata (codes "agg_tiles_hash")
  stored_is = ap (λ n. text_at n (codes "agg_tiles_hash")) held.names

  -- it is right where it is the stored one
  right_where : (hash : List ℕ) → IsHashOf tells t m hash → stored_hash m ≡ Some hash → unverified s ≡ None
  right_where hash is stored =
      ap (λ n. hash_wrong n (aggregate s.algorithm s.tiles)) (sym stored_is ∙ stored)
      ∙ ap (hash_wrong (Some hash)) (sym (hash_told hash is))
      ∙ ap (λ b. unless b (AggHashMismatch hash hash)) ((bytes_eq-Decides hash hash).1 refl)

  -- and else refused as it is due
  refused_where : (e : MbtError) → IsHashRefusal tells t m e → unverified s ≡ Some e
  refused_where AggHashValueNotFound r = ap (λ n. hash_wrong n (aggregate s.algorithm s.tiles)) (sym stored_is ∙ r)
  refused_where (AggHashMismatch computed stored) r =
      ap (λ n. hash_wrong n (aggregate s.algorithm s.tiles)) (sym stored_is ∙ r.0)
      ∙ ap (hash_wrong (Some stored)) (sym (hash_told computed r.2))
      ∙ ap (λ b. unless b (AggHashMismatch computed stored)) r.1
  refused_where _ r = absurd r

module _ (tells : Bool) (t : Stored) (m : MarkedSet) where
  pub hash_right : (verify asked : Bool) (hash : Option (List ℕ)) → is_some hash ≡ verify || asked → IfSome hash (IsHashOf tells t m) → (verify ≡ true → stored_hash m ≡ hash) → IsRight verify tells t m
  hash_right verify asked hash some is stored u s held has = by verify hash some is stored
    where
      by : (v : Bool) (h : Option (List ℕ)) → is_some h ≡ v || asked → IfSome h (IsHashOf tells t m) → (v ≡ true → stored_hash m ≡ h) → cond v (unverified s) None ≡ None
      by false h some is stored = refl
      by true None some is stored = absurd (false≢true some)
      by true (Some text) some is stored = right_where tells t m u s held has text is (stored refl)

  pub hash_causes : (begun : Option (Result State ConvertError)) (from : IsHeldOf begun tells t m) (A : Type 0) (verify : Bool) (w : Options) (medium : Option (List ℕ)) (store now : ℕ) (e : StreamError) → IsEmpty medium → IsPlain w → HashCauses {A = A} verify tells t m store now (Err e) → StreamCauses w (tested_due verify begun) tells medium (Err e)
  hash_causes begun from A verify w medium store now StoreChanged empty plain c = (c, empty, plain)
  hash_causes begun from A verify w medium store now (Convert (StoreFault place)) empty plain c = (empty, plain)
  hash_causes begun from A verify w medium store now (Convert OutOfMemory) empty plain c = tt
  hash_causes begun from A verify w medium store now (Convert (Store place e)) empty plain c = (
    empty,
    plain,
    subst (λ p. IsRefused (tested_due verify begun) (Store p e)) (sym c.1)
        (hash_due verify begun from.state e from.is_due
        (λ b. let u = from.told b in ap (λ v. cond v (unverified from.state) None) c.0 ∙ refused_where tells t m u from.state from.held (from.has u) e c.2)),
    refusal_free tells t m e c.2,
  )
  hash_causes begun from A verify w medium store now (Convert _) empty plain c = absurd c
