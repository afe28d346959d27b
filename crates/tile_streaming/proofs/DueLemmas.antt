-- What is due of a base and its patches, before and after the set is tested, and the words for refusals.
use Rattle.tile_streaming.proofs.Common.{ap, arith, Bool, cond, ConvertError, Coord, Err, false, IfSome, is_some, IsDue, IsEmpty, IsPlain, IsRefused, List, MbtError, None, Ok, Option, Options, overflows, PartLeaves, refl, Result, Rose, RoseAt, Some, State, StreamCauses, StreamError, StreamReport, subst, suc, tested_due, true, zero, ℕ, [], ◌∙◌, ◌∷◌, ◌≡◌, ◌≤◌}
use Rattle.tile_bridge.specs.Outcome.{tested, then, unless_wrong, unverified}
use Rattle.tile_bridge.specs.Stores.{Refuses}
use Rattle.tile_bridge.specs.declared.error.ConvertError.TheVariants.{IndexEntryOverflow, Store}
use Rattle.tile_bridge.specs.declared.error.ConvertError.TheVariants as fault
use Rattle.tile_streaming.specs.Streaming.{TestCauses}
use Rattle.tile_streaming.specs.declared.error.StreamError.TheVariants.{Convert}

module _ (verify : Bool) (begun : Option (Result State ConvertError)) where
  module _ (s : State) (is : IsDue begun s) (right : is_some begun ≡ true → cond verify (unverified s) None ≡ None) where
    comes_to : (r : Result State ConvertError) → cond (overflows s.tiles) (Err IndexEntryOverflow) (Ok s) ≡ r → IfSome (tested_due verify begun) (λ d. d ≡ r)
    comes_to r size = by begun is right
      where
        by : (b : Option (Result State ConvertError)) → IsDue b s → (is_some b ≡ true → cond verify (unverified s) None ≡ None) → IfSome (tested_due verify b) (λ d. d ≡ r)
        by (Some d) i v = ap (λ x. then x (tested verify)) i ∙ (ap (unless_wrong s) (v refl) ∙ size)
        by None i v = tt

    pub state_due : overflows s.tiles ≡ false → IsDue (tested_due verify begun) s
    state_due size = comes_to (Ok s) (ap (λ b. cond b (Err IndexEntryOverflow) (Ok s)) size)

    pub overflow_due : overflows s.tiles ≡ true → IsRefused (tested_due verify begun) IndexEntryOverflow
    overflow_due size = comes_to (Err IndexEntryOverflow) (ap (λ b. cond b (Err IndexEntryOverflow) (Ok s)) size)

  -- a hash that is refused
  pub hash_due : (s : State) (e : MbtError) → IsDue begun s → (is_some begun ≡ true → cond verify (unverified s) None ≡ Some e) → IsRefused (tested_due verify begun) (Store 0 e)
  hash_due s e is wrong = by begun is wrong
    where
      by : (b : Option (Result State ConvertError)) → IsDue b s → (is_some b ≡ true → cond verify (unverified s) None ≡ Some e) → IsRefused (tested_due verify b) (Store 0 e)
      by (Some d) i w = ap (λ x. then x (tested verify)) i ∙ ap (unless_wrong s) (w refl)
      by None i w = tt

  -- a refusal before the tests
  refused_due : (e : ConvertError) → IsRefused begun e → IsRefused (tested_due verify begun) e
  refused_due e h = by begun h
    where
      by : (b : Option (Result State ConvertError)) → IsRefused b e → IsRefused (tested_due verify b) e
      by (Some d) i = ap (λ x. then x (tested verify)) i
      by None i = tt

  pub set_refused : (w : Options) (tells : Bool) (told : Option (List ℕ)) (e : ConvertError) → IsEmpty told → IsPlain w → Refuses begun e → StreamCauses w (tested_due verify begun) tells told (Err (Convert e))
  set_refused w tells told (Store place e) empty plain h = (empty, plain, refused_due (Store place e) h.0, h.1)
  set_refused w tells told IndexEntryOverflow empty plain h = (empty, plain, refused_due IndexEntryOverflow h)
  set_refused w tells told (fault.StoreFault place) empty plain h = (empty, plain)
  set_refused w tells told fault.OutOfMemory empty plain h = tt
  set_refused w tells told _ empty plain h = absurd h

-- what is due of a base and its patches, once the set is tested
then_then : (r : Result State ConvertError) (f g : State → Result State ConvertError) → then r (λ s. then (f s) g) ≡ then (then r f) g
then_then (Ok s) f g = refl
then_then (Err e) f g = refl

pub due_tested : (all : Bool) (r : Result State ConvertError) (f : State → Result State ConvertError) (verify : Bool) → cond all (Some (then r (λ s. then (f s) (tested verify)))) None ≡ tested_due verify (cond all (Some (then r f)) None)
due_tested true r f verify = ap Some (then_then r f (tested verify))
due_tested false r f verify = refl

-- what is said of a store that was only read is said of it as it was before
module _ (due : Option (Result State ConvertError)) (tells tells_now : Bool) (same : tells_now ≡ tells) where
  pub causes_moved : (w : Options) (m : Option (List ℕ)) (r : Result StreamReport StreamError) → StreamCauses w due tells_now m r → StreamCauses w due tells m r
  causes_moved w m r h = subst (λ b. StreamCauses w due b m r) same h

  pub leaves_moved : (part : Option (List (ℕ × ℕ))) (gives : State → Options → Type 0) (coords : List Coord) (r : Result StreamReport StreamError) (old new : Option (List ℕ)) → PartLeaves part gives due tells_now coords r old new → PartLeaves part gives due tells coords r old new
  leaves_moved part gives coords r old new h = subst (λ b. PartLeaves part gives due b coords r old new) same h

-- a count that rose since, rose from before
pub rose_more : (place a b c : ℕ) → a ≤ b → RoseAt place (b ∷ []) (c ∷ []) → RoseAt place (a ∷ []) (c ∷ [])
rose_more zero a b c order rose = omega (arith, order, rose)
rose_more (suc place) a b c order rose = rose

-- the words for refusals of stores
pub no_medium : (due : Option (Result State ConvertError)) (e : ConvertError) → Refuses due e → e ≡ fault.MediumFault → ⊥
no_medium due e h is = subst (Refuses due) is h

-- tests of the medium and of the label
pub test_refused : (w : Options) (due : Option (Result State ConvertError)) (tells : Bool) (told : Option (List ℕ)) (m mn : ℕ) (e : ConvertError) → TestCauses {A = Unit {0}} w told m mn (Err e) → StreamCauses w due tells told (Err (Convert e))
test_refused w due tells told m mn fault.MediumFault c = tt
test_refused w due tells told m mn (fault.MediumNotEmpty n) c = c
test_refused w due tells told m mn (fault.UnsupportedCompression label) c = c
test_refused w due tells told m mn _ c = absurd c

pub test_rose : (w : Options) (told : Option (List ℕ)) (m mn : ℕ) (e : ConvertError) → e ≡ fault.MediumFault → TestCauses {A = Unit {0}} w told m mn (Err e) → Rose m mn
test_rose w told m mn e is c = subst (λ x. TestCauses {A = Unit {0}} w told m mn (Err x)) is c

pub test_no_store : (w : Options) (told : Option (List ℕ)) (m mn : ℕ) (e : ConvertError) (place : ℕ) → e ≡ fault.StoreFault place → TestCauses {A = Unit {0}} w told m mn (Err e) → ⊥
test_no_store w told m mn e place is c = subst (λ x. TestCauses {A = Unit {0}} w told m mn (Err x)) is c
