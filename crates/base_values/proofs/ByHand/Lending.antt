-- A `&mut` that a call borrows for less than its own lifetime, and has again afterwards. Assumes `Logic`.
--     Loan, lends_within      the loan under a new name, the token of its lifetime, and the way back
--                             from what the call leaves
--     gives_back              the reference again, at the last value of the loan
use Rattle.base_values.proofs.Common.{all, all_e, apply∗, assume, await, by, done, each, ent, fdead, flft, frame, fres, GName, later, Lft, Lifetime, Logic, move, MutBor, MutRef, pick, qed, RattleType}
use Rattle.base_values.proofs.Common.{raw, sem, sep, Share, show, split, SProp, updating, Ura, use1, use2, use3, vptr, wand, !, [], ‵, ◌$◌, ◌∵◌, ◌∷◌, ◌⊛◌}
use Prim.Native.Nat.{ℕ}
use base.Fraction.{full_share}
use base.FractionLaws.{common}
use base.Share
use types.Kit.{some, now as at_once}
use types.Tokens.{lft_new, lft_end, lft-common}
use contract.BorrowLft.{meet_⊑_left}
use denote.Lend.{LentAgain, lends_again, comes_back}

module _ {M : Type 1} {𝓤 : Ura M} (𝓛 : Logic 𝓤) (R : RattleType) (ℓ : Lifetime) (κ : Lft) (q : Share) (r : MutBor R.Denot) where
  open 𝓛 use {H, A}

  abbrev b : ℕ
  b = r.ref_ptr.0

  abbrev o : ℕ
  o = r.ref_ptr.1

  -- the reference at a value
  abbrev pub Own : R.Denot → SProp 𝓤
  Own y = sem 𝓛 ((MutRef ℓ κ R).own_val (record { ref_ptr = (b, o); ghost_name = r.ghost_name; now = y }) (vptr b o ∷ []))

  abbrev Home : ℕ × GName × Share → R.Denot → SProp 𝓤
  Home n y = wand 𝓤 (A.lft (n.0 ∷ κ) n.2) (wand 𝓤 (A.res n.1 (R.coded.code y)) (H.⇛ (sep 𝓤 (Own y) (A.lft κ q))))

  abbrev pub Back : ℕ × GName × Share → SProp 𝓤
  Back n = all 𝓤 (Home n)

  abbrev pub Loan : ℕ × GName × Share → SProp 𝓤
  Loan n = sep 𝓤 (sem 𝓛 ((MutRef ℓ (n.0 ∷ κ) R).own_val (record { ref_ptr = (b, o); ghost_name = n.1; now = r.now }) (vptr b o ∷ []))) (sep 𝓤 (A.lft (n.0 ∷ κ) n.2) (Back n))

  pub lends_within : ent 𝓤 (sep 𝓤 (Own r.now) (A.lft κ q)) (H.⇛ (base.Logic.ex 𝓤 Loan))
  lends_within =
      let l : Share = Share.left q in let h : Share = Share.right q in
      qed 𝓛 (raw (Own r.now) ∷ ‵ (flft κ q) ∷ []) ∵ updating ! $ move ! (1 ∷ []) $
      use1 𝓛 (‵ (flft κ l) ⊛ ‵ (flft κ h)) (𝓛.lfts.lft_split κ q) $ split ! $ lft_new ! tt (λ α.
      let s : Share = (common full_share h).0 in let Whole : SProp 𝓤 = sep 𝓤 (A.lft (α ∷ []) full_share) (A.lft κ h) in
      move ! (0 ∷ 2 ∷ []) $ use2 𝓛 (‵ (flft (α ∷ κ) s) ⊛ raw (wand 𝓤 (A.lft (α ∷ κ) s) Whole)) (lft-common 𝓛 (α ∷ []) κ full_share h) $ split ! $
      -- [the token of the loan's lifetime; the way back to its parts; half of the token; the reference]
      move ! (3 ∷ 2 ∷ []) $
      use2 𝓛 (later (some (λ (δ : GName). ‵ ((MutRef ℓ (α ∷ κ) R).own_val (record { ref_ptr = (b, o); ghost_name = δ; now = r.now }) (vptr b o ∷ [])) ⊛ ‵ (LentAgain R κ (α ∷ κ) l r.ghost_name b o δ r.now))))
      (lends_again 𝓛 R ℓ κ (α ∷ κ) l r.ghost_name b o ℓ r.now) $ await ! tt $ pick ! (λ δ. split ! $ at_once ! $ show ! Loan (α, δ, s) $ frame ! $ move ! (1 ∷ []) $ frame ! $
      each ! (Home (α, δ, s)) (λ y. assume ! (‵ (flft (α ∷ κ) s)) $ assume ! (‵ (fres δ (R.coded.code y))) $ updating ! $
      -- [the loan's last value; the token; what the lender keeps; the way back]
      move ! (1 ∷ 3 ∷ []) $ use2 𝓛 (‵ (flft (α ∷ []) full_share) ⊛ ‵ (flft κ h)) (apply∗ 𝓤 (A.lft (α ∷ κ) s) Whole) $ split ! $ lft_end ! tt $
      use1 𝓛 (‵ (fdead (α ∷ κ))) (𝓛.lfts.dead-incl (α ∷ κ) (α ∷ []) (meet_⊑_left (α ∷ []) κ)) $ move ! (0 ∷ 3 ∷ 2 ∷ []) $
      use3 𝓛 (later (raw (Own y) ⊛ ‵ (flft κ l))) (comes_back 𝓛 R ℓ κ (α ∷ κ) l r.ghost_name b o δ r.now y) $ await ! tt $ split ! $
      move ! (1 ∷ 2 ∷ []) $ use2 𝓛 (‵ (flft κ q)) (𝓛.lfts.lft_join κ q) $ at_once ! $ move ! (1 ∷ 0 ∷ []) $ frame ! $ done !)))

  pub gives_back : (n : ℕ × GName × Share) (y : R.Denot) → ent 𝓤 (sep 𝓤 (A.lft (n.0 ∷ κ) n.2) (sep 𝓤 (A.res n.1 (R.coded.code y)) (Back n))) (H.⇛ (sep 𝓤 (Own y) (A.lft κ q)))
  gives_back n y =
      let After : SProp 𝓤 = H.⇛ (sep 𝓤 (Own y) (A.lft κ q)) in let Said : SProp 𝓤 = wand 𝓤 (A.res n.1 (R.coded.code y)) After in
      qed 𝓛 (‵ (flft (n.0 ∷ κ) n.2) ∷ ‵ (fres n.1 (R.coded.code y)) ∷ raw (Back n) ∷ []) ∵ move ! (2 ∷ []) $
      use1 𝓛 (raw (Home n y)) (all_e 𝓤 (Home n) y) $ move ! (1 ∷ 0 ∷ []) $ use2 𝓛 (raw Said) (apply∗ 𝓤 (A.lft (n.0 ∷ κ) n.2) Said) $
      move ! (1 ∷ 0 ∷ []) $ by ! (apply∗ 𝓤 (A.res n.1 (R.coded.code y)) After)
