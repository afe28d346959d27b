-- The steps of a look-up.
use Rattle.pm_format.proofs.Common.{ap, ends_at, Entry, false, Header, leaf_of, led, List, nat_eq, None, Ok, Reached, reached, refl, Result, scan, Some, suc, through, true, zero, ℕ, ◌∙◌, ◌≡◌}
use Rattle.pm_format.specs.declared.error.PmtError.{PmtError}

pub led_leaf : {A : Type 0} (leaf tile : Entry → A) (none : A) (e : Entry) → nat_eq e.run_length 0 ≡ true → led leaf tile none (Some e) ≡ leaf e
led_leaf leaf tile none e is = ap (λ test. elim test [ true ↦ leaf e | false ↦ tile e ]) is

pub led_tile : {A : Type 0} (leaf tile : Entry → A) (none : A) (e : Entry) → nat_eq e.run_length 0 ≡ false → led leaf tile none (Some e) ≡ tile e
led_tile leaf tile none e is = ap (λ test. elim test [ true ↦ leaf e | false ↦ tile e ]) is

abbrev Onward : ℕ → Header → List ℕ → ℕ → Result (List Entry) PmtError → Reached
Onward n h b t l = through (λ leaf. reached n h b t (scan leaf t)) l

-- nothing was found
pub reached_none : (n : ℕ) (h : Header) (b : List ℕ) (t : ℕ) → reached n h b t None ≡ ends_at (Ok None)
unfolding reached
reached_none zero h b t = refl
reached_none (suc n) h b t = refl

-- a tile entry
pub reached_tile : (n : ℕ) (h : Header) (b : List ℕ) (t : ℕ) (e : Entry) → nat_eq e.run_length 0 ≡ false → reached n h b t (Some e) ≡ ends_at (Ok (Some e))
unfolding reached
reached_tile zero h b t e tile = led_tile (λ f. ends_at (Ok None)) (λ f. ends_at (Ok (Some f))) (ends_at (Ok None)) e tile
reached_tile (suc n) h b t e tile = led_tile (λ f. Onward n h b t (leaf_of h b f)) (λ f. ends_at (Ok (Some f))) (ends_at (Ok None)) e tile

-- a leaf entry where no leaf is left to be read
pub reached_last : (h : Header) (b : List ℕ) (t : ℕ) (e : Entry) → nat_eq e.run_length 0 ≡ true → reached 0 h b t (Some e) ≡ ends_at (Ok None)
unfolding reached
reached_last h b t e leaf = led_leaf (λ f. ends_at (Ok None)) (λ f. ends_at (Ok (Some f))) (ends_at (Ok None)) e leaf

-- a leaf entry whose leaf reads so
pub reached_leaf : (n : ℕ) (h : Header) (b : List ℕ) (t : ℕ) (e : Entry) (l : Result (List Entry) PmtError) → nat_eq e.run_length 0 ≡ true → leaf_of h b e ≡ l
    → reached (suc n) h b t (Some e) ≡ through (λ leaf. reached n h b t (scan leaf t)) l
unfolding reached
reached_leaf n h b t e l leaf is = led_leaf (λ f. Onward n h b t (leaf_of h b f)) (λ f. ends_at (Ok (Some f))) (ends_at (Ok None)) e leaf ∙ ap (Onward n h b t) is
