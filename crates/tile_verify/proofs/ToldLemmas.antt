-- A walk over bytes that may be told.
use Rattle.tile_verify.proofs.Common.{ap, arith, Broken, end_before, Entry, Err, Header, IfSome, length, limits_break, List, Meets, Met, None, Ok, one_deeper, Option, place, ReadsIn, Reason, refl}
use Rattle.tile_verify.proofs.Common.{Result, Some, Spot, subst, suc, sym, tiles_below, VerifyError, walked, Walks, zero, ℕ, [], ◌+◌, ◌-◌, ◌∙◌, ◌∷◌, ◌≡◌, ◌≢◌, ◌≤◌}
use Rattle.tile_verify.proofs.WalkingLemmas.{SoFar, all_gone, begun, not_within, past_leaf, past_tile, stopped, stopped_below}

-- what a walk answers, and how often it reads
abbrev pub Ends : Option (List ℕ) → Header → Spot → ℕ → ℕ → ℕ → List Entry → Met → Met → ℕ → ℕ → Result Unit VerifyError → Type 0
Ends told h at left low limit es old new before reads result =
    IfSome told (λ b. Walks (walked left h b at low limit es) (tiles_below left h b es) old new result) × IfSome told (λ b. ReadsIn {A = Unit} (walked left h b at low limit es) before reads result)

-- what was walked so far, over bytes that may be told
abbrev pub Goes : Option (List ℕ) → Header → Spot → ℕ → ℕ → List Entry → List Entry → Met → Met → ℕ → ℕ → Type 0
Goes told h at left limit es rest old now before reads = IfSome told (λ b. SoFar h b at left limit es rest old now before reads)

pub told_not_within : (told : Option (List ℕ)) (h : Header) (at : Spot) (left low limit : ℕ) (es dir : List Entry) (old new : Met) (index : ℕ) (why : Reason) (o : Option (ℕ × Reason)) (e : VerifyError) → es ≡ dir
    → o ≡ limits_break None low limit 0 es → o ≡ Some (index, why) → e ≡ Broken (place at index) why old.directories → Ends told h at left low limit dir old new 0 0 (Err e)
told_not_within None h at left low limit es dir old new index why o e same tested found is = (tt, tt)
told_not_within (Some b) h at left low limit es dir old new index why o e same tested found is =
    let x = not_within h b at left low limit dir old 0 index why (ap (limits_break None low limit 0) (sym same) ∙ sym tested ∙ found) in
    (subst (λ f. Walks (walked left h b at low limit dir) (tiles_below left h b dir) old new (Err f)) (sym is) x.0, subst (λ f. ReadsIn {A = Unit} (walked left h b at low limit dir) 0 0 (Err f)) (sym is) x.1)

pub told_begun : (told : Option (List ℕ)) (h : Header) (at : Spot) (left limit : ℕ) (es : List Entry) (old : Met) (before : ℕ) → Goes told h at left limit es es old old before before
told_begun None h at left limit es old before = tt
told_begun (Some b) h at left limit es old before = begun h b at left limit es old before

pub told_past_tile : (told again : Option (List ℕ)) (h : Header) (at : Spot) (left limit : ℕ) (es rest : List Entry) (e : Entry) (others : List Entry) (old mid now : Met) (before between reads index : ℕ) (r : Result (Option (List Entry)) VerifyError)
    → again ≡ told → rest ≡ e ∷ others → length rest ≤ length es → index ≡ length es - length rest → r ≡ Ok None
    → Goes told h at left limit es rest old mid before between → IfSome again (λ b. Meets h b at index e left mid now r) → reads ≤ between + 1
    → Goes told h at left limit es others old now before reads
told_past_tile None again h at left limit es rest e others old mid now before between reads index r same first fits place is s m most = tt
told_past_tile (Some b) again h at left limit es rest e others old mid now before between reads index r same first fits place is s m most =
    let t : SoFar h b at left limit es (e ∷ others) old mid before between = subst (λ l. SoFar h b at left limit es l old mid before between) first s in
    let n : Meets h b at (length es - length (e ∷ others)) e left mid now (Ok None) =
    subst (λ i. Meets h b at i e left mid now (Ok None)) (place ∙ ap (λ l. length es - length l) first) (subst (λ x. Meets h b at index e left mid now x) is (subst (λ a. IfSome a (λ c. Meets h c at index e left mid now r)) same m)) in
    past_tile h b at left limit es e others old mid now before between reads (subst (λ l. length l ≤ length es) first fits) t n most

pub told_stopped : (told again : Option (List ℕ)) (h : Header) (at : Spot) (left low limit : ℕ) (es rest dir : List Entry) (e : Entry) (others : List Entry) (old mid now new : Met) (before between reads index : ℕ) (r : Result (Option (List Entry)) VerifyError) (x : VerifyError)
    → again ≡ told → es ≡ dir → rest ≡ e ∷ others → index ≡ length es - length rest → r ≡ Err x → limits_break None low limit 0 es ≡ None
    → Goes told h at left limit es rest old mid before between → IfSome again (λ b. Meets h b at index e left mid now r) → reads ≤ between + 1
    → Ends told h at left low limit dir old new before reads (Err x)
told_stopped None again h at left low limit es rest dir e others old mid now new before between reads index r x same is_dir first place is within s m most = (tt, tt)
told_stopped (Some b) again h at left low limit es rest dir e others old mid now new before between reads index r x same is_dir first place is within s m most =
    let t : SoFar h b at left limit es (e ∷ others) old mid before between = subst (λ l. SoFar h b at left limit es l old mid before between) first s in
    let n : Meets h b at (length es - length (e ∷ others)) e left mid now (Err x) =
    subst (λ i. Meets h b at i e left mid now (Err x)) (place ∙ ap (λ l. length es - length l) first) (subst (λ y. Meets h b at index e left mid now y) is (subst (λ a. IfSome a (λ c. Meets h c at index e left mid now r)) same m)) in
    let ends = stopped h b at left low limit es e others old mid new before between reads x within t (n (end_before others limit)) (omega (arith, most)) in
    subst (λ d. Walks (walked left h b at low limit d) (tiles_below left h b d) old new (Err x) × ReadsIn {A = Unit} (walked left h b at low limit d) before reads (Err x)) is_dir ends

pub told_all_gone : (told : Option (List ℕ)) (h : Header) (at : Spot) (left low limit : ℕ) (es rest dir : List Entry) (old now : Met) (before reads : ℕ) → es ≡ dir → length rest ≡ 0 → limits_break None low limit 0 es ≡ None
    → Goes told h at left limit es rest old now before reads → Ends told h at left low limit dir old now before reads (Ok tt)
told_all_gone None h at left low limit es rest dir old now before reads is_dir empty within s = (tt, tt)
told_all_gone (Some b) h at left low limit es [] dir old now before reads is_dir empty within s =
    subst (λ d. Walks (walked left h b at low limit d) (tiles_below left h b d) old now (Ok tt) × ReadsIn {A = Unit} (walked left h b at low limit d) before reads (Ok tt)) is_dir (all_gone h b at left low limit es old now before reads within s)
told_all_gone (Some b) h at left low limit es (e ∷ rest) dir old now before reads is_dir empty within s = absurd (omega (arith, empty))

-- a leaf that was read, and its walk: the facts that both of its ends use
pub record Below (told again last : Option (List ℕ)) (h : Header) (at : Spot) (left limit : ℕ) (es rest : List Entry) (e : Entry) (others leaf : List Entry) (old mid read now : Met) (before between after_leaf reads index : ℕ)
    (deeper : Spot) (id end fewer : ℕ) (r : Result (Option (List Entry)) VerifyError) (w : Result Unit VerifyError) : Type 0 where
  pub same : again ≡ told
  pub kept : last ≡ told
  pub first : rest ≡ e ∷ others
  pub fits : length rest ≤ length es
  pub place : index ≡ length es - length rest
  pub is : r ≡ Ok (Some leaf)
  pub deep : left ≢ 0
  pub fewer_is : fewer ≡ left - 1
  pub deeper_is : deeper ≡ one_deeper at e
  pub id_is : id ≡ e.tile_id
  pub end_is : end ≡ end_before others limit
  pub goes : Goes told h at left limit es rest old mid before between
  pub meets : IfSome again (λ b. Meets h b at index e left mid read r)
  pub one : after_leaf ≤ between + 1
  pub walks : IfSome last (λ b. Walks (walked fewer h b deeper id end leaf) (tiles_below fewer h b leaf) read now w)
  pub more : IfSome last (λ b. ReadsIn {A = Unit} (walked fewer h b deeper id end leaf) after_leaf reads w)

-- the same over told bytes, with each name in its place
record Placed (b : List ℕ) (h : Header) (at : Spot) (n limit : ℕ) (es : List Entry) (e : Entry) (others leaf : List Entry) (old mid read now : Met) (before between after_leaf reads : ℕ) (w : Result Unit VerifyError) : Type 0 where
  pub fits : length (e ∷ others) ≤ length es
  pub goes : SoFar h b at (suc n) limit es (e ∷ others) old mid before between
  pub meets : Meets h b at (length es - length (e ∷ others)) e (suc n) mid read (Ok (Some leaf))
  pub walks : Walks (walked n h b (one_deeper at e) e.tile_id (end_before others limit) leaf) (tiles_below n h b leaf) read now w
  pub more : ReadsIn {A = Unit} (walked n h b (one_deeper at e) e.tile_id (end_before others limit) leaf) after_leaf reads w

placed : (b : List ℕ) (again last : Option (List ℕ)) (h : Header) (at : Spot) (n limit : ℕ) (es rest : List Entry) (e : Entry) (others leaf : List Entry) (old mid read now : Met) (before between after_leaf reads index : ℕ)
    (deeper : Spot) (id end fewer : ℕ) (r : Result (Option (List Entry)) VerifyError) (w : Result Unit VerifyError)
    → Below (Some b) again last h at (suc n) limit es rest e others leaf old mid read now before between after_leaf reads index deeper id end fewer r w
    → Placed b h at n limit es e others leaf old mid read now before between after_leaf reads w
placed b again last h at n limit es rest e others leaf old mid read now before between after_leaf reads index deeper id end fewer r w s =
    let less : suc n - 1 ≡ n = omega arith in
    let fewer_is : fewer ≡ n = s.fewer_is ∙ less in
    record {
      fits = subst (λ l. length l ≤ length es) s.first s.fits;
      goes = subst (λ l. SoFar h b at (suc n) limit es l old mid before between) s.first s.goes;
      meets = subst (λ i. Meets h b at i e (suc n) mid read (Ok (Some leaf))) (s.place ∙ ap (λ l. length es - length l) s.first)
          (subst (λ x. Meets h b at index e (suc n) mid read x) s.is (subst (λ a. IfSome a (λ c. Meets h c at index e (suc n) mid read r)) s.same s.meets));
      walks = subst (λ k. Walks (walked k h b (one_deeper at e) e.tile_id (end_before others limit) leaf) (tiles_below k h b leaf) read now w) fewer_is
          (subst (λ d. Walks (walked fewer h b d e.tile_id (end_before others limit) leaf) (tiles_below fewer h b leaf) read now w) s.deeper_is
          (subst (λ i. Walks (walked fewer h b deeper i (end_before others limit) leaf) (tiles_below fewer h b leaf) read now w) s.id_is
          (subst (λ i. Walks (walked fewer h b deeper id i leaf) (tiles_below fewer h b leaf) read now w) s.end_is
          (subst (λ a. IfSome a (λ c. Walks (walked fewer h c deeper id end leaf) (tiles_below fewer h c leaf) read now w)) s.kept s.walks))));
      more = subst (λ k. ReadsIn {A = Unit} (walked k h b (one_deeper at e) e.tile_id (end_before others limit) leaf) after_leaf reads w) fewer_is
          (subst (λ d. ReadsIn {A = Unit} (walked fewer h b d e.tile_id (end_before others limit) leaf) after_leaf reads w) s.deeper_is
          (subst (λ i. ReadsIn {A = Unit} (walked fewer h b deeper i (end_before others limit) leaf) after_leaf reads w) s.id_is
          (subst (λ i. ReadsIn {A = Unit} (walked fewer h b deeper id i leaf) after_leaf reads w) s.end_is
          (subst (λ a. IfSome a (λ c. ReadsIn {A = Unit} (walked fewer h c deeper id end leaf) after_leaf reads w)) s.kept s.more))));
    }

pub told_past_leaf : (told again last : Option (List ℕ)) (h : Header) (at : Spot) (left limit : ℕ) (es rest : List Entry) (e : Entry) (others leaf : List Entry) (old mid read now : Met) (before between after_leaf reads index : ℕ)
    (deeper : Spot) (id end fewer : ℕ) (r : Result (Option (List Entry)) VerifyError)
    → Below told again last h at left limit es rest e others leaf old mid read now before between after_leaf reads index deeper id end fewer r (Ok tt)
    → Goes told h at left limit es others old now before reads
told_past_leaf None again last h at left limit es rest e others leaf old mid read now before between after_leaf reads index deeper id end fewer r s = tt
told_past_leaf (Some b) again last h at zero limit es rest e others leaf old mid read now before between after_leaf reads index deeper id end fewer r s = absurd (s.deep refl)
told_past_leaf (Some b) again last h at (suc n) limit es rest e others leaf old mid read now before between after_leaf reads index deeper id end fewer r s =
    let p = placed b again last h at n limit es rest e others leaf old mid read now before between after_leaf reads index deeper id end fewer r (Ok tt) s in
    past_leaf h b at n limit es e others leaf old mid read now before between after_leaf reads p.fits p.goes p.meets s.one p.walks p.more

pub told_stopped_below : (told again last : Option (List ℕ)) (h : Header) (at : Spot) (left low limit : ℕ) (es rest dir : List Entry) (e : Entry) (others leaf : List Entry) (old mid read now new : Met) (before between after_leaf reads index : ℕ)
    (deeper : Spot) (id end fewer : ℕ) (r : Result (Option (List Entry)) VerifyError) (x : VerifyError) → es ≡ dir → limits_break None low limit 0 es ≡ None
    → Below told again last h at left limit es rest e others leaf old mid read now before between after_leaf reads index deeper id end fewer r (Err x)
    → Ends told h at left low limit dir old new before reads (Err x)
told_stopped_below None again last h at left low limit es rest dir e others leaf old mid read now new before between after_leaf reads index deeper id end fewer r x is_dir within s = (tt, tt)
told_stopped_below (Some b) again last h at zero low limit es rest dir e others leaf old mid read now new before between after_leaf reads index deeper id end fewer r x is_dir within s = absurd (s.deep refl)
told_stopped_below (Some b) again last h at (suc n) low limit es rest dir e others leaf old mid read now new before between after_leaf reads index deeper id end fewer r x is_dir within s =
    let p = placed b again last h at n limit es rest e others leaf old mid read now before between after_leaf reads index deeper id end fewer r (Err x) s in
    let ends = stopped_below h b at n low limit es e others leaf old mid read new before between after_leaf reads x within p.goes p.meets s.one p.walks p.more in
    subst (λ d. Walks (walked (suc n) h b at low limit d) (tiles_below (suc n) h b d) old new (Err x) × ReadsIn {A = Unit} (walked (suc n) h b at low limit d) before reads (Err x)) is_dir ends
