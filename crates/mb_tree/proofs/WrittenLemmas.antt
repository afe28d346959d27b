-- Files that are written one after another, each under a path of its own.
use Rattle.mb_tree.proofs.Common.{ap, Bool, by_order, cond, cons_option, eq_by_cmp, Equal, Equal-is, false, File, Files, filter_map, find, get, get-insert, Greater, insert, is_eq, is_some}
use Rattle.mb_tree.proofs.Common.{IsAntisymmetric, IsTotalOrder, Less, List, nat_cmp, nat_cmp-IsAntisymmetric, nat_list_cmp_total, None, Option, option_map, Ordering, put, refl, same_map, slice_cmp}
use Rattle.mb_tree.proofs.Common.{slice_cmp-IsAntisymmetric, Some, sym, tied_itself, true, written, ℕ, [], ◌∙◌, ◌∷◌, ◌≡◌, ◌≢◌}

abbrev pub by_bytes : List ℕ → List ℕ → Ordering
by_bytes = slice_cmp nat_cmp

pub tied_same : (p q : List ℕ) → eq_by_cmp by_bytes p q ≡ true → p ≡ q
tied_same p q e = slice_cmp-IsAntisymmetric nat_cmp-IsAntisymmetric p q ((Equal-is (by_bytes p q)).0 e)

swapped : {A : Type 0} (a b : Bool) (x y z : A) → (a ≡ true → b ≡ true → ⊥) → cond a x (cond b y z) ≡ cond b y (cond a x z)
swapped true true x y z apart = absurd (apart refl refl)
swapped false true x y z apart = refl
swapped _ _ x y z apart = refl

swap : (m : Files) (p q a b : List ℕ) → p ≢ q → insert (insert m p a) q b ≡ insert (insert m q b) p a
swap m p q a b apart = same_map nat_list_cmp_total (slice_cmp-IsAntisymmetric nat_cmp-IsAntisymmetric) _ _ (λ x.
    get-insert nat_list_cmp_total (insert m p a) q b x
    ∙ (ap (cond (eq_by_cmp by_bytes x q) (Some b)) (get-insert nat_list_cmp_total m p a x)
    ∙ (swapped (eq_by_cmp by_bytes x q) (eq_by_cmp by_bytes x p) (Some b) (Some a) (get m x) (λ e f. apart (sym (tied_same x p f) ∙ tied_same x q e))
    ∙ sym (get-insert nat_list_cmp_total (insert m q b) p a x ∙ ap (cond (eq_by_cmp by_bytes x p) (Some a)) (get-insert nat_list_cmp_total m q b x)))))

-- the files of entries, each under the path of its key
module _ {K : Type 0} {R : K → K → Ordering} (o : IsTotalOrder R) (same : IsAntisymmetric R) (path : K → List ℕ) where
  abbrev pub file_at : K × Option (List ℕ) → Option File
  file_at e = option_map (λ bytes. (path e.0, bytes)) e.1

  abbrev Others : K → List (K × Option (List ℕ)) → Type 0
  Others k es = (q : K) → is_some (find R q es) ≡ true → path q ≢ path k

  found_first : (e : K × Option (List ℕ)) (es : List (K × Option (List ℕ))) → is_some (find R e.0 (e ∷ es)) ≡ true
  found_first e es = ap (λ r. is_some (cond (is_eq r) (Some e.1) (find R e.0 es))) (tied_itself o e.0)

  either_way : (b : Bool) (v : Option (List ℕ)) (found : Option (Option (List ℕ))) → is_some found ≡ true → is_some (cond b (Some v) found) ≡ true
  either_way true v found h = refl
  either_way false v found h = h

  others_rest : (k : K) (e : K × Option (List ℕ)) (es : List (K × Option (List ℕ))) → Others k (e ∷ es) → Others k es
  others_rest k e es h = λ q found. h q (either_way (eq_by_cmp R q e.0) e.1 (find R q es) found)

  -- a file of another path is written before or after them
  before_or_after : (m : Files) (k : K) (bytes : List ℕ) (es : List (K × Option (List ℕ))) → Others k es → written (insert m (path k) bytes) (filter_map file_at es) ≡ insert (written m (filter_map file_at es)) (path k) bytes
  before_or_after m k bytes [] h = refl
  before_or_after m k bytes (e ∷ es) h = by e.1 (λ n. before_or_after n k bytes es (others_rest k e es h))
    where
      by : (v : Option (List ℕ)) → ((n : Files) → written (insert n (path k) bytes) (filter_map file_at es) ≡ insert (written n (filter_map file_at es)) (path k) bytes)
          → written (insert m (path k) bytes) (cons_option (option_map (λ b. (path e.0, b)) v) (filter_map file_at es)) ≡ insert (written m (cons_option (option_map (λ b. (path e.0, b)) v) (filter_map file_at es))) (path k) bytes
      by None rest = rest m
      by (Some b) rest = ap (λ (n : Files). written n (filter_map file_at es)) (swap m (path k) (path e.0) bytes b (λ p. h e.0 (found_first e es) (sym p))) ∙ rest (insert m (path e.0) b)

  -- one more entry is one more file, wherever its key stands among the others
  pub put_one : (m : Files) (k : K) (bytes : List ℕ) (es : List (K × Option (List ℕ))) → Others k es → written m (filter_map file_at (put R k (Some bytes) es)) ≡ insert (written m (filter_map file_at es)) (path k) bytes
  put_one m k bytes [] h = refl
  put_one m k bytes (e ∷ es) h = by (R k e.0) refl e.1 (λ n. put_one n k bytes es (others_rest k e es h))
    where
      by : (r : Ordering) → R k e.0 ≡ r → (v : Option (List ℕ)) → ((n : Files) → written n (filter_map file_at (put R k (Some bytes) es)) ≡ insert (written n (filter_map file_at es)) (path k) bytes)
          → written m (filter_map file_at (by_order r ((k, Some bytes) ∷ e ∷ es) ((e.0, Some bytes) ∷ es) (e ∷ put R k (Some bytes) es))) ≡ insert (written m (filter_map file_at (e ∷ es))) (path k) bytes
      by Less at v rest = before_or_after m k bytes (e ∷ es) h
      by Equal at v rest = absurd (h e.0 (found_first e es) (ap path (sym (same k e.0 at))))
      by Greater at v rest = later e.1
        where
          later : (v : Option (List ℕ)) → written m (cons_option (option_map (λ b. (path e.0, b)) v) (filter_map file_at (put R k (Some bytes) es))) ≡ insert (written m (cons_option (option_map (λ b. (path e.0, b)) v) (filter_map file_at es))) (path k) bytes
          later None = rest m
          later (Some b) = rest (insert m (path e.0) b)
