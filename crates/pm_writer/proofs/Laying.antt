-- What a layout is: a flat root, or one that names leaves or upper directories.
use Rattle.pm_writer.proofs.Common.{AllAtMost, AllSome, ap, arith, Bool, cut, dir_bytes, drop, end_of, Entry, false, fits_root, found_uppers, inl, inr, joined, laid, Layout, length, length-take, List}
use Rattle.pm_writer.proofs.Common.{named_leaves, pieces, refl, root_of, stands_in_root, subst, suc, sym, true, zero, ℕ, [], ◌&&◌, ◌∙◌, ◌∷◌, ◌≡◌, ◌≤◌, ◌⊎◌}
use Rattle.pm_writer.proofs.Trying.{cut_by, tested, uppers_fit}
use Rattle.pm_writer.proofs.Walking.{cut_joined, cut_some}

pub laid_flat : (size : ℕ) (es : List Entry) → stands_in_root es ≡ true → laid size es ≡ record { root = es; leaves = []; uppers = [] }
laid_flat size es q = rw (q, laid) refl

laid_below : (size : ℕ) (es : List Entry) → stands_in_root es ≡ false → laid size es ≡ named_leaves size (pieces size es)
laid_below size es q = rw (q, laid) refl

named_fit : (size : ℕ) (ls : List (List Entry)) → fits_root (root_of 0 ls) ≡ true → named_leaves size ls ≡ record { root = root_of 0 ls; leaves = ls; uppers = [] }
named_fit size ls r = rw (r, named_leaves) refl

named_above : (size : ℕ) (ls : List (List Entry)) → fits_root (root_of 0 ls) ≡ false → (let us = found_uppers (end_of ls) size (root_of 0 ls) in named_leaves size ls ≡ record { root = root_of (end_of ls) us; leaves = ls; uppers = us })
named_above size ls r = rw (r, named_leaves) refl

pub laid_leaves : (size : ℕ) (es : List Entry) → stands_in_root es ≡ false → (let ls = pieces size es in fits_root (root_of 0 ls) ≡ true → laid size es ≡ record { root = root_of 0 ls; leaves = ls; uppers = [] })
laid_leaves size es q r = laid_below size es q ∙ named_fit size (pieces size es) r

pub laid_uppers : (size : ℕ) (es : List Entry) → stands_in_root es ≡ false
    → (let ls = pieces size es in let us = found_uppers (end_of ls) size (root_of 0 ls) in fits_root (root_of 0 ls) ≡ false → laid size es ≡ record { root = root_of (end_of ls) us; leaves = ls; uppers = us })
laid_uppers size es q r = laid_below size es q ∙ named_above size (pieces size es) r

-- the directories of tile entries below a root
pub record LeavesOf (most : ℕ) (es : List Entry) (l : Layout) : Type 0 where
  pub joins : joined l.leaves ≡ es
  pub some : AllSome l.leaves
  pub most_of : AllAtMost most l.leaves

pub record LaidFlat (es : List Entry) (l : Layout) : Type 0 where
  pub root : l.root ≡ es
  pub leaves : l.leaves ≡ []
  pub uppers : l.uppers ≡ []

pub record LaidLeaves (most : ℕ) (es : List Entry) (l : Layout) : Type 0 where
  pub of : LeavesOf most es l
  pub root : l.root ≡ root_of 0 l.leaves
  pub uppers : l.uppers ≡ []

pub record LaidUppers (most : ℕ) (es : List Entry) (l : Layout) : Type 0 where
  pub of : LeavesOf most es l
  pub root : l.root ≡ root_of (end_of l.leaves) l.uppers
  pub names : joined l.uppers ≡ root_of 0 l.leaves
  pub some : AllSome l.uppers

abbrev pub IsLaidAs : ℕ → List Entry → Layout → Type 0
IsLaidAs most es l = LaidFlat es l ⊎ (LaidLeaves most es l ⊎ LaidUppers most es l)

pub cut_most : (most n size : ℕ) (es : List Entry) → size ≤ most → AllAtMost most (cut n size es)
cut_most most zero size es h = tt
cut_most most (suc n) size [] h = tt
cut_most most (suc n) size (e ∷ es) h = (omega (arith, h, length-take size (e ∷ es)), cut_most most n size (drop size (e ∷ es)) h)

pub laid_as : (size : ℕ) (es : List Entry) → 5 ≤ size → IsLaidAs size es (laid size es)
laid_as size es h = flat (stands_in_root es) refl
  where
    ls : List (List Entry)
    ls = pieces size es

    of : (root : List Entry) (us : List (List Entry)) → LeavesOf size es (record { root = root; leaves = ls; uppers = us })
    of root us = record { joins = cut_joined (length es) size es (omega (arith, h)) (omega arith); some = cut_some (length es) size es (omega (arith, h)); most_of = cut_most size (length es) size es (omega arith) }

    below : (b : Bool) → stands_in_root es ≡ false → fits_root (root_of 0 ls) ≡ b → IsLaidAs size es (laid size es)
    below true q r = subst (IsLaidAs size es) (sym (laid_leaves size es q r)) (inr (inl (record { of = of (root_of 0 ls) []; root = refl; uppers = refl })))
    below false q r =
        let f = root_of 0 ls in
        let k = cut_by (length f) (end_of ls) size f (omega (arith, h)) in
        let us = found_uppers (end_of ls) size f in
        subst (IsLaidAs size es) (sym (laid_uppers size es q r)) (inr (inr (record {
          of = of (root_of (end_of ls) us) us;
          root = refl;
          names = ap joined k.2 ∙ cut_joined (length f) k.0 f k.1 (omega arith);
          some = subst AllSome (sym k.2) (cut_some (length f) k.0 f k.1);
        })))

    flat : (b : Bool) → stands_in_root es ≡ b → IsLaidAs size es (laid size es)
    flat true q = subst (IsLaidAs size es) (sym (laid_flat size es q)) (inl (record { root = refl; leaves = refl; uppers = refl }))
    flat false q = below (fits_root (root_of 0 ls)) q refl

and_second : (a b : Bool) → (a && b) ≡ true → b ≡ true
and_second true b h = h
and_second false b h = absurd (cc)

pub root_small : (size : ℕ) (es : List Entry) → 5 ≤ size → length (dir_bytes (laid size es).root) ≤ 16257
root_small size es h = flat (stands_in_root es) refl
  where
    ls : List (List Entry)
    ls = pieces size es

    below : (b : Bool) → stands_in_root es ≡ false → fits_root (root_of 0 ls) ≡ b → length (dir_bytes (laid size es).root) ≤ 16257
    below true q r = subst (λ l. length (dir_bytes l.root) ≤ 16257) (sym (laid_leaves size es q r)) (tested (length (dir_bytes (root_of 0 ls))) r)
    below false q r = subst (λ l. length (dir_bytes l.root) ≤ 16257) (sym (laid_uppers size es q r)) (uppers_fit (length (root_of 0 ls)) (end_of ls) size (root_of 0 ls) h (omega arith))

    flat : (b : Bool) → stands_in_root es ≡ b → length (dir_bytes (laid size es).root) ≤ 16257
    flat true q = subst (λ l. length (dir_bytes l.root) ≤ 16257) (sym (laid_flat size es q)) (tested (length (dir_bytes es)) (and_second _ _ q))
    flat false q = below (fits_root (root_of 0 ls)) q refl
