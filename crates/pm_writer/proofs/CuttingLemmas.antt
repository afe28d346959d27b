-- Directories cut one after another.
use Rattle.pm_writer.proofs.Common.{All, AllShort, AllSome, ap, append-nil, append_assoc, AreDirectories, arith, Bool, cut, dir_bytes, Directories, DirFits, drop, drop_min, end_of, Entry, entry}
use Rattle.pm_writer.proofs.Common.{false, first_id, flat_map, flat_map-append, HasMore, IsCut, IsLaid, IsShort, IsWritable, joined, Layout, length, length-append, length-drop, length-map, Level}
use Rattle.pm_writer.proofs.Common.{List, lit<, map, min, named, nat_lt, None, pieces, refl, root_of, short_of, spell_all, starts_from, steps_from, subst, suc, sym, take, take_min, true, varint}
use Rattle.pm_writer.proofs.Common.{wide_as, zero, ℕ, [], ◌++◌, ◌+◌, ◌<◌, ◌^◌, ◌∙◌, ◌∷◌, ◌≡◌, ◌≤◌}
use Rattle.pm_format.specs.declared.wide_entry.WideEntry.{WideEntry}
use Rattle.pm_writer.proofs.Walking.{cut_joined, cut_some}

-- any number of steps that is enough cuts the same directories
pub cut_enough : (n m size : ℕ) (es : List Entry) → 1 ≤ size → length es ≤ n → length es ≤ m → cut n size es ≡ cut m size es
cut_enough zero zero size es h a b = refl
cut_enough zero (suc m) size [] h a b = refl
cut_enough (suc n) zero size [] h a b = refl
cut_enough (suc n) (suc m) size [] h a b = refl
cut_enough zero m size (e ∷ es) h a b = absurd (omega (arith, a))
cut_enough (suc n) zero size (e ∷ es) h a b = absurd (omega (arith, b))
cut_enough (suc n) (suc m) size (e ∷ es) h a b = ap (λ t. take size (e ∷ es) ∷ t) (cut_enough n m size (drop size (e ∷ es)) h (omega (arith, length-drop size (e ∷ es), h, a)) (omega (arith, length-drop size (e ∷ es), h, b)))

-- one directory, and the rest
pub cut_step : (size : ℕ) (es : List Entry) → 1 ≤ size → 0 < length es → pieces size es ≡ take size es ∷ pieces size (drop size es)
cut_step size [] h a = absurd (omega (arith, a))
cut_step size (e ∷ es) h a = ap (λ t. take size (e ∷ es) ∷ t) (cut_enough (length es) (length (drop size (e ∷ es))) size (drop size (e ∷ es)) h (omega (arith, length-drop size (e ∷ es), h)) (omega arith))

-- what is put so far with the directories of the rest is the whole
pub record Cuts (level : Level) (place size : ℕ) (rest whole : List Entry) : Type 0 where
  pub names : named level ++ root_of (place + length level.bytes.items) (pieces size rest) ≡ root_of place (pieces size whole)
  pub bytes : level.bytes.items ++ flat_map dir_bytes (pieces size rest) ≡ flat_map dir_bytes (pieces size whole)
  pub low : ℕ
  pub fits : IsWritable low rest

pub cuts_first : (level : Level) (place size : ℕ) (whole : List Entry) → IsCut level place [] → IsWritable 0 whole → Cuts level place size whole whole
cuts_first level place size whole c f =
    let at : place + length level.bytes.items ≡ place = omega (arith, ap length c.bytes) in
    record {
      names = ap (λ z. z ++ root_of (place + length level.bytes.items) (pieces size whole)) c.names ∙ ap (λ n. root_of n (pieces size whole)) at;
      bytes = ap (λ z. z ++ flat_map dir_bytes (pieces size whole)) c.bytes;
      low = 0;
      fits = f;
    }

writable_drop : (n low : ℕ) (es : List Entry) → IsWritable low es → (k : ℕ) × IsWritable k (drop n es)
writable_drop zero low es f = (low, f)
writable_drop (suc n) low [] f = (low, tt)
writable_drop (suc n) low (e ∷ es) f = writable_drop n e.tile_id es f.3

writable_take : (n low : ℕ) (es : List Entry) → IsWritable low es → IsWritable low (take n es)
writable_take zero low es f = tt
writable_take (suc n) low [] f = tt
writable_take (suc n) low (e ∷ es) f = (f.0, f.1, f.2, writable_take n e.tile_id es f.3)

writable_zero : (low : ℕ) (es : List Entry) → IsWritable low es → IsWritable 0 es
writable_zero low [] f = tt
writable_zero low (e ∷ es) f = (omega arith, f.1, f.2, f.3)

pub part_writable : (n low : ℕ) (es : List Entry) → IsWritable low es → IsWritable 0 (take n es)
part_writable n low es f = writable_zero low (take n es) (writable_take n low es f)

pub cuts_more : (old new : Level) (place size : ℕ) (rest whole : List Entry) → 1 ≤ size → 0 < length rest → HasMore old new place (take size rest) → Cuts old place size rest whole → Cuts new place size (drop size rest) whole
cuts_more old new place size rest whole h a m c =
    let step = cut_step size rest h a in
    let tail = pieces size (drop size rest) in
    let k = writable_drop size c.low rest c.fits in
    let at = place + length old.bytes.items in
    let name = entry (first_id (take size rest)) at (length (dir_bytes (take size rest))) 0 in
    let next : place + length new.bytes.items ≡ at + length (dir_bytes (take size rest)) = omega (arith, ap length m.bytes, length-append old.bytes.items (dir_bytes (take size rest))) in
    record {
      names =
          ap (λ z. z ++ root_of (place + length new.bytes.items) tail) m.names
          ∙ (append_assoc (named old) (name ∷ []) (root_of (place + length new.bytes.items) tail)
          ∙ (ap (λ n. named old ++ (name ∷ root_of n tail)) next
          ∙ (ap (λ z. named old ++ root_of at z) (sym step) ∙ c.names)));
      bytes = rw (m.bytes) (append_assoc old.bytes.items (dir_bytes (take size rest)) (flat_map dir_bytes tail) ∙ (ap (λ z. old.bytes.items ++ flat_map dir_bytes z) (sym step) ∙ c.bytes));
      low = k.0;
      fits = k.1;
    }

pub cuts_end : (level : Level) (place size : ℕ) (rest whole : List Entry) → length rest ≡ 0 → Cuts level place size rest whole → IsCut level place (pieces size whole)
cuts_end level place size [] whole h c = record { names = sym (append-nil (named level)) ∙ c.names; bytes = sym (append-nil level.bytes.items) ∙ c.bytes }
cuts_end level place size (e ∷ rest) whole h c = absurd (omega (arith, h))

pub fits_zero : (low : ℕ) (es : List Entry) → DirFits low es → DirFits 0 es
fits_zero low [] f = tt
fits_zero low (e ∷ es) f = (omega arith, f.1, f.2, f.3, f.4, f.5, f.6)

pub root_length : (place : ℕ) (ls : List (List Entry)) → length (root_of place ls) ≡ length ls
root_length place [] = refl
root_length place (l ∷ ls) = ap suc (root_length (place + length (dir_bytes l)) ls)

dir_some : (l : List Entry) → 1 ≤ length (dir_bytes l)
unfolding dir_bytes varint
dir_some l = omega (arith, length-append (varint (length l)) (spell_all (steps_from 0 l) ++ (spell_all (map (λ e. e.run_length) l) ++ (spell_all (map (λ e. e.length) l) ++ spell_all (starts_from None l)))), some (length l))
  where
    some : (n : ℕ) → 1 ≤ length (short_of 10 n)
    some n = go (nat_lt n 128) refl
      where
        go : (b : Bool) → nat_lt n 128 ≡ b → 1 ≤ length (short_of 10 n)
        go true e = rw e (omega arith)
        go false e = rw e (omega arith)

behind_fits : (low : ℕ) (e : Entry) (l es : List Entry) → DirFits low (e ∷ (l ++ es)) → DirFits e.tile_id es
behind_fits low e [] es f = f.6
behind_fits low e (d ∷ l) es f = lower e.tile_id d.tile_id es f.6.0 (behind_fits e.tile_id d l es f.6)
  where
    lower : (low high : ℕ) (es : List Entry) → low ≤ high → DirFits high es → DirFits low es
    lower low high [] h f = tt
    lower low high (e ∷ es) h f = (omega (arith, h, f.0), f.1, f.2, f.3, f.4, f.5, f.6)

-- the entries that name directories fit, where these do
pub level_fits : (low place : ℕ) (ls : List (List Entry)) → DirFits low (joined ls) → AllSome ls → AllShort ls → place + end_of ls < 2 ^ 64 → DirFits low (root_of place ls)
level_fits low place [] f s a h = tt
level_fits low place ([] ∷ ls) f s a h = absurd (s.0 refl)
level_fits low place ((e ∷ l) ∷ ls) f s a h =
    let n = length-append (dir_bytes (e ∷ l)) (flat_map dir_bytes ls) in
    let some = dir_some (e ∷ l) in (
      f.0,
      f.1,
      a.0,
      lit< tt,
      omega (arith, h, n, some),
      omega (arith, h, n),
      level_fits e.tile_id (place + length (dir_bytes (e ∷ l))) ls (behind_fits low e l (joined ls) f) s.1 a.1 (omega (arith, h, n)),
    )

behind_writable : (low : ℕ) (e : Entry) (l es : List Entry) → IsWritable low (e ∷ (l ++ es)) → IsWritable e.tile_id es
behind_writable low e [] es f = f.3
behind_writable low e (d ∷ l) es f = lower e.tile_id d.tile_id es f.3.0 (behind_writable e.tile_id d l es f.3)
  where
    lower : (low high : ℕ) (es : List Entry) → low ≤ high → IsWritable high es → IsWritable low es
    lower low high [] h f = tt
    lower low high (e ∷ es) h f = (omega (arith, h, f.0), f.1, f.2, f.3)

-- and may be written, however long these are
level_writable : (low place : ℕ) (ls : List (List Entry)) → IsWritable low (joined ls) → AllSome ls → place + end_of ls < 2 ^ 64 → IsWritable low (root_of place ls)
level_writable low place [] f s h = tt
level_writable low place ([] ∷ ls) f s h = absurd (s.0 refl)
level_writable low place ((e ∷ l) ∷ ls) f s h =
    let n = length-append (dir_bytes (e ∷ l)) (flat_map dir_bytes ls) in
    let some = dir_some (e ∷ l) in
    (f.0, omega (arith, h, n, some), omega (arith, h, n), level_writable e.tile_id (place + length (dir_bytes (e ∷ l))) ls (behind_writable low e l (joined ls) f) s.1 (omega (arith, h, n)))

pub cut_writable : (level : Level) (place size : ℕ) (whole : List Entry) → 1 ≤ size → IsWritable 0 whole → place + length level.bytes.items < 2 ^ 64 → IsCut level place (pieces size whole) → IsWritable 0 (named level)
cut_writable level place size whole h f b c =
    let ls = pieces size whole in
    subst (IsWritable 0) (sym c.names)
    (level_writable 0 place ls (subst (IsWritable 0) (sym (cut_joined (length whole) size whole h (omega arith))) f) (cut_some (length whole) size whole h) (omega (arith, b, ap length c.bytes)))

-- a part of at most so many
pub take_part : (size : ℕ) (es : List Entry) → (take (min size (length es)) es ≡ take size es) × (drop (min size (length es)) es ≡ drop size es)
take_part size es = (take_min size es, drop_min size es)

-- directories are as short as their names say
pub short_by : (place : ℕ) (ns : List WideEntry) (ls : List (List Entry)) → map wide_as ns ≡ root_of place ls → All IsShort ns → AllShort ls
short_by place [] [] e s = tt
short_by place [] (l ∷ ls) e s = absurd (cc)
short_by place (n ∷ ns) [] e s = absurd (cc)
short_by place (n ∷ ns) (l ∷ ls) e s =
    let head : wide_as n ≡ entry (first_id l) place (length (dir_bytes l)) 0 = cc in
    let tail : map wide_as ns ≡ root_of (place + length (dir_bytes l)) ls = cc in
    (omega (arith, s 0 n (omega arith), ap (λ z. z.length) head), short_by (place + length (dir_bytes l)) ns ls tail (λ k d h. s (suc k) d (omega (arith, h))))

pub short_named : (place : ℕ) (ns : List WideEntry) (ls : List (List Entry)) → map wide_as ns ≡ root_of place ls → AllShort ls → All IsShort ns
short_named place [] ls e s k d h = absurd (omega (arith, h))
short_named place (n ∷ ns) [] e s k d h = absurd (cc)
short_named place (n ∷ ns) (l ∷ ls) e s zero d h =
    let head : wide_as n ≡ entry (first_id l) place (length (dir_bytes l)) 0 = cc in
    omega (arith, s.0, ap (λ z. z.length) head)
short_named place (n ∷ ns) (l ∷ ls) e s (suc k) d h =
    let tail : map wide_as ns ≡ root_of (place + length (dir_bytes l)) ls = cc in
    short_named (place + length (dir_bytes l)) ns ls tail s.1 k d (omega (arith, h))

-- two levels are short where both are
pub short_both : (xs ys : List (List Entry)) → AllShort xs → AllShort ys → AllShort (xs ++ ys)
short_both [] ys p q = q
short_both (x ∷ xs) ys p q = (p.0, short_both xs ys p.1 q)

pub short_left : (xs ys : List (List Entry)) → AllShort (xs ++ ys) → AllShort xs
short_left [] ys s = tt
short_left (x ∷ xs) ys s = (s.0, short_left xs ys s.1)

pub short_right : (xs ys : List (List Entry)) → AllShort (xs ++ ys) → AllShort ys
short_right [] ys s = s
short_right (x ∷ xs) ys s = short_right xs ys s.1

-- both levels joined
pub joined_are : (root : List ℕ) (lower upper : Level) (d : Directories) (l : Layout) → IsLaid root lower upper l → d.root.items ≡ root → d.below.items ≡ lower.bytes.items ++ upper.bytes.items → d.leaves ≡ length lower.names.items → d.uppers ≡ length upper.names.items
    → AreDirectories d l
joined_are root lower upper d l w r b m n = record {
  root = r ∙ w.root;
  below = b ∙ (ap (λ z. z ++ upper.bytes.items) w.leaves.bytes ∙ (ap (λ z. flat_map dir_bytes l.leaves ++ z) w.uppers.bytes ∙ sym (flat_map-append dir_bytes l.leaves l.uppers)));
  leaves = omega (arith, m, length-map lower.names.items wide_as, ap length w.leaves.names, root_length 0 l.leaves);
  uppers = omega (arith, n, length-map upper.names.items wide_as, ap length w.uppers.names, root_length (end_of l.leaves) l.uppers);
}
