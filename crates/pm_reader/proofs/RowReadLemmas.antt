-- One turn of the loops over columns and rows.
use Rattle.pm_reader.proofs.Common.{ap, AreWithin, arith, column, column_next, column_none, covers, drop, Entry, Err, false, found_in, IfErr, IfSome, if◌then◌else◌, IsErrAnd, last_below, length, List}
use Rattle.pm_reader.proofs.Common.{nat_le, nat_tests, None, number_at, Ok, one_less, OnErr, Option, option_map, PmtError, put, refl, Result, rows_at, scan, Some, subst, suc, sym, true, ℕ, ◌+◌, ◌-◌}
use Rattle.pm_reader.proofs.Common.{◌<◌, ◌>>=◌, ◌∙◌, ◌∷◌, ◌≡◌, ◌≤◌}
use Rattle.pm_format.specs.declared.error.PmtError.TheVariants as errors
use Rattle.pm_reader.specs.declared.view.cursors.Cursors.{Cursors}
use Rattle.pm_reader.specs.Rows.{after}

-- what holds at all holds where there is an error
pub holds_on_err : {T E : Type 0} {P : Type 0} (r : Result T E) → P → OnErr r P
holds_on_err (Ok x) p = tt
holds_on_err (Err e) p = p

-- a refusal that is handed on
pub refused_as : {T : Type 0} (r wanted : Result T PmtError) (e : PmtError) → IsErrAnd r (λ y. y ≡ e) → wanted ≡ Err e → r ≡ wanted
refused_as (Ok x) wanted e is same = absurd is
refused_as (Err y) wanted e is same = ap Err is ∙ sym same

-- what is said of a refusal holds where it is handed on
pub said_of : {T : Type 0} (r : Result T PmtError) (e : PmtError) (P : PmtError → Type 0) → IsErrAnd r (λ y. y ≡ e) → P e → IfErr r P
said_of (Ok x) e P is p = tt
said_of (Err y) e P is p = subst P (sym is) p

-- i numbers of a column are passed
pub record Skipping (bytes : List ℕ) (width limit start count i at : ℕ) : Type 0 where
  pub within : at ≤ length bytes
  pub same : after (column width limit count (drop start bytes)) ≡ after (column width limit (count - i) (drop at bytes))

pub skip_first : (bytes : List ℕ) (width limit start count : ℕ) → start ≤ length bytes → Skipping bytes width limit start count 0 start
skip_first bytes width limit start count h = record {
  within = h;
  same = let e : count ≡ count - 0 = omega arith in ap (λ k. after (column width limit k (drop start bytes))) e;
}

after_put : (m : ℕ) (x : Option (List ℕ × List ℕ)) → after (option_map (put m) x) ≡ after x
after_put m None = refl
after_put m (Some r) = refl

pub skip_step : (bytes : List ℕ) (width limit start count i at m next : ℕ) → i < count → next ≤ length bytes → number_at width limit (drop at bytes) ≡ Some (m, drop next bytes)
    → Skipping bytes width limit start count i at → Skipping bytes width limit start count (i + 1) next
skip_step bytes width limit start count i at m next h w found s = record {
  within = w;
  same =
      s.same ∙ (ap (λ k. after (column width limit k (drop at bytes))) (one_less count i h)
      ∙ (ap after (column_next width limit (count - (i + 1)) (drop at bytes) (drop next bytes) m found)
      ∙ after_put m (column width limit (count - (i + 1)) (drop next bytes))));
}

pub skip_stop : (bytes : List ℕ) (width limit start count i at : ℕ) → i < count → number_at width limit (drop at bytes) ≡ None → Skipping bytes width limit start count i at → after (column width limit count (drop start bytes)) ≡ None
skip_stop bytes width limit start count i at h none s =
    s.same ∙ (ap (λ k. after (column width limit k (drop at bytes))) (one_less count i h) ∙ ap after (column_none width limit (count - (i + 1)) (drop at bytes) none))

pub skip_done : (bytes : List ℕ) (width limit start count i at : ℕ) → count ≤ i → Skipping bytes width limit start count i at → after (column width limit count (drop start bytes)) ≡ Some (drop at bytes)
skip_done bytes width limit start count i at h s =
    let e : count - i ≡ 0 = omega arith in
    s.same ∙ ap (λ k. after (column width limit k (drop at bytes))) e

-- what was found before, and what the rows that come next have
abbrev pub found_from : ℕ → Option Entry → Option (List Entry) → Result (Option Entry) PmtError
found_from t found None = Err errors.InvalidEntry
found_from t found (Some es) = Ok (last_below t found es >>= covers t)

from_nothing : (t : ℕ) (x : Option (List Entry)) → found_in t x ≡ found_from t None x
unfolding scan
from_nothing t None = refl
from_nothing t (Some es) = refl

-- i rows are passed
pub record Walking (t : ℕ) (bytes : List ℕ) (first : Cursors) (count i : ℕ) (at : Cursors) (found : Option Entry) : Type 0 where
  pub within : AreWithin bytes at
  pub begun : IfSome found (λ e. e.tile_id ≤ t)
  pub same : found_in t (rows_at count bytes first) ≡ found_from t found (rows_at (count - i) bytes at)

pub walk_first : (t : ℕ) (bytes : List ℕ) (first : Cursors) (count : ℕ) → AreWithin bytes first → Walking t bytes first count 0 first None
walk_first t bytes first count w = record {
  within = w;
  begun = tt;
  same = (let e : count ≡ count - 0 = omega arith in ap (λ k. found_in t (rows_at k bytes first)) e) ∙ from_nothing t (rows_at (count - 0) bytes first);
}

from_one : (t : ℕ) (found : Option Entry) (e : Entry) (x : Option (List Entry)) → found_from t found (option_map (λ es. e ∷ es) x) ≡ found_from t (if nat_le e.tile_id t then Some e else found) x
from_one t found e None = refl
from_one t found e (Some es) = refl

walk_on : (t : ℕ) (bytes : List ℕ) (first : Cursors) (count i : ℕ) (at next : Cursors) (found : Option Entry) (e : Entry) → i < count
    → ((n : ℕ) → rows_at (suc n) bytes at ≡ option_map (λ es. e ∷ es) (rows_at n bytes next)) → Walking t bytes first count i at found
    → found_in t (rows_at count bytes first) ≡ found_from t (if nat_le e.tile_id t then Some e else found) (rows_at (count - (i + 1)) bytes next)
walk_on t bytes first count i at next found e h row w =
    w.same ∙ (ap (λ k. found_from t found (rows_at k bytes at)) (one_less count i h)
    ∙ (ap (found_from t found) (row (count - (i + 1))) ∙ from_one t found e (rows_at (count - (i + 1)) bytes next)))

pub walk_begun : (t : ℕ) (bytes : List ℕ) (first : Cursors) (count i : ℕ) (at next : Cursors) (found : Option Entry) (e : Entry) → i < count → AreWithin bytes next → e.tile_id ≤ t
    → ((n : ℕ) → rows_at (suc n) bytes at ≡ option_map (λ es. e ∷ es) (rows_at n bytes next)) → Walking t bytes first count i at found → Walking t bytes first count (i + 1) next (Some e)
walk_begun t bytes first count i at next found e h within low row w = record {
  within = within;
  begun = low;
  same = let is : nat_le e.tile_id t ≡ true = grind (arith, nat_tests) in walk_on t bytes first count i at next found e h row w ∙ ap (λ b. found_from t (if b then Some e else found) (rows_at (count - (i + 1)) bytes next)) is;
}

pub walk_later : (t : ℕ) (bytes : List ℕ) (first : Cursors) (count i : ℕ) (at next : Cursors) (found : Option Entry) (e : Entry) → i < count → AreWithin bytes next → t < e.tile_id
    → ((n : ℕ) → rows_at (suc n) bytes at ≡ option_map (λ es. e ∷ es) (rows_at n bytes next)) → Walking t bytes first count i at found → Walking t bytes first count (i + 1) next found
walk_later t bytes first count i at next found e h within high row w = record {
  within = within;
  begun = w.begun;
  same = let is : nat_le e.tile_id t ≡ false = grind (arith, nat_tests) in walk_on t bytes first count i at next found e h row w ∙ ap (λ b. found_from t (if b then Some e else found) (rows_at (count - (i + 1)) bytes next)) is;
}

pub walk_stop : (t : ℕ) (bytes : List ℕ) (first : Cursors) (count i : ℕ) (at : Cursors) (found : Option Entry) → i < count → ((n : ℕ) → rows_at (suc n) bytes at ≡ None) → Walking t bytes first count i at found
    → found_in t (rows_at count bytes first) ≡ Err errors.InvalidEntry
walk_stop t bytes first count i at found h none w = w.same ∙ (ap (λ k. found_from t found (rows_at k bytes at)) (one_less count i h) ∙ ap (found_from t found) (none (count - (i + 1))))

pub walk_done : (t : ℕ) (bytes : List ℕ) (first : Cursors) (count i : ℕ) (at : Cursors) (found : Option Entry) → count ≤ i → Walking t bytes first count i at found → found_in t (rows_at count bytes first) ≡ Ok (found >>= covers t)
walk_done t bytes first count i at found h w =
    let e : count - i ≡ 0 = omega arith in
    w.same ∙ ap (λ k. found_from t found (rows_at k bytes at)) e
