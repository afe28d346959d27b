-- The refusals of a copy, one after another, and the set after its parts.
use Rattle.mb_copy.proofs.Common.{all_times_put, ap, asked_type, Bool, bytes_put, Dates, duplicates, Err, FinMap, fresh, has_both, HashAlgorithm, Held, held_completed, held_copied, held_with}
use Rattle.mb_copy.proofs.Common.{held_with_names, id_collides, IfOk, is_editable, IsPutIn, kind_wrong, made_state, made_type, may_copy, may_copy_over, may_put, MbtError, MbtilesCopier, MbtType}
use Rattle.mb_copy.proofs.Common.{mode_of, Names, names_to_put, None, nulls_put, Ok, Option, option_or, or_none, place_cmp, Result, Some, State, subst, sym, Tests, tiles_put, tiles_to_put, TileSet}
use Rattle.mb_copy.proofs.Common.{times_to_put, true, unless, UnsupportedCopyOperation, wanted_algorithm, ◌∙◌, ◌≡◌}
use Rattle.mb_copy.proofs.LoadedLemmas.{put_in}
use Rattle.mb_loaded.specs.Empty.{empty_state}

-- tiles that are put into a set that takes them are refused by their ids alone
pub ids_alone : (s : State) (tiles : TileSet) → is_editable s.layout ≡ true → may_put s tiles ≡ id_collides s.layout s.algorithm s.contents (bytes_put tiles)
ids_alone s tiles edit =
    ap (λ b. option_or (unless b UnsupportedCopyOperation) (option_or (id_collides s.layout s.algorithm s.contents (bytes_put tiles)) None)) edit
    ∙ or_none (id_collides s.layout s.algorithm s.contents (bytes_put tiles))

module _ (c : MbtilesCopier) (source base : State) where
  abbrev twice : Option MbtError
  twice = duplicates (mode_of c) (has_both c source.tiles source.metadata base)

  abbrev ids : Option MbtError
  ids = id_collides base.layout base.algorithm base.contents (bytes_put (tiles_to_put c source.tiles base))

  abbrev edit : Option MbtError
  edit = unless (is_editable base.layout) UnsupportedCopyOperation

  abbrev kind : Option MbtError
  kind = kind_wrong base.layout (asked_type c)

  pub twice_refused : (e : MbtError) → twice ≡ Some e → may_copy c source base ≡ Some e
  twice_refused e h = ap (λ o. option_or o (option_or ids None)) h

  pub twice_passed : twice ≡ None → may_copy c source base ≡ ids
  twice_passed h = ap (λ o. option_or o (option_or ids None)) h ∙ or_none ids

  pub kind_refused : (e : MbtError) → kind ≡ Some e → may_copy_over c source base ≡ Some e
  kind_refused e h = ap (λ o. option_or o (option_or edit (may_copy c source base))) h

  pub edit_refused : (e : MbtError) → kind ≡ None → edit ≡ Some e → may_copy_over c source base ≡ Some e
  edit_refused e k h = ap (λ o. option_or o (option_or edit (may_copy c source base))) k ∙ ap (λ o. option_or o (may_copy c source base)) h

  pub both_passed : kind ≡ None → edit ≡ None → may_copy_over c source base ≡ may_copy c source base
  both_passed k h = ap (λ o. option_or o (option_or edit (may_copy c source base))) k ∙ ap (λ o. option_or o (may_copy c source base)) h

-- tests of what is due are tests of what it is
pub tests_as : {A : Type 0} (due due' : Option MbtError) (r : Result A MbtError) → due ≡ due' → Tests due r → Tests due' r
tests_as {A = A} due due' r same t = subst (λ (o : Option MbtError). Tests {A = A} o r) same t

-- a set is what its parts make
pub completed_is : {E : Type 0} (c : MbtilesCopier) (made : Bool) (h a b : Held) (put : TileSet) (times : FinMap place_cmp Dates) (names : Names) (r : Result Held E) → a ≡ nulls_put h put → b ≡ all_times_put times a put → IfOk r (λ l. l ≡ held_with_names c made b names) → IfOk r (λ l. l ≡ held_completed c made h put times names)
completed_is c made h a b put times names (Ok l) nulled timed is = is ∙ ap (λ (x : Held). held_with_names c made x names) (timed ∙ ap (λ (x : Held). all_times_put times x put) nulled)
completed_is c made h a b put times names (Err e) nulled timed is = is

pub put_in_as : (h set : Held) (put : TileSet) → set ≡ tiles_put h put → IsPutIn put (nulls_put set put)
put_in_as h set put is = subst (λ (x : Held). IsPutIn put (nulls_put x put)) (sym is) (put_in h put)

pub copied_is : (c : MbtilesCopier) (made : Bool) (source : State) (base put : Held) (r : Result Held MbtError) → put.state.tiles ≡ tiles_to_put c source.tiles base.state → put.state.dates ≡ times_to_put c source base.state → put.state.metadata ≡ names_to_put c source.metadata base.state.metadata → IfOk r (λ l. l ≡ held_with c made base put.state.tiles put.state.dates put.state.metadata) → IfOk r (λ l. l ≡ held_copied c made source base)
copied_is c made source base put (Ok l) tiles times names is =
    is
    ∙ (ap (λ (x : TileSet). held_with c made base x put.state.dates put.state.metadata) tiles
    ∙ (ap (λ (x : FinMap place_cmp Dates). held_with c made base (tiles_to_put c source.tiles base.state) x put.state.metadata) times
    ∙ ap (λ (x : Names). held_with c made base (tiles_to_put c source.tiles base.state) (times_to_put c source base.state) x) names))
copied_is c made source base put (Err e) tiles times names is = is

-- the set that is made
pub made_is : (c : MbtilesCopier) (source : State) (base : Held) (kept l : MbtType) (stored a : HashAlgorithm) → kept ≡ source.layout → l ≡ made_type c kept → stored ≡ source.algorithm → a ≡ wanted_algorithm c stored → base ≡ fresh (empty_state l a) → base ≡ fresh (made_state c source)
made_is c source base kept l stored a is_kept is_layout is_stored is_algorithm is =
    is
    ∙ (ap (λ (x : MbtType). fresh (empty_state x a)) (is_layout ∙ ap (made_type c) is_kept)
    ∙ ap (λ (x : HashAlgorithm). fresh (empty_state (made_type c source.layout) x)) (is_algorithm ∙ ap (wanted_algorithm c) is_stored))

pub made_value : (c : MbtilesCopier) (source : State) (base : Held) (r : Result Held MbtError) → base ≡ fresh (made_state c source) → IfOk r (λ l. l ≡ held_copied c true source base) → IfOk r (λ l. l ≡ held_copied c true source (fresh (made_state c source)))
made_value c source base (Ok l) is v = v ∙ ap (held_copied c true source) is
made_value c source base (Err e) is v = v
