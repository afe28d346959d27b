-- The tests of a copy, in their order, and the answer that is due.
use Rattle.std.specs.Prelude.{ℕ, Bool, true, false, is_some, List, [], ◌∷◌, Option, Some, None, Result}
use Rattle.mb_copy.specs.Common.{agg_hash, AggHashMismatch, AggHashValueNotFound, aggregate, bytes_eq, bytes_put, DestinationFileExists, first_refusal, id_collides, is_editable, MbtError, Names}
use Rattle.mb_copy.specs.Common.{refused_by, State, state_of, Tables, then, TileSet, unless, UnsupportedCopyOperation}
use Rattle.mb_copy.specs.Chosen.{duplicates, has_both, tiles_to_put}
use Rattle.mb_copy.specs.Target.{asked_type, kind_wrong, made_type, mode_of, wanted_algorithm}
use Rattle.mb_copy.specs.declared.copier.MbtilesCopier.{MbtilesCopier}
use Rattle.mb_loaded.specs.Empty.{empty_state}

-- the stored hash of all tiles isn't there, or isn't the computed one, where it is looked at
abbrev pub hash_wrong : Option (List ℕ) → List ℕ → Option MbtError
hash_wrong None computed = Some AggHashValueNotFound
hash_wrong (Some stored) computed = unless (bytes_eq stored computed) (AggHashMismatch computed stored)

abbrev pub invalid : Bool → State → Option MbtError
invalid false s = None
invalid true s = hash_wrong (agg_hash s.metadata) (aggregate s.algorithm s.tiles)

-- no mode says what counts in a described destination
abbrev pub mode_missing : MbtilesCopier → Option MbtError
mode_missing c = unless (is_some c.on_duplicate) DestinationFileExists

-- the refusal of each test of what is put into a set, in the order of the tests
abbrev pub put_refusals : MbtilesCopier → TileSet → Names → State → List (Option MbtError)
put_refusals c tiles names base =
    duplicates (mode_of c) (has_both c tiles names base)
    ∷ id_collides base.layout base.algorithm base.contents (bytes_put (tiles_to_put c tiles base))
    ∷ []

abbrev pub may_copy : MbtilesCopier → State → State → Option MbtError
may_copy c source base = first_refusal (put_refusals c source.tiles source.metadata base)

-- of a described destination that loads
abbrev pub described_refusals : MbtilesCopier → State → State → List (Option MbtError)
described_refusals c source base =
    kind_wrong base.layout (asked_type c)
    ∷ unless (is_editable base.layout) UnsupportedCopyOperation
    ∷ put_refusals c source.tiles source.metadata base

abbrev pub may_copy_over : MbtilesCopier → State → State → Option MbtError
may_copy_over c source base = first_refusal (described_refusals c source base)

-- the set that is made where nothing is described
abbrev pub made_state : MbtilesCopier → State → State
made_state c source = empty_state (made_type c source.layout) (wanted_algorithm c source.algorithm)

-- the answer that is due of a copy over a set that loads
abbrev pub over_answer : MbtilesCopier → State → State → Result (Unit {0}) MbtError
over_answer c source base = refused_by (may_copy_over c source base)

-- of a copy into a destination that is described, or isn't
abbrev pub into_answer : MbtilesCopier → State → Bool → Tables → Result (Unit {0}) MbtError
into_answer c source true t = then (refused_by (mode_missing c)) (λ _. then (state_of t) (over_answer c source))
into_answer c source false t = refused_by (may_copy c source (made_state c source))

-- of a copy of a set that loads
abbrev pub copy_answer : MbtilesCopier → Bool → Tables → State → Result (Unit {0}) MbtError
copy_answer c described t source = then (refused_by (invalid c.validate source)) (λ _. into_answer c source described t)
