-- The rows of contents that a layout has.
use Rattle.tile_streaming.proofs.Common.{ap, AreContents, Bool, Cell, content_rows, Err, false≢true, HasSeen, HashAlgorithm, IfOk, is_normalized, List, MbtError, MbtType, None, Ok, refl, Result, same_Some, SeenContents, SeesContents, SeesTold, Some, sym, Tables, true, [], ◌∙◌, ◌≡◌}
use Rattle.mb_tables.specs.Kind.{contents_of, schema_of}
use Rattle.mb_tables.specs.declared.kind.MbtType.TheVariants.{Cache, Flat, FlatWithHash, Normalized}
use Rattle.mb_tables.specs.declared.kind.NormalizedSchema.{NormalizedSchema}
use Rattle.mb_tables.specs.declared.table.TableName.{TableName}
use Rattle.std.proofs.lemmas.Option.{none-some}

-- those that a store tells
pub told_contents : (layout : MbtType) (tells : Bool) (told : Tables) → AreContents layout tells told (content_rows layout told)
told_contents (Normalized view schema) tells told = record { are_told = λ t. refl; none = λ h. absurd (false≢true (sym h)) }
told_contents Flat tells told = record { are_told = λ t. refl; none = λ h. refl }
told_contents FlatWithHash tells told = record { are_told = λ t. refl; none = λ h. refl }
told_contents Cache tells told = record { are_told = λ t. refl; none = λ h. refl }

-- a store that was only read tells the same
pub contents_moved : (layout : MbtType) (tells tells_now : Bool) (t now : Tables) (contents : List (List Cell)) → tells_now ≡ tells → now ≡ t → AreContents layout tells_now now contents → AreContents layout tells t contents
contents_moved layout tells tells_now t now contents same told are = record { are_told = λ u. are.are_told (same ∙ u) ∙ ap (content_rows layout) told; none = are.none }

-- those of the table of a normalised set
named_rows : (layout : MbtType) (schema : NormalizedSchema) (t : Tables) → schema_of layout ≡ Some schema → content_rows layout t ≡ t.rows (contents_of schema)
named_rows (Normalized view s) schema t h = ap (λ x. t.rows (contents_of x)) (same_Some s schema h)
named_rows Flat schema t h = absurd (none-some schema h)
named_rows FlatWithHash schema t h = absurd (none-some schema h)
named_rows Cache schema t h = absurd (none-some schema h)

is_named : (layout : MbtType) (schema : NormalizedSchema) → schema_of layout ≡ Some schema → is_normalized layout ≡ true
is_named (Normalized view s) schema h = refl
is_named Flat schema h = absurd (none-some schema h)
is_named FlatWithHash schema h = absurd (none-some schema h)
is_named Cache schema h = absurd (none-some schema h)

pub seen_named : (layout : MbtType) (schema : NormalizedSchema) (table : TableName) (a : HashAlgorithm) (tells : Bool) (t : Tables) → schema_of layout ≡ Some schema → table ≡ contents_of schema → (r : Result SeenContents MbtError) → IfOk r (SeesTold (SeesContents layout a) tells (t.rows table)) → IfOk r (HasSeen layout a tells t)
seen_named layout schema table a tells t is named (Ok seen) h = record {
  contents = h.rows;
  are = record {
    are_told = λ u. h.are_told u ∙ (ap (λ x. t.rows x) named ∙ sym (named_rows layout schema t is));
    none = λ n. absurd (false≢true (sym n ∙ is_named layout schema is));
  };
  sees = h.sees;
}
seen_named layout schema table a tells t is named (Err e) h = tt

-- and none of another layout
no_rows : (layout : MbtType) (t : Tables) → schema_of layout ≡ None → content_rows layout t ≡ []
no_rows (Normalized view s) t h = absurd (none-some s (sym h))
no_rows Flat t h = refl
no_rows FlatWithHash t h = refl
no_rows Cache t h = refl

pub seen_none : (layout : MbtType) (a : HashAlgorithm) (tells : Bool) (t : Tables) (seen : SeenContents) → schema_of layout ≡ None → SeesContents layout a [] seen → HasSeen layout a tells t seen
seen_none layout a tells t seen is sees = record { contents = []; are = record { are_told = λ u. sym (no_rows layout t is); none = λ n. refl }; sees = sees }
