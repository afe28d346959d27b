-- Tables that are made where nothing was described hold no set.
use Rattle.mb_copy.proofs.Common.{ap, AreEmpty, created, IsSound, List, MbtType, None, Normalized, refl, set_tables, Some, started_as, subst, sym, TableDesc, Tables, tile_table, true, with_tables, []}
use Rattle.mb_copy.proofs.Common.{◌∙◌, ◌≡◌}
use Rattle.mb_constraints.specs.Described.{index_missing, metadata_missing}
use Rattle.mb_lists.specs.Contents.{content_rows}
use Rattle.mb_tables.specs.Described.{is_table}
use Rattle.mb_tables.specs.Detection.{layout_of, patch_type_of}
use Rattle.mb_tables.specs.declared.kind.NormalizedSchema.TheVariants.{Hash, DedupId}
use Rattle.mb_tables.specs.declared.table.TableName.{TableName}
use Rattle.mb_tables.specs.declared.table.TableName.TheVariants.{Metadata}

-- what is found of descriptions that were made
record Describes (layout : MbtType) (ds : List TableDesc) : Type 0 where
  is_layout : layout_of ds ≡ Some layout
  whole : patch_type_of ds ≡ None
  described : metadata_missing ds ≡ None
  indexed : index_missing ds layout ≡ None

describes : (l : MbtType) → Describes (started_as l) (with_tables [] (set_tables (started_as l)))
describes (Normalized true schema) = record { is_layout = refl; whole = refl; described = refl; indexed = refl }
describes _ = record { is_layout = refl; whole = refl; described = refl; indexed = refl }

-- a table that isn't described has no rows
no_rows : (t : Tables) → IsSound t → t.descriptions ≡ [] → (table : TableName) → t.rows table ≡ []
no_rows t sound none table = sound.described table (ap (λ ds. is_table ds table) none)

no_contents : (l : MbtType) (t : Tables) → ((table : TableName) → t.rows table ≡ []) → content_rows l t ≡ []
no_contents (Normalized view Hash) t none = none _
no_contents (Normalized view DedupId) t none = none _
no_contents _ t none = refl

pub made_empty : (t : Tables) (l : MbtType) → IsSound t → t.descriptions ≡ [] → AreEmpty (started_as l) (created t (set_tables (started_as l)))
made_empty t l sound none =
    let found = describes l in
    let same : with_tables t.descriptions (set_tables (started_as l)) ≡ with_tables [] (set_tables (started_as l)) = ap (λ ds. with_tables ds (set_tables (started_as l))) none in
    record {
      is_layout = ap layout_of same ∙ found.is_layout;
      whole = ap patch_type_of same ∙ found.whole;
      described = ap metadata_missing same ∙ found.described;
      indexed = ap (λ ds. index_missing ds (started_as l)) same ∙ found.indexed;
      tiles = no_rows t sound none (tile_table (started_as l));
      contents = no_contents (started_as l) (created t (set_tables (started_as l))) (no_rows t sound none);
      names = no_rows t sound none Metadata;
    }

-- the tables of a layout, as they were made
pub made_as : (old new : Tables) (kept layout : MbtType) → kept ≡ layout → started_as layout ≡ layout → new ≡ created old (set_tables (started_as kept)) → new ≡ created old (set_tables layout)
made_as old new kept layout is started made = made ∙ ap (λ (l : MbtType). created old (set_tables l)) (ap started_as is ∙ started)

pub schema_empty : (old new : Tables) (kept layout : MbtType) → IsSound old → old.descriptions ≡ [] → kept ≡ layout → started_as layout ≡ layout → new ≡ created old (set_tables (started_as kept)) → AreEmpty layout new
schema_empty old new kept layout sound none is started made =
    subst (λ (t : Tables). AreEmpty layout t) (sym (made_as old new kept layout is started made))
    (subst (λ (l : MbtType). AreEmpty l (created old (set_tables l))) started (made_empty old layout sound none))
