-- Tables that are filled with the rows of answers, and those of a set.
use Rattle.mb_reading.proofs.Common.{ap, Bool, Cache, content_table, counted, false, filled, Fits, fits, fits_one, Flat, FlatWithHash, has_contents, HasTaken, is_some, is_table, IsFilled, IsFull}
use Rattle.mb_reading.proofs.Common.{IsOdd, IsRead, IsSet, List, MatchBool, may_lack, MbtType, Metadata, Misfits, None, Normalized, noted, Option, Read, read_of, read_on, refl, Row, set_tables, Some}
use Rattle.mb_reading.proofs.Common.{start, step_of, subst, sym, TableName, Tables, taken, Takes, tile_table, told_of, true, [], ◌&&◌, ◌++◌, ◌∙◌, ◌∷◌, ◌≡◌}
use Rattle.std.proofs.lemmas.List.Sums.{fold_push}
use Rattle.mb_tables.specs.declared.description.TableDesc.{TableDesc}
use Rattle.mb_tables.specs.declared.kind.NormalizedSchema.TheVariants.{Hash, DedupId}
use Rattle.mb_reading.specs.declared.error.ReadError.{ReadError}
use Rattle.mb_reading.specs.declared.filling.Filling.{Filling}
use Rattle.mb_reading.specs.declared.filling.Step.{Step}
use Rattle.mb_reading.specs.declared.set_read.SetRead.{SetRead}
use Rattle.mb_reading.specs.Rows.{row_in}

pub filled_by : (has : Bool) (table : TableName) (old new : Read) (answers : List Row) → has ≡ true → new ≡ read_on table old answers → IsFilled has table old new
unfolding IsFilled
filled_by has table old new answers is fills = subst (λ b. MatchBool b ((answers : List Row) × (new ≡ read_on table old answers)) (new ≡ old)) (sym is) (answers, fills)

pub filled_not : (has : Bool) (table : TableName) (t : Read) → has ≡ false → IsFilled has table t t
unfolding IsFilled
filled_not has table t isnt = subst (λ b. MatchBool b ((answers : List Row) × (t ≡ read_on table t answers)) (t ≡ t)) (sym isnt) refl

-- the tables that a layout has
pub has_names_table : (ds : List TableDesc) (layout : MbtType) → ds ≡ set_tables layout → is_table ds Metadata ≡ true
has_names_table ds layout is = subst (λ ds. is_table ds Metadata ≡ true) (sym is) refl

content_of : (layout : MbtType) → has_contents layout ≡ true → is_table (set_tables layout) (content_table layout) ≡ true
content_of Flat has = absurd (let e = has in cc)
content_of FlatWithHash has = absurd (let e = has in cc)
content_of (Normalized true Hash) has = refl
content_of (Normalized false Hash) has = refl
content_of (Normalized true DedupId) has = refl
content_of (Normalized false DedupId) has = refl
content_of Cache has = absurd (let e = has in cc)

pub has_content_table : (ds : List TableDesc) (layout : MbtType) (has : Bool) (table : TableName) → ds ≡ set_tables layout → has ≡ has_contents layout → table ≡ content_table layout → has ≡ true → is_table ds table ≡ true
has_content_table ds layout has table is same named has_it =
    subst (λ ds. is_table ds table ≡ true) (sym is) (subst (λ t. is_table (set_tables layout) t ≡ true) (sym named) (content_of layout (let e = same in let f = has_it in cc)))

tile_of : (layout : MbtType) → is_table (set_tables layout) (tile_table layout) ≡ true
tile_of Flat = refl
tile_of FlatWithHash = refl
tile_of (Normalized true Hash) = refl
tile_of (Normalized false Hash) = refl
tile_of (Normalized true DedupId) = refl
tile_of (Normalized false DedupId) = refl
tile_of Cache = refl

pub has_tile_table : (ds : List TableDesc) (layout : MbtType) (table : TableName) → ds ≡ set_tables layout → table ≡ tile_table layout → is_table ds table ≡ true
has_tile_table ds layout table is named = subst (λ ds. is_table ds table ≡ true) (sym is) (subst (λ t. is_table (set_tables layout) t ≡ true) (sym named) (tile_of layout))

-- the metadata, the contents and the tiles of a layout
pub is_read : (layout : MbtType) (has_names has : Bool) (contents tiles : TableName) (none names more all : Read) → none ≡ start layout → has ≡ has_contents layout → contents ≡ content_table layout → tiles ≡ tile_table layout
    → IsFilled has_names Metadata none names → IsFilled has contents names more → IsFilled true tiles more all → IsRead layout all
unfolding IsRead
is_read layout has_names has contents tiles none names more all empty same is last one two three = (
  has_names,
  names,
  more,
  subst (λ t. IsFilled has_names Metadata t names) empty one,
  subst (λ b. IsFilled b (content_table layout) names more) same (subst (λ table. IsFilled has table names more) is two),
  subst (λ table. IsFilled true table more all) last three,
)

pub is_set : (layout : MbtType) (t : Read) → IsRead layout t → IsSet t
unfolding IsSet
is_set layout t read = (layout, read)

-- what a test says of an optional value
pub some_by : (o : Option ReadError) → is_some o ≡ true → (e : ReadError) × (o ≡ Some e)
some_by (Some e) is = (e, refl)
some_by None is = absurd (let e = is in cc)

pub none_by : (o : Option ReadError) → is_some o ≡ false → o ≡ None
none_by None is = refl
none_by (Some e) is = absurd (let e = is in cc)

-- one more answer
and_true : (b : Bool) → (b && true) ≡ b
and_true true = refl
and_true false = refl

and_assoc : (a b c : Bool) → (a && (b && c)) ≡ ((a && b) && c)
and_assoc true b c = refl
and_assoc false b c = refl

fits_push : (table : TableName) (t : Tables) (answers : List Row) (answer : Row) → fits table t (answers ++ answer ∷ []) ≡ (fits table t answers && fits_one table (filled table t answers) (row_in table answer))
fits_push table t [] answer = and_true (fits_one table t (row_in table answer))
fits_push table t (r ∷ answers) answer = ap (λ b. fits_one table t (row_in table r) && b) (fits_push table (taken table t r) answers answer)
    ∙ and_assoc (fits_one table t (row_in table r)) (fits table (taken table t r) answers) (fits_one table (filled table (taken table t r) answers) (row_in table answer))

-- the tables of what is read are filled
read_tables : (table : TableName) (x : Read) (answers : List Row) → (read_on table x answers).0 ≡ filled table x.0 answers
read_tables table x [] = refl
read_tables table x (r ∷ answers) = read_tables table (noted table x r) answers

-- what is read with one more answer
pub noted_by : (table : TableName) (answer : Row) (old new : SetRead) (step : Step) → told_of new.store ≡ taken table (told_of old.store) answer → step ≡ step_of table (told_of old.store) answer
    → new.left_out ≡ counted table answer step old.left_out → read_of new ≡ noted table (read_of old) answer
noted_by table answer old new step took is counts =
    ap (λ t. (t, new.left_out)) took ∙ ap (λ l. (taken table (told_of old.store) answer, l)) (counts ∙ ap (λ s. counted table answer s old.left_out) is)

module _ (table : TableName) (answer : Row) (old new : Filling) where
  pub takes_over : (e : ReadError) → old.refused ≡ Some e → new.refused ≡ old.refused → Takes table answer old new
  unfolding HasTaken
  takes_over e was is x answers h =
      let odd : Misfits table x.0 answers = rw was at h in
      rw (is, was) (λ may. fits_push table x.0 answers answer ∙ ap (λ b. b && fits_one table (filled table x.0 answers) (row_in table answer)) (odd may))

  told_before : (x : Read) (answers : List Row) → read_of old.so_far ≡ read_on table x answers → told_of old.so_far.store ≡ filled table x.0 answers
  told_before x answers e = ap (λ (y : Read). y.0) e ∙ read_tables table x answers

  pub takes_row : old.refused ≡ None → new.refused ≡ None → read_of new.so_far ≡ noted table (read_of old.so_far) answer
      → (may_lack table ≡ true → fits_one table (told_of old.so_far.store) (row_in table answer) ≡ true) → Takes table answer old new
  unfolding HasTaken
  takes_row was is took fit x answers h =
      let before : (read_of old.so_far ≡ read_on table x answers) × Fits table x.0 answers = rw was at h in
      rw is (
        took ∙ ap (λ u. noted table u answer) before.0 ∙ sym (fold_push (noted table) x answers answer),
        λ may. fits_push table x.0 answers answer ∙ ap (λ b. b && fits_one table (filled table x.0 answers) (row_in table answer)) (before.1 may)
            ∙ ap (λ u. fits_one table u (row_in table answer)) (sym (told_before x answers before.0)) ∙ fit may,
      )

  pub takes_odd : (e : ReadError) → old.refused ≡ None → new.refused ≡ Some e → (may_lack table ≡ true → fits_one table (told_of old.so_far.store) (row_in table answer) ≡ false) → Takes table answer old new
  unfolding HasTaken
  takes_odd e was is odd x answers h =
      let before : (read_of old.so_far ≡ read_on table x answers) × Fits table x.0 answers = rw was at h in
      rw is (λ may. fits_push table x.0 answers answer ∙ ap (λ b. b && fits_one table (filled table x.0 answers) (row_in table answer)) (before.1 may)
      ∙ ap (λ u. fits_one table u (row_in table answer)) (sym (told_before x answers before.0)) ∙ odd may)

module _ (table : TableName) (f : Filling) where
  pub full_store : f.refused ≡ None → IsFull table f f.so_far
  unfolding HasTaken
  full_store is x answers h = rw is at h

  pub odd_answers : (e : ReadError) → f.refused ≡ Some e → may_lack table ≡ true → IsOdd table f
  unfolding HasTaken
  odd_answers e is may x answers h = (may, (rw is at h) may)
