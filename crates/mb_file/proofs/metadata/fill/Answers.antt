use Rattle.std.proofs.Common.{ap, false, refl, rules, SFits, subst, sym, w64, ◌∙◌, ◌≡◌}
use Rattle.std.proofs.lemmas.Int.{to_z-of_z}
use Rattle.mb_reading.specs.Filling.{read_on}
use Rattle.mb_tables.specs.declared.table.TableName.TheVariants.{Metadata}
use Rattle.mb_file.specs.Metadata.{held_in, names_in}
use Rattle.mb_file.proofs.MetadataLemmas.{names_all, names_more, not_there, Steps}
use Rattle.mb_file.proofs.metadata.fill.Goals as goal

pub rows-init : goal.rows-init
rows-init g c = record {
  described = search rules;
  metadata = search rules;
  taken = refl;
  kept = search rules;
  pages = refl;
  read = λ trusted rowids layout rows laid stored.
      let none : c.is_some.result ≡ false = search rules in
      record {
        among = c.new-course.ensures.among none layout _ _ rows;
        whole = ap (λ rs. read_on Metadata (held_in c.args.names.now c.args.source.now.left_out) (names_in c.args.columns.now rs)) (sym (c.new-course.ensures.left none layout _ c.args.root rows stored));
      };
}

pub returns-then-not-branch-clause-read : goal.returns-then-not-branch-clause-read
returns-then-not-branch-clause-read g c =
    names_all c.args.source.now.pages c.rows.source.pages c.advance.new.pages c.args.root c.args.columns.now c.rows.invariant.kept c.rows.invariant.pages c.advance.ensures.kept
    (held_in c.args.names.now c.args.source.now.left_out) c.rows.course c.advance.new.self (held_in c.rows.names c.rows.source.left_out)
    (subst (Steps c.args.source.now.pages c.rows.source.pages c.advance.new.pages c.args.root c.args.columns.now c.rows.invariant.kept c.rows.invariant.pages c.advance.ensures.kept
    (held_in c.args.names.now c.args.source.now.left_out) c.rows.course c.advance.new.self (held_in c.rows.names c.rows.source.left_out)) c.if-not-branch.true c.in_ok-advance.ensures.taken) c.rows.invariant.read

pub rows-preserved : goal.rows-preserved
rows-preserved g c =
    let fits : SFits w64 c.number.result = search rules in record {
      described = search rules;
      metadata = search rules;
      taken = search rules;
      kept = search rules;
      pages = search rules;
      read =
          names_more c.args.source.now.pages c.rows.source.pages c.advance.new.pages c.args.root c.args.columns.now c.rows.invariant.kept c.rows.invariant.pages c.advance.ensures.kept
          (held_in c.args.names.now c.args.source.now.left_out) c.rows.course c.advance.new.self (held_in c.rows.names c.rows.source.left_out)
          (subst (Steps c.args.source.now.pages c.rows.source.pages c.advance.new.pages c.args.root c.args.columns.now c.rows.invariant.kept c.rows.invariant.pages c.advance.ensures.kept
          (held_in c.args.names.now c.args.source.now.left_out) c.rows.course c.advance.new.self (held_in c.rows.names c.rows.source.left_out)) c.if-not-branch.false c.in_ok-advance.ensures.taken)
          c.rows.invariant.read _ _ _ _ (to_z-of_z w64 c.number.result fits ∙ c.number.ensures) c.record.ensures c.in_ok-values.ensures c.in_ok-source.ensures.noted;
    }
