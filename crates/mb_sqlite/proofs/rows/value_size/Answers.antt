use Rattle.mb_sqlite.proofs.Common.{ap, IsUtf8, length, owned, rules, sym, value_size, ◌∙◌, ◌≡◌}
use Rattle.sqlite_value.specs.declared.value.Value.TheVariants as sql
use Rattle.mb_sqlite.proofs.SizingLemmas.{other_size, utf8_size}
use Rattle.mb_sqlite.proofs.rows.value_size.Goals as goal

pub returns-in-Ok-clause-size : goal.returns-in-Ok-clause-size
returns-in-Ok-clause-size c =
    let value : owned c.args.value ≡ sql.Text c.in-Text.bytes.now = ap owned c.in-Text.is in
    let valid : IsUtf8 c.in-Text.bytes.now = search rules in
    let text : c.in-Ok.text.now ≡ c.in-Text.bytes.now = search rules in
    ap length text ∙ sym (utf8_size c.in-Text.bytes.now valid) ∙ ap value_size (sym value)

pub returns-in-Err-clause-size : goal.returns-in-Err-clause-size
returns-in-Err-clause-size c =
    let value : owned c.args.value ≡ sql.Text c.in-Text.bytes.now = ap owned c.in-Text.is in
    let invalid : ¬ IsUtf8 c.in-Text.bytes.now = search rules in
    sym (other_size c.in-Text.bytes.now invalid) ∙ ap value_size (sym value)
