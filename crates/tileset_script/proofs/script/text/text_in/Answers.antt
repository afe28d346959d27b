use Rattle.tileset_script.proofs.Common.{ap, false, IsUtf8, IsUtf8-had, Some, subst, sym, true, ◌∙◌, ◌≡◌}
use Rattle.std.specs.String.{string_bytes}
use Rattle.tileset_script.proofs.TextLemmas.{text_bad, text_good}
use Rattle.tileset_script.proofs.script.text.text_in.Goals as goal

pub returns-in-Ok : goal.returns-in-Ok
returns-in-Ok c =
    let bytes = ap (λ v. v.items) c.in-Ok.ensures.ok in
    ap Some (c.new.ensures ∙ bytes) ∙ sym (text_good c.args.bytes.items (subst IsUtf8 bytes (IsUtf8-had (string_bytes c.in-Ok.text) c.in-Ok.text.ok)))

pub returns : goal.returns
returns c = let no : IsUtf8 c.args.bytes.items → ⊥ = λ u. (let e : false ≡ true = c.in-Err.ensures.succeeds u in absurd (cc)) in sym (text_bad c.args.bytes.items no)
