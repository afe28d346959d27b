use Rattle.set_options.proofs.Common.{ap, document_of, IsJsonOf, subst, ◌∙◌}
use Rattle.set_options.proofs.document.document_of_members.Goals as goal

pub returns : goal.returns
returns c = record {
  json = c.in_ok-json.json;
  is_json = subst (λ ms. IsJsonOf ms c.in_ok-json.json) c.in_ok-names.ensures.kept c.in_ok-json.ensures;
  is = c.in_ok-document.ensures ∙ ap (λ names. document_of c.args.header.now names c.in_ok-json.json) c.in_ok-names.ensures.names;
}
