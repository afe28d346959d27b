use Rattle.std.proofs.Common.{ap, is_some, ◌∙◌}
use Rattle.mb_file.proofs.listing.Listing.new.Goals as goal

pub returns-clause-listed : goal.returns-clause-listed
returns-clause-listed c = λ none layout usable secret pages rows stored few. record {
  stands = c.new.ensures.stands (c.is_keyed.ensures ∙ ap is_some none) layout usable c.args.of.root pages c.args.table c.args.of.columns rows stored few;
  notes = c.new.ensures.noted layout usable c.args.of.root secret c.args.table c.args.of.columns rows stored;
  rowids = none;
  sorted = λ is. absurd (let e = is in cc);
}
