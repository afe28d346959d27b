-- The values of a record, one after another.
use Rattle.std.proofs.Common.{ap, length}
use Rattle.std.proofs.lemmas.Iterator.{YieldsList}
use Rattle.std.proofs.lemmas.Iterator.Consumers.{YieldsList-from_shown}
use Rattle.sqlite_record.specs.Fields.{fields_left, GivesField}
use Rattle.sqlite_record.specs.declared.fields.Fields.{Fields}
use Rattle.sqlite_value.specs.Value.{owned}

pub fields_yield : (s : Fields) → YieldsList GivesField owned s (fields_left s)
fields_yield = YieldsList-from_shown GivesField owned fields_left (λ s t p. ap length p.0) (λ s x t p. p)
