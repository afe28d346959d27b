use Rattle.mb_file.proofs.OpenedLemmas.{named_size}
use Rattle.mb_file.proofs.pages.page_size.Goals as goal

pub returns-in-Ok-Some-clause-size : goal.returns-in-Ok-Some-clause-size
returns-in-Ok-Some-clause-size g c = λ clean. record {
  by_log = λ there. named_size _ c.in-Ok-Some.size _ c.in-Ok-Some.field-0-is (c.in-Ok-Some.ensures.by_log clean there);
  by_file = λ none. named_size _ c.in-Ok-Some.size _ c.in-Ok-Some.field-0-is (c.in-Ok-Some.ensures.by_file clean none);
}
