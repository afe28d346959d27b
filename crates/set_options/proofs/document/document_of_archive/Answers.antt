use Rattle.set_options.proofs.WholeLemmas.{document_whole}
use Rattle.set_options.proofs.Common.{members_view}
use Rattle.set_options.proofs.document.document_of_archive.Goals as goal

pub returns-in-Ok-document_of_members-clause-answer : goal.returns-in-Ok-document_of_members-clause-answer
returns-in-Ok-document_of_members-clause-answer c = (members_view c.in-Ok.members.entries, c.in-Ok.ensures.members, c.in-Ok-document_of_members.ensures)

pub returns-in-Ok-document_of_members-clause-whole : goal.returns-in-Ok-document_of_members-clause-whole
returns-in-Ok-document_of_members-clause-whole c = document_whole c.args.header.now (members_view c.in-Ok.members.entries) c.in-Ok-document_of_members.document c.in-Ok-document_of_members.ensures
