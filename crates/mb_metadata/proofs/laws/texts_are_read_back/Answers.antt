use Rattle.mb_metadata.proofs.Common.{codes, refl}
use Rattle.mb_metadata.proofs.ReadBackLemmas.{read_at}
use Rattle.mb_metadata.proofs.laws.texts_are_read_back.Goals as goal

pub returns-clause-name : goal.returns-clause-name
returns-clause-name c = λ id s t. read_at s.metadata t (codes "name") t.name (λ had. refl)

pub returns-clause-version : goal.returns-clause-version
returns-clause-version c = λ id s t. read_at s.metadata t (codes "version") t.version (λ had. refl)

pub returns-clause-description : goal.returns-clause-description
returns-clause-description c = λ id s t. read_at s.metadata t (codes "description") t.description (λ had. refl)

pub returns-clause-attribution : goal.returns-clause-attribution
returns-clause-attribution c = λ id s t. read_at s.metadata t (codes "attribution") t.attribution (λ had. refl)

pub returns-clause-legend : goal.returns-clause-legend
returns-clause-legend c = λ id s t. read_at s.metadata t (codes "legend") t.legend (λ had. refl)

pub returns-clause-template : goal.returns-clause-template
returns-clause-template c = λ id s t. read_at s.metadata t (codes "template") t.template (λ had. refl)
