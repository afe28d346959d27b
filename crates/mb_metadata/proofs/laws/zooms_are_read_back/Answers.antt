use Rattle.mb_metadata.proofs.Common.{codes, maxzoom_within, minzoom_within, refl, span, zooms_of}
use Rattle.mb_metadata.proofs.ReadBackLemmas.{zoom_now}
use Rattle.mb_metadata.proofs.laws.zooms_are_read_back.Goals as goal

pub returns-clause-minzoom : goal.returns-clause-minzoom
returns-clause-minzoom c = λ id s t p q least greatest low high.
    let a = zoom_now s.metadata t (codes "minzoom") t.minzoom p (λ had. refl) least low in
    let b = zoom_now s.metadata t (codes "maxzoom") t.maxzoom q (λ had. refl) greatest high in
    λ i. minzoom_within (span (zooms_of s.tiles)) (a i) (b i)

pub returns-clause-maxzoom : goal.returns-clause-maxzoom
returns-clause-maxzoom c = λ id s t p q least greatest low high.
    let a = zoom_now s.metadata t (codes "minzoom") t.minzoom p (λ had. refl) least low in
    let b = zoom_now s.metadata t (codes "maxzoom") t.maxzoom q (λ had. refl) greatest high in
    λ i. maxzoom_within (span (zooms_of s.tiles)) (a i) (b i)
