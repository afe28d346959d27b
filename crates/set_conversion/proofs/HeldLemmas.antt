-- The options of a set by its metadata and the facts of its tiles.
use Rattle.set_conversion.proofs.Common.{ap, subst, ◌≡◌}
use Rattle.mb_lists.specs.Metadata.{Names}
use Rattle.mb_loaded.specs.State.{State}
use Rattle.set_options.specs.Facts.{facts_of}
use Rattle.set_options.specs.OptionsOfSet.{AreOptionsOfSet, AreSaidOf, writer_of}
use Rattle.set_options.specs.declared.facts.TileFacts.{TileFacts}
use Rattle.set_options.specs.declared.options.SetOptions.{SetOptions}

pub options_held : (s : State) (names : Names) (facts : TileFacts) (o : SetOptions) → names ≡ s.metadata → facts ≡ facts_of s.tiles → AreSaidOf names facts o → AreOptionsOfSet s (writer_of o)
options_held s names facts o same known said =
    let of : AreSaidOf s.metadata (facts_of s.tiles) o = subst (λ (f : TileFacts). AreSaidOf s.metadata f o) known (subst (λ (n : Names). AreSaidOf n facts o) same said) in
    record { text = o.metadata; is_text = of.0; are = ap writer_of of.1 }
