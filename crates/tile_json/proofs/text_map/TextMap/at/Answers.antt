use Rattle.tile_json.proofs.Common.{ap, arith, Some, sym, ◌<◌, ◌∙◌}
use Rattle.std.proofs.lemmas.Option.{slice_get_read}
use Rattle.tile_json.proofs.MapLemmas.{entries_are, len_is}
use Rattle.tile_json.proofs.text_map.TextMap.at.Goals as goal

pub index-requires : goal.index-requires
index-requires g c = omega (arith, len_is _ _ c.self.invariant c.self.view_is, c.self.inside.entries.ok.0, c.requires)

-- the entry that was read, with its name as a text
pub returns : goal.returns
returns g c =
    let within : c.args.index < c.self.inside.entries.len = omega (arith, len_is _ _ c.self.invariant c.self.view_is, c.self.inside.entries.ok.0, c.requires) in
    rw (entries_are _ _ c.self.invariant c.self.view_is)
    (slice_get_read c.self.inside.entries.items _ c.args.index c.index.result.now c.self.inside.entries.ok.0 within c.index.ensures ∙ ap (λ name. Some (name, c.index.result.now.1)) (sym c.as_str.ensures))
