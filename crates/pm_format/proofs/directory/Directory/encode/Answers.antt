use Rattle.pm_format.proofs.Common.{IsWritable, subst, sym, ◌∙◌}
use Rattle.pm_format.proofs.DirectoryPieces.{not_falling_zero, placed_writable, same_entries}
use Rattle.pm_format.proofs.directory.Directory.encode.Goals as goal

pub encode_entries-requires : goal.encode_entries-requires
encode_entries-requires c = subst (IsWritable 0) (sym (same_entries c.entries.result.now ∙ c.entries.ensures.value)) (placed_writable 0 c.args.self.now (not_falling_zero c.args.self.now c.entries.ensures.ordered) c.requires)
