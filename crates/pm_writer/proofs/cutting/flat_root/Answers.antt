use Rattle.pm_writer.proofs.Common.{fits_writable, IsWritable, same_entries, subst, sym}
use Rattle.pm_writer.proofs.cutting.flat_root.Goals as goal

pub root_bytes-requires : goal.root_bytes-requires
root_bytes-requires c = subst (IsWritable 0) (sym (same_entries c.args.entries.now)) (fits_writable 0 c.args.entries.now c.requires)
