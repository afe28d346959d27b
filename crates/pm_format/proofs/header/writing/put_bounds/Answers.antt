use Rattle.pm_format.proofs.Common.{append_assoc, FitsSigned, rules, to_z-of_z, w32}
use Rattle.pm_format.proofs.header.writing.put_bounds.Goals as goal

pub returns : goal.returns
returns c =
    let west : FitsSigned w32 c.args.header.now.min_longitude = search rules in
    let south : FitsSigned w32 c.args.header.now.min_latitude = search rules in
    let east : FitsSigned w32 c.args.header.now.max_longitude = search rules in
    let north : FitsSigned w32 c.args.header.now.max_latitude = search rules in
    rw (c.put_degrees-4.ensures, c.put_degrees-3.ensures, c.put_degrees-2.ensures, c.put_degrees.ensures)
    (simp (append_assoc, to_z-of_z))
