use Rattle.pm_format.proofs.Common.{fields, FitsSigned, refl, rules, to_z-of_z, w32}
use Rattle.pm_format.proofs.header.reading.read_fields.Goals as goal

pub returns : goal.returns
returns c =
    let west : FitsSigned w32 c.read_degrees.result = search rules in
    let south : FitsSigned w32 c.read_degrees-2.result = search rules in
    let east : FitsSigned w32 c.read_degrees-3.result = search rules in
    let north : FitsSigned w32 c.read_degrees-4.result = search rules in
    let center_x : FitsSigned w32 c.read_degrees-5.result = search rules in
    let center_y : FitsSigned w32 c.read_degrees-6.result = search rules in
    simp to_z-of_z (rw (
      c.read_word.ensures,
      c.read_word-2.ensures,
      c.read_word-3.ensures,
      c.read_word-4.ensures,
      c.read_word-5.ensures,
      c.read_word-6.ensures,
      c.read_word-7.ensures,
      c.read_word-8.ensures,
      c.read_word-9.ensures,
      c.read_word-10.ensures,
      c.read_word-11.ensures,
      c.read_degrees.ensures,
      c.read_degrees-2.ensures,
      c.read_degrees-3.ensures,
      c.read_degrees-4.ensures,
      c.read_degrees-5.ensures,
      c.read_degrees-6.ensures,
    )
    (refl {a = fields c.args.bytes.now c.args.internal_compression c.args.tile_compression c.args.tile_type}))
