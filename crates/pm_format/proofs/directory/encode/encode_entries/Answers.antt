use Rattle.pm_format.proofs.Common.{ap, length, length-map, map, sym, varint, [], ◌++◌, ◌∙◌}
use Rattle.pm_format.proofs.DirectoryPieces.{directory_written}
use Rattle.pm_format.proofs.directory.encode.encode_entries.Goals as goal

pub returns : goal.returns
returns g c =
    let count = c.in_ok-write_varint.ensures.ok ∙ (ap (λ xs. xs ++ varint (length c.args.entries.now)) c.in_ok-out.ensures.items ∙ ap (λ n. [] ++ varint n) (sym (length-map c.args.entries.now g.E.AsWide.entry))) in
    directory_written (map g.E.AsWide.entry c.args.entries.now) [] _ _ _ _ _ count c.in_ok-write_ids.ensures c.in_ok-write_runs.ensures c.in_ok-write_lengths.ensures c.in_ok-write_offsets.ensures
