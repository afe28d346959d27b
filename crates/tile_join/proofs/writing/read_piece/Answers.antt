use Rattle.tile_join.proofs.Common.{all_told, arith, Err, get_or, Gives, header_of, IfSome, List, map, Ok, of_read, range_read, refl, SourcesStandAt, subst, sym, ℕ, [], ◌+◌, looked, PieceCauses, PieceRead}
use Rattle.tile_join.proofs.FindLemmas.{read_stands}
use Rattle.tile_join.proofs.SourceLemmas.{after, as_told, mapped_at, mapped_now, one_read, reads_grow, sources_at, stand_all, tells_at, where_told}
use Rattle.tile_join.proofs.CountLemmas.{range_fails}
use Rattle.tile_join.proofs.OneLemmas.{names, piece_err, piece_ok}
use Rattle.tile_join.proofs.writing.read_piece.Goals as goal

pub returns-in-Ok-clause-read : goal.returns-in-Ok-clause-read
returns-in-Ok-clause-read g c =
    where_told (λ bs. PieceRead (looked (map header_of c.args.readers.now) bs c.args.piece) c.args.piece (Ok c.in-Ok.bytes)) (all_told (map g.B.Backend.told c.args.sources.now.items))
    (λ bs told. piece_ok c.args.readers.now bs c.args.piece c.index-readers-number.result c.offset.result c.length.result c.in-Ok.bytes (omega (arith, c.requires.number, c.requires.readers)) c.index-readers-number.is c.offset.ensures c.length.ensures
    (as_told (λ b. Gives (range_read b ((header_of c.index-readers-number.result).data_offset + c.offset.result) c.length.result) (Ok c.in-Ok.bytes)) (g.B.Backend.told c.index_mut-source.result.now) (get_or bs c.args.piece.source [])
    (tells_at g.B.Backend.told g.B.Backend.versions g.B.Backend.faults g.B.Backend.reads g.B.Backend.steady c.args.sources.now.items c.args.piece.source c.index_mut-source.result.now c.read_contents.new.backend c.requires.number c.index_mut-source.ensures.value bs told) c.in-Ok.ensures.answer))

pub returns-in-Ok-clause-still : goal.returns-in-Ok-clause-still
returns-in-Ok-clause-still g c =
    stand_all g.B.Backend.told g.B.Backend.versions g.B.Backend.faults g.B.Backend.reads g.B.Backend.steady c.args.sources.now.items c.args.piece.source c.index_mut-source.result.now c.read_contents.new.backend c.requires.number c.index_mut-source.ensures.value c.in-Ok.ensures.still

pub returns-in-Ok-clause-kept : goal.returns-in-Ok-clause-kept
returns-in-Ok-clause-kept g c =
    one_read g.B.Backend.told g.B.Backend.versions g.B.Backend.faults g.B.Backend.reads g.B.Backend.steady c.args.sources.now.items c.args.piece.source c.index_mut-source.result.now c.read_contents.new.backend c.requires.number c.index_mut-source.ensures.value c.read_contents.ensures.kept

pub returns-in-Ok-clause-reads : goal.returns-in-Ok-clause-reads
returns-in-Ok-clause-reads g c =
    reads_grow g.B.Backend.told g.B.Backend.versions g.B.Backend.faults g.B.Backend.reads g.B.Backend.steady c.args.sources.now.items c.args.piece.source c.index_mut-source.result.now c.read_contents.new.backend c.requires.number c.index_mut-source.ensures.value 1 c.read_contents.ensures.reads.most

pub returns-in-Err-clause-read : goal.returns-in-Err-clause-read
returns-in-Err-clause-read g c =
    subst (λ z. IfSome (all_told (map g.B.Backend.told c.args.sources.now.items)) (λ bs. PieceRead (looked (map header_of c.args.readers.now) bs c.args.piece) c.args.piece (Err z))) (sym c.of_reader.ensures)
    (where_told (λ bs. PieceRead (looked (map header_of c.args.readers.now) bs c.args.piece) c.args.piece (Err (of_read c.args.piece.source c.in-Err.error))) (all_told (map g.B.Backend.told c.args.sources.now.items))
    (λ bs told. piece_err c.args.readers.now bs c.args.piece c.index-readers-number.result c.offset.result c.length.result c.in-Err.error (omega (arith, c.requires.number, c.requires.readers)) c.index-readers-number.is c.offset.ensures c.length.ensures
    (as_told (λ b. Gives (range_read b ((header_of c.index-readers-number.result).data_offset + c.offset.result) c.length.result) (Err c.in-Err.error)) (g.B.Backend.told c.index_mut-source.result.now) (get_or bs c.args.piece.source [])
    (tells_at g.B.Backend.told g.B.Backend.versions g.B.Backend.faults g.B.Backend.reads g.B.Backend.steady c.args.sources.now.items c.args.piece.source c.index_mut-source.result.now c.read_contents.new.backend c.requires.number c.index_mut-source.ensures.value bs told) c.in-Err.ensures.answer)))

pub returns-in-Err-clause-causes : goal.returns-in-Err-clause-causes
returns-in-Err-clause-causes g c =
    subst (λ z. PieceCauses {A = List ℕ} c.args.piece (map g.B.Backend.faults c.args.sources.now.items) (map g.B.Backend.faults (after g.B.Backend.told g.B.Backend.versions g.B.Backend.faults g.B.Backend.reads g.B.Backend.steady c.args.sources.now.items c.args.piece.source c.index_mut-source.result.now c.read_contents.new.backend c.requires.number c.index_mut-source.ensures.value)) (Err z)) (sym c.of_reader.ensures)
    (range_fails c.args.piece.source c.args.piece (map g.B.Backend.faults c.args.sources.now.items) (map g.B.Backend.faults (after g.B.Backend.told g.B.Backend.versions g.B.Backend.faults g.B.Backend.reads g.B.Backend.steady c.args.sources.now.items c.args.piece.source c.index_mut-source.result.now c.read_contents.new.backend c.requires.number c.index_mut-source.ensures.value)) (g.B.Backend.faults c.index_mut-source.result.now) (g.B.Backend.faults c.read_contents.new.backend) c.in-Err.error refl
    (mapped_at g.B.Backend.told g.B.Backend.versions g.B.Backend.faults g.B.Backend.reads g.B.Backend.steady c.args.sources.now.items c.args.piece.source c.index_mut-source.result.now c.read_contents.new.backend c.requires.number c.index_mut-source.ensures.value g.B.Backend.faults) (mapped_now g.B.Backend.told g.B.Backend.versions g.B.Backend.faults g.B.Backend.reads g.B.Backend.steady c.args.sources.now.items c.args.piece.source c.index_mut-source.result.now c.read_contents.new.backend c.requires.number c.index_mut-source.ensures.value g.B.Backend.faults) c.in-Err.ensures.causes)

pub returns-in-Err-clause-still : goal.returns-in-Err-clause-still
returns-in-Err-clause-still g c =
    subst (SourcesStandAt (map g.B.Backend.faults c.args.sources.now.items) (map g.B.Backend.faults (after g.B.Backend.told g.B.Backend.versions g.B.Backend.faults g.B.Backend.reads g.B.Backend.steady c.args.sources.now.items c.args.piece.source c.index_mut-source.result.now c.read_contents.new.backend c.requires.number c.index_mut-source.ensures.value))) (sym c.of_reader.ensures)
    (sources_at g.B.Backend.told g.B.Backend.versions g.B.Backend.faults g.B.Backend.reads g.B.Backend.steady c.args.sources.now.items c.args.piece.source c.index_mut-source.result.now c.read_contents.new.backend c.requires.number c.index_mut-source.ensures.value {A = ℕ} (Err (of_read c.args.piece.source c.in-Err.error)) (names c.args.piece.source c.in-Err.error)
    (read_stands c.args.piece.source (g.B.Backend.faults c.index_mut-source.result.now) (g.B.Backend.faults c.read_contents.new.backend) c.in-Err.error c.in-Err.ensures.still))

pub returns-in-Err-clause-kept : goal.returns-in-Err-clause-kept
returns-in-Err-clause-kept g c =
    one_read g.B.Backend.told g.B.Backend.versions g.B.Backend.faults g.B.Backend.reads g.B.Backend.steady c.args.sources.now.items c.args.piece.source c.index_mut-source.result.now c.read_contents.new.backend c.requires.number c.index_mut-source.ensures.value c.read_contents.ensures.kept

pub returns-in-Err-clause-reads : goal.returns-in-Err-clause-reads
returns-in-Err-clause-reads g c =
    reads_grow g.B.Backend.told g.B.Backend.versions g.B.Backend.faults g.B.Backend.reads g.B.Backend.steady c.args.sources.now.items c.args.piece.source c.index_mut-source.result.now c.read_contents.new.backend c.requires.number c.index_mut-source.ensures.value 1 c.read_contents.ensures.reads.most
