use Rattle.tile_join.proofs.Common.{all_told, arith, Err, get_or, header_of, IfSome, length-map, map, Ok, of_read, SourcesStandAt, subst, sym, ℕ, [], ◌-◌, TextCauses, TextRead, TextRefused}
use Rattle.tile_join.proofs.FindLemmas.{read_stands}
use Rattle.tile_join.proofs.SourceLemmas.{after, as_told, mapped_at, mapped_now, one_read, reads_grow, sources_at, stand_all, tells_at, told_long, where_told}
use Rattle.pm_reader.specs.Metadata.{MetadataAnswers, metadata_read}
use Rattle.tile_join.proofs.OneLemmas.{names, text_causes, text_err, text_ok}
use Rattle.tile_join.proofs.planning.last_text.Goals as goal

pub returns-in-Ok-clause-read : goal.returns-in-Ok-clause-read
returns-in-Ok-clause-read g c =
    where_told (λ bs. TextRead bs (map header_of c.args.readers.now) (Ok c.in-Ok.text)) (all_told (map g.B.Backend.told c.args.sources.now.items))
    (λ bs told. text_ok c.args.readers.now bs (c.len-last.result - 1) c.index-readers-last.result c.in-Ok.text (omega (arith, c.len-last.ensures, told_long (map g.B.Backend.told c.args.sources.now.items) bs told, length-map c.args.sources.now.items g.B.Backend.told)) (omega (arith, c.requires.some, c.len-last.ensures, c.requires.readers)) c.index-readers-last.is
    (as_told (λ b. MetadataAnswers (metadata_read b (header_of c.index-readers-last.result)) (Ok c.in-Ok.text)) (g.B.Backend.told c.index_mut-source.result.now) (get_or bs (c.len-last.result - 1) []) (tells_at g.B.Backend.told g.B.Backend.versions g.B.Backend.faults g.B.Backend.reads g.B.Backend.steady c.args.sources.now.items (c.len-last.result - 1) c.index_mut-source.result.now c.get_metadata.new.backend (omega (arith, c.requires.some, c.len-last.ensures)) c.index_mut-source.ensures.value bs told) c.in-Ok.ensures.answer))

pub returns-in-Ok-clause-still : goal.returns-in-Ok-clause-still
returns-in-Ok-clause-still g c =
    stand_all g.B.Backend.told g.B.Backend.versions g.B.Backend.faults g.B.Backend.reads g.B.Backend.steady c.args.sources.now.items (c.len-last.result - 1) c.index_mut-source.result.now c.get_metadata.new.backend (omega (arith, c.requires.some, c.len-last.ensures)) c.index_mut-source.ensures.value c.in-Ok.ensures.still

pub returns-in-Ok-clause-kept : goal.returns-in-Ok-clause-kept
returns-in-Ok-clause-kept g c =
    one_read g.B.Backend.told g.B.Backend.versions g.B.Backend.faults g.B.Backend.reads g.B.Backend.steady c.args.sources.now.items (c.len-last.result - 1) c.index_mut-source.result.now c.get_metadata.new.backend (omega (arith, c.requires.some, c.len-last.ensures)) c.index_mut-source.ensures.value c.get_metadata.ensures.kept

pub returns-in-Ok-clause-reads : goal.returns-in-Ok-clause-reads
returns-in-Ok-clause-reads g c =
    reads_grow g.B.Backend.told g.B.Backend.versions g.B.Backend.faults g.B.Backend.reads g.B.Backend.steady c.args.sources.now.items (c.len-last.result - 1) c.index_mut-source.result.now c.get_metadata.new.backend (omega (arith, c.requires.some, c.len-last.ensures)) c.index_mut-source.ensures.value 1 c.get_metadata.ensures.reads.most

pub returns-in-Err-clause-read : goal.returns-in-Err-clause-read
returns-in-Err-clause-read g c =
    subst (λ z. IfSome (all_told (map g.B.Backend.told c.args.sources.now.items)) (λ bs. TextRefused bs (map header_of c.args.readers.now) z)) (sym c.of_reader.ensures)
    (where_told (λ bs. TextRefused bs (map header_of c.args.readers.now) (of_read (c.len-last.result - 1) c.in-Err.error)) (all_told (map g.B.Backend.told c.args.sources.now.items))
    (λ bs told. text_err c.args.readers.now bs (c.len-last.result - 1) c.index-readers-last.result c.in-Err.error (omega (arith, c.len-last.ensures, told_long (map g.B.Backend.told c.args.sources.now.items) bs told, length-map c.args.sources.now.items g.B.Backend.told)) (omega (arith, c.requires.some, c.len-last.ensures, c.requires.readers)) c.index-readers-last.is
    (as_told (λ b. MetadataAnswers (metadata_read b (header_of c.index-readers-last.result)) (Err c.in-Err.error)) (g.B.Backend.told c.index_mut-source.result.now) (get_or bs (c.len-last.result - 1) []) (tells_at g.B.Backend.told g.B.Backend.versions g.B.Backend.faults g.B.Backend.reads g.B.Backend.steady c.args.sources.now.items (c.len-last.result - 1) c.index_mut-source.result.now c.get_metadata.new.backend (omega (arith, c.requires.some, c.len-last.ensures)) c.index_mut-source.ensures.value bs told) c.in-Err.ensures.answer)))

pub returns-in-Err-clause-causes : goal.returns-in-Err-clause-causes
returns-in-Err-clause-causes g c =
    subst (TextCauses (map g.B.Backend.faults c.args.sources.now.items) (map g.B.Backend.faults (after g.B.Backend.told g.B.Backend.versions g.B.Backend.faults g.B.Backend.reads g.B.Backend.steady c.args.sources.now.items (c.len-last.result - 1) c.index_mut-source.result.now c.get_metadata.new.backend (omega (arith, c.requires.some, c.len-last.ensures)) c.index_mut-source.ensures.value))) (sym c.of_reader.ensures)
    (text_causes (c.len-last.result - 1) (map g.B.Backend.faults c.args.sources.now.items) (map g.B.Backend.faults (after g.B.Backend.told g.B.Backend.versions g.B.Backend.faults g.B.Backend.reads g.B.Backend.steady c.args.sources.now.items (c.len-last.result - 1) c.index_mut-source.result.now c.get_metadata.new.backend (omega (arith, c.requires.some, c.len-last.ensures)) c.index_mut-source.ensures.value)) (g.B.Backend.faults c.index_mut-source.result.now) (g.B.Backend.faults c.get_metadata.new.backend) c.in-Err.error (omega (arith, c.requires.some, c.len-last.ensures, length-map c.args.sources.now.items g.B.Backend.faults))
    (mapped_at g.B.Backend.told g.B.Backend.versions g.B.Backend.faults g.B.Backend.reads g.B.Backend.steady c.args.sources.now.items (c.len-last.result - 1) c.index_mut-source.result.now c.get_metadata.new.backend (omega (arith, c.requires.some, c.len-last.ensures)) c.index_mut-source.ensures.value g.B.Backend.faults) (mapped_now g.B.Backend.told g.B.Backend.versions g.B.Backend.faults g.B.Backend.reads g.B.Backend.steady c.args.sources.now.items (c.len-last.result - 1) c.index_mut-source.result.now c.get_metadata.new.backend (omega (arith, c.requires.some, c.len-last.ensures)) c.index_mut-source.ensures.value g.B.Backend.faults) c.in-Err.ensures.causes)

pub returns-in-Err-clause-still : goal.returns-in-Err-clause-still
returns-in-Err-clause-still g c =
    subst (SourcesStandAt (map g.B.Backend.faults c.args.sources.now.items) (map g.B.Backend.faults (after g.B.Backend.told g.B.Backend.versions g.B.Backend.faults g.B.Backend.reads g.B.Backend.steady c.args.sources.now.items (c.len-last.result - 1) c.index_mut-source.result.now c.get_metadata.new.backend (omega (arith, c.requires.some, c.len-last.ensures)) c.index_mut-source.ensures.value))) (sym c.of_reader.ensures)
    (sources_at g.B.Backend.told g.B.Backend.versions g.B.Backend.faults g.B.Backend.reads g.B.Backend.steady c.args.sources.now.items (c.len-last.result - 1) c.index_mut-source.result.now c.get_metadata.new.backend (omega (arith, c.requires.some, c.len-last.ensures)) c.index_mut-source.ensures.value {A = ℕ} (Err (of_read (c.len-last.result - 1) c.in-Err.error)) (names (c.len-last.result - 1) c.in-Err.error)
    (read_stands (c.len-last.result - 1) (g.B.Backend.faults c.index_mut-source.result.now) (g.B.Backend.faults c.get_metadata.new.backend) c.in-Err.error c.in-Err.ensures.still))

pub returns-in-Err-clause-kept : goal.returns-in-Err-clause-kept
returns-in-Err-clause-kept g c =
    one_read g.B.Backend.told g.B.Backend.versions g.B.Backend.faults g.B.Backend.reads g.B.Backend.steady c.args.sources.now.items (c.len-last.result - 1) c.index_mut-source.result.now c.get_metadata.new.backend (omega (arith, c.requires.some, c.len-last.ensures)) c.index_mut-source.ensures.value c.get_metadata.ensures.kept

pub returns-in-Err-clause-reads : goal.returns-in-Err-clause-reads
returns-in-Err-clause-reads g c =
    reads_grow g.B.Backend.told g.B.Backend.versions g.B.Backend.faults g.B.Backend.reads g.B.Backend.steady c.args.sources.now.items (c.len-last.result - 1) c.index_mut-source.result.now c.get_metadata.new.backend (omega (arith, c.requires.some, c.len-last.ensures)) c.index_mut-source.ensures.value 1 c.get_metadata.ensures.reads.most
