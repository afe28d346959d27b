use Rattle.tile_header_check.proofs.CheckingLemmas.{told_right, told_wrong_metadata, told_wrong_tiles}
use Rattle.tile_header_check.proofs.Common.{Err, header_of, IfSome, metadata_fault, metadata_read, MetadataTests, Ok, refl, subst, TilesTested}
use Rattle.tile_header_check.proofs.checking.check_header.Goals as goal

pub returns-in-Err-test_tiles-clause-answer : goal.returns-in-Err-test_tiles-clause-answer
returns-in-Err-test_tiles-clause-answer g c =
    told_wrong_tiles (g.B.Backend.told c.args.source.now) (g.B.Backend.told c.open.new.backend) (g.B.Backend.told c.open.new.backend) c.in-Ok.state c.in-Ok-walk_all.met c.in-Err-test_tiles.error
    record { same = c.open.ensures.kept.told; kept = refl; opens = c.in-Ok.ensures.open; meets = c.in-Ok-walk_all.ensures.answer }
    (subst (λ h. TilesTested h c.in-Ok-walk_all.met (Err c.in-Err-test_tiles.error)) c.get_header.ensures c.in-Err-test_tiles.ensures)

pub returns-in-Ok-None-clause-answer : goal.returns-in-Ok-None-clause-answer
returns-in-Ok-None-clause-answer g c =
    told_right (g.B.Backend.told c.args.source.now) (g.B.Backend.told c.open.new.backend) (g.B.Backend.told c.walk_all.new.source) c.in-Ok.state c.in-Ok-walk_all.met c.in-Ok-test_tiles.report
    record { same = c.open.ensures.kept.told; kept = c.walk_all.ensures.kept.told; opens = c.in-Ok.ensures.open; meets = c.in-Ok-walk_all.ensures.answer }
    (subst (λ h. TilesTested h c.in-Ok-walk_all.met (Ok c.in-Ok-test_tiles.report)) c.get_header.ensures c.in-Ok-test_tiles.ensures)
    (subst (λ x. IfSome (g.B.Backend.told c.walk_all.new.source) (λ b. MetadataTests (metadata_fault (metadata_read b (header_of c.in-Ok.state))) (Ok x))) c.in-Ok-None.field-0-is c.in-Ok-None.ensures.answer)

pub returns-in-Ok-Some-clause-answer : goal.returns-in-Ok-Some-clause-answer
returns-in-Ok-Some-clause-answer g c =
    told_wrong_metadata (g.B.Backend.told c.args.source.now) (g.B.Backend.told c.open.new.backend) (g.B.Backend.told c.walk_all.new.source) c.in-Ok.state c.in-Ok-walk_all.met c.in-Ok-test_tiles.report c.in-Ok-Some.fault
    record { same = c.open.ensures.kept.told; kept = c.walk_all.ensures.kept.told; opens = c.in-Ok.ensures.open; meets = c.in-Ok-walk_all.ensures.answer }
    (subst (λ h. TilesTested h c.in-Ok-walk_all.met (Ok c.in-Ok-test_tiles.report)) c.get_header.ensures c.in-Ok-test_tiles.ensures)
    (subst (λ x. IfSome (g.B.Backend.told c.walk_all.new.source) (λ b. MetadataTests (metadata_fault (metadata_read b (header_of c.in-Ok.state))) (Ok x))) c.in-Ok-Some.field-0-is c.in-Ok-Some.ensures.answer)
