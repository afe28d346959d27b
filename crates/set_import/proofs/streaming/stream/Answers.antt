use Rattle.set_import.proofs.Common.{ap, arith, empty, Err, Flat, ImportCauses, length, ◌+◌, ◌≤◌, IsAnswered, List, Ok, Option, put_answered, refl, started, subst, sym, true≢false, ℕ, ◌∙◌, ◌≡◌, None}
use Rattle.mb_loaded.specs.Empty.{empty_state}
use Rattle.mb_tables.specs.declared.error.MbtError.TheVariants as stores
use Rattle.pm_format.specs.Directory.{Entry}
use Rattle.pm_reader.specs.Opening.{header_of, root_of}
use Rattle.pm_walk.specs.Collecting.{AllShallow, AreOrdered}
use Rattle.pm_walk.specs.Parts.{tile_count}
use Rattle.set_import.proofs.CountLemmas.{count_all}
use Rattle.set_import.proofs.FillingLemmas.{free_answered}
use Rattle.set_import.proofs.NewSetLemmas.{begun_new}
use Rattle.set_import.proofs.StreamedLemmas.{all_are_there, has_stopped, later_stop, may_flat, names_plain, reads_all, stop_causes, stop_read, streamed_filled, streamed_stopped, walk_causes}
use Rattle.set_import.specs.Batches.{AreThere, StopAnswers}
use Rattle.tile_hash.specs.declared.algorithm.HashAlgorithm.TheVariants.{Md5}
use Rattle.tile_import.proofs.AnswerLemmas.{all_put, read_answered}
use Rattle.tile_import.proofs.RefusalLemmas.{tiles_taken}
use Rattle.tile_import.specs.Putting.{with_contents}
use Rattle.set_import.proofs.streaming.stream.Goals as goal

pub count_tiles-count-requires : goal.count_tiles-count-requires
count_tiles-count-requires g c =
    let given = c.in-Ok.ensures.walked.1 in
    let n : tile_count c.as_slice-list.result.now ≡ tile_count c.in-Ok.walked.1.items = ap tile_count c.as_slice-list.ensures.value in
    let most = c.ranges.max_tiles.fits in
    omega (arith, n, given.few, most)

pub put_all-requires-clause-ordered : goal.put_all-requires-clause-ordered
put_all-requires-clause-ordered g c = subst (λ (l : List Entry). AreOrdered 0 l None) (sym c.as_slice-list.ensures.value) c.in-Ok.ensures.walked.1.ordered

pub put_all-requires-clause-shallow : goal.put_all-requires-clause-shallow
put_all-requires-clause-shallow g c = subst AllShallow (sym c.as_slice-list.ensures.value) c.in-Ok.ensures.walked.1.shallow

pub put_all-requires-clause-there : goal.put_all-requires-clause-there
put_all-requires-clause-there g c =
    subst (λ (o : Option (List ℕ)). AreThere o (header_of c.in-Ok.walked.0) c.as_slice-list.result.now) (sym c.walk_archive.ensures.kept.told)
    (subst (AreThere (g.B.Backend.told c.args.backend.now) (header_of c.in-Ok.walked.0)) (sym c.as_slice-list.ensures.value)
    (all_are_there (g.B.Backend.told c.args.backend.now) c.in-Ok.walked.0 c.args.max_tiles c.in-Ok.walked.1.items c.in-Ok.ensures.walked.0 c.in-Ok.ensures.open c.in-Ok.ensures.walked.1))

pub put_all-requires-clause-plain : goal.put_all-requires-clause-plain
put_all-requires-clause-plain g c = names_plain c.args.document.now c.in-Ok-names_of.names c.in-Ok-names_of.ensures.named

pub returns-in-Err-clause-answer : goal.returns-in-Err-clause-answer
returns-in-Err-clause-answer g c =
    let told = g.B.Backend.told c.args.backend.now in
    let tells = g.S.TileStore.tells c.args.store.now in
    let store = g.S.TileStore.told c.args.store.now in
    put_answered c.args.max_tiles told tells (started store) (empty_state Flat Md5) (Err c.in-Err.error) (begun_new tells store (λ t. g.met.S.TileStore.sound c.args.store.now t) c.requires.new)
    (read_answered c.args.max_tiles told (empty_state Flat Md5) c.in-Err.error c.in-Err.ensures.refused)

pub returns-in-Err-clause-causes : goal.returns-in-Err-clause-causes
returns-in-Err-clause-causes g c =
    walk_causes c.args.max_tiles (g.B.Backend.faults c.args.backend.now) (g.B.Backend.faults c.walk_archive.new.backend) (g.S.TileStore.faults c.args.store.now) (g.S.TileStore.faults c.args.store.now) c.in-Err.error c.in-Err.ensures.causes

pub returns-in-Err-names_of-clause-answer : goal.returns-in-Err-names_of-clause-answer
returns-in-Err-names_of-clause-answer g c =
    let told = g.B.Backend.told c.args.backend.now in
    let tells = g.S.TileStore.tells c.args.store.now in
    let made = started (g.S.TileStore.told c.args.store.now) in
    subst (λ x. IsAnswered c.args.max_tiles told tells made (Err x)) (sym c.in-Err-names_of.ensures.memory) (free_answered c.args.max_tiles told tells made stores.OutOfMemory refl)

pub returns-in-Err-names_of-clause-causes : goal.returns-in-Err-names_of-clause-causes
returns-in-Err-names_of-clause-causes g c =
    subst (λ x. ImportCauses c.args.max_tiles (g.B.Backend.faults c.args.backend.now) (g.B.Backend.faults c.walk_archive.new.backend) (g.S.TileStore.faults c.args.store.now) (g.S.TileStore.faults c.args.store.now) (Err x)) (sym c.in-Err-names_of.ensures.memory) tt

pub returns-in-Ok-put_all-clause-answer : goal.returns-in-Ok-put_all-clause-answer
returns-in-Ok-put_all-clause-answer g c =
    let told = g.B.Backend.told c.args.backend.now in
    let tells = g.S.TileStore.tells c.args.store.now in
    let store = g.S.TileStore.told c.args.store.now in
    let es = c.in-Ok.walked.1.items in
    let cs = c.in-Ok.ensures.walked.0 in
    let given = c.in-Ok.ensures.walked.1 in
    let all = with_contents empty es cs in
    put_answered c.args.max_tiles told tells (started store) (empty_state Flat Md5) (Ok c.count_tiles-count.result) (begun_new tells store (λ t. g.met.S.TileStore.sound c.args.store.now t) c.requires.new)
    (all_put c.args.max_tiles told (empty_state Flat Md5) all c.count_tiles-count.result
    (tiles_taken told (header_of c.in-Ok.walked.0, root_of c.in-Ok.walked.0) c.args.max_tiles es cs all c.in-Ok.ensures.open given.gathered given.contents refl)
    (may_flat all)
    (c.count_tiles-count.ensures ∙ (ap tile_count c.as_slice-list.ensures.value ∙ count_all es cs given.contents.0 given.ordered)))

pub returns-in-Ok-put_all-clause-causes : goal.returns-in-Ok-put_all-clause-causes
returns-in-Ok-put_all-clause-causes g c =
    let n : c.count_tiles-count.result ≡ tile_count c.in-Ok.walked.1.items = c.count_tiles-count.ensures ∙ ap tile_count c.as_slice-list.ensures.value in
    omega (arith, n, c.in-Ok.ensures.walked.1.few)

pub returns-in-Ok-put_all-clause-filled : goal.returns-in-Ok-put_all-clause-filled
returns-in-Ok-put_all-clause-filled g c t =
    streamed_filled (g.B.Backend.told c.args.backend.now) (g.B.Backend.told c.walk_archive.new.backend) c.in-Ok.walked.0 c.args.max_tiles c.args.document.now (g.S.TileStore.told c.args.store.now) (g.S.TileStore.told c.put_all.new.store) c.in-Ok.walked.1.items c.as_slice-list.result.now c.in-Ok-names_of.names c.in-Ok.ensures.walked.0
    c.walk_archive.ensures.kept.told c.as_slice-list.ensures.value c.in-Ok-names_of.ensures.named
    (g.met.S.TileStore.sound c.args.store.now t) (c.requires.new t) (g.met.S.TileStore.sound c.put_all.new.store (c.put_all.ensures.store_kept.tells ∙ t)) c.in-Ok.ensures.open c.in-Ok.ensures.walked.1
    c.count_tiles-count.result (c.count_tiles-count.ensures ∙ ap tile_count c.as_slice-list.ensures.value) (c.in-Ok-put_all.ensures.fills t)

pub returns-in-Ok-put_all-clause-reads : goal.returns-in-Ok-put_all-clause-reads
returns-in-Ok-put_all-clause-reads g c =
    reads_all (g.B.Backend.told c.args.backend.now) c.in-Ok.walked.0 c.args.max_tiles (g.B.Backend.reads c.args.backend.now) (g.B.Backend.reads c.walk_archive.new.backend) (g.B.Backend.reads c.put_all.new.backend) c.in-Ok.walked.1.items c.in-Ok.ensures.walked.0 c.in-Ok.ensures.open c.in-Ok.ensures.walked.1
    c.walk_archive.ensures.reads (subst (λ (l : List Entry). g.B.Backend.reads c.put_all.new.backend ≤ g.B.Backend.reads c.walk_archive.new.backend + length l) c.as_slice-list.ensures.value c.put_all.ensures.reads)

pub returns-clause-answer : goal.returns-clause-answer
returns-clause-answer g c =
    let told = g.B.Backend.told c.args.backend.now in
    let tells = g.S.TileStore.tells c.args.store.now in
    let store = g.S.TileStore.told c.args.store.now in
    put_answered c.args.max_tiles told tells (started store) (empty_state Flat Md5) (Err c.in-Err-put_all.error) (begun_new tells store (λ t. g.met.S.TileStore.sound c.args.store.now t) c.requires.new)
    (read_answered c.args.max_tiles told (empty_state Flat Md5) c.in-Err-put_all.error
    (stop_read told c.args.max_tiles c.in-Err-put_all.error (subst (λ (o : Option (List ℕ)). StopAnswers o c.in-Err-put_all.error) c.walk_archive.ensures.kept.told c.in-Err-put_all.ensures.told)))

pub returns-clause-causes : goal.returns-clause-causes
returns-clause-causes g c =
    let before = g.B.Backend.faults c.args.backend.now in
    let mid = g.B.Backend.faults c.walk_archive.new.backend in
    let now = g.B.Backend.faults c.put_all.new.backend in
    let old = g.S.TileStore.faults c.args.store.now in
    let new = g.S.TileStore.faults c.put_all.new.store in
    stop_causes c.args.max_tiles before now old new c.in-Err-put_all.error (later_stop before mid now old old new c.in-Err-put_all.error c.walk_archive.ensures.kept.faults (omega arith) c.in-Err-put_all.ensures.causes)

pub returns-clause-refused : goal.returns-clause-refused
returns-clause-refused g c unstopped =
    absurd (true≢false (sym (has_stopped (g.B.Backend.faults c.walk_archive.new.backend) (g.B.Backend.faults c.put_all.new.backend) (g.S.TileStore.faults c.args.store.now) (g.S.TileStore.faults c.put_all.new.store) c.in-Err-put_all.error c.in-Err-put_all.ensures.causes) ∙ unstopped))

pub returns-clause-stopped : goal.returns-clause-stopped
returns-clause-stopped g c t =
    streamed_stopped (g.B.Backend.told c.args.backend.now) (g.B.Backend.told c.walk_archive.new.backend) c.in-Ok.walked.0 c.args.max_tiles c.args.document.now (g.S.TileStore.told c.args.store.now) (g.S.TileStore.told c.put_all.new.store) c.in-Ok.walked.1.items c.as_slice-list.result.now c.in-Ok-names_of.names c.in-Ok.ensures.walked.0
    c.walk_archive.ensures.kept.told c.as_slice-list.ensures.value c.in-Ok-names_of.ensures.named
    (g.met.S.TileStore.sound c.args.store.now t) (c.requires.new t) (g.met.S.TileStore.sound c.put_all.new.store (c.put_all.ensures.store_kept.tells ∙ t)) c.in-Ok.ensures.open c.in-Ok.ensures.walked.1
    c.in-Err-put_all.error (has_stopped (g.B.Backend.faults c.walk_archive.new.backend) (g.B.Backend.faults c.put_all.new.backend) (g.S.TileStore.faults c.args.store.now) (g.S.TileStore.faults c.put_all.new.store) c.in-Err-put_all.error c.in-Err-put_all.ensures.causes)
    c.in-Err-put_all.ensures.told (c.in-Err-put_all.ensures.fills t)

pub returns-clause-reads : goal.returns-clause-reads
returns-clause-reads g c =
    reads_all (g.B.Backend.told c.args.backend.now) c.in-Ok.walked.0 c.args.max_tiles (g.B.Backend.reads c.args.backend.now) (g.B.Backend.reads c.walk_archive.new.backend) (g.B.Backend.reads c.put_all.new.backend) c.in-Ok.walked.1.items c.in-Ok.ensures.walked.0 c.in-Ok.ensures.open c.in-Ok.ensures.walked.1
    c.walk_archive.ensures.reads (subst (λ (l : List Entry). g.B.Backend.reads c.put_all.new.backend ≤ g.B.Backend.reads c.walk_archive.new.backend + length l) c.as_slice-list.ensures.value c.put_all.ensures.reads)
