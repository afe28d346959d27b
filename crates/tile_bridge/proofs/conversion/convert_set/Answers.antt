use Rattle.tile_bridge.proofs.Common.{ap, archive, IfSome, is_some, IsHiddenOr, List, places_of, refl, shown, subst, TookAll, ℕ, ◌∙◌, ◌≡◌}
use Rattle.tile_bridge.proofs.ConvertLemmas.{leaves_all, leaves_part, leaves_whole, read_refused, ready, told_same}
use Rattle.tile_bridge.proofs.StandsLemmas.{medium_anyway, read_stands, written_stands}
use Rattle.tile_bridge.proofs.conversion.convert_set.Goals as goal

pub returns-in-Err-clause-leaves : goal.returns-in-Err-clause-leaves
returns-in-Err-clause-leaves g c =
    let tiles = c.args.set.now.state.tiles in
    let adds = shown tiles c.in_ok-adds.adds.items in
    let can = ready c.args.options.now tiles adds c.in_ok-adds.ensures.are c.in_ok-adds.ensures.few c.fits.ensures.options c.fits.ensures.metadata c.requires.size in
    leaves_part c.args.options.now adds can tiles c.args.coords.now c.of_writer.result (g.M.Backend.told c.args.medium.now) (g.M.Backend.told c.write_archive.new.medium) c.in_ok-adds.ensures.are c.write_archive.ensures.kept.tells
    (subst (λ xs. IfSome (g.M.Backend.told c.write_archive.new.medium) (IsHiddenOr (archive c.args.options.now (shown tiles xs)))) c.deref.ensures.value c.write_archive.ensures.shown)

pub returns-in-Ok-read_answers-clause-leaves : goal.returns-in-Ok-read_answers-clause-leaves
returns-in-Ok-read_answers-clause-leaves g c =
    let tiles = c.args.set.now.state.tiles in
    let adds = shown tiles c.in_ok-adds.adds.items in
    let can = ready c.args.options.now tiles adds c.in_ok-adds.ensures.are c.in_ok-adds.ensures.few c.fits.ensures.options c.fits.ensures.metadata c.requires.size in
    let before = g.M.Backend.told c.write_archive.new.medium in
    let after = g.M.Backend.told c.read_answers.new.backend in
    let written : IfSome after (λ b. b ≡ archive c.args.options.now adds) = told_same (λ b. b ≡ archive c.args.options.now adds) before after c.read_answers.ensures.kept.told (subst (λ xs. IfSome before (λ b. b ≡ archive c.args.options.now (shown tiles xs))) c.deref.ensures.value c.in-Ok.ensures.bytes) in
    leaves_all c.args.options.now adds can tiles c.args.coords.now _ (g.M.Backend.told c.args.medium.now) after c.in_ok-adds.ensures.are
    (subst (λ xs. (taken : List (ℕ × List ℕ)) × TookAll (g.M.Backend.told c.args.medium.now) (shown tiles xs) taken × (c.in-Ok.places ≡ places_of c.args.options.now taken)) c.deref.ensures.value c.in-Ok.ensures.places) (ap is_some c.read_answers.ensures.kept.told ∙ c.write_archive.ensures.kept.tells) written
    (told_same (λ b. _) before after c.read_answers.ensures.kept.told c.in-Ok-read_answers.ensures.answers)

pub returns-in-Err-read_answers-clause-causes : goal.returns-in-Err-read_answers-clause-causes
returns-in-Err-read_answers-clause-causes g c =
    let tiles = c.args.set.now.state.tiles in
    let adds = shown tiles c.in_ok-adds.adds.items in
    let can = ready c.args.options.now tiles adds c.in_ok-adds.ensures.are c.in_ok-adds.ensures.few c.fits.ensures.options c.fits.ensures.metadata c.requires.size in
    let before = g.M.Backend.told c.write_archive.new.medium in
    let after = g.M.Backend.told c.read_answers.new.backend in
    let written : IfSome after (λ b. b ≡ archive c.args.options.now adds) = told_same (λ b. b ≡ archive c.args.options.now adds) before after c.read_answers.ensures.kept.told (subst (λ xs. IfSome before (λ b. b ≡ archive c.args.options.now (shown tiles xs))) c.deref.ensures.value c.in-Ok.ensures.bytes) in
    read_refused c.args.options.now adds can (g.M.Backend.faults c.write_archive.new.medium) (g.M.Backend.faults c.read_answers.new.backend) c.in-Err-read_answers.error c.of_reader.result (g.M.Backend.told c.args.medium.now) after c.of_reader.ensures
    (ap is_some c.read_answers.ensures.kept.told ∙ c.write_archive.ensures.kept.tells) written (told_same (λ b. _) before after c.read_answers.ensures.kept.told c.in-Err-read_answers.ensures.answers) c.in-Err-read_answers.ensures.causes

pub returns-in-Err-read_answers-clause-leaves : goal.returns-in-Err-read_answers-clause-leaves
returns-in-Err-read_answers-clause-leaves g c =
    let tiles = c.args.set.now.state.tiles in
    let adds = shown tiles c.in_ok-adds.adds.items in
    let can = ready c.args.options.now tiles adds c.in_ok-adds.ensures.are c.in_ok-adds.ensures.few c.fits.ensures.options c.fits.ensures.metadata c.requires.size in
    let before = g.M.Backend.told c.write_archive.new.medium in
    let after = g.M.Backend.told c.read_answers.new.backend in
    leaves_whole c.args.options.now adds can tiles c.args.coords.now c.of_reader.result (g.M.Backend.told c.args.medium.now) after c.in_ok-adds.ensures.are (ap is_some c.read_answers.ensures.kept.told ∙ c.write_archive.ensures.kept.tells)
    (told_same (λ b. b ≡ archive c.args.options.now adds) before after c.read_answers.ensures.kept.told (subst (λ xs. IfSome before (λ b. b ≡ archive c.args.options.now (shown tiles xs))) c.deref.ensures.value c.in-Ok.ensures.bytes))

pub returns-in-Ok-read_answers-clause-places : goal.returns-in-Ok-read_answers-clause-places
returns-in-Ok-read_answers-clause-places g c =
    let placed = subst (λ xs. (taken : List (ℕ × List ℕ)) × TookAll (g.M.Backend.told c.args.medium.now) (shown c.args.set.now.state.tiles xs) taken × (c.in-Ok.places ≡ places_of c.args.options.now taken)) c.deref.ensures.value c.in-Ok.ensures.places in
    record { adds = shown c.args.set.now.state.tiles c.in_ok-adds.adds.items; are = c.in_ok-adds.ensures.are; taken = placed.0; took = placed.1; places = placed.2 }

pub returns-in_err-adds-clause-still : goal.returns-in_err-adds-clause-still
returns-in_err-adds-clause-still g c = medium_anyway _ _ c.from_residual.result refl

pub returns-in-Err-clause-still : goal.returns-in-Err-clause-still
returns-in-Err-clause-still g c = written_stands _ _ c.in-Err.error c.of_writer.result c.of_writer.ensures

pub returns-in-Ok-read_answers-clause-still : goal.returns-in-Ok-read_answers-clause-still
returns-in-Ok-read_answers-clause-still g c = c.in-Ok-read_answers.ensures.still ∙ c.in-Ok.ensures.still

pub returns-in-Err-read_answers-clause-still : goal.returns-in-Err-read_answers-clause-still
returns-in-Err-read_answers-clause-still g c = read_stands _ _ _ c.in-Err-read_answers.error c.of_reader.result c.of_reader.ensures c.in-Ok.ensures.still c.in-Err-read_answers.ensures.still
