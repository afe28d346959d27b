use Rattle.pm_writer.proofs.Common.{AllShort, ap, archive, arith, below_layout, entries_of_adds, laid, length, subst, sum_by, sym, ◌-◌, ◌<◌, ◌^◌, ◌∙◌, ◌≡◌, ◌≤◌}
use Rattle.pm_writer.proofs.AssembledParts.{archivable, archive_length, below_built, ends_by, header_is, most_is, places_are, state_fits, state_runs, too_long}
use Rattle.pm_writer.proofs.state.WriterState.assemble.Goals as goal

pub addressed_tiles-addressed-requires : goal.addressed_tiles-addressed-requires
addressed_tiles-addressed-requires c =
    let i = c.requires in
    let e = c.in-Ok.ensures i.1 i.2.means in
    subst (λ z. sum_by (λ e. e.run_length) z < 2 ^ 64) (sym c.deref.ensures.value) (state_runs i.0 c.args.self i.1 c.in-Ok.entries.items i.2 e.0 e.1)

pub build-requires-clause-fits : goal.build-requires-clause-fits
build-requires-clause-fits c = let i = c.requires in state_fits i.0 c.args.self i.1 c.in-Ok.entries.items i.2 (c.in-Ok.ensures i.1 i.2.means).0

pub build-requires-clause-some : goal.build-requires-clause-some
build-requires-clause-some c = let i = c.requires in omega (arith, most_is i.0 c.args.self i.1 i.2, i.2.of.fit.least_leaf)

pub returns-then-end-len-clause-causes : goal.returns-then-end-len-clause-causes
returns-then-end-len-clause-causes c = λ o adds i.
    let e = c.in-Ok.ensures adds i.means in
    let built = below_built o adds c.in-Ok.entries.items _ c.in-Ok-build.directories e.0 (most_is o c.args.self adds i) c.in-Ok-build.ensures.are in
    let long : 2 ^ 64 ≤ length (archive o adds) = omega (arith, archive_length o adds i.of.fit, ap length built.below, ends_by o c.args.self adds c.total-data_length.result i c.total-data_length.ensures, c.len.ensures) in
    (e.1, too_long o adds long)

pub returns-clause-causes : goal.returns-clause-causes
returns-clause-causes c = λ o adds i.
    let e = c.in-Ok.ensures adds i.means in
    let most = most_is o c.args.self adds i in
    let built = below_built o adds c.in-Ok.entries.items _ c.in-Ok-build.directories e.0 most c.in-Ok-build.ensures.are in
    let long : length (archive o adds) < 2 ^ 64 = omega (arith, archive_length o adds i.of.fit, ap length built.below, ends_by o c.args.self adds c.total-data_length.result i c.total-data_length.ensures, c.len.ensures) in
    let short = subst (λ z. AllShort (below_layout (laid z (entries_of_adds adds)))) most (subst (λ z. AllShort (below_layout (laid c.args.self.settings.max_leaf_entries z))) e.0 c.in-Ok-build.ensures.causes) in
    archivable o c.args.self adds i e.1 short long

pub returns-clause-is : goal.returns-clause-is
returns-clause-is c = λ o adds i.
    let e = c.in-Ok.ensures adds i.means in
    let built = below_built o adds c.in-Ok.entries.items _ c.in-Ok-build.directories e.0 (most_is o c.args.self adds i) c.in-Ok-build.ensures.are in
    let addressed = c.addressed_tiles-addressed.ensures ∙ ap (sum_by (λ e. e.run_length)) c.deref.ensures.value in
    let places = c.of-places.ensures ∙ places_are o c.args.self adds c.in-Ok.entries.items c.in-Ok-build.directories c.total-data_length.result c.addressed_tiles-addressed.result _ c.count-contents.result i e.0 built c.total-data_length.ensures addressed (omega arith) (c.count-contents.ensures adds i.means) in
    let metadata : c.args.self.data_offset - 16384 ≡ length o.metadata = omega (arith, i.of.place) in
    record {
      directories = built;
      header = c.header-header.ensures ∙ header_is o adds c.args.self.settings c.of-places.result _ c.rises-clustered.result i.of.settings places metadata (c.rises-clustered.ensures adds i.means);
      places = places;
      end = ends_by o c.args.self adds c.total-data_length.result i c.total-data_length.ensures;
    }
