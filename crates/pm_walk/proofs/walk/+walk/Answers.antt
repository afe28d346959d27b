use Rattle.pm_walk.proofs.Common.{ap, arith, header_of, Ok, refl, ◌∙◌}
use Rattle.pm_walk.proofs.StepLemmas.{begins, ends, falls, passes, passes_leaf, stops, stops_under}
use Rattle.pm_walk.proofs.walk.+walk.Goals as goal

pub loop-first-init : goal.loop-first-init
loop-first-init g t c = (
  record { told = refl; versions = refl; faults = omega arith; calm = λ s. (s, refl) },
  refl,
  λ old held. begins g.T.TakesEntries.holds c.args.extent (g.B.Backend.told c.args.backend.now) (header_of c.args.state.now) c.args.intervals.now c.args.left c.args.low c.args.limit c.args.directory.now c.entries-rest.result.now old c.args.collecting.now.taker c.args.collecting.now.room (g.B.Backend.reads c.args.backend.now) c.entries-rest.ensures.value held,
)

pub returns-then-not-stands-clause-walks : goal.returns-then-not-stands-clause-walks
returns-then-not-stands-clause-walks g t c = λ old held.
    falls g.T.TakesEntries.holds c.args.extent (g.B.Backend.told c.args.backend.now) (header_of c.args.state.now) c.args.intervals.now c.args.left c.args.low c.args.limit c.args.directory.now c.loop-first.before c.loop-first.rest.now c.in-Some.first.now c.in-Some.others.now c.end_of-end.result c.stands.result old c.loop-first.collecting.taker c.loop-first.collecting.room (g.B.Backend.reads c.args.backend.now) (g.B.Backend.reads c.loop-first.backend)
    record { first = c.in-Some.ensures.cases.0; end_is = c.end_of-end.ensures; tested = c.stands.ensures; is = c.if-not-stands.true } (c.loop-first.invariant.2 old held)

pub returns-in-Err-clause-walks : goal.returns-in-Err-clause-walks
returns-in-Err-clause-walks g t c = λ old held.
    stops g.T.TakesEntries.holds c.args.extent (g.B.Backend.told c.args.backend.now) (g.B.Backend.told c.loop-first.backend) (header_of c.args.state.now) c.args.intervals.now c.args.left c.args.low c.args.limit c.args.directory.now c.loop-first.before c.loop-first.rest.now c.in-Some.first.now c.in-Some.others.now c.end_of-end.result c.stands.result old c.loop-first.collecting.taker c.meet.new.collecting.taker c.loop-first.collecting.room c.meet.new.collecting.room (g.B.Backend.reads c.args.backend.now) (g.B.Backend.reads c.loop-first.backend) (g.B.Backend.reads c.meet.new.backend) c.meet.result c.in-Err.error
    c.loop-first.invariant.0.told record { first = c.in-Some.ensures.cases.0; end_is = c.end_of-end.ensures; tested = c.stands.ensures; is = c.if-not-stands.false } c.in-Err.is (c.loop-first.invariant.2 old held) c.meet.ensures.meets c.meet.ensures.reads

pub returns-in-Err-walk-clause-walks : goal.returns-in-Err-walk-clause-walks
returns-in-Err-walk-clause-walks g t c = λ old held.
    stops_under g.T.TakesEntries.holds c.args.extent (g.B.Backend.told c.args.backend.now) (g.B.Backend.told c.loop-first.backend) (g.B.Backend.told c.meet.new.backend) (header_of c.args.state.now) c.args.intervals.now c.args.left c.args.low c.args.limit c.args.directory.now c.loop-first.before c.loop-first.rest.now c.in-Some.first.now c.in-Some.others.now c.in-Ok-Some.leaf c.end_of-end.result c.stands.result old c.loop-first.collecting.taker c.meet.new.collecting.taker c.walk.new.collecting.taker c.loop-first.collecting.room c.meet.new.collecting.room c.walk.new.collecting.room (g.B.Backend.reads c.args.backend.now) (g.B.Backend.reads c.loop-first.backend) (g.B.Backend.reads c.meet.new.backend) (g.B.Backend.reads c.walk.new.backend) _ _ c.meet.result c.in-Err-walk.error record {
      same = c.loop-first.invariant.0.told;
      kept = c.meet.ensures.kept.told ∙ c.loop-first.invariant.0.told;
      front = record { first = c.in-Some.ensures.cases.0; end_is = c.end_of-end.ensures; tested = c.stands.ensures; is = c.if-not-stands.false };
      read_is = c.in-Ok-Some.is ∙ ap (λ o. Ok o) c.in-Ok-Some.field-0-is;
      fewer_is = refl;
      id_is = c.tile_id-id.ensures;
      way = c.loop-first.invariant.2 old held;
      meets = c.meet.ensures.meets;
      one = c.meet.ensures.reads;
      walks = c.in-Err-walk.ensures.walks;
    }

pub returns-clause-walks : goal.returns-clause-walks
returns-clause-walks g t c = λ old held.
    ends g.T.TakesEntries.holds c.args.extent (g.B.Backend.told c.args.backend.now) (header_of c.args.state.now) c.args.intervals.now c.args.left c.args.low c.args.limit c.args.directory.now c.loop-first.before c.loop-first.rest.now old c.loop-first.collecting.taker c.loop-first.collecting.room (g.B.Backend.reads c.args.backend.now) (g.B.Backend.reads c.loop-first.backend) c.in_default.ensures.cases (c.loop-first.invariant.2 old held)

pub loop-first-preserved-in-Ok-None : goal.loop-first-preserved-in-Ok-None
loop-first-preserved-in-Ok-None g t c =
    let i = c.loop-first.invariant.0 in
    let k = c.meet.ensures.kept in (
      record { told = k.told ∙ i.told; versions = k.versions ∙ i.versions; faults = omega (arith, k.faults, i.faults); calm = λ s. let p = i.calm s in let q = k.calm p.0 in (q.0, q.1 ∙ p.1) },
      c.in-Ok-None.ensures.still ∙ c.loop-first.invariant.1,
      λ old held. passes g.T.TakesEntries.holds c.args.extent (g.B.Backend.told c.args.backend.now) (g.B.Backend.told c.loop-first.backend) (header_of c.args.state.now) c.args.intervals.now c.args.left c.args.low c.args.limit c.args.directory.now c.loop-first.before c.loop-first.rest.now c.in-Some.first.now c.in-Some.others.now c.end_of-end.result c.stands.result old c.loop-first.collecting.taker c.meet.new.collecting.taker c.loop-first.collecting.room c.meet.new.collecting.room (g.B.Backend.reads c.args.backend.now) (g.B.Backend.reads c.loop-first.backend) (g.B.Backend.reads c.meet.new.backend) c.meet.result
          i.told record { first = c.in-Some.ensures.cases.0; end_is = c.end_of-end.ensures; tested = c.stands.ensures; is = c.if-not-stands.false } (c.in-Ok-None.is ∙ ap (λ o. Ok o) c.in-Ok-None.field-0-is) (c.loop-first.invariant.2 old held) c.meet.ensures.meets c.meet.ensures.reads,
    )

pub loop-first-preserved : goal.loop-first-preserved
loop-first-preserved g t c =
    let i = c.loop-first.invariant.0 in
    let k = c.meet.ensures.kept in
    let m = c.in_default-walk.ensures.kept in (
      record { told = m.told ∙ k.told ∙ i.told; versions = m.versions ∙ k.versions ∙ i.versions; faults = omega (arith, m.faults, k.faults, i.faults); calm = λ s. let p = i.calm s in let q = k.calm p.0 in let r = m.calm q.0 in (r.0, r.1 ∙ q.1 ∙ p.1) },
      c.in_default-walk.ensures.still ∙ (c.in-Ok-Some.ensures.still ∙ c.loop-first.invariant.1),
      λ old held. passes_leaf g.T.TakesEntries.holds c.args.extent (g.B.Backend.told c.args.backend.now) (g.B.Backend.told c.loop-first.backend) (g.B.Backend.told c.meet.new.backend) (header_of c.args.state.now) c.args.intervals.now c.args.left c.args.low c.args.limit c.args.directory.now c.loop-first.before c.loop-first.rest.now c.in-Some.first.now c.in-Some.others.now c.in-Ok-Some.leaf c.end_of-end.result c.stands.result old c.loop-first.collecting.taker c.meet.new.collecting.taker c.walk.new.collecting.taker c.loop-first.collecting.room c.meet.new.collecting.room c.walk.new.collecting.room (g.B.Backend.reads c.args.backend.now) (g.B.Backend.reads c.loop-first.backend) (g.B.Backend.reads c.meet.new.backend) (g.B.Backend.reads c.walk.new.backend) _ _ c.meet.result record {
        same = c.loop-first.invariant.0.told;
        kept = c.meet.ensures.kept.told ∙ c.loop-first.invariant.0.told;
        front = record { first = c.in-Some.ensures.cases.0; end_is = c.end_of-end.ensures; tested = c.stands.ensures; is = c.if-not-stands.false };
        read_is = c.in-Ok-Some.is ∙ ap (λ o. Ok o) c.in-Ok-Some.field-0-is;
        fewer_is = refl;
        id_is = c.tile_id-id.ensures;
        way = c.loop-first.invariant.2 old held;
        meets = c.meet.ensures.meets;
        one = c.meet.ensures.reads;
        walks = c.in_default-walk.ensures.walks;
      },
    )
