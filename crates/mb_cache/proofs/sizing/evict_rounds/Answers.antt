use Rattle.mb_cache.proofs.Common.{Agrees, ap, arith, false≢true, live_size_of, oversize, refl, SomeRounds, subst, sym, Tables, [], ◌<◌, ◌∙◌, ◌≡◌, ◌≤◌}
use Rattle.mb_cache.proofs.RoundLemmas.{cut_next, going_ends, going_stops, ok_same, on_err, rounds_all, rounds_count, rounds_next, rounds_none, rounds_some, rounds_still, shorter, some_still}
use Rattle.mb_cache.proofs.SizeLemmas.{next_live}
use Rattle.mb_cache.proofs.sizing.evict_rounds.Goals.{else-loop-size-test, then-loop-size-test+else-not-is_empty}
use Rattle.mb_cache.proofs.sizing.evict_rounds.Goals as goal

pub loop-size-init : goal.loop-size-init
loop-size-init g c = record {
  kept = record { tells = refl; faults = omega arith; steady = λ s. s; calm = λ s. refl };
  still = refl;
  cut = record { rounds = 0; entries = refl };
  live = c.requires.live;
  agrees = c.requires.agrees;
  rounds = λ t. rounds_none c.args.most c.args.entries.now.keys (g.S.TileStore.told c.args.store.now);
}

pub loop-size-smaller : goal.loop-size-smaller
loop-size-smaller g c = shorter c.loop-size.entries.keys c.evict_round.new.entries.keys (λ none. false≢true (sym c.if-not-is_empty.true ∙ c.is_empty.ensures.1 none)) c.in_ok-gone.ensures.left

pub loop-size-preserved : goal.loop-size-preserved
loop-size-preserved g c =
    let i = c.loop-size.invariant in
    let e = c.evict_round.ensures.kept in
    let s = c.size_after.ensures.kept in
    let before = g.S.TileStore.told c.loop-size.store in
    let between = g.S.TileStore.told c.evict_round.new.store in
    let after = g.S.TileStore.told c.size_after.new.store in
    let keys = c.evict_round.new.entries.keys in
    record {
      kept = record {
        tells = s.tells ∙ (e.tells ∙ i.kept.tells);
        faults = omega (arith, i.kept.faults, e.faults, s.faults);
        steady = λ calls. s.steady (e.steady (i.kept.steady calls));
        calm = λ calls. s.calm (e.steady (i.kept.steady calls)) ∙ (e.calm (i.kept.steady calls) ∙ i.kept.calm calls);
      };
      still = c.in_ok-left.ensures.fault.still ∙ (c.in_ok-gone.ensures.fault.still ∙ i.still);
      cut = cut_next c.args.entries.now.keys c.loop-size.entries.keys keys i.cut c.in_ok-gone.ensures.left;
      live = λ t.
          let tells = i.kept.tells ∙ t in
          next_live before between c.loop-size.entries.keys c.loop-size.size c.in_ok-gone.gone c.in_ok-left.left (i.live t) (c.in_ok-gone.ensures.size tells) (c.in_ok-gone.ensures.evicted tells) (i.agrees t) (g.met.S.TileStore.sound c.loop-size.store tells)
          (λ below. ok_same c.in_ok-left.left _ (c.in_ok-left.ensures.known below)) (c.in_ok-left.ensures.asked (e.tells ∙ tells))
          ∙ ap live_size_of (sym s.told);
      agrees = λ t. subst (λ (u : Tables). Agrees u keys) (sym s.told) (c.evict_round.ensures.agrees (i.kept.tells ∙ t));
      rounds = λ t.
          rounds_still c.args.most c.args.entries.now.keys keys (g.S.TileStore.told c.args.store.now) between after
          (rounds_next c.args.most c.args.entries.now.keys c.loop-size.entries.keys keys (g.S.TileStore.told c.args.store.now) before between (i.rounds t) (subst (λ n. c.args.most < n) (i.live t) c.loop-size-test.true) c.in_ok-gone.ensures.left (c.in_ok-gone.ensures.evicted (i.kept.tells ∙ t)))
          s.told;
    }

pub returns-in_err-gone-clause-err : goal.returns-in_err-gone-clause-err
returns-in_err-gone-clause-err g c t =
    let first = g.S.TileStore.told c.args.store.now in
    let before = g.S.TileStore.told c.loop-size.store in
    let after = g.S.TileStore.told c.evict_round.new.store in
    on_err c.from_residual.result (SomeRounds c.args.most c.args.entries.now.keys first after)
    (some_still c.args.most c.args.entries.now.keys first before after (rounds_some c.args.most c.args.entries.now.keys c.loop-size.entries.keys first before (c.loop-size.invariant.rounds t)) c.in_err-gone.ensures.err)

pub returns-in_err-left-clause-err : goal.returns-in_err-left-clause-err
returns-in_err-left-clause-err g c t =
    let i = c.loop-size.invariant in
    let first = g.S.TileStore.told c.args.store.now in
    let before = g.S.TileStore.told c.loop-size.store in
    let between = g.S.TileStore.told c.evict_round.new.store in
    let after = g.S.TileStore.told c.size_after.new.store in
    let keys = c.evict_round.new.entries.keys in
    on_err c.from_residual-in_err-left.result (SomeRounds c.args.most c.args.entries.now.keys first after)
    (some_still c.args.most c.args.entries.now.keys first between after
    (rounds_some c.args.most c.args.entries.now.keys keys first between
    (rounds_next c.args.most c.args.entries.now.keys c.loop-size.entries.keys keys first before between (i.rounds t) (subst (λ n. c.args.most < n) (i.live t) c.loop-size-test.true) c.in_ok-gone.ensures.left (c.in_ok-gone.ensures.evicted (i.kept.tells ∙ t))))
    c.size_after.ensures.kept.told)

pub returns-in_err-left-clause-rounds : goal.returns-in_err-left-clause-rounds
returns-in_err-left-clause-rounds g c = cut_next c.args.entries.now.keys c.loop-size.entries.keys c.evict_round.new.entries.keys c.loop-size.invariant.cut c.in_ok-gone.ensures.left

pub returns-clause-purged : goal.returns-clause-purged
returns-clause-purged g c t =
    let i = c.loop-size.invariant in
    let last = g.S.TileStore.told c.loop-size.store in
    let none : oversize c.args.most c.loop-size.entries.keys last ≡ [] = elim c.loop-size-test.branch [
      | then-loop-size-test+else-not-is_empty w ↦ going_ends c.args.most c.loop-size.entries.keys last (w.is_empty.ensures.0 w.if-not-is_empty.false)
      | else-loop-size-test w ↦ going_stops c.args.most c.loop-size.entries.keys last (subst (λ n. n ≤ c.args.most) (i.live t) w.loop-size-test.false)
    ] in
    rounds_all c.args.most c.args.entries.now.keys c.loop-size.entries.keys (g.S.TileStore.told c.args.store.now) last (i.rounds t) none

pub returns-clause-left : goal.returns-clause-left
returns-clause-left g c t =
    let i = c.loop-size.invariant in
    let last = g.S.TileStore.told c.loop-size.store in
    let none : oversize c.args.most c.loop-size.entries.keys last ≡ [] = elim c.loop-size-test.branch [
      | then-loop-size-test+else-not-is_empty w ↦ going_ends c.args.most c.loop-size.entries.keys last (w.is_empty.ensures.0 w.if-not-is_empty.false)
      | else-loop-size-test w ↦ going_stops c.args.most c.loop-size.entries.keys last (subst (λ n. n ≤ c.args.most) (i.live t) w.loop-size-test.false)
    ] in
    rounds_count c.args.most c.args.entries.now.keys c.loop-size.entries.keys (g.S.TileStore.told c.args.store.now) last (i.rounds t) none
