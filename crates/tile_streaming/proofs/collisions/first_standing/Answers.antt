use Rattle.tile_streaming.proofs.Common.{ap, arith, find, List, not, Some, suc, sym, take, ℕ, ◌+◌, ◌||◌, ◌∙◌, ◌≡◌}
use Rattle.std.specs.BTreeSet.{contains}
use Rattle.tile_streaming.proofs.TakenLemmas.{find_at, find_none}
use Rattle.tile_streaming.specs.Collisions.{is_known}
use Rattle.tile_streaming.specs.Suspects.{by_bytes}
use Rattle.tile_streaming.proofs.collisions.first_standing.Goals as goal

pub returns-then-stands : goal.returns-then-stands
returns-then-stands c =
    ap Some c.in_ok-try_clone.ensures
    ∙ sym (find_at (λ d. is_known c.args.known.now d || not (contains by_bytes c.args.unnamed.now d)) c.args.digests.now c.loop-digest.digest-index _ (omega (arith, c.loop-digest-test.true, c.loop-digest.auto)) c.digest-item.is c.loop-digest.invariant (sym c.stands.ensures ∙ c.if-stands.true))

pub loop-digest-preserved : goal.loop-digest-preserved
loop-digest-preserved c =
    let next : c.loop-digest.digest-index + 1 ≡ suc c.loop-digest.digest-index = omega arith in
    let test = λ (d : List ℕ). is_known c.args.known.now d || not (contains by_bytes c.args.unnamed.now d) in
    ap (λ n. find test (take n c.args.digests.now)) next
    ∙ find_none test c.args.digests.now c.loop-digest.digest-index _ (omega (arith, c.loop-digest-test.true, c.loop-digest.auto)) c.digest-item.is c.loop-digest.invariant (sym c.stands.ensures ∙ c.if-stands.false)
