use Rattle.pm_format.proofs.Common.{arith, get_or, subst, ℕ, ◌%◌, ◌<◌, ◌≡◌}
use Rattle.pm_format.proofs.VarintReadingLemmas.{Reading, reading_end, reading_more, reading_last, reading_big, at_place, added, sum_fits, sum_low}
use Rattle.pm_format.proofs.varint.read_number.Goals as goal

pub returns-then-place-bytes-clause-none : goal.returns-then-place-bytes-clause-none
returns-then-place-bytes-clause-none c = reading_end _ _ _ _ _ _ _ c.if-place-bytes.true c.loop-i.invariant

pub overflow_add-value : goal.overflow_add-value
overflow_add-value c =
    let i9 : c.loop-i.i < 9 = omega arith in
    let e = added c.loop-i.i c.from.result (get_or c.args.bytes.now c.loop-i.place 0) i9 c.from.ensures in
    let g = sum_fits c.loop-i.i c.loop-i.value (get_or c.args.bytes.now c.loop-i.place 0 % 128) i9 c.loop-i.invariant.low (omega arith) in
    omega (arith, e, g)

pub returns-then-byte-lt128-clause-found : goal.returns-then-byte-lt128-clause-found
returns-then-byte-lt128-clause-found c =
    let i9 : c.loop-i.i < 9 = omega arith in
    let b : ℕ = get_or c.args.bytes.now c.loop-i.place 0 in
    let small : c.from.result ≡ b = omega (arith, c.from.ensures, c.if-byte-lt128.true) in
    let e = added c.loop-i.i c.from.result b i9 c.from.ensures in
    let low = sum_low c.loop-i.i c.args.full c.loop-i.value b c.args.top c.loop-i-test.true c.loop-i.invariant.low c.if-byte-lt128.true in
    let same : b % 128 ≡ b = omega (arith, c.if-byte-lt128.true) in
    rw (e, same) (reading_last _ _ _ _ _ _ _ _ (omega arith) (at_place _ _ c.if-place-bytes.false) c.if-byte-lt128.true low c.loop-i.invariant)

pub returns-then-byte-lt128-clause-low : goal.returns-then-byte-lt128-clause-low
returns-then-byte-lt128-clause-low c =
    let i9 : c.loop-i.i < 9 = omega arith in
    let e = added c.loop-i.i c.from.result (get_or c.args.bytes.now c.loop-i.place 0) i9 c.from.ensures in
    rw e (sum_low c.loop-i.i c.args.full c.loop-i.value _ c.args.top c.loop-i-test.true c.loop-i.invariant.low (omega arith))

pub loop-i-preserved : goal.loop-i-preserved
loop-i-preserved c =
    let i9 : c.loop-i.i < 9 = omega arith in
    let e = added c.loop-i.i c.from.result (get_or c.args.bytes.now c.loop-i.place 0) i9 c.from.ensures in
    rw e (reading_more _ _ _ _ _ _ _ c.loop-i-test.true c.if-place-bytes.false (at_place _ _ c.if-place-bytes.false) c.if-byte-lt128.false c.loop-i.invariant)

pub returns-then-last-top-clause-none : goal.returns-then-last-top-clause-none
returns-then-last-top-clause-none c =
    let done : c.loop-i.i ≡ c.args.full = omega arith in
    reading_big _ _ _ _ _ _ _ (at_place _ _ c.if-place-bytes-2.false) c.if-last-top.true (subst (λ i. Reading c.args.bytes.now c.args.at c.args.full i c.loop-i.value c.loop-i.place) done c.loop-i.invariant)
