use Rattle.pm_format.proofs.HeaderRefusalLemmas.{head_short, head_other_version, head_no_archive, head_cut, head_whole}
use Rattle.pm_format.proofs.header.reading.check_front.Goals as goal

pub returns-then-bytes-lt7-clause-err : goal.returns-then-bytes-lt7-clause-err
returns-then-bytes-lt7-clause-err c = head_short c.args.bytes.now c.if-bytes-lt7.true

pub returns-then-bytes-lt-HEADER_SIZE-clause-err : goal.returns-then-bytes-lt-HEADER_SIZE-clause-err
returns-then-bytes-lt-HEADER_SIZE-clause-err c = head_cut c.args.bytes.now c.if-bytes-lt7.false (cc) c.if-bytes-lt-HEADER_SIZE.true

pub returns-then-eq-clause-ok : goal.returns-then-eq-clause-ok
returns-then-eq-clause-ok c = head_whole c.args.bytes.now (cc) c.if-bytes-lt-HEADER_SIZE.false

pub returns-then-eq-2-clause-err : goal.returns-then-eq-2-clause-err
returns-then-eq-2-clause-err c = head_other_version c.args.bytes.now c.if-bytes-lt7.false (cc) (cc)

pub returns-clause-err : goal.returns-clause-err
returns-clause-err c = head_no_archive c.args.bytes.now c.if-bytes-lt7.false (cc) (cc)
