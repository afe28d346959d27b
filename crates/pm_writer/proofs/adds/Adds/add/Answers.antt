use Rattle.pm_writer.proofs.Common.{ap, arith, contents_from, err_from_is_err_and, Finds, holds_alike, length, longest_run, put_run, subst, sym, xxh3_64, [], ◌<◌, ◌∙◌, ◌≤◌}
use Rattle.pm_writer.proofs.AfterAdd.{run_after}
use Rattle.pm_writer.proofs.ContentLemmas.{contents_run}
use Rattle.pm_writer.proofs.adds.Adds.add.Goals as goal

pub returns-in_err-place-clause-refused : goal.returns-in_err-place-clause-refused
returns-in_err-place-clause-refused g c = λ adds m.
    let p = err_from_is_err_and c.from_residual-in_err-place.result c.from_residual-in_err-place.ensures.1 in
    rw (p.1) (record {
      contents = holds_alike xxh3_64 c.args.self.now.contents c.put.new.self (contents_from [] adds) c.in_err-place.ensures.refused m.contents;
      rest = record { entries = c.in_ok-reserve.ensures.items ∙ m.rest.entries; last = m.rest.last; rises = m.rest.rises; filled = m.rest.filled; low = m.rest.low; sized = m.rest.sized };
    })

pub returns-clause-added : goal.returns-clause-added
returns-clause-added g c = λ adds taken m f.
    let cs = contents_from [] adds in
    let entries = c.in-Ok.ensures.ok ∙ ap (put_run longest_run c.args.id c.in_ok-place.place c.args.size c.args.count) c.in_ok-reserve.ensures.items in
    let some : 0 < length taken = omega (arith, f.size, c.requires.some) in
    let most : c.args.count ≤ longest_run = omega (arith, c.ranges.count.fits) in
    run_after adds c.args.self.now c.put.new.self c.put_entry.new.entries _ c.args.id c.args.count _ c.in_ok-place.place c.args.size taken m
    (c.in_ok-place.ensures.put xxh3_64 cs taken c.requires.sought m.contents f) (c.in_ok-place.ensures.place xxh3_64 cs taken m.contents f.found) some (c.requires.size ∙ sym f.size) c.ranges.size.fits c.requires.counted most c.requires.id entries (omega (arith, c.requires.counted)) c.still_rises-self.ensures

pub returns-clause-finds : goal.returns-clause-finds
returns-clause-finds g c = λ adds m k f.
    subst (Finds xxh3_64 c.put.new.self) (sym (contents_run [] adds c.args.id c.args.count c.args.bytes.now c.requires.counted)) (c.in_ok-place.ensures.finds xxh3_64 (contents_from [] adds) c.requires.sought m.contents k f)
