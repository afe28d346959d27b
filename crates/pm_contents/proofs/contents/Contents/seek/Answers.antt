use Rattle.pm_contents.proofs.Common.{arith, content_cmp, first_of, get, None, rules, Some, ◌+◌, ◌≡◌}
use Rattle.byte_media.specs.Media.{IsWithin}
use Rattle.pm_contents.specs.declared.sought.Sought.TheVariants as sought
use Rattle.pm_contents.proofs.SeekLemmas.{found_first, found_none, found_other, known_first, known_none, known_other, span_ends}
use Rattle.pm_contents.proofs.Told.{if_some_map}
use Rattle.pm_contents.proofs.contents.Contents.seek.Goals as goal

pub returns-in-None-clause-found : goal.returns-in-None-clause-found
returns-in-None-clause-found g c = λ name cs n h.
    let none : first_of c.args.self.now c.args.digest ≡ None = search rules in
    found_none name c.args.self.now cs c.args.bytes.now c.args.digest n h (λ i. omega (arith, c.type_inv.bytes i)) none

pub returns-in-None-clause-known : goal.returns-in-None-clause-known
returns-in-None-clause-known g c = λ name cs n h t.
    let none : first_of c.args.self.now c.args.digest ≡ None = search rules in
    known_none name c.args.self.now cs c.args.bytes.now c.args.digest n h (g.M.Backend.told c.args.medium.now) c.args.from t none

pub has-requires-clause-fits : goal.has-requires-clause-fits
has-requires-clause-fits g c =
    let first : first_of c.args.self.now c.args.digest ≡ Some c.in-Some.first.now = search rules in
    omega (arith, span_ends c.requires.holds.0 c.args.self.now c.requires.holds.1 c.args.digest c.in-Some.first.now c.requires.holds.2 first)

pub has-requires-clause-within : goal.has-requires-clause-within
has-requires-clause-within g c =
    let span = c.in-Some.first.now in
    let first : first_of c.args.self.now c.args.digest ≡ Some c.in-Some.first.now = search rules in
    let ends = span_ends c.requires.holds.0 c.args.self.now c.requires.holds.1 c.args.digest span c.requires.holds.2 first in
    if_some_map (IsWithin (c.args.from + c.args.self.now.total)) (IsWithin (c.args.from + (span.place + span.length))) (g.M.Backend.told c.args.medium.now) (λ b w. omega (arith, w, ends)) c.requires.within

pub returns-then-branch-clause-found : goal.returns-then-branch-clause-found
returns-then-branch-clause-found g c = λ name cs n h.
    let first : first_of c.args.self.now c.args.digest ≡ Some c.in-Some.first.now = search rules in
    found_first name c.args.self.now cs c.args.bytes.now c.args.digest n h c.in-Some.first.now first (c.in_ok-has.ensures.size c.if-branch.true)

pub returns-then-branch-clause-known : goal.returns-then-branch-clause-known
returns-then-branch-clause-known g c = λ name cs n h t.
    let first : first_of c.args.self.now c.args.digest ≡ Some c.in-Some.first.now = search rules in
    known_first name c.args.self.now cs c.args.bytes.now c.args.digest n h c.in-Some.first.now first (g.M.Backend.told c.args.medium.now) c.args.from c.in_ok-has.field-0 t c.if-branch.true c.in_ok-has.ensures.same

pub returns-in-Some-get-clause-found : goal.returns-in-Some-get-clause-found
returns-in-Some-get-clause-found g c = λ name cs n h.
    let first : first_of c.args.self.now c.args.digest ≡ Some c.in-Some.first.now = search rules in
    let known : get content_cmp c.args.self.now.others c.args.bytes.now ≡ Some c.in-Some-get.place.now = search rules in
    found_other name c.args.self.now cs c.args.bytes.now c.args.digest n h c.in-Some.first.now first (sought.Known c.in-Some-get.place.now) (λ i. omega (arith, c.type_inv.bytes i)) c.requires.some known

pub returns-in-Some-get-clause-known : goal.returns-in-Some-get-clause-known
returns-in-Some-get-clause-known g c = λ name cs n h t.
    let first : first_of c.args.self.now c.args.digest ≡ Some c.in-Some.first.now = search rules in
    let known : get content_cmp c.args.self.now.others c.args.bytes.now ≡ Some c.in-Some-get.place.now = search rules in
    known_other name c.args.self.now cs c.args.bytes.now c.args.digest n h c.in-Some.first.now first (g.M.Backend.told c.args.medium.now) c.args.from c.in_ok-has.field-0 (Some c.in-Some-get.place.now) t c.if-branch.false c.in_ok-has.ensures.same known

pub returns-in-None-get-clause-found : goal.returns-in-None-get-clause-found
returns-in-None-get-clause-found g c = λ name cs n h.
    let first : first_of c.args.self.now c.args.digest ≡ Some c.in-Some.first.now = search rules in
    let none : get content_cmp c.args.self.now.others c.args.bytes.now ≡ None = search rules in
    found_other name c.args.self.now cs c.args.bytes.now c.args.digest n h c.in-Some.first.now first (sought.Other c.in_ok-content.content) (λ i. omega (arith, c.type_inv.bytes i)) c.requires.some none

pub returns-in-None-get-clause-known : goal.returns-in-None-get-clause-known
returns-in-None-get-clause-known g c = λ name cs n h t.
    let first : first_of c.args.self.now c.args.digest ≡ Some c.in-Some.first.now = search rules in
    let none : get content_cmp c.args.self.now.others c.args.bytes.now ≡ None = search rules in
    known_other name c.args.self.now cs c.args.bytes.now c.args.digest n h c.in-Some.first.now first (g.M.Backend.told c.args.medium.now) c.args.from c.in_ok-has.field-0 None t c.if-branch.false c.in_ok-has.ensures.same none
