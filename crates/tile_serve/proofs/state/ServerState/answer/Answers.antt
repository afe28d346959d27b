use Rattle.tile_serve.proofs.Common.{asked, Found, IfSome, IsUnmodified, IsWanting, LeavesTiles, List, Ok, opened_as, request_of, Result, rules, ServeError, Some, subst, sym, tiles_of, UsesOneLength}
use Rattle.tile_serve.proofs.Common.{ℕ, [], ◌≡◌}
use Rattle.tile_serve.proofs.HoldingLemmas.{bounds_stay}
use Rattle.tile_serve.proofs.ReplyingLemmas.{compares_found, held_unread, tiles_error, unmodified_after, wanting_asked}
use Rattle.tile_serve.proofs.ServingLemmas.{handed}
use Rattle.tile_serve.proofs.state.ServerState.answer.Goals as goal

pub returns-in_err-found-clause-tiles : goal.returns-in_err-found-clause-tiles
returns-in_err-found-clause-tiles g c =
    let told = g.B.Backend.told c.args.backend.now in
    let old = tiles_of c.args.self.now in
    let new = tiles_of c.find.new.self in
    let some : request_of c.args.line.now ≡ Some (asked c.in-Some.id-1-own.given.0.0.0 c.in-Some.tag.now) = search rules in
    let P : Result (List ℕ) ServeError → Type 0 = λ r. IfSome told (λ b. UsesOneLength b → LeavesTiles b (request_of c.args.line.now) old new r) in
    subst P (sym (handed c.from_residual-in_err-found.result c.in_err-found.field-0.0 c.from_residual-in_err-found.ensures.1)) (tiles_error told c.args.line.now c.in-Some.tag.now old new c.in-Some.id-1-own.given.0.0.0 c.in_err-found.field-0.0 some c.in_err-found.ensures.tiles)

pub returns-in_err-found-clause-unmodified : goal.returns-in_err-found-clause-unmodified
returns-in_err-found-clause-unmodified g c = λ uniform.
    let P : Result (List ℕ) ServeError → Type 0 = λ r. IsUnmodified r in
    subst P (sym (handed c.from_residual-in_err-found.result c.in_err-found.field-0.0 c.from_residual-in_err-found.ensures.1))
    (unmodified_after Found (List ℕ) (g.B.Backend.versions c.args.backend.now) (g.B.Backend.versions c.find.new.backend) (opened_as c.args.self.now) (g.B.Backend.reads c.find.new.backend) c.in_err-found.field-0.0 c.in_err-found.ensures.kept.versions
    c.requires.serving.opened c.in_err-found.ensures.texts uniform)

pub returns-in_err-text_for-clause-bounds : goal.returns-in_err-text_for-clause-bounds
returns-in_err-text_for-clause-bounds g c = bounds_stay (tiles_of c.args.self.now) (tiles_of c.find.new.self) c.in-Some.id-1-own.given.0.0.0 (Ok c.in_ok-found.found) c.in_ok-found.ensures.tiles

pub returns-clause-compares : goal.returns-clause-compares
returns-clause-compares g c =
    let some : request_of c.args.line.now ≡ Some (asked c.in-Some.id-1-own.given.0.0.0 c.in-Some.tag.now) = search rules in
    compares_found {A = List ℕ} (g.B.Backend.told c.args.backend.now) (opened_as c.args.self.now) (g.B.Backend.versions c.find.new.backend) (g.B.Backend.reads c.find.new.backend) c.args.line.now c.in-Some.tag.now (tiles_of c.args.self.now) c.in-Some.id-1-own.given.0.0.0 c.in_ok-found.found [] some c.in_ok-found.ensures.compares

pub returns-clause-bounds : goal.returns-clause-bounds
returns-clause-bounds g c = bounds_stay (tiles_of c.args.self.now) (tiles_of c.find.new.self) c.in-Some.id-1-own.given.0.0.0 (Ok c.in_ok-found.found) c.in_ok-found.ensures.tiles

pub returns-in_err-found-clause-asked : goal.returns-in_err-found-clause-asked
returns-in_err-found-clause-asked g c = λ unread.
    let some : request_of c.args.line.now ≡ Some (asked c.in-Some.id-1-own.given.0.0.0 c.in-Some.tag.now) = search rules in
    let P : Result (List ℕ) ServeError → Type 0 = λ r. IsWanting r in
    subst P (sym (handed c.from_residual-in_err-found.result c.in_err-found.field-0.0 c.from_residual-in_err-found.ensures.1))
    (wanting_asked c.args.line.now c.in-Some.tag.now (tiles_of c.args.self.now) c.in-Some.id-1-own.given.0.0.0 c.in_err-found.field-0.0 some c.in_err-found.ensures.held unread)

pub returns-in_err-found-clause-untouched : goal.returns-in_err-found-clause-untouched
returns-in_err-found-clause-untouched g c = λ unread.
    let some : request_of c.args.line.now ≡ Some (asked c.in-Some.id-1-own.given.0.0.0 c.in-Some.tag.now) = search rules in
    c.in_err-found.ensures.untouched (held_unread c.args.line.now c.in-Some.tag.now (tiles_of c.args.self.now) c.in-Some.id-1-own.given.0.0.0 some unread)
