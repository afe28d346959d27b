use Rattle.pm_contents.proofs.Common.{ap, Finds, first_of, found_in, FoundAs, Holds, IfSome, IsNew, IsSought, length, OnOk, Option, place_sought, put_new, Some, Span, subst, sym, ◌∙◌, ◌≡◌, ◌≢◌}
use Rattle.std.proofs.lemmas.Result.{IfOk-weaker}
use Rattle.pm_contents.specs.declared.sought.Sought.TheVariants as sought
use Rattle.pm_contents.proofs.ContentLemmas.{place_put}
use Rattle.pm_contents.proofs.contents.Contents.put.Goals as goal

pub returns-in-First-clause-put : goal.returns-in-First-clause-put
returns-in-First-clause-put g c = λ name cs taken i h f.
    let old = c.args.self.now in
    let x = c.args.bytes.now in
    let new : IsSought name old x (sought.First c.in-First.digest) = subst (IsSought name old x) c.in-First.is i in
    let held : FoundAs name old cs x (sought.First c.in-First.digest) taken = subst (λ s. FoundAs name old cs x s taken) c.in-First.is f in
    let itself : taken ≡ x = held.unread (subst (λ (o : Option Span). IfSome o (λ s. s.length ≢ length x)) (sym (ap (first_of old) (sym new.0) ∙ new.1)) tt) in
    subst (λ z. OnOk c.put_first.result (Holds name c.put_first.new.self (put_new cs z))) (sym itself) (c.put_first.ensures.put name cs h new.0 (subst (IsNew cs) itself held.found))

pub returns-in-First-clause-finds : goal.returns-in-First-clause-finds
returns-in-First-clause-finds g c = λ name cs i h k f.
    let old = c.args.self.now in
    let x = c.args.bytes.now in
    let new : IsSought name old x (sought.First c.in-First.digest) = subst (IsSought name old x) c.in-First.is i in
    c.put_first.ensures.finds name cs h k new.0 (f ∙ ap place_sought c.in-First.is)

pub returns-in-Other-clause-put : goal.returns-in-Other-clause-put
returns-in-Other-clause-put g c = λ name cs taken i h f.
    let old = c.args.self.now in
    let x = c.args.bytes.now in
    let other : IsSought name old x (sought.Other c.in-Other.content) = subst (IsSought name old x) c.in-Other.is i in
    let held : FoundAs name old cs x (sought.Other c.in-Other.content) taken = subst (λ s. FoundAs name old cs x s taken) c.in-Other.is f in
    let key : FoundAs name old cs c.in-Other.content (sought.Other c.in-Other.content) taken = subst (λ z. FoundAs name old cs z (sought.Other c.in-Other.content) taken) (sym other.0) held in
    c.put_other.ensures.put name cs other.2.0 taken (ap (λ z. first_of old (name z)) other.0 ∙ other.2.1) h key

pub returns-in-Other-clause-finds : goal.returns-in-Other-clause-finds
returns-in-Other-clause-finds g c = λ name cs i h k f.
    let old = c.args.self.now in
    let x = c.args.bytes.now in
    let other : IsSought name old x (sought.Other c.in-Other.content) = subst (IsSought name old x) c.in-Other.is i in
    subst (λ z. OnOk c.put_other.result (Finds name c.put_other.new.self (put_new cs z))) other.0
    (c.put_other.ensures.finds name cs other.2.0 (ap (λ z. first_of old (name z)) other.0 ∙ other.2.1) h k (subst (IsNew cs) (sym other.0) (f ∙ ap place_sought c.in-Other.is)))

pub returns-in-First-clause-place : goal.returns-in-First-clause-place
returns-in-First-clause-place g c = λ name cs x h f.
    let behind = place_put name c.args.self.now cs x h (f ∙ ap place_sought c.in-First.is) in
    IfOk-weaker c.put_first.result (λ place. place ≡ c.args.self.now.total) (λ place. found_in (put_new cs x) x ≡ Some place) (λ place e. behind ∙ ap Some (sym e)) c.put_first.ensures.place

pub returns-in-Other-clause-place : goal.returns-in-Other-clause-place
returns-in-Other-clause-place g c = λ name cs x h f.
    let behind = place_put name c.args.self.now cs x h (f ∙ ap place_sought c.in-Other.is) in
    IfOk-weaker c.put_other.result (λ place. place ≡ c.args.self.now.total) (λ place. found_in (put_new cs x) x ≡ Some place) (λ place e. behind ∙ ap Some (sym e)) c.put_other.ensures.place
