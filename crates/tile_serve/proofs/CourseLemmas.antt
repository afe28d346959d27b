-- How lines go on, one after another: what the server reads and holds.
use Rattle.tile_serve.proofs.Common.{AreAnswered, Bool, Bounded, Compares, Course, course, Done, Err, false, Goes, HasTexts, IfSome, is_read, IsAnswered, IsReadFor, IsWanting, LeavesTiles, LinesTexts}
use Rattle.tile_serve.proofs.Common.{List, None, of_serve, of_sink, Ok, Option, ReadsFor, refl, request_of, ServeError, ServeOutcome, SinkFault, Some, subst, sym, Texts, tiles_after, tiles_behind}
use Rattle.tile_serve.proofs.Common.{true, UsesOneLength, ℕ, [], ◌++◌, ◌∷◌, ◌≡◌}
use Rattle.byte_streams.specs.declared.sink.SinkFault.TheVariants as sink
use Rattle.tile_serve.specs.declared.error.ServeError.TheVariants as errors

abbrev Tiles : Type 0
Tiles = Bounded (List ℕ)

-- Goes under told bytes, whatever lines began with.
abbrev pub GoesTold : Option (List ℕ) → Option (List ℕ) → Texts → List ℕ → Tiles → Tiles → ℕ → ℕ → ServeOutcome → Type 0
GoesTold told opened texts line held kept before now o = IfSome told (λ b. UsesOneLength b → (start : Tiles) (reads : ℕ) → Goes b (course opened texts start reads) line held kept before now o)

-- One line.

was_read : (asked : Bool) (e : ServeError) → (IsWanting {A = List ℕ} (Err e) → ⊥) → (asked ≡ false → IsWanting {A = List ℕ} (Err e)) → asked ≡ true
was_read true e other q = refl
was_read false e other q = absurd (other (q refl))

goes_error : (b : List ℕ) (c : Course) (line : List ℕ) (held kept : Tiles) (before now : ℕ) (e : ServeError) → ReadsFor b (request_of line) before now → (is_read (request_of line) held ≡ false → IsWanting {A = List ℕ} (Err e))
    → Goes b c line held kept before now (of_serve e)
goes_error b c line held kept before now errors.OutOfMemory hops asked = tt
goes_error b c line held kept before now (errors.Opening e) hops asked = (hops, was_read (is_read (request_of line) held) (errors.Opening e) (λ w. w) asked)
goes_error b c line held kept before now errors.Fault hops asked = (hops, was_read (is_read (request_of line) held) errors.Fault (λ w. w) asked)
goes_error b c line held kept before now (errors.Modified x y) hops asked = (hops, was_read (is_read (request_of line) held) (errors.Modified x y) (λ w. w) asked)
goes_error b c line held kept before now (errors.Short x y) hops asked = (hops, was_read (is_read (request_of line) held) (errors.Short x y) (λ w. w) asked)

pub goes_refused : (told opened : Option (List ℕ)) (texts : Texts) (line : List ℕ) (held kept : Tiles) (before now : ℕ) (e : ServeError) (o : ServeOutcome) → o ≡ of_serve e
    → IfSome told (λ b. UsesOneLength b → ReadsFor b (request_of line) before now) → (is_read (request_of line) held ≡ false → IsWanting {A = List ℕ} (Err e)) → GoesTold told opened texts line held kept before now o
goes_refused None opened texts line held kept before now e o is hops asked = tt
goes_refused (Some b) opened texts line held kept before now e o is hops asked = λ one start reads.
    subst (Goes b (course opened texts start reads) line held kept before now) (sym is) (goes_error b (course opened texts start reads) line held kept before now e (hops one) asked)

goes_sink : (b : List ℕ) (c : Course) (line : List ℕ) (held kept : Tiles) (before now : ℕ) (f : SinkFault) → Goes b c line held kept before now (of_sink f)
goes_sink b c line held kept before now sink.Fault = tt
goes_sink b c line held kept before now sink.OutOfMemory = tt

pub goes_stopped : (told opened : Option (List ℕ)) (texts : Texts) (line : List ℕ) (held kept : Tiles) (before now : ℕ) (f : SinkFault) (o : ServeOutcome) → o ≡ of_sink f → GoesTold told opened texts line held kept before now o
goes_stopped None opened texts line held kept before now f o is = tt
goes_stopped (Some b) opened texts line held kept before now f o is = λ one start reads.
    subst (Goes b (course opened texts start reads) line held kept before now) (sym is) (goes_sink b (course opened texts start reads) line held kept before now f)

pub goes_done : (told opened : Option (List ℕ)) (texts again : Texts) (line text : List ℕ) (held kept : Tiles) (before now : ℕ) → again ≡ texts → IfSome told (λ b. UsesOneLength b → ReadsFor b (request_of line) before now)
    → IfSome told (λ b. UsesOneLength b → Compares {A = List ℕ} opened again now (IsReadFor b (request_of line) held) (Ok text)) → IfSome told (λ b. UsesOneLength b → LeavesTiles b (request_of line) held kept (Ok text))
    → GoesTold told opened texts line held kept before now Done
goes_done None opened texts again line text held kept before now same hops compares tiles = tt
goes_done (Some b) opened texts again line text held kept before now same hops compares tiles = λ one start reads.
    let P : Texts → Type 0 = λ v. Compares {A = List ℕ} opened v now (IsReadFor b (request_of line) held) (Ok text) in
    (record { reads = hops one; agrees = subst P same (compares one) }, tiles one)

texts_error : (A : Type 0) (opened : Option (List ℕ)) (texts : Texts) (number : ℕ) (e : ServeError) → HasTexts {A = A} opened texts number (Err e) → LinesTexts opened texts number (of_serve e)
texts_error A opened texts number errors.OutOfMemory q = tt
texts_error A opened texts number (errors.Opening e) q = tt
texts_error A opened texts number errors.Fault q = tt
texts_error A opened texts number (errors.Modified x y) q = q
texts_error A opened texts number (errors.Short x y) q = tt

pub texts_refused : (A : Type 0) (opened : Option (List ℕ)) (texts again : Texts) (number : ℕ) (e : ServeError) (o : ServeOutcome) → again ≡ texts → o ≡ of_serve e → HasTexts {A = A} opened again number (Err e) → LinesTexts opened texts number o
texts_refused A opened texts again number e o same is q =
    let P : Texts → Type 0 = λ v. HasTexts {A = A} opened v number (Err e) in
    subst (LinesTexts opened texts number) (sym is) (texts_error A opened texts number e (subst P same q))

texts_sink : (opened : Option (List ℕ)) (texts : Texts) (number : ℕ) (f : SinkFault) → LinesTexts opened texts number (of_sink f)
texts_sink opened texts number sink.Fault = tt
texts_sink opened texts number sink.OutOfMemory = tt

pub texts_stopped : (opened : Option (List ℕ)) (texts : Texts) (number : ℕ) (f : SinkFault) (o : ServeOutcome) → o ≡ of_sink f → LinesTexts opened texts number o
texts_stopped opened texts number f o is = subst (LinesTexts opened texts number) (sym is) (texts_sink opened texts number f)

-- the same end of a line, with the texts that the lines began with
pub texts_later : (opened again : Option (List ℕ)) (texts versions : Texts) (number : ℕ) (o p : ServeOutcome) → again ≡ opened → versions ≡ texts → p ≡ o → LinesTexts again versions number o → LinesTexts opened texts number p
texts_later opened again texts versions number o p same kept is q =
    let P : Option (List ℕ) → Type 0 = λ x. LinesTexts x versions number o in
    let Q : Texts → Type 0 = λ v. LinesTexts opened v number o in
    subst (LinesTexts opened texts number) (sym is) (subst Q kept (subst P same q))

pub goes_later : (told before_told opened again : Option (List ℕ)) (texts versions : Texts) (line : List ℕ) (held kept : Tiles) (before now : ℕ) (o : ServeOutcome) → before_told ≡ told → again ≡ opened → versions ≡ texts
    → GoesTold before_told again versions line held kept before now o → GoesTold told opened texts line held kept before now o
goes_later told before_told opened again texts versions line held kept before now o same text other q =
    let P : Option (List ℕ) → Type 0 = λ x. GoesTold x again versions line held kept before now o in
    let Q : Option (List ℕ) → Type 0 = λ x. GoesTold told x versions line held kept before now o in
    let R : Texts → Type 0 = λ v. GoesTold told opened v line held kept before now o in
    subst R other (subst Q text (subst P same q))

-- One more line.

pub tiles_more : (b : List ℕ) (done : List (List ℕ)) (line : List ℕ) (tiles : Tiles) → tiles_behind b (done ++ line ∷ []) tiles ≡ tiles_after b (request_of line) (tiles_behind b done tiles)
tiles_more b [] line tiles = refl
tiles_more b (x ∷ done) line tiles = tiles_more b done line (tiles_after b (request_of x) tiles)

pub answered_more : (b : List ℕ) (c : Course) (done : List (List ℕ)) (line : List ℕ) (tiles : Tiles) (first before now : ℕ) → AreAnswered b c done tiles first before → IsAnswered b c line (tiles_behind b done tiles) before now
    → AreAnswered b c (done ++ line ∷ []) tiles first now
answered_more b c [] line tiles first before now q one = let P : ℕ → Type 0 = λ n. IsAnswered b c line tiles n now in (now, subst P q one, refl)
answered_more b c (x ∷ done) line tiles first before now q one = (q.0, q.1, answered_more b c done line (tiles_after b (request_of x) tiles) q.0 before now q.2 one)
