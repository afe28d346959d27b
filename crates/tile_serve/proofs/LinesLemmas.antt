-- One line after another, and what the output gains by them.
use Rattle.tile_serve.proofs.Common.{Answers, ap, append-nil, append_assoc, AreAnswered, arith, Bounded, Causes, Course, course, Done, Err, flat_map, Gains, GainsFront, Goes, IfErr, IfSome, is_read}
use Rattle.tile_serve.proofs.Common.{IsAnswered, IsErrAnd, IsStop, IsUniform, IsUnmodified, IsUnmodifiedRun, length, length-append, lines_of, LinesEnd, List, no_byte, None, of_serve, of_sink, Ok}
use Rattle.tile_serve.proofs.Common.{Option, outcome_of, OutOfMemory, OutputFault, refl, RefusalCauses, Refused, RefusedAt, replies, reply, request_of, Result, Rose, Served, ServeError, ServeOutcome}
use Rattle.tile_serve.proofs.Common.{SinkFault, Some, subst, sym, take, Texts, tiles_after, true, UsesOneLength, WritesLine, WritesLines, ℕ, [], ◌++◌, ◌+◌, ◌∙◌, ◌∷◌, ◌≡◌, ◌≤◌}
use Rattle.std.proofs.lemmas.Grind.{flat_map-append}
use Rattle.std.proofs.Math.Seq.{take-append-add}
use Rattle.std.proofs.lemmas.List.{take-append-le}
use Rattle.byte_streams.proofs.StreamsLemmas.{Gains-more, Gains-nil}
use Rattle.byte_streams.specs.declared.sink.SinkFault.TheVariants as sink
use Rattle.tile_serve.specs.declared.error.ServeError.TheVariants as errors
use Rattle.tile_serve.proofs.CourseLemmas.{GoesTold, answered_more, tiles_more}

abbrev Held : Type 0
Held = Option (List ℕ)

abbrev Tiles : Type 0
Tiles = Bounded (List ℕ)

-- the outcome of an error that is handed on
pub outcome_is : {T : Type 0} (r : Result T ServeOutcome) (o : ServeOutcome) → IsErrAnd r (λ x. x ≡ o) → outcome_of r ≡ o
outcome_is (Ok x) o h = absurd h
outcome_is (Err e) o h = h

serve_by : (e : ServeError) → of_serve e ≡ OutputFault → ⊥
serve_by errors.OutOfMemory q = absurd (cc)
serve_by x q = absurd (cc)

-- an error of the archive is no fault of the output
pub serve_no_fault : (e : ServeError) (o : ServeOutcome) → o ≡ of_serve e → o ≡ OutputFault → ⊥
serve_no_fault e o is q = serve_by e (sym is ∙ q)

-- nothing is a front of each text
pub front_none : (held : Held) (text : List ℕ) → GainsFront held held text
front_none held text = (0, omega arith, Gains-nil held)

-- One line.

refused_by : (b line : List ℕ) (held : Held) (e : ServeError) → Answers b line (Err e) → WritesLine b line held held (of_serve e)
refused_by b line held errors.OutOfMemory q = front_none held (reply b line)
refused_by b line held x q = (refl, q)

pub line_refused : (told : Option (List ℕ)) (line : List ℕ) (held : Held) (e : ServeError) (o : ServeOutcome) → o ≡ of_serve e → IfSome told (λ b. UsesOneLength b → Answers b line (Err e)) → IfSome told (λ b. UsesOneLength b → WritesLine b line held held o)
line_refused None line held e o is q = tt
line_refused (Some b) line held e o is q = λ one. let P : ServeOutcome → Type 0 = λ x. WritesLine b line held held x in subst P (sym is) (refused_by b line held e (q one))

end_by : (A : Type 0) (told : Option (List ℕ)) (before now : ℕ) (e : ServeError) → Causes {A = A} told before now (Err e) → LinesEnd told before now (of_serve e)
end_by A told before now errors.OutOfMemory q = tt
end_by A told before now (errors.Opening e) q = q
end_by A told before now errors.Fault q = q
end_by A told before now (errors.Modified x y) q = q
end_by A told before now (errors.Short x y) q = q

pub end_refused : (A : Type 0) (told : Option (List ℕ)) (before now : ℕ) (e : ServeError) (o : ServeOutcome) → o ≡ of_serve e → Causes {A = A} told before now (Err e) → LinesEnd told before now o
end_refused A told before now e o is q = let P : ServeOutcome → Type 0 = λ x. LinesEnd told before now x in subst P (sym is) (end_by A told before now e q)

unmodified_by : (A : Type 0) (e : ServeError) → IsUnmodified {A = A} (Err e) → IsUnmodifiedRun (of_serve e)
unmodified_by A errors.OutOfMemory q = tt
unmodified_by A (errors.Opening e) q = tt
unmodified_by A errors.Fault q = tt
unmodified_by A (errors.Modified x y) q = q
unmodified_by A (errors.Short x y) q = tt

pub unmodified_refused : (A : Type 0) (e : ServeError) (o : ServeOutcome) → o ≡ of_serve e → IsUnmodified {A = A} (Err e) → IsUnmodifiedRun o
unmodified_refused A e o is q = subst IsUnmodifiedRun (sym is) (unmodified_by A e q)

pub line_written : (told : Option (List ℕ)) (line text piece : List ℕ) (old new : Held) → piece ≡ text → IfSome told (λ b. UsesOneLength b → Answers b line (Ok text)) → Gains old new piece → IfSome told (λ b. UsesOneLength b → WritesLine b line old new Done)
line_written None line text piece old new is q gains = tt
line_written (Some b) line text piece old new is q gains = λ one. let P : List ℕ → Type 0 = λ x. Gains old new x in subst P (is ∙ q one) gains

stopped_by : (b line : List ℕ) (old new : Held) (f : SinkFault) → GainsFront old new (reply b line) → WritesLine b line old new (of_sink f)
stopped_by b line old new sink.Fault q = q
stopped_by b line old new sink.OutOfMemory q = q

pub line_stopped : (told : Option (List ℕ)) (line text piece : List ℕ) (old new : Held) (f : SinkFault) (o : ServeOutcome) → piece ≡ text → o ≡ of_sink f → IfSome told (λ b. UsesOneLength b → Answers b line (Ok text)) → GainsFront old new piece
    → IfSome told (λ b. UsesOneLength b → WritesLine b line old new o)
line_stopped None line text piece old new f o same is q gains = tt
line_stopped (Some b) line text piece old new f o same is q gains = λ one.
    let P : ServeOutcome → Type 0 = λ x. WritesLine b line old new x in
    let Q : List ℕ → Type 0 = λ x. GainsFront old new x in
    subst P (sym is) (stopped_by b line old new f (subst Q (same ∙ q one) gains))

end_stop : (told : Option (List ℕ)) (before now : ℕ) (f : SinkFault) → LinesEnd told before now (of_sink f)
end_stop told before now sink.Fault = tt
end_stop told before now sink.OutOfMemory = tt

pub end_stopped : (told : Option (List ℕ)) (before now : ℕ) (f : SinkFault) (o : ServeOutcome) → o ≡ of_sink f → LinesEnd told before now o
end_stopped told before now f o is = let P : ServeOutcome → Type 0 = λ x. LinesEnd told before now x in subst P (sym is) (end_stop told before now f)

unmodified_stop : (f : SinkFault) → IsUnmodifiedRun (of_sink f)
unmodified_stop sink.Fault = tt
unmodified_stop sink.OutOfMemory = tt

pub unmodified_stopped : (f : SinkFault) (o : ServeOutcome) → o ≡ of_sink f → IsUnmodifiedRun o
unmodified_stopped f o is = subst IsUnmodifiedRun (sym is) (unmodified_stop f)

-- All lines.

pub serving_begun : (told opened : Option (List ℕ)) (texts : Texts) (tiles : Tiles) (reads : ℕ) (all : List ℕ) (held : Held) → IfSome told (λ b. UsesOneLength b → Served b (course opened texts tiles reads) all all tiles reads held held)
serving_begun None opened texts tiles reads all held = tt
serving_begun (Some b) opened texts tiles reads all held = λ one. record { done = []; lines = refl; written = Gains-nil held; answered = refl; tiles = refl }

served_more : (b : List ℕ) (c : Course) (all rest behind line : List ℕ) (held kept : Tiles) (before now : ℕ) (old mid new : Held) → lines_of rest ≡ line ∷ lines_of behind → Gains mid new (reply b line)
    → Goes b c line held kept before now Done → Served b c all rest held before old mid → Served b c all behind kept now old new
served_more b c all rest behind line held kept before now old mid new parts gains goes s =
    let joined : flat_map (reply b) (s.done ++ line ∷ []) ≡ flat_map (reply b) s.done ++ reply b line = flat_map-append (reply b) s.done (line ∷ []) ∙ ap (λ x. flat_map (reply b) s.done ++ x) (append-nil (reply b line)) in
    let P : List ℕ → Type 0 = λ x. Gains old new x in
    let Q : Tiles → Type 0 = λ x. IsAnswered b c line x before now in
    record {
      done = s.done ++ line ∷ [];
      lines = s.lines ∙ (ap (λ x. s.done ++ x) parts ∙ sym (append_assoc s.done (line ∷ []) (lines_of behind)));
      written = subst P (sym joined) (Gains-more old mid new (flat_map (reply b) s.done) (reply b line) s.written gains);
      answered = answered_more b c s.done line c.tiles c.reads before now s.answered (subst Q s.tiles goes.0);
      tiles = goes.1 ∙ (ap (λ x. tiles_after b (request_of line) x) s.tiles ∙ sym (tiles_more b s.done line c.tiles));
    }

pub serving_more : (told opened : Option (List ℕ)) (texts : Texts) (tiles : Tiles) (reads : ℕ) (all rest behind line : List ℕ) (held kept : Tiles) (before now : ℕ) (old mid new : Held) → lines_of rest ≡ line ∷ lines_of behind
    → IfSome told (λ b. UsesOneLength b → WritesLine b line mid new Done) → GoesTold told opened texts line held kept before now Done
    → IfSome told (λ b. UsesOneLength b → Served b (course opened texts tiles reads) all rest held before old mid) → IfSome told (λ b. UsesOneLength b → Served b (course opened texts tiles reads) all behind kept now old new)
serving_more None opened texts tiles reads all rest behind line held kept before now old mid new parts gains goes s = tt
serving_more (Some b) opened texts tiles reads all rest behind line held kept before now old mid new parts gains goes s = λ one.
    served_more b (course opened texts tiles reads) all rest behind line held kept before now old mid new parts (gains one) (goes one tiles reads) (s one)

served_all : (b : List ℕ) (c : Course) (all rest : List ℕ) (held : Tiles) (now : ℕ) (old new : Held) → rest ≡ [] → Served b c all rest held now old new → WritesLines b c all now old new Done
served_all b c all rest held now old new end s =
    let whole : lines_of all ≡ s.done = s.lines ∙ (ap (λ x. s.done ++ x) (ap lines_of end ∙ no_byte) ∙ append-nil s.done) in
    let P : List (List ℕ) → Type 0 = λ x. Gains old new (flat_map (reply b) x) × AreAnswered b c x c.tiles c.reads now in
    subst P (sym whole) (s.written, s.answered)

pub serving_done : (told opened : Option (List ℕ)) (texts : Texts) (tiles : Tiles) (reads : ℕ) (all rest : List ℕ) (held : Tiles) (now : ℕ) (old new : Held) → rest ≡ []
    → IfSome told (λ b. UsesOneLength b → Served b (course opened texts tiles reads) all rest held now old new) → IfSome told (λ b. UsesOneLength b → WritesLines b (course opened texts tiles reads) all now old new Done)
serving_done None opened texts tiles reads all rest held now old new end s = tt
serving_done (Some b) opened texts tiles reads all rest held now old new end s = λ one. served_all b (course opened texts tiles reads) all rest held now old new end (s one)

-- a front of what follows is a front of the whole
front_more : (old mid new : Held) (done text behind whole : List ℕ) → whole ≡ done ++ (text ++ behind) → Gains old mid done → GainsFront mid new text → GainsFront old new whole
front_more old mid new done text behind whole is gains front =
    let cut : take (length done + front.0) whole ≡ done ++ take front.0 text = ap (take (length done + front.0)) is ∙ (take-append-add done (text ++ behind) front.0 ∙ ap (λ x. done ++ x) (take-append-le front.0 text behind front.1)) in
    let P : List ℕ → Type 0 = λ x. Gains old new x in (
      length done + front.0,
      omega (arith, front.1, ap length is, length-append done (text ++ behind), length-append text behind),
      subst P (sym cut) (Gains-more old mid new done (take front.0 text) gains front.2),
    )

served_front : (b : List ℕ) (c : Course) (all rest behind line : List ℕ) (held : Tiles) (before : ℕ) (old mid new : Held) → lines_of rest ≡ line ∷ lines_of behind → Served b c all rest held before old mid → GainsFront mid new (reply b line) → GainsFront old new (replies b all)
served_front b c all rest behind line held before old mid new parts s front =
    let whole : replies b all ≡ flat_map (reply b) s.done ++ (reply b line ++ flat_map (reply b) (lines_of behind)) =
    ap (flat_map (reply b)) (s.lines ∙ ap (λ x. s.done ++ x) parts) ∙ flat_map-append (reply b) s.done (line ∷ lines_of behind) in
    front_more old mid new (flat_map (reply b) s.done) (reply b line) (flat_map (reply b) (lines_of behind)) (replies b all) whole s.written front

refused_at : (b : List ℕ) (c : Course) (all rest behind line : List ℕ) (held kept : Tiles) (before now : ℕ) (old mid new : Held) (e : ServeError) → lines_of rest ≡ line ∷ lines_of behind → Goes b c line held kept before now (Refused e)
    → Served b c all rest held before old mid → (new ≡ mid) × Answers b line (Err e) → RefusedAt b c all now old new e
refused_at b c all rest behind line held kept before now old mid new e parts goes s q =
    let P : Held → Type 0 = λ x. Gains old x (flat_map (reply b) s.done) in
    let Q : Tiles → Type 0 = λ x. is_read (request_of line) x ≡ true in
    record {
      before = s.done;
      line = line;
      behind = lines_of behind;
      lines = s.lines ∙ ap (λ x. s.done ++ x) parts;
      written = subst P (sym q.0) s.written;
      mid = before;
      answered = s.answered;
      reads = goes.0;
      asked = subst Q s.tiles goes.1;
      refused = q.1;
    }

stop_by : (b : List ℕ) (c : Course) (all rest behind line : List ℕ) (held kept : Tiles) (before now : ℕ) (old mid new : Held) (o : ServeOutcome) → lines_of rest ≡ line ∷ lines_of behind → IsStop o → Goes b c line held kept before now o
    → Served b c all rest held before old mid → WritesLine b line mid new o → WritesLines b c all now old new o
stop_by b c all rest behind line held kept before now old mid new Done parts not goes s q = absurd not
stop_by b c all rest behind line held kept before now old mid new (Refused e) parts not goes s q = refused_at b c all rest behind line held kept before now old mid new e parts goes s q
stop_by b c all rest behind line held kept before now old mid new OutputFault parts not goes s q = served_front b c all rest behind line held before old mid new parts s q
stop_by b c all rest behind line held kept before now old mid new OutOfMemory parts not goes s q = served_front b c all rest behind line held before old mid new parts s q
stop_by b c all rest behind line held kept before now old mid new x parts not goes s q = absurd q

-- a line at which it ends; a line that is Done doesn't
pub serving_stopped : (told opened : Option (List ℕ)) (texts : Texts) (tiles : Tiles) (reads : ℕ) (all rest behind line : List ℕ) (held kept : Tiles) (before now : ℕ) (old mid new : Held) (o : ServeOutcome) → lines_of rest ≡ line ∷ lines_of behind → IsStop o
    → IfSome told (λ b. UsesOneLength b → WritesLine b line mid new o) → GoesTold told opened texts line held kept before now o
    → IfSome told (λ b. UsesOneLength b → Served b (course opened texts tiles reads) all rest held before old mid) → IfSome told (λ b. UsesOneLength b → WritesLines b (course opened texts tiles reads) all now old new o)
serving_stopped None opened texts tiles reads all rest behind line held kept before now old mid new o parts not q goes s = tt
serving_stopped (Some b) opened texts tiles reads all rest behind line held kept before now old mid new o parts not q goes s = λ one.
    stop_by b (course opened texts tiles reads) all rest behind line held kept before now old mid new o parts not (goes one tiles reads) (s one) (q one)

stop_serve : (e : ServeError) → IsStop (of_serve e)
stop_serve errors.OutOfMemory = tt
stop_serve x = tt

stop_sink : (f : SinkFault) → IsStop (of_sink f)
stop_sink sink.Fault = tt
stop_sink sink.OutOfMemory = tt

stop_of : {T : Type 0} (r : Result T ServeOutcome) (o : ServeOutcome) → IsErrAnd r (λ x. x ≡ o) → IsStop o → IfErr r IsStop
stop_of (Ok x) o h stop = tt
stop_of (Err e) o h stop = subst IsStop (sym h) stop

pub stops_serve : {T : Type 0} (r : Result T ServeOutcome) (e : ServeError) → IsErrAnd r (λ x. x ≡ of_serve e) → IfErr r IsStop
stops_serve r e h = stop_of r (of_serve e) h (stop_serve e)

pub stops_sink : {T : Type 0} (r : Result T ServeOutcome) (f : SinkFault) → IsErrAnd r (λ x. x ≡ of_sink f) → IfErr r IsStop
stops_sink r f h = stop_of r (of_sink f) h (stop_sink f)

pub rose_before : (start before now : ℕ) → start ≤ before → Rose before now → Rose start now
rose_before start before now low r = omega (arith, low, r)

refused_later : (told : Option (List ℕ)) (start before now : ℕ) (e : ServeError) → start ≤ before → RefusalCauses told before now e → RefusalCauses told start now e
refused_later told start before now errors.Fault low q = rose_before start before now low q
refused_later told start before now x low q = q

later_by : (told : Option (List ℕ)) (start before now : ℕ) (o : ServeOutcome) → start ≤ before → LinesEnd told before now o → LinesEnd told start now o
later_by told start before now (Refused e) low q = refused_later told start before now e low q
later_by told start before now x low q = q

-- the same end, seen from an earlier count
pub end_later : (told again : Option (List ℕ)) (start before now : ℕ) (o p : ServeOutcome) → again ≡ told → p ≡ o → start ≤ before → LinesEnd again before now o → LinesEnd told start now p
end_later told again start before now o p same is low q =
    let P : Option (List ℕ) → Type 0 = λ x. LinesEnd x before now o in
    let Q : ServeOutcome → Type 0 = λ x. LinesEnd told start now x in
    subst Q (sym is) (later_by told start before now o low (subst P same q))

pub fault_later : (start before now : ℕ) (o p : ServeOutcome) → p ≡ o → start ≤ before → (o ≡ OutputFault → Rose before now) → p ≡ OutputFault → Rose start now
fault_later start before now o p is low q fault = rose_before start before now low (q (sym is ∙ fault))

pub unmodified_again : (versions again : Option (ℕ → Option (List ℕ))) (o p : ServeOutcome) → again ≡ versions → p ≡ o → (IsUniform again → IsUnmodifiedRun o) → IsUniform versions → IsUnmodifiedRun p
unmodified_again versions again o p same is q uniform = subst IsUnmodifiedRun (sym is) (q (subst IsUniform (sym same) uniform))
