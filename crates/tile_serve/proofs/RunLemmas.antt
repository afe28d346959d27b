-- A run, from the opening to the last line.
use Rattle.tile_serve.proofs.Common.{ap, append-nil, arith, Done, Err, Grew, IfSome, InputCounts, InputFault, InputTooLong, IsAtEnd, IsFor, IsOk, IsRead, IsServing, IsSilent, IsUnmodifiedRun}
use Rattle.tile_serve.proofs.Common.{IsUnopened, LinesEnd, List, Loses, MAX_INPUT, None, of_input, of_serve, Ok, opened, OpeningCauses, OpensFor, Option, OutOfMemory, OutputFault, PmtError, refl}
use Rattle.tile_serve.proofs.Common.{RefusalCauses, Refused, RefusesOpening, replies, Result, RunTexts, ServeError, ServeLimits, ServeOutcome, ServerState, Some, SourceCauses, subst, sym, Taken}
use Rattle.tile_serve.proofs.Common.{Texts, Usage, UsesOneLength, Writes, ℕ, ◌++◌, ◌∙◌, ◌≡◌, ◌≤◌}
use Rattle.byte_streams.specs.declared.input.InputError.{InputError}
use Rattle.byte_streams.specs.declared.input.InputError.TheVariants as input
use Rattle.tile_serve.specs.declared.error.ServeError.TheVariants as errors
use Rattle.tile_serve.proofs.LinesLemmas.{front_none, rose_before}

abbrev Held : Type 0
Held = Option (List ℕ)

-- An archive that doesn't open.

pub record Unopened (told : Option (List ℕ)) (before now : ℕ) (o : ServeOutcome) : Type 0 where
  pub writes : (limits : ServeLimits) (texts : Texts) (start end : ℕ) (held : Held) (requests : List ℕ) → IfSome told (λ b. UsesOneLength b → Writes limits texts start end b requests held held o)
  pub texts : (texts : Texts) (start end : ℕ) → RunTexts texts start end o
  pub opens : IfSome told (λ b. OpensFor (opened b) o)
  pub read : IsRead o
  pub causes : SourceCauses told before now o
  pub unmodified : IsUnmodifiedRun o
  pub other : o ≡ OutputFault → ⊥

-- an outcome that leaves what is held, whatever the limits, the texts and the counts
abbrev WritesNothing : ServeOutcome → Type 0
WritesNothing o = (limits : ServeLimits) (texts : Texts) (start end : ℕ) (b requests : List ℕ) (held : Held) → Writes limits texts start end b requests held held o

told_writes : (told : Option (List ℕ)) (o : ServeOutcome) → WritesNothing o → (limits : ServeLimits) (texts : Texts) (start end : ℕ) (held : Held) (requests : List ℕ) → IfSome told (λ b. UsesOneLength b → Writes limits texts start end b requests held held o)
told_writes None o is limits texts start end held requests = tt
told_writes (Some b) o is limits texts start end held requests = λ one. is limits texts start end b requests held

told_opens : (told : Option (List ℕ)) (e : PmtError) → IfSome told (λ b. RefusesOpening (opened b) (errors.Opening e)) → IfSome told (λ b. OpensFor (opened b) (Refused (errors.Opening e)))
told_opens None e q = tt
told_opens (Some b) e q = q

told_free : (told : Option (List ℕ)) → IfSome told (λ b. OpensFor (opened b) OutOfMemory)
told_free None = tt
told_free (Some b) = tt

no_fault : (e : PmtError) → Refused (errors.Opening e) ≡ OutputFault → ⊥
no_fault e q = absurd (cc)

memory_fault : OutOfMemory ≡ OutputFault → ⊥
memory_fault q = absurd (cc)

unopened_by : (told : Option (List ℕ)) (before now : ℕ) (e : ServeError) → IfSome told (λ b. RefusesOpening (opened b) e) → OpeningCauses before now e → Unopened told before now (of_serve e)
unopened_by told before now (errors.Opening e) q c =
    record { writes = told_writes told (Refused (errors.Opening e)) (λ limits texts start end b requests held. refl); texts = λ texts start end. tt; opens = told_opens told e q; read = tt; causes = c; unmodified = tt; other = no_fault e }
unopened_by told before now errors.OutOfMemory q c =
    record { writes = told_writes told OutOfMemory (λ limits texts start end b requests held. front_none held (replies b requests)); texts = λ texts start end. tt; opens = told_free told; read = tt; causes = tt; unmodified = tt; other = memory_fault }
unopened_by told before now x q c = absurd c

pub unopened : (told : Option (List ℕ)) (before now : ℕ) (e : ServeError) (o : ServeOutcome) → o ≡ of_serve e → IfSome told (λ b. RefusesOpening (opened b) e) → OpeningCauses before now e → Unopened told before now o
unopened told before now e o is q c = let P : ServeOutcome → Type 0 = λ x. Unopened told before now x in subst P (sym is) (unopened_by told before now e q c)

-- Lines over an archive that opened.

refusal_before : (told : Option (List ℕ)) (start before now : ℕ) (e : ServeError) → start ≤ before → RefusalCauses told before now e → SourceCauses told start now (Refused e)
refusal_before told start before now errors.Fault low q = rose_before start before now low q
refusal_before told start before now (errors.Modified x y) low q = tt
refusal_before told start before now (errors.Short x y) low q = q
refusal_before told start before now x low q = absurd q

causes_by : (told : Option (List ℕ)) (start before now : ℕ) (o : ServeOutcome) → start ≤ before → LinesEnd told before now o → SourceCauses told start now o
causes_by told start before now (Refused e) low q = refusal_before told start before now e low q
causes_by told start before now Usage low q = absurd q
causes_by told start before now InputFault low q = absurd q
causes_by told start before now InputTooLong low q = absurd q
causes_by told start before now x low q = tt

pub lines_cause : (told again : Option (List ℕ)) (start before now : ℕ) (o : ServeOutcome) → again ≡ told → start ≤ before → LinesEnd again before now o → SourceCauses told start now o
lines_cause told again start before now o same low q = let P : Option (List ℕ) → Type 0 = λ x. LinesEnd x before now o in causes_by told start before now o low (subst P same q)

pub lines_read : (told : Option (List ℕ)) (before now : ℕ) (o : ServeOutcome) → LinesEnd told before now o → IsRead o
lines_read told before now Usage q = absurd q
lines_read told before now InputFault q = absurd q
lines_read told before now InputTooLong q = absurd q
lines_read told before now x q = tt

loud : (told : Option (List ℕ)) (before now : ℕ) (e : ServeError) → RefusalCauses told before now e → IsSilent (Refused e) → ⊥
loud told before now (errors.Opening e) q s = q
loud told before now x q s = s

pub lines_loud : (told : Option (List ℕ)) (before now : ℕ) (o : ServeOutcome) → LinesEnd told before now o → IsSilent o → ⊥
lines_loud told before now (Refused e) q s = loud told before now e q s
lines_loud told before now Usage q s = q
lines_loud told before now InputFault q s = q
lines_loud told before now InputTooLong q s = q
lines_loud told before now x q s = s

ok_is : {A E : Type 0} (r : Result A E) (x : A) → r ≡ Ok x → IsOk r
ok_is r x q = let P : Result _ _ → Type 0 = λ y. IsOk y in subst P (sym q) refl

opens_refused : (told : Option (List ℕ)) (before now : ℕ) (b : List ℕ) (e : ServeError) → RefusalCauses told before now e → IsOk (opened b) → OpensFor (opened b) (Refused e)
opens_refused told before now b (errors.Opening e) q ok = absurd q
opens_refused told before now b errors.OutOfMemory q ok = absurd q
opens_refused told before now b x q ok = ok

opens_by : (told : Option (List ℕ)) (before now : ℕ) (b : List ℕ) (o : ServeOutcome) → LinesEnd told before now o → IsOk (opened b) → OpensFor (opened b) o
opens_by told before now b Done q ok = ok
opens_by told before now b (Refused e) q ok = opens_refused told before now b e q ok
opens_by told before now b OutputFault q ok = ok
opens_by told before now b OutOfMemory q ok = tt
opens_by told before now b x q ok = absurd q

pub lines_open : (told again : Option (List ℕ)) (versions : Option (ℕ → Option (List ℕ))) (before now : ℕ) (s : ServerState) (o : ServeOutcome) → again ≡ told → IsServing again versions s → LinesEnd again before now o → IfSome told (λ b. OpensFor (opened b) o)
lines_open None again versions before now s o same is q = tt
lines_open (Some b) again versions before now s o same is q =
    let P : Option (List ℕ) → Type 0 = λ x. IsServing x versions s in
    let serving : IsServing (Some b) versions s = subst P same is in
    opens_by again before now b o q (ok_is (opened b) _ serving.archive.reads.opens)

-- The words and the input.

for_by : (l : ServeLimits) (o : ServeOutcome) → (o ≡ Usage → ⊥) → IsFor (Some l) o
for_by l Usage not = not refl
for_by l x not = tt

pub for_some : (words : Option ServeLimits) (l : ServeLimits) (o : ServeOutcome) → words ≡ Some l → (o ≡ Usage → ⊥) → IsFor words o
for_some words l o q not = let P : Option ServeLimits → Type 0 = λ x. IsFor x o in subst P (sym q) (for_by l o not)

pub read_as : (o p : ServeOutcome) → IsRead o → o ≡ p → IsRead p
read_as o p read q = subst IsRead q read

pub read_opened : (o : ServeOutcome) → IsRead o → IsUnopened o → ⊥
read_opened Usage read u = read
read_opened InputFault read u = read
read_opened InputTooLong read u = read
read_opened x read u = u

-- what is written, where the words are limits and the input is told
abbrev pub WritesAsked : Option ServeLimits → Option (List ℕ) → Texts → ℕ → ℕ → Option (List ℕ) → Held → Held → ServeOutcome → Type 0
WritesAsked words told texts start end input old new o =
    IfSome words (λ limits. IfSome told (λ b. UsesOneLength b → IfSome input (λ requests. Writes limits texts start end b requests old new o)))

-- what stands of the input's errors
pub record Unread (told : Option (List ℕ)) (o : ServeOutcome) : Type 0 where
  pub words : o ≡ Usage → ⊥
  pub writes : (words : Option ServeLimits) (texts : Texts) (start end : ℕ) (held : Held) (input : Option (List ℕ)) → WritesAsked words told texts start end input held held o
  pub texts : (texts : Texts) (start end : ℕ) → RunTexts texts start end o
  pub opens : IfSome told (λ b. OpensFor (opened b) o)
  pub done : o ≡ Done → ⊥
  pub causes : (before now : ℕ) → SourceCauses told before now o
  pub unmodified : IsUnmodifiedRun o
  pub other : o ≡ OutputFault → ⊥

input_writes : (o : ServeOutcome) → WritesNothing o → (told : Option (List ℕ)) (words : Option ServeLimits) (texts : Texts) (start end : ℕ) (held : Held) (input : Option (List ℕ)) → WritesAsked words told texts start end input held held o
input_writes o is told None texts start end held input = tt
input_writes o is None (Some limits) texts start end held input = tt
input_writes o is (Some b) (Some limits) texts start end held None = λ one. tt
input_writes o is (Some b) (Some limits) texts start end held (Some requests) = λ one. is limits texts start end b requests held

input_opens : (told : Option (List ℕ)) (o : ServeOutcome) → ((b : List ℕ) → OpensFor (opened b) o) → IfSome told (λ b. OpensFor (opened b) o)
input_opens None o is = tt
input_opens (Some b) o is = is b

unread_by : (told : Option (List ℕ)) (e : InputError) → Unread told (of_input e)
unread_by told input.OutOfMemory = record {
  words = λ q. absurd (cc);
  writes = input_writes OutOfMemory (λ limits texts start end b requests held. front_none held (replies b requests)) told;
  texts = λ texts start end. tt;
  opens = input_opens told OutOfMemory (λ b. tt);
  done = λ q. absurd (cc);
  causes = λ before now. tt;
  unmodified = tt;
  other = λ q. absurd (cc);
}
unread_by told x = record {
  words = λ q. absurd (cc);
  writes = input_writes (of_input x) (λ limits texts start end b requests held. refl) told;
  texts = λ texts start end. tt;
  opens = input_opens told (of_input x) (λ b. tt);
  done = λ q. absurd (cc);
  causes = λ before now. tt;
  unmodified = tt;
  other = λ q. absurd (cc);
}

pub unread : (told : Option (List ℕ)) (e : InputError) (o : ServeOutcome) → o ≡ of_input e → Unread told o
unread told e o is = let P : ServeOutcome → Type 0 = λ x. Unread told x in subst P (sym is) (unread_by told e)

taken_input : (before now : ℕ) (e : InputError) → InputCounts before now (Err e) → Taken before now (of_input e)
taken_input before now input.Fault q = q
taken_input before now x q = q

pub taken_unread : (before now : ℕ) (e : InputError) (o : ServeOutcome) → o ≡ of_input e → InputCounts before now (Err e) → Taken before now o
taken_unread before now e o is q = let P : ServeOutcome → Type 0 = λ x. Taken before now x in subst P (sym is) (taken_input before now e q)

taken_by : (before now n : ℕ) (o : ServeOutcome) → Grew before now n → n ≤ MAX_INPUT → IsRead o → Taken before now o
taken_by before now n Usage g low read = absurd read
taken_by before now n InputFault g low read = absurd read
taken_by before now n InputTooLong g low read = absurd read
taken_by before now n x g low read = omega (arith, g.most, low)

pub taken_read : (before now n : ℕ) (o : ServeOutcome) → Grew before now n × (n ≤ MAX_INPUT) → IsRead o → Taken before now o
taken_read before now n o q read = taken_by before now n o q.0 q.1 read

-- what was read is the whole input
whole : (left behind : Option (List ℕ)) (bytes requests : List ℕ) → Loses left behind bytes → IsAtEnd behind → left ≡ Some requests → bytes ≡ requests
whole None behind bytes requests lost end q = absurd (cc)
whole (Some old) None bytes requests lost end q = absurd lost
whole (Some old) (Some new) bytes requests lost end q = let same : old ≡ requests = cc in sym (append-nil bytes) ∙ (ap (λ x. bytes ++ x) (sym end) ∙ (sym lost ∙ same))

writes_by : (limits : ServeLimits) (texts : Texts) (start now : ℕ) (b : List ℕ) (left behind : Option (List ℕ)) (bytes : List ℕ) (old new : Held) (o : ServeOutcome) → Loses left behind bytes → IsAtEnd behind → Writes limits texts start now b bytes old new o
    → (seen : Option (List ℕ)) → left ≡ seen → IfSome seen (λ requests. Writes limits texts start now b requests old new o)
writes_by limits texts start now b left behind bytes old new o lost end q None is = tt
writes_by limits texts start now b left behind bytes old new o lost end q (Some requests) is =
    let P : List ℕ → Type 0 = λ x. Writes limits texts start now b x old new o in subst P (whole left behind bytes requests lost end is) q

told_input : (told left behind : Option (List ℕ)) (limits : ServeLimits) (texts : Texts) (start now : ℕ) (bytes : List ℕ) (old new : Held) (o : ServeOutcome) → Loses left behind bytes → IsAtEnd behind
    → IfSome told (λ b. UsesOneLength b → Writes limits texts start now b bytes old new o) → IfSome told (λ b. UsesOneLength b → IfSome left (λ requests. Writes limits texts start now b requests old new o))
told_input None left behind limits texts start now bytes old new o lost end q = tt
told_input (Some b) left behind limits texts start now bytes old new o lost end q = λ one. writes_by limits texts start now b left behind bytes old new o lost end (q one) left refl

pub writes_input : (words : Option ServeLimits) (limits : ServeLimits) (told left behind : Option (List ℕ)) (texts : Texts) (start now : ℕ) (bytes : List ℕ) (old new : Held) (o : ServeOutcome) → words ≡ Some limits → Loses left behind bytes → IsAtEnd behind
    → IfSome told (λ b. UsesOneLength b → Writes limits texts start now b bytes old new o) → WritesAsked words told texts start now left old new o
writes_input words limits told left behind texts start now bytes old new o is lost end q =
    let P : Option ServeLimits → Type 0 = λ w. WritesAsked w told texts start now left old new o in
    subst P (sym is) (told_input told left behind limits texts start now bytes old new o lost end q)
