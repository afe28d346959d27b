-- The answer of a run, from what is known of its script.
use Rattle.tileset.proofs.Common.{answer, answer_command, answer_input, answer_label, answer_script, answer_set, ap, arith, Bulk, Command, command, converted, ConvertFile, ConvertHex, Err, false}
use Rattle.tileset.proofs.Common.{Given, Gives, if◌then◌else◌, inl, inr, IsErrAnd, IsScript, IsScriptOf, IsShort, IsTold, IsValid, length, List, LoadCauses, MAX_INPUT, nat_lt, nat_tests, None, Ok}
use Rattle.tileset.proofs.Common.{Option, Outcome, outcome_of, refl, Result, Script, script_of, ScriptCauses, Some, Spells, State, subst, sym, TellsScript, true, Yields, ℕ, [], ◌<◌, ◌∙◌, ◌≡◌, ◌≤◌}
use Rattle.tileset.proofs.Common.{◌⊎◌}
use Rattle.pm_format.specs.declared.compression.Compression.TheVariants as compression
use Rattle.tileset.specs.declared.outcome.Outcome.TheVariants.{Done, BadScript, InputFault, OutputFault, MediumFault, OutOfMemory, InputTooLong}
use Rattle.tileset.proofs.RunLemmas.{err_outcome}

below_limit : (n : ℕ) → n ≤ MAX_INPUT → nat_lt MAX_INPUT n ≡ false
below_limit n h = grind (arith, nat_tests)

above_limit : (n : ℕ) → MAX_INPUT < n → nat_lt MAX_INPUT n ≡ true
above_limit n h = grind (arith, nat_tests)

-- an input within the limit is answered as what it spells
read_answer : (bytes : List ℕ) (medium : Option (List ℕ)) (r : Result Script ℕ) → length bytes ≤ MAX_INPUT → script_of bytes ≡ r → answer_input (Some bytes) medium ≡ answer_script r medium
read_answer bytes medium r short spells =
    ap (λ b. if b then Some InputTooLong else answer_script (script_of bytes) medium) (below_limit (length bytes) short) ∙ ap (λ x. answer_script x medium) spells

long_answer : (bytes : List ℕ) (medium : Option (List ℕ)) → MAX_INPUT < length bytes → answer_input (Some bytes) medium ≡ Some InputTooLong
long_answer bytes medium long = ap (λ b. if b then Some InputTooLong else answer_script (script_of bytes) medium) (above_limit (length bytes) long)

-- what is answered on the script is answered on its input
input_answer : (input medium : Option (List ℕ)) (s : Script) (o : Outcome) → IsShort input → Spells input s → Gives (answer_script (Ok s) medium) o → Gives (answer_input input medium) o
input_answer None medium s o short spells h = tt
input_answer (Some bytes) medium s o short spells h = subst (λ w. Gives w o) (sym (read_answer bytes medium (Ok s) short spells)) h

script_answer : (asked : Command) (input medium : Option (List ℕ)) (s : Script) (o : Outcome) → IsScriptOf asked input s → Gives (answer_script (Ok s) medium) o → Gives (answer_command (Some asked) input medium) o
script_answer ConvertHex input medium s o is h = input_answer input medium s o is.0 is.1 h
script_answer ConvertFile input medium s o is h = input_answer input medium s o is.0 is.1 h
script_answer (Bulk tiles repeat leaf) input medium s o is h = subst (λ t. Gives (answer_script (Ok t) medium) o) is h

-- the answer on words that are a command
asked_answer : (given : Given) (asked : Command) (o : Outcome) → command given.words ≡ Some asked → Gives (answer_command (Some asked) given.input given.medium) o → Gives (answer given) o
asked_answer given asked o words h = subst (λ w. Gives w o) (sym (ap (λ c. answer_command c given.input given.medium) words)) h

pub exact_by : (given : Given) (s : Script) (o : Outcome) → IsScript given s → Gives (answer_script (Ok s) given.medium) o → Gives (answer given) o
exact_by given s o is h = asked_answer given is.asked o is.words (script_answer is.asked given.input given.medium s o is.script h)

-- a fault and running out of memory may come in place of any answer
yields : (wanted : Option Outcome) (o : Outcome) → Yields o → Gives wanted o
yields None o y = tt
yields (Some w) o y = inr y

-- where there is no script
load_answer : (input medium : Option (List ℕ)) (e : Outcome) → LoadCauses input e → Gives (answer_input input medium) e
load_answer None medium e c = tt
load_answer (Some bytes) medium (BadScript line) c = subst (λ w. Gives w (BadScript line)) (sym (read_answer bytes medium (Err line) c.0 c.1)) (inl refl)
load_answer (Some bytes) medium InputTooLong c = subst (λ w. Gives w InputTooLong) (sym (long_answer bytes medium c)) (inl refl)
load_answer (Some bytes) medium InputFault c = yields (answer_input (Some bytes) medium) InputFault tt
load_answer (Some bytes) medium OutOfMemory c = yields (answer_input (Some bytes) medium) OutOfMemory tt
load_answer (Some bytes) medium x c = absurd c

unread_answer : (asked : Command) (input medium : Option (List ℕ)) (e : Outcome) → ScriptCauses asked input e → Gives (answer_command (Some asked) input medium) e
unread_answer ConvertHex input medium e c = load_answer input medium e c
unread_answer ConvertFile input medium e c = load_answer input medium e c
unread_answer (Bulk tiles repeat leaf) input medium e c =
    subst (Gives (answer_command (Some (Bulk tiles repeat leaf)) input medium)) (sym c) (yields (answer_command (Some (Bulk tiles repeat leaf)) input medium) OutOfMemory tt)

pub exact_unread : (given : Given) (asked : Command) (e : Outcome) (r : Result Unit Outcome) → command given.words ≡ Some asked → ScriptCauses asked given.input e → IsErrAnd r (λ x. x ≡ e) → Gives (answer given) (outcome_of r)
exact_unread given asked e r words c ended =
    subst (Gives (answer given)) (sym (err_outcome r e ended)) (asked_answer given asked e words (unread_answer asked given.input given.medium e c))

-- where all is valid
plain_answer : (s : Script) (final : State) → s.options.writer.internal_compression ≡ compression.None → converted s ≡ Ok final → answer_script (Ok s) (Some []) ≡ Some Done
plain_answer s final plain set = ap Some (ap (answer_label s) plain ∙ ap answer_set set)

told_answer : (input : Option (List ℕ)) (s : Script) → TellsScript input s → answer_script (Ok s) (Some []) ≡ Some Done → answer_input input (Some []) ≡ Some Done
told_answer None s is h = absurd is
told_answer (Some bytes) s is h = read_answer bytes (Some []) (Ok s) is.0 is.1 ∙ h

valid_answer : (asked : Command) (input : Option (List ℕ)) (s : Script) → IsTold asked input s → answer_script (Ok s) (Some []) ≡ Some Done → answer_command (Some asked) input (Some []) ≡ Some Done
valid_answer ConvertHex input s is h = told_answer input s is h
valid_answer ConvertFile input s is h = told_answer input s is h
valid_answer (Bulk tiles repeat leaf) input s is h = ap (λ t. answer_script (Ok t) (Some [])) (sym is) ∙ h

unyielding : (o : Outcome) → Yields o → (o ≡ InputFault → ⊥) → (o ≡ OutputFault → ⊥) → (o ≡ MediumFault → ⊥) → (o ≡ Done) ⊎ (o ≡ OutOfMemory)
unyielding OutOfMemory y input output medium = inr refl
unyielding InputFault y input output medium = absurd (input refl)
unyielding OutputFault y input output medium = absurd (output refl)
unyielding MediumFault y input output medium = absurd (medium refl)
unyielding _ y input output medium = absurd y

pub complete_by : (given : Given) (s : Script) (o : Outcome) → IsValid given s → Gives (answer given) o → (o ≡ InputFault → ⊥) → (o ≡ OutputFault → ⊥) → (o ≡ MediumFault → ⊥) → (o ≡ Done) ⊎ (o ≡ OutOfMemory)
complete_by given s o is h input output medium = go (subst (λ w. Gives w o) found h)
  where
    found : answer given ≡ Some Done
    found = ap (λ c. answer_command c given.input given.medium) is.words
        ∙ (ap (answer_command (Some is.asked) given.input) is.empty ∙ valid_answer is.asked given.input s is.script (plain_answer s is.final is.plain is.set))

    go : (o ≡ Done) ⊎ Yields o → (o ≡ Done) ⊎ (o ≡ OutOfMemory)
    go (inl e) = inl e
    go (inr y) = unyielding o y input output medium
