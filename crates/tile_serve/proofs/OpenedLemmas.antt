-- Lines over an archive that one read opened.
use Rattle.tile_serve.proofs.Common.{Bounded, bounded, Course, course, Grew, IfSome, InputFault, InputTooLong, IsBegun, LinesTexts, List, None, Option, OutOfMemory, OutputFault, Refused, RunTexts}
use Rattle.tile_serve.proofs.Common.{ServeLimits, ServeOutcome, Some, subst, sym, Texts, Usage, UsesOneLength, Writes, WritesLines, ℕ, [], ◌∙◌, ◌≡◌, ◌≤◌}
use Rattle.tile_serve.specs.declared.error.ServeError.TheVariants as errors

abbrev Held : Type 0
Held = Option (List ℕ)

writes_opened : (limits : ServeLimits) (texts : Texts) (start now : ℕ) (c : Course) (b requests : List ℕ) (old new : Held) (o : ServeOutcome) → IsBegun limits texts start c → WritesLines b c requests now old new o → Writes limits texts start now b requests old new o
writes_opened limits texts start now c b requests old new (Refused (errors.Opening e)) begun q = absurd q.refused
writes_opened limits texts start now c b requests old new OutputFault begun q = q
writes_opened limits texts start now c b requests old new OutOfMemory begun q = q
writes_opened limits texts start now c b requests old new Usage begun q = absurd q
writes_opened limits texts start now c b requests old new InputFault begun q = absurd q
writes_opened limits texts start now c b requests old new InputTooLong begun q = absurd q
writes_opened limits texts start now c b requests old new x begun q = (c, begun, q)

told_opened : (told : Option (List ℕ)) (limits : ServeLimits) (texts : Texts) (start now : ℕ) (c : Course) (requests : List ℕ) (old new : Held) (o : ServeOutcome) → IsBegun limits texts start c
    → IfSome told (λ b. UsesOneLength b → WritesLines b c requests now old new o) → IfSome told (λ b. UsesOneLength b → Writes limits texts start now b requests old new o)
told_opened None limits texts start now c requests old new o begun q = tt
told_opened (Some b) limits texts start now c requests old new o begun q = λ one. writes_opened limits texts start now c b requests old new o begun (q one)

pub lines_write : (told again : Option (List ℕ)) (limits : ServeLimits) (texts : Texts) (start now : ℕ) (c : Course) (requests : List ℕ) (old new : Held) (o : ServeOutcome) → again ≡ told → IsBegun limits texts start c
    → IfSome again (λ b. UsesOneLength b → WritesLines b c requests now old new o) → IfSome told (λ b. UsesOneLength b → Writes limits texts start now b requests old new o)
lines_write told again limits texts start now c requests old new o same begun q =
    let P : Option (List ℕ) → Type 0 = λ x. IfSome x (λ b. UsesOneLength b → WritesLines b c requests now old new o) in
    told_opened told limits texts start now c requests old new o begun (subst P same q)

-- an archive was opened, and nothing is held yet
pub begun_by : (limits : ServeLimits) (texts again : Texts) (start reads : ℕ) (first : Option (List ℕ)) (tiles : Bounded (List ℕ)) → again ≡ texts → Grew start reads 1 → IfSome again (λ text. first ≡ text reads)
    → tiles ≡ bounded [] limits.tiles (Some limits.tile_bytes) → IsBegun limits texts start (course first again tiles reads)
begun_by limits texts again start reads first tiles same grew text are =
    let P : Texts → Type 0 = λ v. IfSome v (λ text. first ≡ text reads) in
    record { read = grew; same = same; opened = subst P same text; tiles = are }

texts_two : (texts : Texts) (start reads now : ℕ) (first : Option (List ℕ)) (a b : List ℕ) → Grew start reads 1 → reads ≤ now → IfSome texts (λ text. first ≡ text reads) → first ≡ Some a → IfSome texts (λ text. text now ≡ Some b)
    → IfSome texts (λ text. (n : ℕ) × Grew start n 1 × (n ≤ now) × (text n ≡ Some a) × (text now ≡ Some b))
texts_two None start reads now first a b grew later text one two = tt
texts_two (Some text) start reads now first a b grew later is one two = (reads, grew, later, sym is ∙ one, two)

texts_by : (texts : Texts) (start reads now : ℕ) (first : Option (List ℕ)) (o : ServeOutcome) → Grew start reads 1 → reads ≤ now → IfSome texts (λ text. first ≡ text reads) → LinesTexts first texts now o → RunTexts texts start now o
texts_by texts start reads now first (Refused (errors.Modified a b)) grew later text q = (q.1, texts_two texts start reads now first a b grew later text q.0 q.2)
texts_by texts start reads now first x grew later text q = tt

pub lines_texts : (texts again : Texts) (start reads now : ℕ) (first : Option (List ℕ)) (o : ServeOutcome) → again ≡ texts → Grew start reads 1 → reads ≤ now → IfSome again (λ text. first ≡ text reads) → LinesTexts first again now o
    → RunTexts texts start now o
lines_texts texts again start reads now first o same grew later text q = let P : Texts → Type 0 = λ v. RunTexts v start now o in subst P same (texts_by again start reads now first o grew later text q)
