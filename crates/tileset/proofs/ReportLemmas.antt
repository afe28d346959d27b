-- The report, from what a conversion answers.
use Rattle.tileset.proofs.Common.{answer_lines, ap, append-nil, archive_map, arith, Bool, Bulk, Command, command_text, ConvertFile, ConvertReport, Coord, drop, drop_all, Err, flat_map, Gains}
use Rattle.tileset.proofs.Common.{Gains-more, GainsFront, hex_dump, id_of, IfErr, IfSome, is_some, IsErrOf, IsReported, length, LinesCauses, List, map, min, None, Ok, OnOk, Option, Outcome}
use Rattle.tileset.proofs.Common.{places_read, refl, ReportCauses, Result, Some, subst, suc, summary, sym, zero, ℕ, [], ◌++◌, ◌∙◌, ◌∷◌, ◌≡◌, ◌≤◌}
use Rattle.tileset.specs.Places.{places_text}
use Rattle.tileset.specs.Report.{bulk_text, file_text, number_lines, query_lines, query_line, report_text, summary_lines}
use Rattle.tileset.specs.declared.outcome.Outcome.TheVariants as outcomes
use Rattle.tileset.proofs.DumpLemmas.{front_longer, front_more}

no_tiles : (cs : List Coord) → answer_lines cs [] ≡ []
no_tiles [] = refl
no_tiles (c ∷ cs) = refl

-- nothing is left where one of the lists is at its end
answers_end : (i : ℕ) (cs : List Coord) (tiles : List (Option (List ℕ))) → min (length cs) (length tiles) ≤ i → answer_lines (drop i cs) (drop i tiles) ≡ []
answers_end i [] tiles h = ap (λ q. answer_lines q (drop i tiles)) (drop_all i [] (omega arith))
answers_end i (c ∷ cs) [] h = ap (λ t. answer_lines (drop i (c ∷ cs)) t) (drop_all i [] (omega arith)) ∙ no_tiles (drop i (c ∷ cs))
answers_end zero (c ∷ cs) (tile ∷ tiles) h = absurd (omega arith)
answers_end (suc i) (c ∷ cs) (tile ∷ tiles) h = answers_end i cs tiles (omega arith)

pub answers_done : (old new : List ℕ) (i n : ℕ) (cs : List Coord) (tiles : List (Option (List ℕ))) → n ≡ min (length cs) (length tiles) → n ≤ i → new ++ answer_lines (drop i cs) (drop i tiles) ≡ old ++ answer_lines cs tiles → new ≡ old ++ answer_lines cs tiles
answers_done old new i n cs tiles e h w = sym (append-nil new) ∙ (ap (λ r. new ++ r) (sym (answers_end i cs tiles (omega arith))) ∙ w)

-- the lines of answers that a function gives
answers_map : (f : Coord → Option (List ℕ)) (cs : List Coord) → answer_lines cs (map f cs) ≡ flat_map (λ c. query_line c (f c)) cs
answers_map f [] = refl
answers_map f (c ∷ cs) = ap (λ r. query_line c (f c) ++ r) (answers_map f cs)

-- the lines of the answers and numbers are those of the bytes
summary_is : (queries : List Coord) (r : ConvertReport) (b : List ℕ) → IsReported queries r b → file_text queries r.aggregate b ≡ summary queries r
unfolding file_text
summary_is queries r b is =
    let answers : answer_lines queries r.answers ≡ query_lines b queries = ap (answer_lines queries) is.answers ∙ answers_map (λ c. archive_map b (id_of c)) queries in
    let numbers : summary_lines r.aggregate (places_read b) ≡ number_lines r.aggregate r.places.addressed r.places.entries r.places.contents r.places.length = ap (summary_lines r.aggregate) is.places in
    ap (λ x. x ++ summary_lines r.aggregate (places_read b)) (sym answers) ∙ ap (λ x. answer_lines queries r.answers ++ x) numbers

-- the report is these lines and the dump
report_is : (queries : List Coord) (r : ConvertReport) (b : List ℕ) → IsReported queries r b → report_text queries r.aggregate b ≡ summary queries r ++ hex_dump 0 b
unfolding report_text
report_is queries r b is = ap (λ x. x ++ hex_dump 0 b) (summary_is queries r b is)

pub report_all : (old mid new told : Option (List ℕ)) (queries : List Coord) (r : ConvertReport) → IfSome told (IsReported queries r)
    → Gains old mid (summary queries r) → IfSome told (λ b. Gains mid new (hex_dump 0 b)) → IfSome told (λ b. Gains old new (report_text queries r.aggregate b))
report_all old mid new None queries r is p q = tt
report_all old mid new (Some b) queries r is p q =
    subst (Gains old new) (sym (report_is queries r b is)) (Gains-more old mid new (summary queries r) (hex_dump 0 b) p q)

pub report_front : (old mid told : Option (List ℕ)) (queries : List Coord) (r : ConvertReport) → IfSome told (IsReported queries r)
    → GainsFront old mid (summary queries r) → IfSome told (λ b. GainsFront old mid (report_text queries r.aggregate b))
report_front old mid None queries r is p = tt
report_front old mid (Some b) queries r is p =
    subst (GainsFront old mid) (sym (report_is queries r b is)) (front_longer old mid (summary queries r) (hex_dump 0 b) p)

pub report_further : (old mid new told : Option (List ℕ)) (queries : List Coord) (r : ConvertReport) → IfSome told (IsReported queries r)
    → Gains old mid (summary queries r) → IfSome told (λ b. GainsFront mid new (hex_dump 0 b)) → IfSome told (λ b. GainsFront old new (report_text queries r.aggregate b))
report_further old mid new None queries r is p q = tt
report_further old mid new (Some b) queries r is p q =
    subst (GainsFront old new) (sym (report_is queries r b is)) (front_more old mid new (summary queries r) (hex_dump 0 b) p q)

-- the text of a file has these lines alone
pub file_all : (asked : Command) (old new told : Option (List ℕ)) (queries : List Coord) (r : ConvertReport) (end : Result Unit Outcome) → asked ≡ ConvertFile → IfSome told (IsReported queries r)
    → OnOk end (Gains old new (summary queries r)) → OnOk end (IfSome told (λ b. Gains old new (command_text asked queries r.aggregate b)))
file_all asked old new told queries r (Err e) file is p = tt
file_all asked old new None queries r (Ok x) file is p = tt
file_all asked old new (Some b) queries r (Ok x) file is p =
    subst (λ a. Gains old new (command_text a queries r.aggregate b)) (sym file) (subst (Gains old new) (sym (summary_is queries r b is)) p)

pub file_front : (asked : Command) (old new told : Option (List ℕ)) (queries : List Coord) (r : ConvertReport) → asked ≡ ConvertFile → IfSome told (IsReported queries r)
    → GainsFront old new (summary queries r) → IfSome told (λ b. GainsFront old new (command_text asked queries r.aggregate b))
file_front asked old new None queries r file is p = tt
file_front asked old new (Some b) queries r file is p =
    subst (λ a. GainsFront old new (command_text a queries r.aggregate b)) (sym file) (subst (GainsFront old new) (sym (summary_is queries r b is)) p)

-- the text of two numbers has the places
pub bulk_front : (asked : Command) (tiles repeat : ℕ) (leaf : Option ℕ) (uppers : Bool) (old new told : Option (List ℕ)) (queries : List Coord) (r : ConvertReport) → asked ≡ Bulk tiles repeat leaf → uppers ≡ is_some leaf → IfSome told (IsReported queries r)
    → GainsFront old new (places_text uppers r.places) → IfSome told (λ b. GainsFront old new (command_text asked queries r.aggregate b))
bulk_front asked tiles repeat leaf uppers old new None queries r bulk wanted is p = tt
bulk_front asked tiles repeat leaf uppers old new (Some b) queries r bulk wanted is p =
    let text : places_text uppers r.places ≡ command_text asked queries r.aggregate b =
    ap (λ u. places_text u r.places) wanted ∙ (ap (bulk_text (is_some leaf)) (sym is.places) ∙ ap (λ a. command_text a queries r.aggregate b) (sym bulk)) in
    subst (GainsFront old new) text p

-- writing such lines ends as a report may
pub lines_end : (told : Option (List ℕ)) (r : Result Unit Outcome) → IfErr r LinesCauses → IfErr r (ReportCauses told)
lines_end told (Ok x) h = tt
lines_end told (Err outcomes.OutputFault) h = tt
lines_end told (Err outcomes.OutOfMemory) h = tt
lines_end told (Err _) h = absurd h

pub no_medium_fault : (r : Result Unit Outcome) → IfErr r LinesCauses → IsErrOf r outcomes.MediumFault → ⊥
no_medium_fault r h is = subst (λ x. IfErr x LinesCauses) is h
