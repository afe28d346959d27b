-- The texts ask for rows, whatever the schema.
use Rattle.mb_reading.proofs.Common.{ap, Bool, cases_Bool, Command, Compiled, Err, false, if_select, Images, inl, inr, is_select, List, listing_schema, Map, master_text, Metadata, None, Ok, OnlyAsks}
use Rattle.mb_reading.proofs.Common.{Option, reads_listing, refl, rows_text, Schema, subst, sym, TableName, TileCache, Tiles, TilesData, TilesShallow, TilesWithHash, true, understood, ℕ, ◌+◌, ◌∙◌}
use Rattle.mb_reading.proofs.Common.{◌≡◌}
use Rattle.sqlite.specs.Compile.{command, compiled, first, meaning, planned, returning, returning_by, small, timed, with_command}
use Rattle.sqlite_ast.specs.declared.Statement.{Statement}
use Rattle.sqlite_ast.specs.declared.Statement.TheVariants as written
use Rattle.sqlite_resolve.specs.Lowering.{Checked, and_then}
use Rattle.sqlite_schema.specs.declared.command.Returning.{Returning}
use Rattle.sqlite_syntax.specs.declared.statement.Parsed.{Parsed}
use Rattle.sqlite_tied.specs.Compute.{everything}

abbrev is_query : Statement → Bool
is_query (written.Select s) = true
is_query _ = false

abbrev asks : Checked Parsed → Bool
asks (Ok p) = is_query p.statement
asks (Err e) = false

none_shown : (schema : Schema) (base : ℕ) (st : Statement) (shown : Option Returning) → is_query st ≡ true → returning_by schema base st ≡ Ok shown → shown ≡ None
none_shown schema base (written.Select s) shown is h = let e = h in cc
none_shown schema base _ shown is h = absurd (let e = is in cc)

-- a step that gave a value came behind one that gave one
then_ok : {A B : Type 0} (r : Checked A) (f : A → Checked B) (b : B) → and_then r f ≡ Ok b → (a : A) × (r ≡ Ok a) × (f a ≡ Ok b)
then_ok (Ok a) f b h = (a, refl, h)
then_ok (Err e) f b h = absurd (let e = h in cc)

if_select_ok : (r : Checked Compiled) (c : Compiled) → if_select r ≡ Ok c → r ≡ Ok c
if_select_ok (Err e) c h = absurd (let e = h in cc)
if_select_ok (Ok d) c h = elim (cases_Bool (is_select d.command)) [
  | inl is ↦ rw is at h
  | inr isnt ↦ absurd (let e = rw isnt at h in cc)
]

same_ok : {A : Type 0} {a b : A} → ◌≡◌ {A = Checked A} (Ok a) (Ok b) → a ≡ b
same_ok e = cc

meant_none : (schema : Schema) (p : Parsed) (base : ℕ) (found : Command × Option Returning) → is_query p.statement ≡ true → meaning schema p base ≡ Ok found → found.1 ≡ None
unfolding meaning returning
meant_none schema p base found is h =
    let shown = then_ok (returning_by schema base p.statement) (λ shown. and_then (command schema p.formats base p.statement) (λ c. Ok (c, shown))) found h in
    let made = then_ok (command schema p.formats base p.statement) (λ c. Ok (c, shown.0)) found shown.2 in
    ap (λ (f : Command × Option Returning). f.1) (sym (same_ok made.2)) ∙ none_shown schema base p.statement shown.0 is shown.1

planned_none : (schema : Schema) (p : Parsed) (plan : List (List ℕ) × (Command × Option Returning)) → is_query p.statement ≡ true → planned schema p ≡ Ok plan → plan.1.1 ≡ None
unfolding planned
planned_none schema p plan is h =
    let formats = timed schema p.formats p.statement in
    let found = then_ok (meaning schema p (small p.names + small formats)) (λ found. Ok (formats, found)) plan h in
    ap (λ (f : List (List ℕ) × (Command × Option Returning)). f.1.1) (sym (same_ok found.2)) ∙ meant_none schema p (small p.names + small formats) found.0 is found.1

module _ (text : List ℕ) (is : asks (first text) ≡ true) where
  compiled_asks : (schema : Schema) (c : Compiled) → compiled schema text ≡ Ok c → c.returning ≡ None
  unfolding compiled
  compiled_asks schema c h =
      let p = then_ok (first text) (λ p. and_then (planned schema p) (λ plan. Ok (with_command p plan))) c h in
      let plan = then_ok (planned schema p.0) (λ plan. Ok (with_command p.0 plan)) c p.2 in
      ap (λ (c : Compiled). c.returning) (sym (same_ok plan.2)) ∙ planned_none schema p.0 plan.0 (subst (λ r. asks r ≡ true) p.1 is) plan.1

  only_asks : OnlyAsks text
  unfolding understood
  only_asks schema c h = elim (cases_Bool (reads_listing schema text)) [
    | inl listing ↦ compiled_asks listing_schema c (if_select_ok _ c (rw listing at h))
    | inr other ↦ compiled_asks schema c (rw other at h)
  ]

master_asks_it : asks (first master_text) ≡ true
unfolding everything master_text
master_asks_it = refl

rows_ask_it : (table : TableName) → asks (first (rows_text table)) ≡ true
unfolding everything rows_text
rows_ask_it Tiles = refl
rows_ask_it TilesWithHash = refl
rows_ask_it Map = refl
rows_ask_it Images = refl
rows_ask_it TilesShallow = refl
rows_ask_it TilesData = refl
rows_ask_it TileCache = refl
rows_ask_it Metadata = refl

pub master_asks : (text : List ℕ) → text ≡ master_text → OnlyAsks text
master_asks text named = only_asks text (subst (λ t. asks (first t) ≡ true) (sym named) master_asks_it)

pub rows_ask : (table : TableName) (text : List ℕ) → text ≡ rows_text table → OnlyAsks text
rows_ask table text named = only_asks text (subst (λ t. asks (first t) ≡ true) (sym named) (rows_ask_it table))
