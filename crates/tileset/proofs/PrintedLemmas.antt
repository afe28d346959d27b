-- What is printed of a report, whatever the medium tells.
use Rattle.tileset.proofs.Common.{append-nil, Bulk, Command, ConvertError, ConvertFile, ConvertHex, ConvertOptions, ConvertReport, Coord, Err, Gains, Gains-more, Gains-nil, GainsFront, IfOk}
use Rattle.tileset.proofs.Common.{inl, inr, is_some, IsErrAnd, IsScript, List, Ok, OnOk, Option, Outcome, outcome_of, refl, ReportCauses, Result, Script, Some, State, subst, summary, sym, take, ℕ, [], ◌++◌}
use Rattle.tileset.proofs.Common.{Bool, Given, ◌≡◌}
use Rattle.mb_tables.specs.Table.{Tables}
use Rattle.tile_bridge.specs.Convert.{HasPlaces}
use Rattle.tile_bridge.specs.Leaves.{Leaves}
use Rattle.tile_bridge.specs.Stores.{IsDue}
use Rattle.tileset.specs.Places.{places_text}
use Rattle.tileset.specs.Printed.{Grows, IsOfDue, Prints}
use Rattle.tileset.specs.Run.{PrintedBy, PrintsReport}
use Rattle.tileset.proofs.RunLemmas.{err_outcome}
use Rattle.tileset.specs.declared.outcome.Outcome.TheVariants as outcomes

-- the report of a conversion whose options are its caller's
pub stated_report : (o : ConvertOptions) (due : Option (Result State ConvertError)) (d : Result State ConvertError) (base_tells : Bool) (tells : List Bool) (told : List Tables) (coords : List Coord) (old new : Option (List ℕ)) (base base_now : Tables) (r : Result ConvertReport ConvertError)
    → due ≡ Some d → Leaves (λ s w. w ≡ o.writer) due o base_tells tells told coords r old new base base_now → IfOk r (IsOfDue d o.writer old)
stated_report o due d base_tells tells told coords old new base base_now (Ok r) e (inl u) = absurd u.refused
stated_report o due d base_tells tells told coords old new base base_now (Ok r) e (inr s) = record {
  final = s.state;
  set = subst (λ x. IsDue x s.state) e s.is_due;
  hash = s.aggregate_is;
  places = subst (λ w. HasPlaces w s.state.tiles old r) s.given s.places;
}
stated_report o due d base_tells tells told coords old new base base_now (Err e) same leaves = tt

-- nothing more, and one piece after another
pub grows_none : (a : Option (List ℕ)) → Grows a a
grows_none a = ([], Gains-nil a)

pub grows_front : (a b : Option (List ℕ)) (text : List ℕ) → GainsFront a b text → Grows a b
grows_front a b text h = (take h.0 text, h.2)

pub grows_then : (a b c : Option (List ℕ)) → Grows a b → Grows b c → Grows a c
grows_then a b c p q = (p.0 ++ q.0, Gains-more a b c p.0 q.0 p.1 q.1)

pub gains_then : (a b c : Option (List ℕ)) (text : List ℕ) → Gains a b text → Grows b c → (dump : List ℕ) × Gains a c (text ++ dump)
gains_then a b c text p q = (q.0, Gains-more a b c text q.0 p q.1)

-- the lines of each command
pub printed_hex : (asked : Command) (queries : List Coord) (r : ConvertReport) (old new : Option (List ℕ)) (end : Result Unit Outcome) → asked ≡ ConvertHex → OnOk end ((dump : List ℕ) × Gains old new (summary queries r ++ dump)) → OnOk end (Prints asked queries r old new)
printed_hex asked queries r old new (Err e) is h = tt
printed_hex asked queries r old new (Ok x) is h = subst (λ a. Prints a queries r old new) (sym is) (h.0, tt, h.1)

pub printed_file : (asked : Command) (queries : List Coord) (r : ConvertReport) (old new : Option (List ℕ)) (end : Result Unit Outcome) → asked ≡ ConvertFile → OnOk end (Gains old new (summary queries r)) → OnOk end (Prints asked queries r old new)
printed_file asked queries r old new (Err e) is h = tt
printed_file asked queries r old new (Ok x) is h = subst (λ a. Prints a queries r old new) (sym is) ([], refl, subst (Gains old new) (sym (append-nil (summary queries r))) h)

pub printed_bulk : (asked : Command) (tiles repeat : ℕ) (leaf : Option ℕ) (uppers : Bool) (queries : List Coord) (r : ConvertReport) (old new : Option (List ℕ)) (end : Result Unit Outcome) → asked ≡ Bulk tiles repeat leaf → uppers ≡ is_some leaf → OnOk end (Gains old new (places_text uppers r.places))
    → OnOk end (Prints asked queries r old new)
printed_bulk asked tiles repeat leaf uppers queries r old new (Err e) is wanted h = tt
printed_bulk asked tiles repeat leaf uppers queries r old new (Ok x) is wanted h =
    let text : Gains old new (places_text (is_some leaf) r.places) = subst (λ u. Gains old new (places_text u r.places)) wanted h in
    subst (λ a. Prints a queries r old new) (sym is) ([], refl, subst (Gains old new) (sym (append-nil (places_text (is_some leaf) r.places))) text)

-- what is known of a run, from what is known of its script
not_done : (asked : Command) (s : Script) (medium old new told : Option (List ℕ)) (e : Outcome) → ReportCauses told e → PrintedBy asked s medium old new e
not_done asked s medium old new told outcomes.Done c = absurd c
not_done asked s medium old new told _ c = tt

pub unprinted : (asked : Command) (s : Script) (medium old new told : Option (List ℕ)) (e : Outcome) (r : Result Unit Outcome) → ReportCauses told e → IsErrAnd r (λ x. x ≡ e) → PrintedBy asked s medium old new (outcome_of r)
unprinted asked s medium old new told e r c ended = subst (PrintedBy asked s medium old new) (sym (err_outcome r e ended)) (not_done asked s medium old new told e c)

pub printed_by : (given : Given) (s : Script) (old new : Option (List ℕ)) (o : Outcome) → (is : IsScript given s) → PrintedBy is.asked s given.medium old new o → PrintsReport given old new o
printed_by given s old new outcomes.Done is h = (s, is, h)
printed_by given s old new x is h = tt
