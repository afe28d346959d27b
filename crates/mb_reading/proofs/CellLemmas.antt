-- Texts that are UTF-8, and those that aren't.
use Rattle.mb_reading.proofs.Common.{ap, cases_Bool, Cell, cond, inl, inr, is_utf8, IsUtf8, List, None, Option, Some, Text, ℕ, ◌≡◌}
use Rattle.std.proofs.lemmas.Str.{IsUtf8-from_is_utf8, is_utf8-from_IsUtf8}
use Rattle.mb_reading.specs.Cells.{text_cell}

abbrev none : Option Cell
none = None

pub utf8_cell : (t : List ℕ) → IsUtf8 t → text_cell t ≡ Some (Text t)
utf8_cell t is = ap (λ b. cond b (Some (Text t)) none) (is_utf8-from_IsUtf8 t is)

pub other_cell : (t : List ℕ) → (¬ IsUtf8 t) → text_cell t ≡ None
other_cell t isnot = elim (cases_Bool (is_utf8 t)) [
  | inl is ↦ absurd (isnot (IsUtf8-from_is_utf8 t is))
  | inr isnt ↦ ap (λ b. cond b (Some (Text t)) none) isnt
]
