-- The code of a cell and of times, by which a proof tells two apart.
use Rattle.std.specs.Prelude.{◌≡◌, refl, ℕ, ℤ, pos, suc, zero, List, []}
use Rattle.mb_lists.specs.Common.{Blob, Cell, code_by, Coded, coded_list, coded_ℕ, coded_ℤ, coded×, Int, Null, Other, Text}
use Rattle.mb_lists.specs.declared.dates.Dates.{Dates}

-- a cell as its kind, its number and its bytes
abbrev pub cell_parts : Cell → ℕ × (ℤ × List ℕ)
cell_parts Null = (0, (pos 0, []))
cell_parts (Int n) = (1, (n, []))
cell_parts (Text bytes) = (2, (pos 0, bytes))
cell_parts (Blob bytes) = (3, (pos 0, bytes))
cell_parts Other = (4, (pos 0, []))

abbrev pub cell_by : ℕ → ℤ → List ℕ → Cell
cell_by zero n bytes = Null
cell_by (suc zero) n bytes = Int n
cell_by (suc (suc zero)) n bytes = Text bytes
cell_by (suc (suc (suc zero))) n bytes = Blob bytes
cell_by _ n bytes = Other

pub cell_back : (c : Cell) → cell_by (cell_parts c).0 (cell_parts c).1.0 (cell_parts c).1.1 ≡ c
cell_back Null = refl
cell_back (Int n) = refl
cell_back (Text bytes) = refl
cell_back (Blob bytes) = refl
cell_back Other = refl

abbrev pub cell_code : Coded Cell
cell_code = code_by (ℕ × (ℤ × List ℕ)) (coded× coded_ℕ (coded× coded_ℤ (coded_list coded_ℕ))) cell_parts (λ p. cell_by p.0 p.1.0 p.1.1) cell_back

abbrev pub dates_code : Coded Dates
dates_code = code_by (Cell × (Cell × Cell)) (coded× cell_code (coded× cell_code cell_code)) (λ d. (d.fetched, (d.expires, d.etag))) (λ p. record { fetched = p.0; expires = p.1.0; etag = p.1.1 }) (λ _. refl)
