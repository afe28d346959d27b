-- The code of a loaded set, by which a proof tells two apart.
use Rattle.std.specs.Prelude.{◌≡◌, refl, ℕ, suc, zero, Option, true, false}
use Rattle.mb_loaded.specs.Common.{Cache, Cell, cell_cmp, cell_code, code_by, Coded, coded_list, coded_option, coded_ℕ, coded×, Contents, Dates, dates_code, DedupId, Flat, FlatWithHash, Fnv1a}
use Rattle.mb_loaded.specs.Common.{Fnv1aDecimal, Hash, HashAlgorithm, MbtType, Md5, Names, nat_cmp, Normalized, PatchType, Place, place_cmp, slice_cmp, TileSet, Xxh3, Xxh64}
use Rattle.std.specs.FinMap as fin
use Rattle.mb_loaded.specs.Held.{Edited, Held}
use Rattle.mb_loaded.specs.State.{State}
use Rattle.mb_tables.specs.declared.patch_type.PatchType.TheVariants.{BinDiffGz, BinDiffRaw}

abbrev pub layout_number : MbtType → ℕ
layout_number Flat = 0
layout_number FlatWithHash = 1
layout_number Cache = 2
layout_number (Normalized false Hash) = 3
layout_number (Normalized true Hash) = 4
layout_number (Normalized false DedupId) = 5
layout_number (Normalized true DedupId) = 6

abbrev pub layout_at : ℕ → MbtType
layout_at zero = Flat
layout_at (suc zero) = FlatWithHash
layout_at (suc (suc zero)) = Cache
layout_at (suc (suc (suc zero))) = Normalized false Hash
layout_at (suc (suc (suc (suc zero)))) = Normalized true Hash
layout_at (suc (suc (suc (suc (suc zero))))) = Normalized false DedupId
layout_at _ = Normalized true DedupId

pub layout_back : (l : MbtType) → layout_at (layout_number l) ≡ l
layout_back (Normalized false Hash) = refl
layout_back (Normalized true Hash) = refl
layout_back _ = refl

abbrev pub algorithm_number : HashAlgorithm → ℕ
algorithm_number Md5 = 0
algorithm_number Fnv1a = 1
algorithm_number Fnv1aDecimal = 2
algorithm_number Xxh64 = 3
algorithm_number Xxh3 = 4

abbrev pub algorithm_at : ℕ → HashAlgorithm
algorithm_at zero = Md5
algorithm_at (suc zero) = Fnv1a
algorithm_at (suc (suc zero)) = Fnv1aDecimal
algorithm_at (suc (suc (suc zero))) = Xxh64
algorithm_at _ = Xxh3

pub algorithm_back : (a : HashAlgorithm) → algorithm_at (algorithm_number a) ≡ a
algorithm_back Md5 = refl
algorithm_back _ = refl

abbrev pub patch_number : PatchType → ℕ
patch_number BinDiffGz = 0
patch_number BinDiffRaw = 1

abbrev pub patch_at : ℕ → PatchType
patch_at zero = BinDiffGz
patch_at _ = BinDiffRaw

pub patch_back : (p : PatchType) → patch_at (patch_number p) ≡ p
patch_back BinDiffGz = refl
patch_back BinDiffRaw = refl

abbrev pub place_code : Coded Place
place_code = code_by (ℕ × (ℕ × ℕ)) (coded× coded_ℕ (coded× coded_ℕ coded_ℕ)) (λ p. (p.zoom, (p.column, p.row))) (λ p. record { zoom = p.0; column = p.1.0; row = p.1.1 }) (λ _. refl)

abbrev pub unit_code : Coded (Unit {0})
unit_code = code_by ℕ coded_ℕ (λ _. 0) (λ _. tt) (λ _. refl)

abbrev pub kind_code : Coded (MbtType × (HashAlgorithm × Option PatchType))
kind_code = coded× (code_by ℕ coded_ℕ layout_number layout_at layout_back) (coded× (code_by ℕ coded_ℕ algorithm_number algorithm_at algorithm_back) (coded_option (code_by ℕ coded_ℕ patch_number patch_at patch_back)))

abbrev pub tiles_code : Coded (TileSet × (fin.FinMap place_cmp Cell × fin.FinMap place_cmp Dates))
tiles_code = coded× (fin.code place_code (coded_option (coded_list coded_ℕ))) (coded× (fin.code place_code cell_code) (fin.code place_code dates_code))

abbrev pub texts_code : Coded (Names × Contents)
texts_code = coded× (fin.code (coded_list coded_ℕ) (coded_option (coded_list coded_ℕ))) (fin.code cell_code cell_code)

abbrev pub state_code : Coded State
state_code = code_by ((MbtType × (HashAlgorithm × Option PatchType)) × ((TileSet × (fin.FinMap place_cmp Cell × fin.FinMap place_cmp Dates)) × (Names × Contents))) (coded× kind_code (coded× tiles_code texts_code)) (λ s. ((s.layout, (s.algorithm, s.patch_type)), ((s.tiles, (s.ids, s.dates)), (s.metadata, s.contents)))) (λ p. record { layout = p.0.0; algorithm = p.0.1.0; patch_type = p.0.1.1; tiles = p.1.0.0; ids = p.1.0.1.0; dates = p.1.0.1.1; metadata = p.1.1.0; contents = p.1.1.1 }) (λ _. refl)

abbrev pub edited_code : Coded Edited
edited_code = code_by (fin.FinMap place_cmp (Unit {0}) × (fin.FinMap cell_cmp (Unit {0}) × fin.FinMap (slice_cmp nat_cmp) (Unit {0}))) (coded× (fin.code place_code unit_code) (coded× (fin.code cell_code unit_code) (fin.code (coded_list coded_ℕ) unit_code))) (λ e. (e.places, (e.ids, e.names))) (λ p. record { places = p.0; ids = p.1.0; names = p.1.1 }) (λ _. refl)

abbrev pub held_code : Coded Held
held_code = code_by (State × Edited) (coded× state_code edited_code) (λ h. (h.state, h.edited)) (λ p. record { state = p.0; edited = p.1 }) (λ _. refl)
