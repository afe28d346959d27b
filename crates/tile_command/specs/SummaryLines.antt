-- Counts and sizes of the tiles of a set, in lines.
use Rattle.std.specs.Prelude.{ℕ, ◌++◌, List, [], ◌∷◌, Option, unwrap_or, codes}
use Rattle.tile_command.specs.Common.{decimal, layout_words, Summary, ZoomInfo}

abbrev pub zoom_text : ZoomInfo → List ℕ
zoom_text i =
    decimal i.zoom ++ (codes " " ++ (decimal i.tile_count ++ (codes " " ++ (decimal i.total_size
    ++ (codes " " ++ (decimal i.min_tile_size ++ (codes " " ++ (decimal i.max_tile_size ++ codes "\n"))))))))

abbrev pub zooms_text : List ZoomInfo → List ℕ
zooms_text [] = []
zooms_text (i ∷ is) = zoom_text i ++ zooms_text is

abbrev pub number_or_none : Option ℕ → ℕ
number_or_none n = unwrap_or n 0

abbrev pub total_text : Summary → List ℕ
total_text s =
    codes "all " ++ (decimal s.tile_count ++ (codes " " ++ (decimal s.total_size
    ++ (codes " " ++ (decimal (number_or_none s.min_tile_size) ++ (codes " " ++ (decimal (number_or_none s.max_tile_size) ++ codes "\n")))))))

abbrev pub summary_text : Summary → List ℕ
summary_text s =
    codes "layout " ++ (layout_words s.mbt_type ++ (codes "\nzoom tiles bytes least greatest\n" ++ (zooms_text s.zoom_info ++ total_text s)))
