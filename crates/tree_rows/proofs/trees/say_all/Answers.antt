use Rattle.std.proofs.Common.{◌≡◌, ◌∙◌, List, ap, subst, sym, ℕ, true}
use Rattle.std.specs.Prelude.{All}
use Rattle.std.specs.FinMap.{contains_key}
use Rattle.tree_rows.proofs.Common.{all_there}
use Rattle.mb_tree.specs.Files.{paths_of}
use Rattle.tree_rows.proofs.trees.say_all.Goals as goal

pub say_files-requires : goal.say_files-requires
say_files-requires g c tells =
    subst (λ (paths : List (List ℕ)). All (λ path. contains_key (g.T.TileTree.told c.list.new.self) path ≡ true) paths)
    (ap paths_of c.list.ensures.kept.told ∙ (sym (c.in-Ok.ensures.answer (sym c.list.ensures.kept.tells ∙ tells)) ∙ sym c.deref.ensures.value))
    (all_there (g.T.TileTree.told c.list.new.self))
