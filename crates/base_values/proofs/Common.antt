-- What the crate's proofs name of the crates below and of its specs, passed on from one place. Declares nothing.
pub use Rattle.std.specs.Prelude.{Err, Ok, OnErr, OnOk, Result}
pub use base.Fml.{fdead, flft, fres, GName, Lft, Share}
pub use base.Logic.{all, all_e, apply∗, emp, ent, id⊢, sep, SProp, wand}
pub use denote.Param.{layout, param}
pub use denote.Param.Laws.{Laws, param_laws}
pub use denote.RattleType.{owns, RattleType, Valss}
pub use denote.Ref.{MutBor, MutRef}
pub use denote.Steps.{heard, nothing, only, peeks}
pub use lib.Dec.{T}
pub use mathlib.Core.List.{List, [], ◌++◌, ◌∷◌}
pub use mathlib.Core.Path.{ap, refl, subst, sym, ◌∙◌, ◌≡◌}
pub use mir.Syntax.{arm, Arms, assign, block, Body, call, call_v, cond, default, exit, lend_static, Lifetime, loop, no_default, return, seq, skip, switch, Ty, unreachable}
pub use mir.Val.{has_ty, of_list, Val, vptr, vstruct, WT}
pub use seplogic.Ra.Ura.{Ura}
pub use types.Kit.{any_q, assume, await, by, done, drop, each, feq_i, feq_l, fjoin, fpack, fpick, frame, fsplit, fsplit3, Goal, Item, join, later, move, pick, Post, post, qed, raw, rewrite, Seq, show}
pub use types.Kit.{split, updating, use0, use1, use2, use3, !, ‵, ◌$◌, ◌∵◌, ◌⊛◌}
pub use types.Logic.{Logic, sem}
