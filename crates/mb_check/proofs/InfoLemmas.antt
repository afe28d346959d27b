-- What a set says of itself, field by field.
use Rattle.mb_check.proofs.Common.{after_hash, agg_hash, ap, before_hash, info_answer, List, Ok, Option, State, sym, ℕ, ◌∙◌, ◌≡◌}
use Rattle.mb_check.specs.declared.patch_info.PatchFileInfo.{PatchFileInfo}
use Rattle.mb_tables.specs.declared.kind.MbtType.{MbtType}
use Rattle.mb_tables.specs.declared.patch_type.PatchType.{PatchType}

abbrev info : MbtType → Option (List ℕ) → Option (List ℕ) → Option (List ℕ) → Option PatchType → PatchFileInfo
info layout agg before after kind = record { mbt_type = layout; agg_tiles_hash = agg; agg_tiles_hash_before_apply = before; agg_tiles_hash_after_apply = after; patch_type = kind }

pub info_same : (s : State) (layout : MbtType) (agg before after : Option (List ℕ)) (kind : Option PatchType) → layout ≡ s.layout → agg ≡ agg_hash s.metadata → before ≡ before_hash s.metadata → after ≡ after_hash s.metadata → kind ≡ s.patch_type → info_answer s ≡ Ok (info layout agg before after kind)
info_same s layout agg before after kind l a b f k = sym (
    ap (λ (x : MbtType). Ok (info x agg before after kind)) l
    ∙ (ap (λ (x : Option (List ℕ)). Ok (info s.layout x before after kind)) a
    ∙ (ap (λ (x : Option (List ℕ)). Ok (info s.layout (agg_hash s.metadata) x after kind)) b
    ∙ (ap (λ (x : Option (List ℕ)). Ok (info s.layout (agg_hash s.metadata) (before_hash s.metadata) x kind)) f
    ∙ ap (λ (x : Option PatchType). Ok (info s.layout (agg_hash s.metadata) (before_hash s.metadata) (after_hash s.metadata) x)) k))))
