-- Each algorithm is that of its name.
use Rattle.mb_load.proofs.Common.{algorithm_by, HashAlgorithm, name_of, None, refl, Some, unknown_name, ◌≡◌}
use Rattle.tile_hash.specs.declared.algorithm.HashAlgorithm.TheVariants.{Md5}

pub name_known : (a : HashAlgorithm) → unknown_name (Some (name_of a)) ≡ None
name_known Md5 = refl
name_known _ = refl

pub name_back : (a : HashAlgorithm) → algorithm_by (Some (name_of a)) ≡ a
name_back Md5 = refl
name_back _ = refl
