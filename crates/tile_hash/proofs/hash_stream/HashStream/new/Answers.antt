use Rattle.tile_hash.proofs.Common.{refl, []}
use Rattle.tile_hash.proofs.HashStreamLemmas.{has_taken, none_hashed}
use Rattle.tile_hash.proofs.hash_stream.HashStream.new.Goals as goal

pub returns-in-Md5 : goal.returns-in-Md5
returns-in-Md5 c = has_taken _ _ [] _ refl (c.in-Md5.is, c.new.ensures)

pub returns-in-Fnv1a : goal.returns-in-Fnv1a
returns-in-Fnv1a c = has_taken _ _ [] _ refl (c.in-Fnv1a.is, none_hashed)

pub returns-in-Fnv1aDecimal : goal.returns-in-Fnv1aDecimal
returns-in-Fnv1aDecimal c = has_taken _ _ [] _ refl (c.in-Fnv1aDecimal.is, none_hashed)

pub returns-in-Xxh64 : goal.returns-in-Xxh64
returns-in-Xxh64 c = has_taken _ _ [] _ refl (c.in-Xxh64.is, c.new-in-Xxh64.ensures)

pub returns-in-Xxh3 : goal.returns-in-Xxh3
returns-in-Xxh3 c = has_taken _ _ [] _ refl (c.in-Xxh3.is, c.new-in-Xxh3.ensures)
