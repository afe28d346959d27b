use Rattle.tile_hash.proofs.Common.{refl}
use Rattle.tile_hash.proofs.HashStreamLemmas.{taken_by, has_taken, more_hashed}
use Rattle.tile_hash.proofs.hash_stream.HashStream.update.Goals as goal

pub returns-in-Md5 : goal.returns-in-Md5
returns-in-Md5 c = λ a bytes took.
    let t = taken_by a _ bytes _ c.in-Md5.is took in
    has_taken a _ _ _ refl (t.0, c.update.ensures bytes t.1)

pub returns-in-Fnv1a : goal.returns-in-Fnv1a
returns-in-Fnv1a c = λ a bytes took.
    let t = taken_by a _ bytes _ c.in-Fnv1a.is took in
    has_taken a _ _ _ refl (t.0, more_hashed _ _ bytes _ t.1 c.hashed_from.ensures)

pub returns-in-Fnv1aDecimal : goal.returns-in-Fnv1aDecimal
returns-in-Fnv1aDecimal c = λ a bytes took.
    let t = taken_by a _ bytes _ c.in-Fnv1aDecimal.is took in
    has_taken a _ _ _ refl (t.0, more_hashed _ _ bytes _ t.1 c.hashed_from-in-Fnv1aDecimal.ensures)

pub returns-in-Xxh64 : goal.returns-in-Xxh64
returns-in-Xxh64 c = λ a bytes took.
    let t = taken_by a _ bytes _ c.in-Xxh64.is took in
    has_taken a _ _ _ refl (t.0, c.update-in-Xxh64.ensures bytes t.1)

pub returns-in-Xxh3 : goal.returns-in-Xxh3
returns-in-Xxh3 c = λ a bytes took.
    let t = taken_by a _ bytes _ c.in-Xxh3.is took in
    has_taken a _ _ _ refl (t.0, c.update-in-Xxh3.ensures bytes t.1)
