-- Adds that are few and short.
use Rattle.std.specs.Prelude.{ℕ, ◌<◌, ◌^◌, List, length, sum_by}
use Rattle.pm_writer.specs.Common.{Options}
use Rattle.pm_writer.specs.Bounds.{AllSized}

-- fewer than 2^32 adds, none of 2^32 bytes or more, of fewer than 2^60 bytes together, and metadata
-- of fewer than 2^63 bytes
pub record AreFew (o : Options) (adds : List (ℕ × List ℕ)) : Type 0 where
  pub metadata : length o.metadata < 2 ^ 63
  pub sized : AllSized adds
  pub count : length adds < 2 ^ 32
  pub total : sum_by (λ a. length a.1) adds < 2 ^ 60
