-- A state and a cache that fit bytes.
use Rattle.std.specs.Prelude.{ℕ, List}
use Rattle.pm_reader.specs.Archives.{IsCacheable}
use Rattle.pm_reader.specs.Caches.{Held}
use Rattle.pm_reader.specs.Levels.{HoldsLeaves}
use Rattle.pm_reader.specs.Opening.{OpensAs, header_of, root_of}
use Rattle.pm_reader.specs.declared.state.ReaderState.{ReaderState}

-- the state is that of the bytes, and where a cache changes no answer it holds no wrong leaf
pub record ReadsFrom (b : List ℕ) (s : ReaderState) (held : Held) (idle : Type 0) : Type 0 where
  pub opens : OpensAs b s
  pub leaves : IsCacheable b idle → HoldsLeaves (header_of s) b (root_of s) held
