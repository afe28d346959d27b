-- What the crate's specs and sources name of the crates below, passed on from one place. Declares nothing.
pub use Rattle.mb_cache.specs.State.{Agrees}
