-- What the crate's specs and sources name of the crates below, passed on from one place. Declares nothing.
pub use Rattle.lru.specs.LruCache.{last_entry, lru_cache, promoted}
pub use Rattle.std.specs.Map.{lookup, remove_entry}
