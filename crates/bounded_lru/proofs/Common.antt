-- What the crate's proofs name of the crates below and of its specs, passed on from one place. Declares nothing.
pub use Rattle.bounded_lru.specs.Bounded.{Bounded, bounded, fits, IsWithin, light, light_front, used, weight_of, weight_of_pair, with_pair}
pub use Rattle.bounded_lru.specs.Common.{last_entry, lookup, lru_cache, promoted, remove_entry}
pub use Rattle.lru.specs.LruCache.{displaced, LruCache, put_entries}
pub use Rattle.std.proofs.Common.{ap, arith, Bool, cond, Contains, drop, false, IfSome, if◌then◌else◌, inl, inr, is_some, length, List, nat_eq, nat_le, None, Option, option_map, refl, slice_get, Some}
pub use Rattle.std.proofs.Common.{subst, suc, sym, take, true, zero, ℕ, [], ◌++◌, ◌+◌, ◌-◌, ◌<◌, ◌∙◌, ◌∷◌, ◌≡◌, ◌≤◌, ◌⊎◌}
pub use Rattle.std.proofs.lemmas.Bool.Decides.{nat_tests}
pub use Rattle.std.specs.Map.{lookup_entry}
pub use Rattle.std.specs.Option.{option_map_or}
