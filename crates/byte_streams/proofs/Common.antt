-- What the crate's proofs name of the crates below and of its specs, passed on from one place. Declares nothing.
pub use Rattle.byte_streams.specs.Common.{Grew}
pub use Rattle.byte_streams.specs.Kept.{KeepsSink, KeepsSource}
pub use Rattle.byte_streams.specs.Streams.{Gains, IsAtEnd, Loses}
pub use Rattle.std.proofs.Common.{ap, append-nil, append_assoc, arith, drop, IfSome, is_some, length, length-append, List, min, None, Option, refl, rules, Some, subst, sym, take, take-add, ℕ, []}
pub use Rattle.std.proofs.Common.{◌++◌, ◌+◌, ◌-◌, ◌<◌, ◌∙◌, ◌≡◌, ◌≤◌}
