-- What the crate's proofs name of the crates below and of its specs, passed on from one place. Declares nothing.
pub use Rattle.std.proofs.Common.{ap, length, None, Option, refl, Some, subst, sym, ℕ, ◌∙◌, ◌≡◌}
