-- What the crate's proofs name of the crates below and of its specs, passed on from one place. Declares nothing.
pub use Rattle.line_words.specs.Common.{option_and_then}
pub use Rattle.line_words.specs.Number.{at_most, digits_behind, number_to}
pub use Rattle.std.proofs.Common.{ap, arith, Bool, drop, false, get_or, IfSome, if◌then◌else◌, length, length-drop, List, MatchOption, nat_eq, nat_le, None, Option, refl, slice_index, Some, suc, sym}
pub use Rattle.std.proofs.Common.{take, true, zero, ℕ, [], ◌*◌, ◌++◌, ◌+◌, ◌-◌, ◌<◌, ◌∙◌, ◌∷◌, ◌≡◌, ◌≢◌, ◌≤◌}
pub use Rattle.std.proofs.lemmas.Bool.Decides.{nat_tests}
