-- What the crate's specs and sources name of the crates below, passed on from one place. Declares nothing.
pub use Rattle.base_values.specs.Counts.{Grew, Rose}
pub use Rattle.base_values.specs.FailingCalls.{called, next_fails}
pub use Rattle.base_values.specs.declared.failing_calls.FailingCalls.{FailingCalls}
pub use Rattle.std.specs.declared.option.Option.{Option}
pub use Rattle.std.specs.declared.result.Result.{Result}
