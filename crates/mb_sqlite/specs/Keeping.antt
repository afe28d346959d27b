-- What a step in a transaction keeps, and a call that only reads.
use Rattle.std.specs.Prelude.{true, ◌≡◌, IsErrOf, OnOk, Result}
use Rattle.mb_sqlite.specs.Common.{Ghosts, Held}
use Rattle.mb_sqlite.specs.Committing.{CommitsNothing}
use Rattle.mb_sqlite.specs.Resting.{IdleRests, KeepsInside, StaysInside}
use Rattle.mb_sqlite.specs.declared.failure.Failure.{Failure}
use Rattle.mb_sqlite.specs.declared.failure.Failure.TheVariants.{Fault}

-- nothing is committed, what was committed last stands, and where the step is done, the transaction goes on
pub record GoesOn {S A E : Type 0} (g : Ghosts S) (old new : Held S) (result : Result A E) : Type 0 where
  pub survives : CommitsNothing g old new
  pub stands : KeepsInside g old new
  pub inside : OnOk result (StaysInside g old new)

-- nothing is committed; a connection inside a transaction is a fault and stays as it is, and another one rests
pub record OnlyReads {S A : Type 0} (g : Ghosts S) (old new : Held S) (result : Result A Failure) : Type 0 where
  pub survives : CommitsNothing g old new
  pub inside : old.in_transaction ≡ true → IsErrOf result Fault × (new ≡ old)
  pub rests : IdleRests g old new
