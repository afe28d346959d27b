-- The words by which modes are shown.
use Rattle.std.specs.Prelude.{ℕ, codes, List}
use Rattle.mb_insert.specs.declared.mode.CopyDuplicateMode.{CopyDuplicateMode}
use Rattle.mb_insert.specs.declared.mode.CopyDuplicateMode.TheVariants.{Override, Ignore, Abort}

abbrev pub mode_words : CopyDuplicateMode → List ℕ
mode_words Override = codes "override"
mode_words Ignore = codes "ignore"
mode_words Abort = codes "abort"
