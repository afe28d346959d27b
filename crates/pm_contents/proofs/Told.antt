-- What holds of bytes that may be told.
use Rattle.pm_contents.proofs.Common.{IfSome, List, None, Option, Some, ℕ}

pub if_some_map : (P Q : List ℕ → Type 0) (o : Option (List ℕ)) → ((b : List ℕ) → P b → Q b) → IfSome o P → IfSome o Q
if_some_map P Q None f h = tt
if_some_map P Q (Some b) f h = f b h

pub if_both : (P Q R : List ℕ → Type 0) (o : Option (List ℕ)) → ((b : List ℕ) → P b → Q b → R b) → IfSome o P → IfSome o Q → IfSome o R
if_both P Q R None f p q = tt
if_both P Q R (Some b) f p q = f b p q
