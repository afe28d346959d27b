-- What a call leaves that changes nothing.
use Rattle.mb_reading.proofs.Common.{arith, List, refl, ℕ, ◌≡◌}
use Rattle.sqlite_disk.specs.Disk.{Cut, Follows, Torn}

torn_same : (at n : ℕ) (c : List ℕ) → Torn at n c c
torn_same at n c = record { no_shorter = omega arith; no_longer = omega arith; below = λ i h g. refl; above = λ i h g. refl }

cut_same : (n : ℕ) (c : List ℕ) → Cut n c c
cut_same n c = record { no_shorter = omega arith; no_longer = omega arith; below = λ i h g. refl }

-- a write that changes nothing is one of those that a write may be
pub torn_nothing : (at n : ℕ) (old new : List ℕ) → new ≡ old → Torn at n old new
torn_nothing at n old new e = rw e (torn_same at n old)

pub torn_follows : (at n : ℕ) (P : List ℕ → Type 0) → Follows (Torn at n) P P
torn_follows at n P c p = (c, p, torn_same at n c)

pub cut_nothing : (n : ℕ) (old new : List ℕ) → new ≡ old → Cut n old new
cut_nothing n old new e = rw e (cut_same n old)

pub cut_follows : (n : ℕ) (P : List ℕ → Type 0) → Follows (Cut n) P P
cut_follows n P c p = (c, p, cut_same n c)
