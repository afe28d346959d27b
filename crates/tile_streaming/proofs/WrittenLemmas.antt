-- What is left of an archive of marks.
use Rattle.tile_streaming.proofs.Common.{adds_of, ArchivePlaces, AreAdded, Bool, HasWritten, IfSome, inl, inr, is_some, IsHidden, IsOfRead, List, Mark, None, Option, Options, of_write_error, places_of, PmtError, Some, StreamError, WriterState, WrittenLeaves, Err, ℕ, ◌≡◌, ◌⊎◌}
unfoldable use Rattle.tile_streaming.proofs.Common.{archive}
use Rattle.pm_writer.proofs.Took.{all_took_as, told_as_given}
use Rattle.pm_format.specs.declared.error.PmtError.TheVariants as errors
use Rattle.pm_writer.specs.Pieces.{IsHiddenOr}
use Rattle.tile_bridge.specs.declared.error.ConvertError.TheVariants.{StoreFault}
use Rattle.tile_streaming.specs.declared.error.StreamError.TheVariants.{Convert, StoreChanged}
use Rattle.tile_streaming.specs.Stored.{Stored}

module _ (o : Options) (tells : Bool) (t : Stored) (marks : List Mark) where
  -- no part of the archive, or the whole
  abbrev pub IsNoPart : List ℕ → Type 0
  IsNoPart b = IsHidden b ⊎ IsOfRead o tells t marks b

  -- before the end
  pub hidden_left : (told : Option (List ℕ)) → IfSome told IsHidden → IfSome told IsNoPart
  hidden_left None h = tt
  hidden_left (Some b) h = inl h

  pub refused_left : (old new : Option (List ℕ)) (e : StreamError) → IfSome new IsHidden → WrittenLeaves o tells t marks old new (Err e)
  refused_left old new StoreChanged h = h
  refused_left old new (Convert (StoreFault place)) h = h
  refused_left old new (Convert _) h = hidden_left new h

  writer_left : (old new : Option (List ℕ)) (e : PmtError) → IfSome new IsNoPart → WrittenLeaves o tells t marks old new (Err (Convert (of_write_error e)))
  writer_left old new errors.OutOfMemory h = h
  writer_left old new _ h = h

  -- and at the end
  module _ (start mid new : Option (List ℕ)) (s : WriterState) (so : AreAdded o tells t marks start mid s) (same : is_some new ≡ is_some start) where
    abbrev adds : List (ℕ × List ℕ)
    adds = adds_of marks so.contents

    pub whole_written : (old : Option (List ℕ)) (p : ArchivePlaces) → is_some old ≡ is_some start → IfSome new (λ b. b ≡ archive o so.taken) → p ≡ places_of o so.taken → HasWritten o tells t marks old new p
    whole_written old p begun bytes places = record {
      contents = so.contents;
      read = so.read;
      whole = told_as_given (λ adds b. b ≡ archive o adds) start new adds so.taken same so.took bytes;
      taken = so.taken;
      took = all_took_as start old adds so.taken begun so.took;
      places = places;
    }

    pub part_written : (old : Option (List ℕ)) (e : PmtError) → IfSome new (IsHiddenOr (archive o so.taken)) → WrittenLeaves o tells t marks old new (Err (Convert (of_write_error e)))
    part_written old e h = writer_left old new e (by new (told_as_given (λ adds. IsHiddenOr (archive o adds)) start new adds so.taken same so.took h))
      where
        by : (told : Option (List ℕ)) → IfSome told (IsHiddenOr (archive o adds)) → IfSome told IsNoPart
        by None h = tt
        by (Some b) (inl hidden) = inl hidden
        by (Some b) (inr whole) = inr (record { contents = so.contents; read = so.read; whole = whole })
