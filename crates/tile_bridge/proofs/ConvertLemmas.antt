-- What a conversion owes: the archive of the adds is that of the set.
use Rattle.tile_bridge.proofs.Common.{ap, archive, archive_map, AreAddsOf, AreFew, arith, CanBeWritten, ConvertError, ConvertReport, Coord, Err, false, find, from_entries, get, get-from_entries}
use Rattle.tile_bridge.proofs.Common.{id_of, IfSome, inl, inr, is_some, IsArchiveOf, IsConverted, IsHiddenOr, IsHindered, length, List, map, nat_cmp, nat_cmp_total, None, of_read_error, Ok, Option}
use Rattle.tile_bridge.proofs.Common.{Options, OptionsFit, overflows, places_of, places_read, PmtError, ReadBackCauses, refl, SetCauses, SetLeaves, ShowsNoPart, Some, sorted_archivable, sorted_formed}
use Rattle.tile_bridge.proofs.Common.{sorted_map, subst, sym, TileSet, told_themselves, TookAll, true, WellFormed, ℕ, [], ◌<◌, ◌^◌, ◌∙◌, ◌∷◌, ◌≡◌}
use Rattle.pm_writer.proofs.Canonical.{canon_is}
use Rattle.pm_writer.proofs.PlacesRead.{places_are}
use Rattle.pm_writer.specs.Archivable.{IsArchivable}
use Rattle.pm_format.specs.declared.error.ReadCause.TheVariants as causes
use Rattle.pm_format.specs.declared.error.PmtError.TheVariants as errors
use Rattle.tile_bridge.proofs.AddLemmas.{holds_adds}

-- a fact on told bytes, after a call that changed nothing told
pub told_same : (P : List ℕ → Type 0) (old new : Option (List ℕ)) → new ≡ old → IfSome old P → IfSome new P
told_same P old new same h = subst (λ o. IfSome o P) (sym same) h

-- a length of 0 is that of an empty medium
pub none_told : (told : Option (List ℕ)) (n : ℕ) → IfSome told (λ b. n ≡ length b) → n ≡ 0 → IfSome told (λ b. b ≡ [])
none_told None n h e = tt
none_told (Some []) n h e = refl
none_told (Some (byte ∷ bytes)) n h e = absurd (omega (arith, h, e))

-- the adds of a set, which can be written
pub ready : (o : Options) (tiles : TileSet) (adds : List (ℕ × List ℕ)) → AreAddsOf adds tiles → ((o : Options) → length o.metadata < 2 ^ 63 → overflows tiles ≡ false → AreFew o adds) → OptionsFit o → length o.metadata < 2 ^ 63 → overflows tiles ≡ false → CanBeWritten o adds
ready o tiles adds are few fit short size = record { options = fit; rising = are.rising; low = are.low; filled = are.filled; few = few o short size }

module _ (o : Options) (adds : List (ℕ × List ℕ)) (can : CanBeWritten o adds) where
  archivable : IsArchivable o adds
  archivable = sorted_archivable o adds can.options can.few can.rising can.low can.filled

  archive_is : (tiles : TileSet) → AreAddsOf adds tiles → IsArchiveOf (archive o adds) o tiles
  archive_is tiles are =
      let has : (id : ℕ) → get (from_entries {R = nat_cmp} adds) id ≡ find nat_cmp id adds = λ id. get-from_entries nat_cmp_total adds id in
      record {
        formed = sorted_formed o adds archivable can.rising;
        holds = holds_adds (archive o adds) adds tiles are (λ id. sorted_map o adds id archivable);
        by_id = from_entries adds;
        has = λ id. has id ∙ sym (sorted_map o adds id archivable);
        one = canon_is o adds (from_entries adds) can.rising has;
      }

  formed : (b : List ℕ) → b ≡ archive o adds → WellFormed b o true
  formed b is = subst (λ b. WellFormed b o true) (sym is) (sorted_formed o adds archivable can.rising)

  converted : (tiles : TileSet) (coords : List Coord) (r : ConvertReport) (b : List ℕ) → AreAddsOf adds tiles → r.places ≡ places_of o adds → b ≡ archive o adds → r.answers ≡ map (λ c. archive_map b (id_of c)) coords → IsConverted b o tiles coords r
  converted tiles coords r b are places is answers = record {
    archive = subst (λ b. IsArchiveOf b o tiles) (sym is) (archive_is tiles are);
    answers = answers;
    places = ap places_read is ∙ places_are o adds archivable ∙ ap Some (sym places);
  }

  -- after success
  pub leaves_all : (tiles : TileSet) (coords : List Coord) (r : ConvertReport) (old new : Option (List ℕ)) → AreAddsOf adds tiles → ((taken : List (ℕ × List ℕ)) × TookAll old adds taken × (r.places ≡ places_of o taken)) → is_some new ≡ is_some old → IfSome new (λ b. b ≡ archive o adds)
      → IfSome new (λ b. (p : Options) → WellFormed b p true → r.answers ≡ map (λ c. archive_map b (id_of c)) coords) → SetLeaves o tiles coords (Ok r) old new
  leaves_all tiles coords r None None are places same is read = tt
  leaves_all tiles coords r None (Some b) are places same is read = absurd (cc)
  leaves_all tiles coords r (Some a) None are places same is read = absurd (cc)
  leaves_all tiles coords r (Some a) (Some b) are places same is read = converted tiles coords r b are (places.2 ∙ ap (places_of o) (told_themselves a adds places.0 places.1)) is (read o (formed b is))

  -- after a refusal
  no_part : (tiles : TileSet) (b : List ℕ) → AreAddsOf adds tiles → IsHiddenOr (archive o adds) b → ShowsNoPart o tiles b
  no_part tiles b are (inl hidden) = inl hidden
  no_part tiles b are (inr whole) = inr (subst (λ b. IsArchiveOf b o tiles) (sym whole) (archive_is tiles are))

  pub leaves_part : (tiles : TileSet) (coords : List Coord) (e : ConvertError) (old new : Option (List ℕ)) → AreAddsOf adds tiles → is_some new ≡ is_some old → IfSome new (IsHiddenOr (archive o adds)) → SetLeaves o tiles coords (Err e) old new
  leaves_part tiles coords e None None are same h = tt
  leaves_part tiles coords e None (Some b) are same h = absurd (cc)
  leaves_part tiles coords e (Some a) None are same h = absurd (cc)
  leaves_part tiles coords e (Some a) (Some b) are same h = no_part tiles b are h

  -- once the whole archive stands
  whole : (told : Option (List ℕ)) → IfSome told (λ b. b ≡ archive o adds) → IfSome told (IsHiddenOr (archive o adds))
  whole None is = tt
  whole (Some b) is = inr is

  pub leaves_whole : (tiles : TileSet) (coords : List Coord) (e : ConvertError) (old new : Option (List ℕ)) → AreAddsOf adds tiles → is_some new ≡ is_some old → IfSome new (λ b. b ≡ archive o adds) → SetLeaves o tiles coords (Err e) old new
  leaves_whole tiles coords e old new are same is = leaves_part tiles coords e old new are same (whole new is)

  -- why it couldn't be read back
  pub read_refused : (before now : ℕ) (e : PmtError) (x : ConvertError) (old new : Option (List ℕ)) → x ≡ of_read_error e → is_some new ≡ is_some old → IfSome new (λ b. b ≡ archive o adds)
      → IfSome new (λ b. (p : Options) → WellFormed b p true → IsHindered e) → ReadBackCauses {A = Unit {0}} before now (Err e) → SetCauses old (Err x)
  read_refused before now e x old new is same whole_is hindered cause = subst (λ x. SetCauses old (Err x)) (sym is) (by_told old new same whole_is hindered)
    where
      untold : (e : PmtError) → ReadBackCauses {A = Unit {0}} before now (Err e) → SetCauses None (Err (of_read_error e))
      untold errors.OutOfMemory c = tt
      untold (errors.Reading causes.Fault) c = tt
      untold e c = (refl, c)

      told : (e : PmtError) (b : List ℕ) → IsHindered e → SetCauses (Some b) (Err (of_read_error e))
      told errors.OutOfMemory b h = tt
      told (errors.Reading causes.Fault) b h = tt
      told _ b h = absurd h

      by_told : (old new : Option (List ℕ)) → is_some new ≡ is_some old → IfSome new (λ b. b ≡ archive o adds) → IfSome new (λ b. (p : Options) → WellFormed b p true → IsHindered e) → SetCauses old (Err (of_read_error e))
      by_told None new same is h = untold e cause
      by_told (Some a) None same is h = absurd (cc)
      by_told (Some a) (Some b) same is h = told e a (h o (formed b is))
