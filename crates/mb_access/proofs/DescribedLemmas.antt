-- Answers from descriptions, and running out of memory and faults in their place.
use Rattle.mb_access.proofs.Common.{Bool, Err, false≢true, IsDescribed, List, MbtError, refl, Result, store_free, sym, Tables, ◌∙◌}
use Rattle.mb_store.specs.Errors.{of_store}
use Rattle.mb_store.specs.declared.store.StoreError.{StoreError}
use Rattle.mb_tables.specs.declared.description.TableDesc.{TableDesc}

-- the store failed, or memory ran out
pub described_err : {A : Type 0} (f : List TableDesc → Result A MbtError) (tells : Bool) (told : Tables) (s : StoreError) → IsDescribed f tells told (Err (of_store s))
described_err f tells told s = record { tables = told.descriptions; is_told = λ _. refl; answers = λ free. absurd (false≢true (sym free ∙ store_free s)) }
