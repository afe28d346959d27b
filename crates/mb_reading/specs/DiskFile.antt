-- A database file or its log as `sqlite` sees it: of a file that is only read nothing is said, so that what is shown of
-- it holds nothing; of another disk what that disk says.
use Rattle.std.specs.Prelude.{◌≡◌, ℕ, Bool, true, false, IsTrue, List, [], refl}
use Rattle.mb_reading.specs.Common.{Tally}
use Rattle.mb_reading.specs.ReadOnly.{counted}
use Rattle.mb_reading.specs.declared.disk_file.DiskFile.{DiskFile}
use Rattle.mb_reading.specs.declared.disk_file.DiskFile.TheVariants.{OnDisk, InMemory}

module _ {D : Type 0} where
  abbrev pub seen_of : (D → List ℕ) → DiskFile D → List ℕ
  seen_of seen (OnDisk file) = []
  seen_of seen (InMemory disk) = seen disk

  abbrev pub may_leave_of : (D → List ℕ → Type 0) → DiskFile D → List ℕ → Type 0
  may_leave_of may_leave (OnDisk file) c = c ≡ []
  may_leave_of may_leave (InMemory disk) c = may_leave disk c

  abbrev pub is_usable_of : (D → Bool) → DiskFile D → Bool
  is_usable_of is_usable (OnDisk file) = true
  is_usable_of is_usable (InMemory disk) = is_usable disk

  abbrev pub faults_of : (D → ℕ) → DiskFile D → ℕ
  faults_of faults (OnDisk file) = file.faults
  faults_of faults (InMemory disk) = faults disk

  abbrev pub tally_of : (D → Tally) → DiskFile D → Tally
  tally_of tally (OnDisk file) = counted file
  tally_of tally (InMemory disk) = tally disk

  abbrev pub is_clean_of : (D → Bool) → DiskFile D → Bool
  is_clean_of is_clean (OnDisk file) = false
  is_clean_of is_clean (InMemory disk) = is_clean disk

  abbrev pub key_of : (D → ℕ) → DiskFile D → ℕ
  key_of key (OnDisk file) = file.key
  key_of key (InMemory disk) = key disk

  abbrev pub is_fair_of : (D → ℕ → Bool) → DiskFile D → ℕ → Bool
  is_fair_of is_fair (OnDisk file) key = false
  is_fair_of is_fair (InMemory disk) key = is_fair disk key

  pub seen_stays : (seen : D → List ℕ) (may_leave : D → List ℕ → Type 0) → ((disk : D) → may_leave disk (seen disk)) → (f : DiskFile D) → may_leave_of may_leave f (seen_of seen f)
  seen_stays seen may_leave stays (OnDisk file) = refl
  seen_stays seen may_leave stays (InMemory disk) = stays disk

  pub fair_when_clean : (is_clean : D → Bool) (is_fair : D → ℕ → Bool) → ((disk : D) (key : ℕ) → IsTrue (is_clean disk) → IsTrue (is_fair disk key)) → (f : DiskFile D) (key : ℕ) → IsTrue (is_clean_of is_clean f) → IsTrue (is_fair_of is_fair f key)
  fair_when_clean is_clean is_fair fair (OnDisk file) key clean = clean
  fair_when_clean is_clean is_fair fair (InMemory disk) key clean = fair disk key clean
