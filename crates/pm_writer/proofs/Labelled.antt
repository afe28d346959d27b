-- Only bytes whose directories are labelled plain open.
use Rattle.pm_writer.proofs.Common.{ap, arith, Bool, byte_at, bytes_eq, Compression, compressions, Err, false, fields, get_or-take, Header, if◌then◌else◌, inl, inr, IsHidden, IsHiddenOr, labelled}
use Rattle.pm_writer.proofs.Common.{length, List, magic, nat_lt, None, Ok, OnOk, Opened, opened, opened_front, Option, PmtError, refl, Result, root_labelled, root_placed, slice_get, slice_index, Some}
use Rattle.pm_writer.proofs.Common.{suc, sym, take, tile_types, true, zero, ℕ, ◌+◌, ◌∙◌, ◌≡◌}
use Rattle.std.specs.Prelude.{codes}
use Rattle.pm_format.specs.declared.compression.Compression.TheVariants as compression
use Rattle.pm_format.specs.declared.tile_type.TileType.{TileType}
use Rattle.pm_format.specs.declared.error.PmtError.TheVariants as errors
use Rattle.pm_format.specs.Header.{head}

-- the byte whose label is plain is 1
plain_is_one : (n : ℕ) → slice_get compressions n ≡ Some compression.None → n ≡ 1
plain_is_one zero e = absurd (cc)
plain_is_one (suc zero) e = refl
plain_is_one (suc (suc zero)) e = absurd (cc)
plain_is_one (suc (suc (suc zero))) e = absurd (cc)
plain_is_one (suc (suc (suc (suc zero)))) e = absurd (cc)
plain_is_one (suc (suc (suc (suc (suc n))))) e = absurd (cc)

-- a header has the label that its byte stands for
label_read : (b : List ℕ) (d t : Option Compression) (k : Option TileType) (h : Header) → labelled b d t k ≡ Ok h → d ≡ Some h.internal_compression
label_read b None t k h e = absurd (cc)
label_read b (Some d) None k h e = absurd (cc)
label_read b (Some d) (Some t) None h e = absurd (cc)
label_read b (Some d) (Some t) (Some k) h e = let same : fields b d t k ≡ h = cc in ap (λ z. Some z.internal_compression) same

if_ok : {A : Type 0} (c : Bool) (e : PmtError) (r : Result A PmtError) (x : A) → (if c then Err e else r) ≡ Ok x → r ≡ Ok x
if_ok true e r x q = absurd (cc)
if_ok false e r x q = q

-- the tests of a header, from the last to the first
abbrev read : List ℕ → Result Header PmtError
read b = labelled b (slice_get compressions (byte_at 97 b)) (slice_get compressions (byte_at 98 b)) (slice_get tile_types (byte_at 99 b))

abbrev cut : List ℕ → Result Header PmtError
cut b = if nat_lt (length b) 127 then Err errors.InvalidHeader else read b

abbrev magical : List ℕ → Result Header PmtError
magical b = if bytes_eq (take 7 b) magic then cut b else (if bytes_eq (take 2 b) (codes "PM") then Err errors.UnsupportedPmTilesVersion else Err errors.InvalidMagicNumber)

-- the header that is read has the label at byte 97
head_label : (b : List ℕ) (h : Header) → head b ≡ Ok h → slice_get compressions (byte_at 97 b) ≡ Some h.internal_compression
unfolding head
head_label b h q =
    let behind = if_ok (nat_lt (length b) 7) errors.InvalidHeader (magical b) h q in
    label_read b (slice_get compressions (byte_at 97 b)) (slice_get compressions (byte_at 98 b)) (slice_get tile_types (byte_at 99 b)) h
    (if_ok (nat_lt (length b) 127) errors.InvalidHeader (read b) h (with_magic (bytes_eq (take 7 b) magic) (bytes_eq (take 2 b) (codes "PM")) (cut b) behind))
  where
    with_magic : (m p : Bool) (r : Result Header PmtError) → (if m then r else (if p then Err errors.UnsupportedPmTilesVersion else Err errors.InvalidMagicNumber)) ≡ Ok h → r ≡ Ok h
    with_magic true p r e = e
    with_magic false true r e = absurd (cc)
    with_magic false false r e = absurd (cc)

plain_root : (front : List ℕ) (h : Header) (c : Compression) (x : Opened) → root_labelled front h c ≡ Ok x → c ≡ compression.None
plain_root front h compression.Unknown x e = absurd (cc)
plain_root front h compression.None x e = refl
plain_root front h compression.Gzip x e = absurd (cc)
plain_root front h compression.Brotli x e = absurd (cc)
plain_root front h compression.Zstd x e = absurd (cc)

placed_label : (front : List ℕ) (r : Result Header PmtError) (x : Opened) → root_placed front r ≡ Ok x → (h : Header) × (r ≡ Ok h) × (h.internal_compression ≡ compression.None)
placed_label front (Err e) x q = absurd (cc)
placed_label front (Ok h) x q = (
  h,
  refl,
  plain_root front h h.internal_compression x
      (if_ok (nat_lt (length front) (h.root_offset + h.root_length)) errors.InvalidHeader (root_labelled front h h.internal_compression) x
      (if_ok (nat_lt h.root_offset 127) errors.InvalidHeader (if nat_lt (length front) (h.root_offset + h.root_length) then Err errors.InvalidHeader else root_labelled front h h.internal_compression) x q)),
)

front_label : (front : List ℕ) (x : Opened) → opened_front front ≡ Ok x → slice_index front 97 ≡ 1
front_label front x q =
    let p = placed_label front (head front) x (if_ok (nat_lt (length front) 127) errors.InvalidHeader (root_placed front (head front)) x q) in
    plain_is_one (byte_at 97 front) (head_label front p.0 p.1 ∙ ap Some p.2)

-- bytes that open have 1 as byte 97
pub label_of_opened : (b : List ℕ) (x : Opened) → opened b ≡ Ok x → slice_index b 97 ≡ 1
unfolding opened
label_of_opened b x q = sym (get_or-take 16384 b 97 0 (omega arith)) ∙ front_label (take 16384 b) x q

pub opened_labelled : (b : List ℕ) → OnOk (opened b) (slice_index b 97 ≡ 1)
opened_labelled b = go (opened b) refl
  where
    go : (r : Result Opened PmtError) → opened b ≡ r → OnOk r (slice_index b 97 ≡ 1)
    go (Err e) q = tt
    go (Ok x) q = label_of_opened b x q

-- so hidden bytes don't
pub hidden_refused : (b : List ℕ) → IsHidden b → OnOk (opened b) ⊥
hidden_refused b h = go (opened b) refl
  where
    go : (r : Result Opened PmtError) → opened b ≡ r → OnOk r ⊥
    go (Err e) q = tt
    go (Ok x) q = omega (arith, h, label_of_opened b x q)

-- and of bytes that are hidden or whole only the whole ones
pub opened_whole : (whole b : List ℕ) → IsHiddenOr whole b → OnOk (opened b) (b ≡ whole)
opened_whole whole b (inr same) = go (opened b)
  where
    go : (r : Result Opened PmtError) → OnOk r (b ≡ whole)
    go (Err e) = tt
    go (Ok x) = same
opened_whole whole b (inl hidden) = go (opened b) (hidden_refused b hidden)
  where
    go : (r : Result Opened PmtError) → OnOk r ⊥ → OnOk r (b ≡ whole)
    go (Err e) h = tt
    go (Ok x) h = absurd h
