-- What is laid out as an archive opens with its header and root.
use Rattle.pm_format.proofs.Common.{ap, arith, Bool, dir_bytes, dir_of, drop, drop_at, Entry, false, head, Header, header_bytes, HEADER_SIZE, HeaderFits, length, length-append, length-replicate, List}
use Rattle.pm_format.proofs.Common.{MAX_ROOT, nat_lt, nat_tests, Ok, refl, replicate, ROOT_END, Some, take, take_at, ℕ, ◌++◌, ◌+◌, ◌-◌, ◌∙◌, ◌≡◌, ◌≤◌}
use Rattle.pm_format.specs.declared.compression.Compression.TheVariants as compression
use Rattle.pm_format.specs.Opened.{opened, opened_front}
use Rattle.pm_format.specs.Options.{Options}
use Rattle.pm_format.specs.WellFormed.{Parts, header_of, front_bytes, archive_bytes, data_part, leaf_part}
use Rattle.pm_format.proofs.HeaderLemmas.{head_again, header_length}

-- the zeros behind the root
pub padding : Parts → List ℕ
padding p = replicate (MAX_ROOT - length (dir_bytes p.root)) 0

pub padding_length : (p : Parts) → length (padding p) ≡ MAX_ROOT - length (dir_bytes p.root)
unfolding padding
padding_length p = length-replicate _ _

pub front_length : (o : Options) (c : Bool) (p : Parts) → length (dir_bytes p.root) ≤ MAX_ROOT → length (front_bytes o c p) ≡ ROOT_END
unfolding padding
front_length o c p small =
    let h = header_of o c p in
    let a = length-append (header_bytes h) (dir_bytes p.root ++ padding p) in
    let b = length-append (dir_bytes p.root) (padding p) in
    let n = header_length h in
    let m = padding_length p in
    omega (arith, a, b, n, m)

-- a front that has a header, and the root where the header says
front_opens : (front root : List ℕ) (h : Header) (es : List Entry) → length front ≡ ROOT_END → head front ≡ Ok h → h.root_offset ≡ HEADER_SIZE → h.root_length ≡ length root → length root ≤ MAX_ROOT
    → h.internal_compression ≡ compression.None → take (length root) (drop HEADER_SIZE front) ≡ root → dir_of root ≡ Some es → opened_front front ≡ Ok (h, es)
front_opens front root h es size headed offset long small plain read again =
    let whole : nat_lt (length front) HEADER_SIZE ≡ false = grind (arith, nat_tests) in
    let behind : nat_lt h.root_offset HEADER_SIZE ≡ false = grind (arith, nat_tests) in
    let within : nat_lt (length front) (h.root_offset + h.root_length) ≡ false = grind (arith, nat_tests) in
    let bytes : take h.root_length (drop h.root_offset front) ≡ root = ap (λ n. take n (drop h.root_offset front)) long ∙ (ap (λ n. take (length root) (drop n front)) offset ∙ read) in
    let decoded : dir_of (take h.root_length (drop h.root_offset front)) ≡ Some es = ap dir_of bytes ∙ again in
    rw (whole, headed) (rw (behind, within) (rw plain (rw decoded refl)))

pub archive_opens : (o : Options) (c : Bool) (p : Parts) → HeaderFits (header_of o c p) → length (dir_bytes p.root) ≤ MAX_ROOT → dir_of (dir_bytes p.root) ≡ Some p.root
    → opened (archive_bytes o c p) ≡ Ok (header_of o c p, p.root)
unfolding opened archive_bytes padding
archive_opens o c p fits small again =
    let h = header_of o c p in
    let root = dir_bytes p.root in
    let front = front_bytes o c p in
    let size : length front ≡ ROOT_END = front_length o c p small in
    let taken : take ROOT_END (front ++ (o.metadata ++ (data_part p ++ leaf_part p))) ≡ front = take_at front (o.metadata ++ (data_part p ++ leaf_part p)) ROOT_END size in
    let headed : head front ≡ Ok h = head_again h (root ++ padding p) fits in
    let behind : drop HEADER_SIZE front ≡ root ++ padding p = drop_at (header_bytes h) (root ++ padding p) HEADER_SIZE (header_length h) in
    let read : take (length root) (drop HEADER_SIZE front) ≡ root = ap (take (length root)) behind ∙ take_at root (padding p) (length root) refl in
    ap opened_front taken ∙ front_opens front root h p.root size headed refl refl small refl read again
