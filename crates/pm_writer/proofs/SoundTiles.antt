-- A directory of tile entries is sound.
use Rattle.pm_writer.proofs.Common.{ap, arith, EachEntry, Entry, Header, inl, inr, IsIn, IsSome, leaf_of, List, Ok, range_of, refl, SoundDirectory, suc, zero, ℕ, [], ◌++◌, ◌+◌, ◌∷◌, ◌≡◌, ◌≢◌, ◌≤◌}
use Rattle.pm_writer.proofs.Found.{run_in}
use Rattle.pm_writer.proofs.Ordered.{AllRun, Apart}

after : (e d : Entry) (es : List Entry) → Apart (e ∷ es) → IsIn d es → e.tile_id + e.run_length ≤ d.tile_id
after e d [] w i = absurd i
after e d (g ∷ es) w (inl s) = omega (arith, w.0, ap (λ z. z.tile_id) s)
after e d (g ∷ es) w (inr i) = omega (arith, w.0, after g d es w.1 i)

-- each entry of a directory of tile entries
each_tile : (P : Entry → ℕ → Type 0) (low limit : ℕ) (es : List Entry) → Apart es → AllRun es → ((e : Entry) → IsIn e es → low ≤ e.tile_id) → ((e : Entry) → IsIn e es → e.tile_id + e.run_length ≤ limit) → ((e : Entry) (end : ℕ) → IsIn e es → P e end) → EachEntry P low limit es
each_tile P low limit [] w a l u p = tt
each_tile P low limit (e ∷ []) w a l u p = (l e (inl refl), (let k = u e (inl refl) in omega (arith, k, a.0)), u e (inl refl), p e limit (inl refl))
each_tile P low limit (e ∷ f ∷ es) w a l u p = (
  l e (inl refl),
  omega (arith, w.0, a.0),
  w.0,
  p e f.tile_id (inl refl),
  each_tile P f.tile_id limit (f ∷ es) w.1 a.1 (λ d i. later d i) (λ d i. u d (inr i)) (λ d end i. p d end (inr i)),
)
  where
    later : (d : Entry) → IsIn d (f ∷ es) → f.tile_id ≤ d.tile_id
    later d (inl s) = omega (arith, ap (λ z. z.tile_id) s)
    later d (inr i) = omega (arith, after f d es w.1 i)

-- a directory of tile entries is sound where their ranges are there
pub tiles_sound : (n : ℕ) (h : Header) (b : List ℕ) (low limit : ℕ) (es : List Entry) → Apart es → AllRun es → ((e : Entry) → IsIn e es → low ≤ e.tile_id) → ((e : Entry) → IsIn e es → e.tile_id + e.run_length ≤ limit)
    → ((e : Entry) → IsIn e es → IsSome (range_of b (h.data_offset + e.offset) e.length)) → SoundDirectory n h b low limit es
tiles_sound zero h b low limit es w a l u r = each_tile (λ e end. (e.run_length ≢ 0) × IsSome (range_of b (h.data_offset + e.offset) e.length)) low limit es w a l u (λ e end i. ((λ z. let k = run_in e es a i in omega (arith, k, z)), r e i))
tiles_sound (suc n) h b low limit es w a l u r =
    each_tile (λ e end. (e.run_length ≢ 0 → IsSome (range_of b (h.data_offset + e.offset) e.length)) × (e.run_length ≡ 0 → (leaf : List Entry) × (leaf_of h b e ≡ Ok leaf) × SoundDirectory n h b e.tile_id end leaf)) low limit es w a l u
    (λ e end i. ((λ z. r e i), (λ z. absurd (let k = run_in e es a i in omega (arith, k, z)))))

pub run_left : (es fs : List Entry) → AllRun (es ++ fs) → AllRun es
run_left [] fs a = tt
run_left (e ∷ es) fs a = (a.0, run_left es fs a.1)

pub run_right : (es fs : List Entry) → AllRun (es ++ fs) → AllRun fs
run_right [] fs a = a
run_right (e ∷ es) fs a = run_right es fs a.1
