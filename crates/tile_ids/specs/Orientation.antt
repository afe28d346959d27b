-- The four orientations in which the curve runs through the squares that it is cut into.
use Rattle.std.specs.Prelude.{◌≡◌, ℕ, zero, suc, ◌+◌, ◌-◌, ◌*◌, ◌^◌, ◌<◌}
use Rattle.tile_ids.specs.Hilbert.{hilbert}

-- where a place of a square of this side lies as the curve sees it: as it is (0), with column and row exchanged (1),
-- with both counted from the other edge (2), and both of these (3)
abbrev pub oriented : ℕ → ℕ → ℕ × ℕ → ℕ × ℕ
oriented zero side p = p
oriented (suc zero) side p = (p.1, p.0)
oriented (suc (suc zero)) side p = (side - 1 - p.0, side - 1 - p.1)
oriented (suc (suc (suc o))) side p = (side - 1 - p.1, side - 1 - p.0)

-- of the 16 squares, four by four, into which the curve in an orientation cuts a square of any zoom, the one in this
-- column and row comes at this number, and the curve runs through it in the orientation within
pub record IsSixteenth (orientation column row number within : ℕ) : Type 0 where
  pub runs :
      (k : ℕ) (p : ℕ × ℕ) → p.0 < 2 ^ k → p.1 < 2 ^ k →
      hilbert (suc (suc k)) (oriented orientation (2 ^ suc (suc k)) (column * 2 ^ k + p.0, row * 2 ^ k + p.1)) ≡ number * 4 ^ k + hilbert k (oriented within (2 ^ k) p)
