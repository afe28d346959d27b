-- A base that was read before its patches.
use Rattle.tile_streaming.proofs.Common.{Bool, empty, false, false≢true, IsMarkedAs, IsMarkedSet, IsSound, MarkedSet, Ok, refl, State, sym, Tables, true, ◌∙◌, ◌≡◌}
use Rattle.tile_streaming.specs.Overlaid.{IsRoot, StandsFor}
use Rattle.tile_streaming.specs.Patching.{IsBegun}
use Rattle.tile_streaming.specs.declared.overlaid.Overlaid.{Overlaid}

-- a state without ids and contents
abbrev without_ids : State → State
without_ids s = record s { ids = empty; contents = empty }

-- a base of which marks are held
pub marked_begun : (tells : Bool) (told : Tables) (set : MarkedSet) (x : Overlaid) → (tells ≡ true → IsSound told) → (tells ≡ true → IsMarkedSet told set) → (t : Tables) × IsMarkedSet t set → ((s : State) → IsMarkedAs s set → IsRoot tells told s → StandsFor tells told x s) → IsBegun tells told x
marked_begun tells told set x sound answer own stands = by tells refl
  where
    by : (b : Bool) → tells ≡ b → IsBegun tells told x
    by true e =
        let m = answer e in
        record {
          state = m.state;
          is_told = λ u. m.due;
          stands = stands m.state m.held (record { sound = sound; due = λ u. m.due; ids = λ u. absurd (false≢true (sym u ∙ e)); contents = λ u. absurd (false≢true (sym u ∙ e)) });
        }
    by false e =
        let m = own.1 in
        record {
          state = without_ids m.state;
          is_told = λ u. absurd (false≢true (sym e ∙ u));
          stands = stands (without_ids m.state) (record { layout = m.held.layout; algorithm = m.held.algorithm; names = m.held.names; ranged = m.held.ranged; marks = m.held.marks })
              (record { sound = sound; due = λ u. absurd (false≢true (sym e ∙ u)); ids = λ u. refl; contents = λ u. refl });
        }
