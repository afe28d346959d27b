-- What a commit of a set's changes leaves, in one.
use Rattle.mb_load.proofs.Common.{AreChangesOf, Change, Commits, fresh, Held, IsCommitted, IsLoadedFrom, IsSound, List, Tables}
use Rattle.mb_load.proofs.CommitLemmas.{committed, ids_stand, ids_stay, names_stand, names_stay, places_stand, places_stay}
use Rattle.mb_load.proofs.FrameLemmas.{null_ids_stay, other_tables_stay}
use Rattle.mb_load.proofs.StateAgain.{state_again}

pub is_committed : (h : Held) (old new : Tables) (changes : List Change) → IsLoadedFrom old h → AreChangesOf h changes → Commits changes old new → IsSound new → IsCommitted h old new
is_committed h old new changes loaded are made sound =
    let after : IsLoadedFrom new (fresh h.state) = committed h old new changes are made loaded in
    record {
      descriptions = made.descriptions;
      loaded = after;
      again = state_again new h.state sound after;
      kept = places_stay h old new changes are made;
      put = places_stand h old new changes are made;
      kept_ids = ids_stay h old new changes are made;
      put_ids = ids_stand h old new changes are made;
      null_ids = null_ids_stay h old new changes are made;
      kept_names = names_stay h old new changes are made;
      put_names = names_stand h old new changes are made;
      others = other_tables_stay h old new changes are made loaded;
    }
