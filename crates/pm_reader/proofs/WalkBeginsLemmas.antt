-- A walk begins with the whole archive left.
use Rattle.pm_reader.proofs.Common.{ap, append-nil, cond, drop, Entry, false, flat_map, Held, IfSome, left_of, List, None, OpensAs, Option, queue_of, queued, ReaderState, ReadsFrom, Some, sym, walk}
use Rattle.pm_reader.proofs.Common.{walk_opened, WalkState, ℕ, [], ◌++◌, ◌∙◌, ◌≡◌}
use Rattle.pm_reader.proofs.QueueLemmas.{queue_is_walk}

pub begins : (b : List ℕ) (s : ReaderState) (w : WalkState) (budget : ℕ) → OpensAs b s → queue_of w ≡ s.root → w.header ≡ s.header → w.budget ≡ budget → w.ended ≡ false → left_of b w ≡ walk b budget
begins b s w budget opens root header units goes =
    ap (λ x. cond x [] (queued w.budget w.header b (queue_of w))) goes
    ∙ (ap (queued w.budget w.header b) root
    ∙ (ap (λ h. queued w.budget h b s.root) header
    ∙ (ap (λ n. queued n s.header b s.root) units
    ∙ (queue_is_walk s.header b budget s.root
    ∙ sym (ap (walk_opened b budget) opens)))))

pub told_begins : (told : Option (List ℕ)) (s : ReaderState) (w : WalkState) (budget : ℕ) (held : Held) (idle : Type 0) → ((b : List ℕ) → OpensAs b s → left_of b w ≡ walk b budget) → IfSome told (λ b. ReadsFrom b s held idle)
    → IfSome told (λ b. left_of b w ≡ walk b budget)
told_begins None s w budget held idle items reads = tt
told_begins (Some b) s w budget held idle items reads = items b reads.opens

pub queue_begins : (root : List Entry) (leaves : List (List Entry)) → leaves ≡ [] → drop 0 root ++ flat_map (λ d. d) leaves ≡ root
queue_begins root leaves none = ap (λ l. drop 0 root ++ flat_map (λ d. d) l) none ∙ append-nil root
