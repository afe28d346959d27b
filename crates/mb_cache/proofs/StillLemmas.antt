-- A cache that isn't changed agrees with tables that aren't.
use Rattle.mb_cache.proofs.Common.{Agrees, Entry, List, subst, sym, Tables, ◌≡◌}

pub still : (t u : Tables) (es fs : List Entry) → u ≡ t → fs ≡ es → Agrees t es → Agrees u fs
still t u es fs tables entries agrees = subst (λ (x : Tables). Agrees x fs) (sym tables) (subst (λ (xs : List Entry). Agrees t xs) (sym entries) agrees)
