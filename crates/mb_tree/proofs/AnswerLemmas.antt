-- What packing answers.
use Rattle.mb_tree.proofs.Common.{ap, Base, base_of, Bool, Err, false≢true, Files, Held, is_wanting, IsBaseOf, IsPacking, MbtError, Ok, packing, Packs, paths_in, paths_of, refl, Result, State, subst}
use Rattle.mb_tree.proofs.Common.{sym, Tables, then, TileScheme, true, ◌∙◌, ◌≡◌}
use Rattle.mb_constraints.specs.DiffHashes.{refused_by}

module _ (scheme : TileScheme) (shows : Bool) (files : Files) (tells : Bool) (told : Tables) where
  pub base_refused : (e : MbtError) → IsBaseOf tells told (Err e) → IsPacking scheme shows files tells told (Err e)
  base_refused e b = record {
    paths = paths_of files;
    listed = λ _. refl;
    tables = b.tables;
    is_told = b.is_told;
    answers = λ w. ap (λ (d : Result State MbtError). then d (packing scheme (paths_of files))) (b.refused w);
  }

  module _ (base : Base) (b : IsBaseOf tells told (Ok base)) where
    -- running out of memory, and a fault
    pub ended : (e : MbtError) → is_wanting e ≡ true → IsPacking scheme shows files tells told (Err e)
    ended e wants = record {
      paths = paths_of files;
      listed = λ _. refl;
      tables = b.tables;
      is_told = b.is_told;
      answers = λ w. absurd (false≢true (sym w ∙ wants));
    }

    pub all_packed : (h : Held) → Packs scheme shows files base.set h → IsPacking scheme shows files tells told (Ok tt)
    all_packed h p = record {
      paths = paths_in p.files;
      listed = λ s. ap paths_in (p.read s);
      tables = b.tables;
      is_told = b.is_told;
      answers = ap (λ (d : Result State MbtError). then d (packing scheme (paths_in p.files))) b.state ∙ ap refused_by p.tested;
    }

-- what a store that tells its tables is packed into
pub base_told : (tells : Bool) (told : Tables) (b : Base) → IsBaseOf tells told (Ok b) → tells ≡ true → base_of told ≡ Ok b.set.state
base_told tells told b i t = subst (λ (u : Tables). base_of u ≡ Ok b.set.state) (i.is_told t) i.state
