-- What the crate's proofs name of the crates below and of its specs, passed on from one place. Declares nothing.
pub use Rattle.mb_tree.proofs.FileLemmas.{all_there, reads_both}
