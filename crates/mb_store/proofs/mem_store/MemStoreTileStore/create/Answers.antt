use Rattle.mb_store.proofs.Common.{ap, AreKeyed, IsSound, subst, sym, told_at, with_tables, ◌∙◌}
use Rattle.mb_store.proofs.DescribedLemmas.{sound_tables}
use Rattle.mb_store.proofs.HeldLemmas.{held_described, tables_as}
use Rattle.mb_store.proofs.mem_store.MemStoreTileStore.create.Goals as goal

pub invariant_of-self-2 : goal.invariant_of-self-2
invariant_of-self-2 c = record {
  keys = subst (λ ds. AreKeyed ds c.keyed_tables-self.result) c.as_slice-2.ensures.value c.keyed_tables-self.ensures;
  marked = c.args.self.now.marked;
  kept = held_described c.args.self.now.descriptions.items c.in_ok-descriptions.descriptions.items c.args.self.now.tables c.args.self.now.gathered
      (subst (λ ds. IsSound (tables_as ds (told_at c.args.self.now.tables c.args.self.now.gathered))) (sym (c.in_ok-descriptions.ensures ∙ ap (λ ds. with_tables ds c.args.tables.now) c.as_slice.ensures.value))
      (sound_tables (told_at c.args.self.now.tables c.args.self.now.gathered) c.args.self.now.descriptions.items c.args.tables.now c.args.self.now.kept.sound)) c.args.self.now.kept;
}
