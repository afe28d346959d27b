use Rattle.mb_loaded.proofs.Common.{ap, Held, IsName, List, name_of, names_antisymmetric, nat_cmp, nat_list_cmp_total, newest_names, Put, refl, slice_cmp, stands_from, StandsAs, StoredName, subst}
use Rattle.mb_loaded.proofs.Common.{text_of, with_name, [], ◌++◌, ◌∙◌, ◌∷◌}
use Rattle.mb_loaded.proofs.EditViews.{all_from, named_texts}
use Rattle.mb_loaded.proofs.PlacedViews.{name_placed}
use Rattle.mb_loaded.proofs.loaded.Loaded.set_metadata.Goals as goal

pub invariant_of-self-2 : goal.invariant_of-self-2
invariant_of-self-2 c =
    let l = c.self.inside in
    let i = c.self.invariant in
    let n : StoredName = record { name = c.args.name; value = c.args.value; standing = Put } in
    let same = subst (λ (ns : List StoredName). StandsAs (slice_cmp nat_cmp) name_of (newest_names (ns ++ n ∷ [])) c.put.new.self.items.items) c.reserve.ensures.items c.put.ensures.same in
    let more = l.names.items.items ++ n ∷ [] in (
      i.0,
      i.1,
      i.2,
      c.put.ensures.order,
      all_from IsName more c.put.new.self.items.items (named_texts l.layout l.algorithm l.patch_type l.contents.items.items l.contents.order.items l.tiles.items.items l.names.items.items n more i.4 c.requires refl) (stands_from nat_list_cmp_total names_antisymmetric name_of more c.put.new.self.items.items same c.put.ensures.order.apart),
      i.5,
      i.6,
    )

pub returns-clause-ok : goal.returns-clause-ok
returns-clause-ok c =
    let l = c.self.inside in
    let i = c.self.invariant in
    let n : StoredName = record { name = c.args.name; value = c.args.value; standing = Put } in
    let same = subst (λ (ns : List StoredName). StandsAs (slice_cmp nat_cmp) name_of (newest_names (ns ++ n ∷ [])) c.put.new.self.items.items) c.reserve.ensures.items c.put.ensures.same in
    name_placed l.layout l.algorithm l.patch_type l.contents.items.items l.contents.order.items l.tiles.items.items l.names.items.items i.2.apart i.0.apart i.3.apart c.args.name c.args.value c.put.new.self.items.items same c.put.ensures.order.apart
    ∙ ap (λ (h : Held). with_name h c.args.name (text_of c.args.value)) c.self.view_is
