-- What the crate's proofs name of the crates below and of its specs, passed on from one place. Declares nothing.
pub use Rattle.pm_contents.specs.Common.{btree_map_len, bytes_eq, get}
pub use Rattle.pm_contents.specs.Contents.{content_cmp, Finds, first_of, Holds, in_span, IsAlike, IsTold, IsUnasked, place_by, place_of}
pub use Rattle.pm_contents.specs.Places.{found_in, fresh, IsAt, IsBytes, IsNew, place_in, put_new}
pub use Rattle.pm_contents.specs.Sought.{FoundAs, IsSought, place_sought}
pub use Rattle.pm_contents.specs.declared.contents.Contents.{Contents}
pub use Rattle.pm_contents.specs.declared.span.Span.{Span}
pub use Rattle.std.proofs.Common.{All, ap, append-nil, append_assoc, arith, Bool, cond, drop, false, flat_map, get_or, IfSome, if◌then◌else◌, inl, inr, length, length-append, List, nat_eq, None, OnOk}
pub use Rattle.std.proofs.Common.{Option, refl, replicate, rules, Some, subst, suc, sym, take, true, zero, ℕ, [], ◌++◌, ◌+◌, ◌<◌, ◌∙◌, ◌∷◌, ◌≡◌, ◌≢◌, ◌≤◌, ◌⊎◌}
pub use Rattle.std.proofs.lemmas.Bool.{eq-eqb, eqb-true}
pub use Rattle.std.proofs.lemmas.List.{drop-append-le, length-drop, length-replicate, take-append-le}
pub use Rattle.std.specs.BTreeMap.{BTreeMap, is_at, Updates}
pub use Rattle.std.specs.List.{list_any}
