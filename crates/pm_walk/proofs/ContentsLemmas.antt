-- Contents that are kept beside entries.
use Rattle.pm_walk.proofs.Common.{ap, Collected, contents_of, Entry, Extent, Header, IfSome, KeepsContents, length, List, map, None, Option, Some, sym, Whole, Within, ℕ, [], ◌∙◌, ◌≡◌}

none_told : (told : Option (List ℕ)) (h : Header) (es : List Entry) (cs : List (List ℕ)) → es ≡ [] → cs ≡ [] → IfSome told (λ b. cs ≡ map (contents_of h b) es)
none_told None h es cs bare none = tt
none_told (Some b) h es cs bare none = none ∙ sym (ap (map (contents_of h b)) bare)

-- nothing was collected yet
pub contents_first : (ext : Extent) (told : Option (List ℕ)) (h : Header) (c : Collected) → c.parts ≡ [] → c.contents ≡ [] → KeepsContents ext told h c
contents_first Within told h c bare none = tt
contents_first Whole told h c bare none = (ap length none ∙ sym (ap length bare), none_told told h c.parts c.contents bare none)
