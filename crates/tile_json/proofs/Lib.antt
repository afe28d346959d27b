mod Common
mod LayerLemmas
mod MapLemmas
mod PlaceLemmas
mod MemberLemmas
