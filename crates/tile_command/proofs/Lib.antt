mod Common
mod NameLemmas
