mod Common
pub mod FillingLemmas
pub mod NewSetLemmas
pub mod PutsLemmas
pub mod StreamLemmas
pub mod CountLemmas
pub mod EntriesLemmas
pub mod StreamedLemmas
pub mod RoundTripLemmas
