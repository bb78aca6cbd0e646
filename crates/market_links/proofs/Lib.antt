pub mod ReadyLemmas
pub mod SenderLemmas
pub mod SlotLaws
