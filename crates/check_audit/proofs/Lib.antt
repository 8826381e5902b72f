pub mod CheckLemmas
pub mod CountLemmas
pub mod EachLemmas
mod LackLemmas
mod RefusalLemmas
mod SeenLemmas
mod SessionLemmas
mod StandingLemmas
mod TextlessLemmas
mod WarningCases
mod WarningLemmas
