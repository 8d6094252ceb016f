pub mod Coverage
pub mod Built
