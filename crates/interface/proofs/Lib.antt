pub mod BlockAnswers
pub mod EncodeAnswers
pub mod Places
pub mod RunAnswers
pub mod SheetAnswers
pub mod Smallness
pub mod PairAnswers
