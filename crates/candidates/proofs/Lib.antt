pub mod CandidateLaws
pub mod CopyLaws
pub mod NextRounds
pub mod Remade
pub mod RoundLists
pub mod ShapeKept
pub mod WrittenLaws
