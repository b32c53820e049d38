pub mod WordForms
pub mod SaidLaws
pub mod SaidOnce
pub mod TaskWords
