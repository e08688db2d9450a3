pub mod JudgingLemmas
pub mod NumberLemmas
pub mod ParsingLemmas
pub mod ReadingLemmas
mod WorkedWords
