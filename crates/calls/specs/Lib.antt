pub mod Words
pub mod WordsBack
pub mod Made
