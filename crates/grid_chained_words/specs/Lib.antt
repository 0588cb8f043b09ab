-- What the contracts of `grid_chained_words` cite: Words are the words, WorkWords are inner contracts.
pub mod Words
pub mod WorkWords
