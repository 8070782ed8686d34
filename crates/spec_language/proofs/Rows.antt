-- Rows that are computed: examples of the definitions.
pub mod PlayedLines
pub mod SessionRows
pub mod CopyRows
pub mod ScriptRows
pub mod TextRows
pub mod ErrandRows
pub mod SpelledRows
