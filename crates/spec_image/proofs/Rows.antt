-- Rows that are computed: examples of the definitions.
pub mod MapRows
