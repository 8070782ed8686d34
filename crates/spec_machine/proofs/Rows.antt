-- Rows that are computed: examples of the definitions.
pub mod WriteRows
pub mod CallRows
pub mod RightRows
pub mod UpdateRows
pub mod RemovalRows
pub mod RingRows
pub mod CostRows
pub mod ChargeRows
pub mod QuotaRows
