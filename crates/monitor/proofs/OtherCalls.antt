-- OPEN, INBUF, OUTBUF, USETI, USETO, GETSTS and RESET.
pub mod Resets
pub mod Opens
pub mod RingsMade
pub mod Usetos
pub mod Usetis
pub mod Statuses
