-- The lines that are printed on faults, the statuses that they give, and chains as they are
-- printed.
pub mod FaultText
pub mod ChainText
pub mod Statuses
