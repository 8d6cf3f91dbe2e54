-- Maps of pairs of sets: what their files give, and what refuses them.
pub mod Inputs
pub mod Moduli
pub mod MapRefusals
pub mod Refusals
pub mod Telling
