pub mod Truth
pub mod Verdict
pub mod Findings
pub mod Due
pub mod Before
pub mod Values
pub mod Zero
pub mod Offers
