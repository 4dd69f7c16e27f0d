mod Meeting
mod Apart
mod TrueMet
mod SideTerms
mod Small
mod Found
