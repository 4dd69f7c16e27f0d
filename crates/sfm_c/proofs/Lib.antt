mod Making
mod Pairing
