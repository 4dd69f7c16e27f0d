mod Turning
mod Bases
mod KnownRows
