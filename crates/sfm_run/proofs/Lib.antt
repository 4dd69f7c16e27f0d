mod Ending
mod Joining
mod Opening
mod Said
