mod Writing
mod Pumping
