-- The file program over pieces of its input: the machine that reads it byte by byte, and how it is fed; below Laws, that what it prints is
-- what the file program prints.
pub mod Machine
pub mod Feeding
pub mod Pushing
pub mod Laws
