-- What is proved of the definitions: below Laws, a file a law.
pub mod Laws
