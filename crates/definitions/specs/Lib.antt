-- What has to be believed, in the order in which it is read; and, below Laws, what is proved of it.
pub mod Bytes
pub mod Syntax
pub mod Limits
pub mod Names
pub mod RuleText
pub mod Reading
pub mod Truth
pub mod Simplify
pub mod Negation
pub mod Prenex
pub mod Skolem
pub mod Order
pub mod Clauses
pub mod Convert
pub mod Program
pub mod Laws
