-- Vectors seen as the lists that they hold.
pub use Rattle.dd_meaning.specs.Lists.{lists_of}
