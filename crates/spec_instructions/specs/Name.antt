-- The limits on names of nodes and of fields of encodesets are those of parameters and of names inside expressions.
pub use Rattle.spec_walk.specs.Name.{is_name_byte, is_name}
