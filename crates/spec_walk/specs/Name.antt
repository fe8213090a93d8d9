-- The limits on names, passed on.
pub use Rattle.spec_names.specs.Name.{is_name_byte, is_name}
