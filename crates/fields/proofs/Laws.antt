-- The laws of a shape's step stand in crate `laws`; they are passed on here for who cites them from this crate. Assumes nothing.
pub use Rattle.laws.specs.Shapes.{shape-out, shape-bad, shape-in, name_in, name-none, name-early, limit-in, as-listed, zero-here, zero-on, within, over}
