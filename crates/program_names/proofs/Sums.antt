-- Laws of sums and of tests over lists, from the crate below.
pub use Rattle.side_rows.proofs.Sums.{list_any-map, not-true, or-left, or-right, or-false}
