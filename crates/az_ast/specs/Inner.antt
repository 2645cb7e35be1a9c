-- Words about inner functions, which no public contract cites.
pub mod KeptRows
