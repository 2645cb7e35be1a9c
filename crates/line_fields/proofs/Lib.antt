mod Splits
mod Numerals
