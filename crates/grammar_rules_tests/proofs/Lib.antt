pub mod SumRules
