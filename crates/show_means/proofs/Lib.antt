pub mod Scopes
pub mod RowsBack
pub mod DomainsBack
pub mod ExpressionsBack
pub mod VariablesBack
pub mod SystemBack
