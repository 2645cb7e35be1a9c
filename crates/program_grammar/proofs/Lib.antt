pub mod NodeLemmas
pub mod SideRules
pub mod DomainRules
pub mod ExprRules
pub mod ProgramRules
pub mod WrittenForms
pub mod WrittenRules
pub mod PrintedRules
