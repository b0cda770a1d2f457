pub mod ModelScopes
pub mod ModelValues
pub mod PlainExpressions
pub mod ModelFamilies
pub mod ModelPrograms
pub mod AgreementViews
pub mod CommandLines
pub mod LineViews
