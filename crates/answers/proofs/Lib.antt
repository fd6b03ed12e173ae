pub mod Fitting
pub mod Exactly
pub mod Numbers
pub mod SharedExpression
pub mod RunExactly
pub mod RunExamples
pub mod Demands
