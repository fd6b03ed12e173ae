pub mod Answers
pub mod CleanAnswers
pub mod Packed
pub mod ExpressionAnswers
pub mod RunAnswers
