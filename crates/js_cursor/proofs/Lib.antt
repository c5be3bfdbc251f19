pub mod AheadSteps
pub mod CursorSteps
pub mod FailingSteps
pub mod GoesOn
pub mod RestItems
pub mod RoundSteps
pub mod TokenSteps
