pub mod InputSteps
