pub mod Writer
pub mod WriterLaws
pub mod PutLaws
pub mod MeasureLaws
pub mod DigitLaws
