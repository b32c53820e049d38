pub mod BeforeLaws
pub mod CabRows
pub mod MeasureLaws
pub mod SmoothLaws
pub mod SpotLaws
pub mod TableLaws
pub mod TrackableLaws
