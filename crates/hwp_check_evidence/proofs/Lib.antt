pub mod ListItems
mod AmpleLaws
mod RepeatLaws
mod GlanceLaws
mod MapLaws
mod SpanLaws
pub mod WindowLaws
mod FloorLaws
mod EndLaws
mod MarkLaws
pub mod NamedLaws
mod CountLaws
mod FirstLaws
pub mod NameLaws
mod FindingLaws
