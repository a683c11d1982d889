pub mod ToldLaws
pub mod AttributeRecords
pub mod ValueLaws
