-- Laws about the bytes of a list: records, written and parsed.
pub mod RecordLaws
pub mod SpanLaws
pub mod KindLaws
pub mod TriangleLaws
pub mod FrontLaws
pub mod RecordBytes
pub mod BodyLaws
pub mod ParsingLaws
pub mod WordLaws
