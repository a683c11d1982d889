-- Laws about the check of a hall in one pass, and about finding a place in it.
pub mod WalkLaws
pub mod TallyLaws
pub mod LimitLaws
pub mod ExaminedLaws
pub mod ScanLaws
pub mod JudgingLaws
pub mod SeekLaws
pub mod MarkLaws
pub mod FoundLaws
pub mod SpotLaws
pub mod ToldLaws
pub mod PlacedLaws
pub mod CutLaws
pub mod HallSizeLaws
