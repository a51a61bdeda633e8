mod JsonEscapeLemmas
mod JsonPlaceLemmas
mod JsonSpaced
mod JsonReading
mod StripsColors
mod LinesColors
pub mod ShownBytes
mod ShownColumns
mod SnippetColors
pub mod SettingLemmas
pub mod CellsLemmas
pub mod MarksLemmas
pub mod GuttersLemmas
pub mod HangsLemmas
pub mod LinesLemmas
pub mod TextsLemmas
pub mod DrawableLemmas
pub mod ReportLemmas
pub mod PlainTexts
pub mod TabsLemmas
pub mod ReportsLemmas
pub mod KeepsLemmas
pub mod PlacesLemmas
mod UnderLemmas
pub mod PlainLemmas
pub mod TitleLemmas
