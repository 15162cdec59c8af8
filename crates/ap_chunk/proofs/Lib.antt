pub mod Dividing
pub mod Trying
pub mod Taking
pub mod Truths
pub mod Indexing
pub mod Lives
pub mod Chosen
pub mod Tried
pub mod RowLaws
mod Walks
mod Carried
mod ChunkSteps
mod Fronts
pub mod Growing
mod Turns
mod UnitWords
mod Firsts
mod Shown
mod Keepings
mod ChunkWords
mod FilledKept
mod WordsWritten
mod ItemsRead
mod UnmatchedKept
mod StepsKept
mod StagesKept
mod OpenBlanks
mod ChunksFilled
mod SamePlain
pub mod Spans
