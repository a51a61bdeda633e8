pub mod CountLemmas
pub mod CellLemmas
pub mod RankLemmas
pub mod OneRanking
