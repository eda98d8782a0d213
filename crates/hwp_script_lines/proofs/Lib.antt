pub mod Searches
pub mod Listed
pub mod HexLaws
pub mod CommandLaws
pub mod NumberLaws
pub mod PageLaws
pub mod KeywordLaws
pub mod TurnLaws
pub mod ShortTurns
pub mod SentenceLaws
pub mod LineUnique
pub mod Shapes
pub mod LineLaws
pub use Rattle.hwp_script_words.proofs.of_hwp_geom as of_hwp_geom
pub use Rattle.hwp_script_words.proofs.of_hwp_cec as of_hwp_cec
pub use Rattle.hwp_script_words.proofs as of_hwp_script_words
