pub mod Numbers
pub mod Grammar
pub mod Lines
pub mod Misfits
pub use Rattle.hwp_script_words.specs.hwp_geom as hwp_geom
pub use Rattle.hwp_script_words.specs.hwp_cec as hwp_cec
pub use Rattle.hwp_script_words.specs as hwp_script_words
