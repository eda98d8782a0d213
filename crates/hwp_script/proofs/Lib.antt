mod PrintLaws
pub mod PutLaws
pub mod WordsPut
pub mod ReadBack
pub mod CleanPut
pub mod Sections
pub mod GuestsPut
pub mod CowsPut
pub mod ListsPut
pub mod RowsPut
pub mod CommandsBack
pub mod RoundTrip
pub mod Lists
pub mod ChoiceLaws
pub mod Made
pub mod CommandFits
pub mod Valid
pub use Rattle.hwp_script_read.proofs as of_hwp_script_read
