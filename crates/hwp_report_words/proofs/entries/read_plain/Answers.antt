use Rattle.hwp_report_words.proofs.pages.NoLines.{no_load, no_store, no_mce}
use Rattle.hwp_report_words.proofs.entries.read_plain.Goals as goal

pub returns-in_default : goal.returns-in_default
returns-in_default c = rw c.in-Load.is (no_load _ c.in_default.ensures)

pub returns-in_default-read_access : goal.returns-in_default-read_access
returns-in_default-read_access c = rw c.in-Store.is (no_store _ c.in_default-read_access.ensures)

pub returns-in_default-read_mce : goal.returns-in_default-read_mce
returns-in_default-read_mce c = rw c.in-Mce.is (no_mce _ c.in_default-read_mce.ensures)
