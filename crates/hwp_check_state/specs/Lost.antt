-- The losses that the histories of a report list, each with its file and the command of its entry, and the order of their keys.
use Rattle.std.specs.Prelude.{◌≡◌, ℕ, ◌+◌, ◌*◌, ◌^◌, ◌<◌, Bool, cond, nat_lt, List, [], ◌∷◌, ◌++◌, count_by}
use Rattle.std.specs.List.{All, zip}
use Rattle.std.specs.List.Sorted.{IsNonDecreasingBy}
use Rattle.hwp_check_rules.specs.hwp_geom.declared.FileNo.{FileNo}
use Rattle.hwp_check_rules.specs.hwp_geom.declared.PageKind.{PageKind}
use Rattle.hwp_check_rules.specs.hwp_geom.declared.PageKind.TheVariants.{Anon, File}
use Rattle.hwp_check_rules.specs.hwp_page.declared.Entry.{Entry}
use Rattle.hwp_check_rules.specs.hwp_page.Losses.{is_loss}
use Rattle.hwp_check_rules.specs.hwp_script_words.declared.Script.{Script}
use Rattle.hwp_check_rules.specs.hwp_report_text.declared.Report.{Report}
use Rattle.hwp_check_state.specs.declared.lost.Loss.{Loss}

-- that of an entry in a page of the file, if it is one
abbrev pub entry_losses : FileNo → Entry → List Loss
entry_losses file e = cond (is_loss e.what) ((record { file = file; who = e.who }) ∷ []) []

-- those of entries in a page of the file
abbrev pub list_losses : FileNo → List Entry → List Loss
list_losses file [] = []
list_losses file (e ∷ es) = entry_losses file e ++ list_losses file es

-- those of a page of this kind
abbrev pub kind_losses : PageKind → List Entry → List Loss
kind_losses Anon entries = []
kind_losses (File file fill) entries = list_losses file entries

-- those of pages
abbrev pub page_losses : List (PageKind × List Entry) → List Loss
page_losses [] = []
page_losses (p ∷ ps) = kind_losses p.0 p.1 ++ page_losses ps

-- those of a report
abbrev pub losses : Script → Report → List Loss
losses script report = page_losses (zip script.layout.pages report.pages)

-- a file, a processor and the number of one of its commands as one number
abbrev pub key : ℕ → ℕ → ℕ → ℕ
key file cpu seq = (file * 256 + cpu) * 2 ^ 32 + seq

abbrev pub key_of : Loss → ℕ
key_of l = key l.file.0 l.who.cpu.0 l.who.seq

-- how many have a lower key
abbrev pub below : ℕ → List Loss → ℕ
below bound list = count_by (λ (l : Loss). nat_lt (key_of l) bound) list

-- the numbers of a loss are of their widths
pub record IsSmall (l : Loss) : Type 0 where
  pub cpu : l.who.cpu.0 < 256
  pub seq : l.who.seq < 2 ^ 32

-- the list has the losses of the report, in the order of their keys
pub record AreLosses (script : Script) (report : Report) (list : List Loss) : Type 0 where
  pub sorted : IsNonDecreasingBy key_of list
  pub small : All IsSmall list
  pub counts : (test : Loss → Bool) → count_by test list ≡ count_by test (losses script report)
