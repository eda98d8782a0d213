-- Lost content of files.
use Rattle.std.specs.Prelude.{ℕ, ◌==◌, Bool, true, false, List, Option, Some, None}
use Rattle.std.specs.List.{sum_by}
use Rattle.std.specs.Int.{from_bool}
use Rattle.hwp_kill.specs.hwp_geom.declared.FileNo.{FileNo}
use Rattle.hwp_kill.specs.hwp_geom.declared.PageKind.{PageKind}
use Rattle.hwp_kill.specs.hwp_geom.declared.PageKind.TheVariants.{Anon, File}
use Rattle.hwp_page.specs.declared.entry.Entry.{Entry}
use Rattle.hwp_page.specs.declared.entry.What.{What}
use Rattle.hwp_page.specs.declared.entry.What.TheVariants as entries
use Rattle.hwp_page.specs.declared.situation.Situation.TheVariants as situations

-- the entry is a failure that lost dirty content of a file, of a locked page or another
abbrev pub is_loss : What → Bool
is_loss (entries.Fail situations.FileDirty required seen signals) = true
is_loss (entries.Fail situations.LockedFile required seen signals) = true
is_loss _ = false

abbrev pub losses_in : List Entry → ℕ
losses_in list = sum_by (λ (e : Entry). from_bool (is_loss e.what)) list

-- the file behind a page of this kind
abbrev pub file_behind : PageKind → Option FileNo
file_behind Anon = None
file_behind (File file fill) = Some file

abbrev pub is_same_file : FileNo → Option FileNo → Bool
is_same_file file None = false
is_same_file file (Some other) = other.0 == file.0
