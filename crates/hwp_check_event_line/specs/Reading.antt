-- What is read of a script and a report at a place: the translation that a command copied from, and the entries of a page.
use Rattle.std.specs.Prelude.{List, [], Option, None, get_or, option_and_then, slice_get, unwrap_or}
use Rattle.std.specs.Option.{option_map_or}
use Rattle.hwp_law.specs.hwp_geom.declared.Layout.{Layout}
use Rattle.hwp_law.specs.hwp_geom.declared.TransDecl.{TransDecl}
use Rattle.hwp_law.specs.hwp_geom.declared.VSlot.{VSlot}
use Rattle.hwp_law.specs.hwp_page.declared.Entry.{Entry}
use Rattle.hwp_law.specs.hwp_report_text.declared.Report.{Report}
use Rattle.hwp_law.specs.hwp_geom.declared.Who.{Who}

-- the translation that a command copies from, where lists have it for each processor's commands
abbrev pub copies_in : List (List (Option VSlot)) → Who → Option VSlot
copies_in lists who = option_and_then (λ (list : List (Option VSlot)). get_or list who.seq None) (slice_get lists who.cpu.0)

-- the entries of the page of a translation
abbrev pub entries_through : Layout → Report → VSlot → List Entry
entries_through layout report slot = option_map_or (λ (v : TransDecl). unwrap_or (slice_get report.pages v.page.0) []) (slice_get layout.trans slot.0) []
