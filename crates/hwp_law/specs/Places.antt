-- What a report has at an entry's place.
use Rattle.std.specs.Prelude.{Option, List, slice_get, option_and_then}
use Rattle.hwp_report_text.specs.hwp_page.declared.At.{At}
use Rattle.hwp_report_text.specs.hwp_page.declared.Entry.{Entry}

-- the entry at a place of the pages' histories
abbrev pub entry_at : List (List Entry) → At → Option Entry
entry_at pages at = option_and_then (λ (entries : List Entry). slice_get entries at.entry) (slice_get pages at.page.0)
