-- What the histories tell of the commands of one processor.
use Rattle.std.specs.Prelude.{◌≡◌, ℕ, Bool, false, List, [], ◌∷◌, ◌++◌, length, replicate, Option}
use Rattle.hwp_law.specs.hwp_geom.declared.Cpu.{Cpu}
use Rattle.hwp_law.specs.hwp_geom.declared.Layout.{Layout}
use Rattle.hwp_law.specs.hwp_geom.declared.Page.{Page}
use Rattle.hwp_law.specs.hwp_page.declared.At.{At}
use Rattle.hwp_law.specs.hwp_page.declared.Entry.{Entry}
use Rattle.hwp_check_evidence.specs.Ends.{ArePageEnds, own_ends, own_page_ends, page_ends}
use Rattle.hwp_check_evidence.specs.Named.{flagged_page, flagged_pages}
use Rattle.hwp_check_evidence.specs.Windows.{AreSpans, IsSpan}
use Rattle.hwp_check_evidence.specs.declared.findings.Findings.{Findings}
use Rattle.hwp_check_evidence.specs.declared.windows.Span.{Span}
use Rattle.hwp_law.specs.hwp_geom.declared.VSlot.{VSlot}
use Rattle.hwp_law.specs.hwp_geom.declared.Who.{Who}

-- what was found with one page more
pub record IsAdded (layout : Layout) (named : ℕ → At → Bool) (copies : Who → Option VSlot) (cpu : Cpu) (page : Page) (entries : List Entry) (old new : Findings) : Type 0 where
  pub ends : new.ends.items ≡ old.ends.items ++ page_ends layout cpu entries ∷ []
  pub ended : new.ended.items ≡ own_page_ends layout cpu old.ended.items entries
  pub span : Span
  pub is_span : IsSpan cpu entries span
  pub spans : new.spans.items ≡ old.spans.items ++ span ∷ []
  pub others : new.others.items ≡ flagged_page named copies cpu page old.others.items 0 entries

-- and with all pages, of so many commands whose lines name these places
pub record AreFound (layout : Layout) (named : ℕ → At → Bool) (copies : Who → Option VSlot) (cpu : Cpu) (commands : ℕ) (pages : List (List Entry)) (found : Findings) : Type 0 where
  pub ends : ArePageEnds layout cpu pages found.ends.items
  pub ended : found.ended.items ≡ own_ends layout cpu pages
  pub spans : AreSpans cpu pages found.spans.items
  pub others : found.others.items ≡ flagged_pages named copies cpu (replicate commands false) 0 pages
  pub many : length found.others.items ≡ commands
