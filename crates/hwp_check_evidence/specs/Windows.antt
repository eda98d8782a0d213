-- The windows of a processor's commands: what its entries and answers before and behind a command leave of a page's places.
use Rattle.std.specs.Prelude.{◌≡◌, ℕ, ◌+◌, ◌-◌, ◌<◌, ◌≤◌, ◌^◌, ◌==◌, max, min, cond, List, [], ◌∷◌, Option, Some, None, fold, drop, length, slice_get, slice_index_or, slice_set, replicate}
use Rattle.hwp_law.specs.hwp_geom.declared.Cpu.{Cpu}
use Rattle.hwp_law.specs.hwp_geom.declared.Who.{Who}
use Rattle.hwp_law.specs.hwp_page.declared.At.{At}
use Rattle.hwp_law.specs.hwp_page.declared.Entry.{Entry}
use Rattle.hwp_law.specs.hwp_report_text.declared.Answer.{Answer}
use Rattle.hwp_law.specs.hwp_report_text.declared.CpuLine.{CpuLine}
use Rattle.hwp_law.specs.hwp_report_text.declared.CpuLine.TheVariants as lines
use Rattle.hwp_law.specs.Places.{entry_at}
use Rattle.hwp_law.specs.States.{place_named}
use Rattle.hwp_check_evidence.specs.declared.windows.Span.{Span}

-- the command came after entries of a page's place by earlier commands of its processor
abbrev pub IsPastEarlier : List (List Entry) → Who → At → Type 0
IsPastEarlier pages who at = (bt : At) (e : Entry) → entry_at pages bt ≡ Some e → bt.page ≡ at.page → e.who.cpu ≡ who.cpu → e.who.seq < who.seq → bt.entry < at.entry

-- and before those by later ones
abbrev pub IsBeforeLater : List (List Entry) → Who → At → Type 0
IsBeforeLater pages who at = (bt : At) (e : Entry) → entry_at pages bt ≡ Some e → bt.page ≡ at.page → e.who.cpu ≡ who.cpu → who.seq < e.who.seq → at.entry ≤ bt.entry

-- no answer of an earlier command in these lines names a higher place of the page
abbrev pub IsNotBelow : List CpuLine → Who → At → Type 0
IsNotBelow rows who at = (i seq : ℕ) (answer : Answer) (bt : At) → slice_get rows i ≡ Some (lines.Answer seq answer) → seq < who.seq → place_named answer ≡ Some bt → bt.page ≡ at.page → bt.entry ≤ at.entry

-- one more than the highest command number of the processor so far, with one entry more
abbrev pub came_to : Cpu → ℕ → Entry → ℕ
came_to cpu n e = cond (e.who.cpu.0 == cpu.0) (max n (e.who.seq + 1)) n

-- the same before each of some entries and behind the last
abbrev pub ends_from : Cpu → ℕ → List Entry → List ℕ
ends_from cpu n [] = n ∷ []
ends_from cpu n (e ∷ rest) = n ∷ ends_from cpu (came_to cpu n e) rest

-- what stands for no command
abbrev pub none_number : ℕ
none_number = 2 ^ 32

-- the lowest command number of the processor behind, with the entry
abbrev pub starts_with : Cpu → ℕ → Entry → ℕ
starts_with cpu n e = cond (e.who.cpu.0 == cpu.0) (min n e.who.seq) n

-- the lowest command number of the processor in the entries
abbrev pub start_of : Cpu → List Entry → ℕ
start_of cpu [] = none_number
start_of cpu (e ∷ rest) = starts_with cpu (start_of cpu rest) e

-- the same of the last entries, none and one and two of them and so on
pub record AreStarts (cpu : Cpu) (entries : List Entry) (list : List ℕ) : Type 0 where
  pub each : (back n x : ℕ) → slice_get list back ≡ Some x → back + n ≡ length entries → x ≡ start_of cpu (drop n entries)

-- both of a page's entries
pub record IsSpan (cpu : Cpu) (entries : List Entry) (span : Span) : Type 0 where
  pub ends : span.ends ≡ ends_from cpu 0 entries
  pub many : length span.starts ≡ length entries + 1
  pub starts : AreStarts cpu entries span.starts

-- and of each page
pub record AreSpans (cpu : Cpu) (pages : List (List Entry)) (spans : List Span) : Type 0 where
  pub many : length spans ≡ length pages
  pub each : (page : ℕ) (entries : List Entry) (span : Span) → slice_get pages page ≡ Some entries → slice_get spans page ≡ Some span → IsSpan cpu entries span

-- the highest places that answers name, page by page
abbrev pub raised_by : Option At → List ℕ → List ℕ
raised_by None floors = floors
raised_by (Some at) floors = slice_set floors at.page.0 (max (slice_index_or floors at.page.0 0) at.entry)

abbrev pub named_in : CpuLine → Option At
named_in (lines.Event event) = None
named_in (lines.Offlined offlined) = None
named_in (lines.Guest guest) = None
named_in (lines.Answer seq answer) = place_named answer

abbrev pub raised : List ℕ → CpuLine → List ℕ
raised floors row = raised_by (named_in row) floors

abbrev pub floors_of : ℕ → List CpuLine → List ℕ
floors_of pages rows = fold raised (replicate pages 0) rows

-- each answer in these lines is of a command of a lower number
abbrev pub AreOfEarlier : List CpuLine → ℕ → Type 0
AreOfEarlier rows n = (i seq : ℕ) (answer : Answer) → slice_get rows i ≡ Some (lines.Answer seq answer) → seq < n

-- one more than the highest command number before a place, and the lowest from it on
abbrev pub end_before : Span → ℕ → ℕ
end_before span place = slice_index_or span.ends (min place (length span.ends - 1)) 0

abbrev pub start_from : Span → ℕ → ℕ
start_from span place = slice_index_or span.starts (length span.starts - 1 - min place (length span.starts - 1)) none_number
