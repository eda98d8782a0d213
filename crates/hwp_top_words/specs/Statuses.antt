-- What each status means, and what is told on the error sink.
use Rattle.std.specs.Prelude.{◌≡◌, ◌<◌, ℕ, ◌++◌, ◌==◌, if◌then◌else◌, List, [], ◌∷◌, Option, Some, None, is_some, codes, decimal, ◌⊎◌}
use Rattle.std.specs.Io.KnownBytes.{Appends}
use Rattle.hwp_script.specs.hwp_script_read.declared.Refused.{Refused}
use Rattle.hwp_script.specs.hwp_script_read.declared.Why.{Why}
use Rattle.hwp_script.specs.hwp_script_read.declared.Why.TheVariants as whys
use Rattle.hwp_report.specs.hwp_report_text.declared.Report.{Report}

-- the name of a reason
abbrev pub why_text : Why → List ℕ
why_text whys.BadHeader = codes "BadHeader"
why_text whys.UnknownWord = codes "UnknownWord"
why_text whys.BadNumber = codes "BadNumber"
why_text whys.OverLimit = codes "OverLimit"
why_text whys.Undeclared = codes "Undeclared"
why_text whys.Twice = codes "Twice"
why_text whys.WrongPlace = codes "WrongPlace"
why_text whys.NoEnd = codes "NoEnd"
why_text whys.TooLong = codes "TooLong"

-- `script line L: WHY`, and a line feed
abbrev pub refusal_text : Refused → List ℕ
refusal_text refused = codes "script line " ++ (decimal refused.line ++ (codes ": " ++ (why_text refused.why ++ 10 ∷ [])))

-- a sink took the text, or its count of faults rose
abbrev pub Told : Option (List ℕ) → Option (List ℕ) → ℕ → ℕ → List ℕ → Type 0
Told taken taken' faults faults' text = Appends taken taken' text ⊎ (faults < faults')

-- the texts of the statuses that have one text each
abbrev pub usage_text : List ℕ
usage_text = codes "usage: hwp step [tlb]|run [tlb]|check|gen N|sum N" ++ 10 ∷ []

abbrev pub read_fault_text : List ℕ
read_fault_text = codes "read fault" ++ 10 ∷ []

abbrev pub write_fault_text : List ℕ
write_fault_text = codes "write fault" ++ 10 ∷ []

abbrev pub memory_text : List ℕ
memory_text = codes "out of memory" ++ 10 ∷ []

-- the text that a status tells on the error sink, but for status 3, whose text names the line and the reason
abbrev pub told_text : ℕ → Option (List ℕ)
told_text status =
    if status == 2 then Some usage_text
    else if status == 4 then Some read_fault_text
    else if status == 5 then Some write_fault_text
    else if status == 6 then Some memory_text
    else None

-- the whole output was written
abbrev pub IsDone : ℕ → Type 0
IsDone status = (status ≡ 0) ⊎ ((status ≡ 1) ⊎ (status ≡ 8))

-- the status of a report that was written: 8 where the machine stopped
abbrev pub done_status : Report → ℕ
done_status report = if is_some report.stop then 8 else 0
