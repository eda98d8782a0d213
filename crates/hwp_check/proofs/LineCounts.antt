-- A report has no more lines than its text has bytes.
use Rattle.std.proofs.Common.{◌≡◌, ℕ, ◌+◌, ◌≤◌, List, [], ◌∷◌, ◌++◌, length, take, codes, ap, arith}
use Rattle.std.specs.List.{flat_map}
use Rattle.std.proofs.lemmas.List.{length-append, take_all}
use Rattle.std.proofs.lemmas.List.Concat.{flat_map-cons}
use Rattle.hwp_report.specs.hwp_geom.Words.{line}
use Rattle.hwp_report.specs.hwp_report_text.declared.CpuLine.{CpuLine}
use Rattle.hwp_report.specs.hwp_report_text.declared.Report.{Report}
use Rattle.hwp_report.specs.hwp_report_text.ReportText.{cpu_lines, file_lines, frame_lines, head_lines, numbered, page_lines, report_lines, report_text}
use Rattle.hwp_report.specs.Texts.{IsTextOf}
use Rattle.hwp_check_rules.specs.Standing.{last_line}
use Rattle.hwp_check_rules.proofs.InText.{cpu-in-text}

-- a line has at least its line feed
line-some : (words : List (List ℕ)) → 1 ≤ length (line words)
line-some [] = omega arith
line-some (w ∷ []) = omega (arith, length-append w (10 ∷ []))
line-some (w ∷ v ∷ words) = let more : length (w ++ 32 ∷ line (v ∷ words)) ≡ length w + length (32 ∷ line (v ∷ words)) = length-append w (32 ∷ line (v ∷ words)) in omega (arith, more)

lines-few : (lines : List (List (List ℕ))) → length lines ≤ length (flat_map line lines)
lines-few [] = omega arith
lines-few (words ∷ lines) =
    let one : 1 ≤ length (line words) = line-some words in
    let rest : length lines ≤ length (flat_map line lines) = lines-few lines in
    let parts : length (flat_map line (words ∷ lines)) ≡ length (line words ++ flat_map line lines) = ap length (flat_map-cons line words lines) in
    let both : length (line words ++ flat_map line lines) ≡ length (line words) + length (flat_map line lines) = length-append (line words) (flat_map line lines) in
    omega (arith, one, rest, parts, both)

-- the last line is the one of the number of lines
last-of-all : (report : Report) → last_line report ≡ length (report_lines report)
last-of-all report =
    let stands : last_line report ≡ 1 + length (before (take (length report.cpus) report.cpus)) = cpu-in-text report (length report.cpus) in
    let same : length (before (take (length report.cpus) report.cpus)) ≡ length (before report.cpus) = ap (λ cpus. length (before cpus)) (take_all (length report.cpus) report.cpus (omega arith)) in
    let all : length (report_lines report) ≡ length (before report.cpus) + 1 = length-append (before report.cpus) ((codes "end" ∷ []) ∷ []) in
    omega (arith, stands, same, all)
  where
    before : (cpus : List (List CpuLine)) → List (List (List ℕ))
    before cpus = head_lines report.version report.stop report.count ++ numbered file_lines 0 report.files ++ numbered frame_lines 0 report.frames ++ numbered page_lines 0 report.pages ++ numbered cpu_lines 0 cpus

pub last-within : (bytes : List ℕ) (report : Report) → IsTextOf bytes report → last_line report ≤ length bytes
last-within bytes report text =
    let last : last_line report ≡ length (report_lines report) = last-of-all report in
    let few : length (report_lines report) ≤ length (report_text report) = lines-few (report_lines report) in
    let same : length bytes ≡ length (report_text report) = ap length text.same in
    omega (arith, last, few, same)
