-- The lines where the things of a report stand are those of its text: behind the lines above them.
use Rattle.std.proofs.Common.{◌≡◌, ℕ, ◌+◌, List, [], ◌∷◌, ◌++◌, length, map, sum_by, take, refl, ap, ◌∙◌, arith}
use Rattle.std.proofs.lemmas.List.{length-append, length-map}
use Rattle.std.proofs.lemmas.List.Sums.{sum_by-cons}
use Rattle.hwp_law.specs.hwp_page.declared.Entry.{Entry}
use Rattle.hwp_law.specs.hwp_page.declared.What.{What}
use Rattle.hwp_law.specs.hwp_page.declared.What.TheVariants as entries
use Rattle.hwp_law.specs.hwp_report_text.ReportText.{cpu_line_words, cpu_lines, entry_lines, file_lines, frame_lines, head_lines, lines_below, mark_words, numbered, page_lines, seen_words, signal_words}
use Rattle.hwp_law.specs.hwp_report_text.declared.CpuLine.{CpuLine}
use Rattle.hwp_law.specs.hwp_report_text.declared.FrameLine.{FrameLine}
use Rattle.hwp_law.specs.hwp_report_text.declared.Report.{Report}
use Rattle.std.specs.List.{flat_map}
use Rattle.std.proofs.lemmas.List.Concat.{flat_map-cons}
use Rattle.hwp_check_rules.specs.Standing.{cpu_height, cpu_line, entry_height, file_line, frame_height, frame_line, page_height, page_line, what_height}

-- numbered items have as many lines as their heights say
heights : {A : Type 0} (lines_of : ℕ → A → List (List (List ℕ))) (height : A → ℕ) → ((n : ℕ) (x : A) → length (lines_of n x) ≡ height x) → (n : ℕ) (xs : List A) → length (numbered lines_of n xs) ≡ sum_by height xs
heights lines_of height each n [] = refl
heights lines_of height each n (x ∷ xs) =
    let first : length (lines_of n x) ≡ height x = each n x in
    let rest : length (numbered lines_of (n + 1) xs) ≡ sum_by height xs = heights lines_of height each (n + 1) xs in
    let both : length (lines_of n x ++ numbered lines_of (n + 1) xs) ≡ length (lines_of n x) + length (numbered lines_of (n + 1) xs) = length-append (lines_of n x) (numbered lines_of (n + 1) xs) in
    let all : sum_by height (x ∷ xs) ≡ height x + sum_by height xs = sum_by-cons height x xs in
    omega (arith, first, rest, both, all)

file-height : (n lost : ℕ) → length (file_lines n lost) ≡ 1
file-height n lost = refl

frame-height : (n : ℕ) (frame : FrameLine) → length (frame_lines n frame) ≡ frame_height frame
frame-height n frame = let below : length (map mark_words frame.marks) ≡ length frame.marks = length-map frame.marks mark_words in omega (arith, below)

below-height : (w : What) → 1 + length (lines_below w) ≡ what_height w
below-height (entries.Fail situation required seen signals) =
    let both : length (map seen_words seen ++ map signal_words signals) ≡ length (map seen_words seen) + length (map signal_words signals) = length-append (map seen_words seen) (map signal_words signals) in
    let first : length (map seen_words seen) ≡ length seen = length-map seen seen_words in
    let second : length (map signal_words signals) ≡ length signals = length-map signals signal_words in
    omega (arith, both, first, second)
below-height (entries.Load slot line met) = refl
below-height (entries.Store slot line met) = refl
below-height entries.FaultIn = refl
below-height (entries.Map slot) = refl
below-height (entries.Free slot) = refl
below-height entries.Drop = refl
below-height entries.Sync = refl
below-height entries.Out = refl
below-height (entries.Mce slot line mask) = refl
below-height entries.Soft = refl

entries-height : (list : List Entry) → length (flat_map entry_lines list) ≡ sum_by entry_height list
entries-height [] = refl
entries-height (e ∷ list) =
    let first : 1 + length (lines_below e.what) ≡ entry_height e = below-height e.what in
    let rest : length (flat_map entry_lines list) ≡ sum_by entry_height list = entries-height list in
    let parts : length (flat_map entry_lines (e ∷ list)) ≡ length (entry_lines e ++ flat_map entry_lines list) = ap length (flat_map-cons entry_lines e list) in
    let both : length (entry_lines e ++ flat_map entry_lines list) ≡ length (entry_lines e) + length (flat_map entry_lines list) = length-append (entry_lines e) (flat_map entry_lines list) in
    let all : sum_by entry_height (e ∷ list) ≡ entry_height e + sum_by entry_height list = sum_by-cons entry_height e list in
    omega (arith, first, rest, parts, both, all)

page-height : (n : ℕ) (list : List Entry) → length (page_lines n list) ≡ page_height list
page-height n list = let below : length (flat_map entry_lines list) ≡ sum_by entry_height list = entries-height list in omega (arith, below)

cpu-height : (n : ℕ) (rows : List CpuLine) → length (cpu_lines n rows) ≡ cpu_height rows
cpu-height n rows = let below : length (map cpu_line_words rows) ≡ length rows = length-map rows cpu_line_words in omega (arith, below)

ones : (xs : List ℕ) → sum_by (λ (x : ℕ). 1) xs ≡ length xs
ones [] = refl
ones (x ∷ xs) =
    let rest : sum_by (λ (y : ℕ). 1) xs ≡ length xs = ones xs in
    let all : sum_by (λ (y : ℕ). 1) (x ∷ xs) ≡ 1 + sum_by (λ (y : ℕ). 1) xs = sum_by-cons (λ (y : ℕ). 1) x xs in
    omega (arith, rest, all)

module _ (report : Report) where
  files-length : (n : ℕ) → length (numbered file_lines 0 (take n report.files)) ≡ length (take n report.files)
  files-length n = heights file_lines (λ (x : ℕ). 1) file-height 0 (take n report.files) ∙ ones (take n report.files)

  -- a file's line is the one behind the head and the files before it
  pub file-in-text : (n : ℕ) → file_line report n ≡ 1 + length (head_lines report.version report.stop report.count ++ numbered file_lines 0 (take n report.files))
  file-in-text n =
      let files : length (numbered file_lines 0 (take n report.files)) ≡ length (take n report.files) = files-length n in
      let all : length (head_lines report.version report.stop report.count ++ numbered file_lines 0 (take n report.files)) ≡ 3 + length (numbered file_lines 0 (take n report.files)) = length-append (head_lines report.version report.stop report.count) (numbered file_lines 0 (take n report.files)) in
      omega (arith, files, all)

  all-files : length (numbered file_lines 0 report.files) ≡ length report.files
  all-files = heights file_lines (λ (x : ℕ). 1) file-height 0 report.files ∙ ones report.files

  -- a frame's heading is the line behind the head, the files and the frames before it
  pub frame-in-text : (n : ℕ) → frame_line report n ≡ 1 + length (head_lines report.version report.stop report.count ++ numbered file_lines 0 report.files ++ numbered frame_lines 0 (take n report.frames))
  frame-in-text n =
      let files : length (numbered file_lines 0 report.files) ≡ length report.files = all-files in
      let frames : length (numbered frame_lines 0 (take n report.frames)) ≡ sum_by frame_height (take n report.frames) = heights frame_lines frame_height frame-height 0 (take n report.frames) in
      omega (arith, files, frames, length-of (numbered file_lines 0 report.files) (numbered frame_lines 0 (take n report.frames)))
    where
      length-of : (xs ys : List (List (List ℕ))) → length (head_lines report.version report.stop report.count ++ xs ++ ys) ≡ 3 + length xs + length ys
      length-of xs ys = let one : length ((head_lines report.version report.stop report.count ++ xs) ++ ys) ≡ length (head_lines report.version report.stop report.count ++ xs) + length ys = length-append (head_lines report.version report.stop report.count ++ xs) ys in let two : length (head_lines report.version report.stop report.count ++ xs) ≡ 3 + length xs = length-append (head_lines report.version report.stop report.count) xs in omega (arith, one, two)

  -- a page's heading is the line behind all frames and the pages before it
  pub page-in-text : (n : ℕ) → page_line report n ≡ 1 + length (head_lines report.version report.stop report.count ++ numbered file_lines 0 report.files ++ numbered frame_lines 0 report.frames ++ numbered page_lines 0 (take n report.pages))
  page-in-text n =
      let files : length (numbered file_lines 0 report.files) ≡ length report.files = all-files in
      let frames : length (numbered frame_lines 0 report.frames) ≡ sum_by frame_height report.frames = heights frame_lines frame_height frame-height 0 report.frames in
      let pages : length (numbered page_lines 0 (take n report.pages)) ≡ sum_by page_height (take n report.pages) = heights page_lines page_height page-height 0 (take n report.pages) in
      omega (arith, files, frames, pages, length-of (numbered file_lines 0 report.files) (numbered frame_lines 0 report.frames) (numbered page_lines 0 (take n report.pages)))
    where
      length-of : (xs ys zs : List (List (List ℕ))) → length (head_lines report.version report.stop report.count ++ xs ++ ys ++ zs) ≡ 3 + length xs + length ys + length zs
      length-of xs ys zs = let zero : length (((head_lines report.version report.stop report.count ++ xs) ++ ys) ++ zs) ≡ length ((head_lines report.version report.stop report.count ++ xs) ++ ys) + length zs = length-append ((head_lines report.version report.stop report.count ++ xs) ++ ys) zs in let one : length ((head_lines report.version report.stop report.count ++ xs) ++ ys) ≡ length (head_lines report.version report.stop report.count ++ xs) + length ys = length-append (head_lines report.version report.stop report.count ++ xs) ys in let two : length (head_lines report.version report.stop report.count ++ xs) ≡ 3 + length xs = length-append (head_lines report.version report.stop report.count) xs in omega (arith, zero, one, two)

  -- a processor's heading is the line behind all pages and the processors before it
  pub cpu-in-text : (n : ℕ) → cpu_line report n ≡ 1 + length (head_lines report.version report.stop report.count ++ numbered file_lines 0 report.files ++ numbered frame_lines 0 report.frames ++ numbered page_lines 0 report.pages ++ numbered cpu_lines 0 (take n report.cpus))
  cpu-in-text n =
      let files : length (numbered file_lines 0 report.files) ≡ length report.files = all-files in
      let frames : length (numbered frame_lines 0 report.frames) ≡ sum_by frame_height report.frames = heights frame_lines frame_height frame-height 0 report.frames in
      let pages : length (numbered page_lines 0 report.pages) ≡ sum_by page_height report.pages = heights page_lines page_height page-height 0 report.pages in
      let cpus : length (numbered cpu_lines 0 (take n report.cpus)) ≡ sum_by cpu_height (take n report.cpus) = heights cpu_lines cpu_height cpu-height 0 (take n report.cpus) in
      omega (arith, files, frames, pages, cpus, length-of (numbered file_lines 0 report.files) (numbered frame_lines 0 report.frames) (numbered page_lines 0 report.pages) (numbered cpu_lines 0 (take n report.cpus)))
    where
      length-of : (xs ys zs us : List (List (List ℕ))) → length (head_lines report.version report.stop report.count ++ xs ++ ys ++ zs ++ us) ≡ 3 + length xs + length ys + length zs + length us
      length-of xs ys zs us = let last : length ((((head_lines report.version report.stop report.count ++ xs) ++ ys) ++ zs) ++ us) ≡ length (((head_lines report.version report.stop report.count ++ xs) ++ ys) ++ zs) + length us = length-append (((head_lines report.version report.stop report.count ++ xs) ++ ys) ++ zs) us in let zero : length (((head_lines report.version report.stop report.count ++ xs) ++ ys) ++ zs) ≡ length ((head_lines report.version report.stop report.count ++ xs) ++ ys) + length zs = length-append ((head_lines report.version report.stop report.count ++ xs) ++ ys) zs in let one : length ((head_lines report.version report.stop report.count ++ xs) ++ ys) ≡ length (head_lines report.version report.stop report.count ++ xs) + length ys = length-append (head_lines report.version report.stop report.count ++ xs) ys in let two : length (head_lines report.version report.stop report.count ++ xs) ≡ 3 + length xs = length-append (head_lines report.version report.stop report.count) xs in omega (arith, last, zero, one, two)
