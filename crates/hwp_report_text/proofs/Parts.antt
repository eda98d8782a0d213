-- Printing a report part by part.
use Rattle.std.proofs.Common.{◌≡◌, ℕ, List, [], ◌∷◌, ◌++◌, codes, sym, ap, ◌∙◌}
use Rattle.std.specs.List.{flat_map}
use Rattle.std.proofs.lemmas.List.Concat.{flat_map-append}
use Rattle.hwp_page.specs.hwp_geom.Words.{line}
use Rattle.hwp_page.specs.declared.Entry.{Entry}
use Rattle.hwp_report_text.specs.declared.frames.FrameLine.{FrameLine}
use Rattle.hwp_report_text.specs.declared.lines.CpuLine.{CpuLine}
use Rattle.hwp_report_text.specs.declared.report.Report.{Report}
use Rattle.hwp_report_text.specs.ReportText.{cpu_lines, file_lines, frame_lines, head_lines, numbered, page_lines, report_text}

-- the text of some parts, one behind the other
text_of_parts : (a b c d e : List (List (List ℕ)))
    → flat_map line (a ++ b ++ c ++ d ++ e) ≡ flat_map line a ++ flat_map line b ++ flat_map line c ++ flat_map line d ++ flat_map line e
text_of_parts a b c d e =
    flat_map-append line (a ++ b ++ c ++ d) e
    ∙ ap (λ t. t ++ flat_map line e)
    (flat_map-append line (a ++ b ++ c) d
    ∙ ap (λ t. t ++ flat_map line d) (flat_map-append line (a ++ b) c ∙ ap (λ t. t ++ flat_map line c) (flat_map-append line a b)))

-- after the front, the frames, the pages, the processors and the end stands the text of the report
pub put_parts : (r : Report) (some_frames : List FrameLine) (some_pages : List (List Entry)) (some_cpus : List (List CpuLine)) (none front frames pages cpus all : List ℕ)
    → some_frames ≡ r.frames → some_pages ≡ r.pages → some_cpus ≡ r.cpus
    → none ≡ []
    → front ≡ none ++ flat_map line (head_lines r.version r.stop r.count ++ numbered file_lines 0 r.files)
    → frames ≡ front ++ flat_map line (numbered frame_lines 0 some_frames)
    → pages ≡ frames ++ flat_map line (numbered page_lines 0 some_pages)
    → cpus ≡ pages ++ flat_map line (numbered cpu_lines 0 some_cpus)
    → all ≡ cpus ++ line (codes "end" ∷ [])
    → all ≡ report_text r
put_parts r _ _ _ none front frames pages cpus all f p q n a b c d e =
    e
    ∙ ap (λ t. t ++ line (codes "end" ∷ []))
    (d
    ∙ ap (λ xs. pages ++ flat_map line (numbered cpu_lines 0 xs)) q
    ∙ ap (λ t. t ++ flat_map line (numbered cpu_lines 0 r.cpus))
    (c
    ∙ ap (λ xs. frames ++ flat_map line (numbered page_lines 0 xs)) p
    ∙ ap (λ t. t ++ flat_map line (numbered page_lines 0 r.pages))
    (b
    ∙ ap (λ xs. front ++ flat_map line (numbered frame_lines 0 xs)) f
    ∙ ap (λ t. t ++ flat_map line (numbered frame_lines 0 r.frames))
    (a ∙ ap (λ t. t ++ flat_map line (head_lines r.version r.stop r.count ++ numbered file_lines 0 r.files)) n))))
    ∙ sym (text_of_parts (head_lines r.version r.stop r.count ++ numbered file_lines 0 r.files) (numbered frame_lines 0 r.frames)
    (numbered page_lines 0 r.pages) (numbered cpu_lines 0 r.cpus) ((codes "end" ∷ []) ∷ []))
