-- Where the shape of a report first differs from its script's.
use Rattle.std.proofs.Common.{◌≡◌, ◌≢◌, inl, inr, ℕ, ◌≤◌, min, length, sum_by, take, arith}
use Rattle.std.proofs.lemmas.List.{length-take}
use Rattle.std.proofs.lemmas.List.Sums.{sum_by-take-le}
use Rattle.hwp_check_rules.specs.hwp_script_words.declared.Script.{Script}
use Rattle.hwp_check_rules.specs.hwp_report_text.declared.Report.{Report}
use Rattle.hwp_check_rules.specs.Rules.{ShapeFits}
use Rattle.hwp_check_rules.specs.Standing.{cpu_line, file_line, frame_height, frame_line, header_line, page_height, page_line}
use Rattle.hwp_check_rules.specs.Firsts.{IsFirstFault}
use Rattle.hwp_check_rules.specs.Faults.{IsShapeFault}

module _ (script : Script) (report : Report) where
  file-frame : (i j : ℕ) → i ≤ length report.files → file_line report i ≤ frame_line report j
  file-frame i j within = let short : length (take i report.files) ≡ min i (length report.files) = length-take i report.files in omega (arith, short)

  frame-page : (i j : ℕ) → frame_line report i ≤ page_line report j
  frame-page i j = let less : sum_by frame_height (take i report.frames) ≤ sum_by frame_height report.frames = sum_by-take-le frame_height report.frames i in omega (arith, less)

  page-cpu : (i j : ℕ) → page_line report i ≤ cpu_line report j
  page-cpu i j = let less : sum_by page_height (take i report.pages) ≤ sum_by page_height report.pages = sum_by-take-le page_height report.pages i in omega (arith, less)

  pub shape_fits : report.version ≡ script.layout.version → length report.files ≡ script.layout.files → length report.frames ≡ script.layout.frames → length report.pages ≡ length script.layout.pages → length report.cpus ≡ script.layout.cpus → ShapeFits script report
  shape_fits version files frames pages cpus = record { version = version; files = files; frames = frames; pages = pages; cpus = cpus }

  pub version_first : (line : ℕ) → report.version ≢ script.layout.version → line ≡ header_line → IsFirstFault (ShapeFits script report) (IsShapeFault script report) line
  version_first line differs is = record {
    broken = λ fits. differs fits.version;
    at = inl (differs, is);
    first = λ other fault. elim fault [
      | inl version ↦ let same = version.1 in omega (arith, is, same)
      | inr (inl files) ↦ omega (arith, is, files.1)
      | inr (inr (inl frames)) ↦ omega (arith, is, frames.1)
      | inr (inr (inr (inl pages))) ↦ omega (arith, is, pages.1)
      | inr (inr (inr (inr cpus))) ↦ omega (arith, is, cpus.1)
    ];
  }

  pub files_first : (line : ℕ) → report.version ≡ script.layout.version → length report.files ≢ script.layout.files → line ≡ file_line report (min (length report.files) script.layout.files) → IsFirstFault (ShapeFits script report) (IsShapeFault script report) line
  files_first line version_fits differs is = record {
    broken = λ fits. differs fits.files;
    at = inr (inl (differs, is));
    first = λ other fault. elim fault [
      | inl version ↦ absurd (version.0 version_fits)
      | inr (inl files) ↦ let same = files.1 in omega (arith, is, same)
      | inr (inr (inl frames)) ↦ omega (arith, is, file-frame (min (length report.files) script.layout.files) (min (length report.frames) script.layout.frames) (omega arith), frames.1)
      | inr (inr (inr (inl pages))) ↦
          omega (arith, is, file-frame (min (length report.files) script.layout.files) 0 (omega arith), frame-page 0 (min (length report.pages) (length script.layout.pages)), pages.1)
      | inr (inr (inr (inr cpus))) ↦
          omega (arith, is, file-frame (min (length report.files) script.layout.files) 0 (omega arith), frame-page 0 0, page-cpu 0 (min (length report.cpus) script.layout.cpus), cpus.1)
    ];
  }

  pub frames_first : (line : ℕ) → report.version ≡ script.layout.version → length report.files ≡ script.layout.files → length report.frames ≢ script.layout.frames → line ≡ frame_line report (min (length report.frames) script.layout.frames) → IsFirstFault (ShapeFits script report) (IsShapeFault script report) line
  frames_first line version_fits files_fit differs is = record {
    broken = λ fits. differs fits.frames;
    at = inr (inr (inl (differs, is)));
    first = λ other fault. elim fault [
      | inl version ↦ absurd (version.0 version_fits)
      | inr (inl files) ↦ absurd (files.0 files_fit)
      | inr (inr (inl frames)) ↦ let same = frames.1 in omega (arith, is, same)
      | inr (inr (inr (inl pages))) ↦ omega (arith, is, frame-page (min (length report.frames) script.layout.frames) (min (length report.pages) (length script.layout.pages)), pages.1)
      | inr (inr (inr (inr cpus))) ↦
          omega (arith, is, frame-page (min (length report.frames) script.layout.frames) 0, page-cpu 0 (min (length report.cpus) script.layout.cpus), cpus.1)
    ];
  }

  pub pages_first : (line : ℕ) → report.version ≡ script.layout.version → length report.files ≡ script.layout.files → length report.frames ≡ script.layout.frames → length report.pages ≢ length script.layout.pages → line ≡ page_line report (min (length report.pages) (length script.layout.pages)) → IsFirstFault (ShapeFits script report) (IsShapeFault script report) line
  pages_first line version_fits files_fit frames_fit differs is = record {
    broken = λ fits. differs fits.pages;
    at = inr (inr (inr (inl (differs, is))));
    first = λ other fault. elim fault [
      | inl version ↦ absurd (version.0 version_fits)
      | inr (inl files) ↦ absurd (files.0 files_fit)
      | inr (inr (inl frames)) ↦ absurd (frames.0 frames_fit)
      | inr (inr (inr (inl pages))) ↦ let same = pages.1 in omega (arith, is, same)
      | inr (inr (inr (inr cpus))) ↦ omega (arith, is, page-cpu (min (length report.pages) (length script.layout.pages)) (min (length report.cpus) script.layout.cpus), cpus.1)
    ];
  }

  pub cpus_first : (line : ℕ) → report.version ≡ script.layout.version → length report.files ≡ script.layout.files → length report.frames ≡ script.layout.frames → length report.pages ≡ length script.layout.pages → length report.cpus ≢ script.layout.cpus → line ≡ cpu_line report (min (length report.cpus) script.layout.cpus) → IsFirstFault (ShapeFits script report) (IsShapeFault script report) line
  cpus_first line version_fits files_fit frames_fit pages_fit differs is = record {
    broken = λ fits. differs fits.cpus;
    at = inr (inr (inr (inr (differs, is))));
    first = λ other fault. elim fault [
      | inl version ↦ absurd (version.0 version_fits)
      | inr (inl files) ↦ absurd (files.0 files_fit)
      | inr (inr (inl frames)) ↦ absurd (frames.0 frames_fit)
      | inr (inr (inr (inl pages))) ↦ absurd (pages.0 pages_fit)
      | inr (inr (inr (inr cpus))) ↦ let same = cpus.1 in omega (arith, is, same)
    ];
  }
