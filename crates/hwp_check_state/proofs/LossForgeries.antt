-- What the rule of losses refuses: small changes of a report in which one command lost what a store had made dirty. Both processors may
-- ask for the losses of the file.
use Rattle.std.proofs.Common.{◌≡◌, ℕ, ◌≤◌, true, false, List, [], ◌∷◌, None, refl, arith}
use Rattle.hwp_check_rules.specs.hwp_geom.declared.Cpu.{Cpu}
use Rattle.hwp_check_rules.specs.hwp_geom.declared.FileNo.{FileNo}
use Rattle.hwp_check_rules.specs.hwp_geom.declared.PageKind.TheVariants.{File}
use Rattle.hwp_check_rules.specs.hwp_geom.declared.Version.TheVariants.{Two}
use Rattle.hwp_check_rules.specs.hwp_page.declared.Entry.{Entry}
use Rattle.hwp_check_rules.specs.hwp_page.declared.Situation.TheVariants as situations
use Rattle.hwp_check_rules.specs.hwp_page.declared.What.TheVariants as entries
use Rattle.hwp_check_rules.specs.hwp_script_words.declared.Command.{Command}
use Rattle.hwp_check_rules.specs.hwp_script_words.declared.Command.TheVariants as commands
use Rattle.hwp_check_rules.specs.hwp_script_words.declared.Script.{Script}
use Rattle.hwp_check_rules.specs.hwp_report_text.declared.Answer.{Answer}
use Rattle.hwp_check_rules.specs.hwp_report_text.declared.Answer.TheVariants as answers
use Rattle.hwp_check_rules.specs.hwp_report_text.declared.CpuLine.TheVariants as lines
use Rattle.hwp_check_rules.specs.hwp_report_text.declared.Report.{Report}
use Rattle.hwp_check_rules.specs.Rules.{LossesFit}

abbrev file : FileNo
file = record { 0 = 0 }

abbrev cpu : ℕ → Cpu
cpu n = record { 0 = n }

-- processor 1 makes these commands
abbrev script_with : List Command → Script
script_with list = record {
  layout = record {
    version = Two;
    cpus = 2;
    frames = 1;
    kernel = false ∷ [];
    recovery = true;
    early = false;
    files = 1;
    procs = 0;
    threads = [];
    pages = File file 9 ∷ [];
    trans = [];
    locked = false ∷ [];
    twins = [];
    guests = [];
  };
  lists = (commands.Inject (record { 0 = 0 }) ∷ commands.Fsync file ∷ commands.Fsync file ∷ []) ∷ list ∷ [];
  go = [];
}

abbrev script : Script
script = script_with (commands.Fsync file ∷ commands.Fsync file ∷ [])

-- command 0 of processor 0 lost the page's content
abbrev history : List Entry
history = (record { who = record { cpu = cpu 0; seq = 0 }; what = entries.Fail situations.FileDirty None [] [] }) ∷ []

-- `file 0 lost L`, and these two answers of each processor
abbrev report : ℕ → Answer → Answer → Answer → Answer → Report
report lost a b c d = record {
  version = Two;
  stop = None;
  count = 1;
  files = lost ∷ [];
  frames = [];
  pages = history ∷ [];
  cpus = (lines.Answer 0 answers.Recovered ∷ lines.Answer 1 a ∷ lines.Answer 2 b ∷ []) ∷ (lines.Answer 0 c ∷ lines.Answer 1 d ∷ []) ∷ [];
}

-- the file has the losses that the histories list
none_said : LossesFit script (report 0 (answers.Eio 1) answers.Done (answers.Eio 1) answers.Done) → ⊥
none_said fit = let same : ◌≡◌ {A = ℕ} 0 1 = (fit file 0 refl).lost_is in absurd (omega arith)

-- a processor that lost something is told of it
not_told : LossesFit script (report 1 answers.Done (answers.Eio 1) (answers.Eio 1) answers.Done) → ⊥
not_told fit = let few : 1 ≤ 0 = ((fit file 1 refl).numbers (cpu 0) _ _ refl refl 1 (commands.Fsync file, answers.Done) refl refl).covers in absurd (omega arith)

-- no processor is told of more losses than there are, at once or together
told_of_more : LossesFit script (report 1 (answers.Eio 1) answers.Done (answers.Eio 2) answers.Done) → ⊥
told_of_more fit = let few : 2 ≤ 1 = ((fit file 1 refl).numbers (cpu 1) _ _ refl refl 0 (commands.Fsync file, answers.Eio 2) refl refl).within in absurd (omega arith)

told_of_twice : LossesFit script (report 1 (answers.Eio 1) answers.Done (answers.Eio 1) (answers.Eio 1)) → ⊥
told_of_twice fit = let few : 2 ≤ 1 = ((fit file 1 refl).numbers (cpu 1) _ _ refl refl 1 (commands.Fsync file, answers.Eio 1) refl refl).within in absurd (omega arith)

-- nor where it opens the file, and an opened file takes nothing back that was told
opened_with_more : LossesFit (script_with (commands.Open file ∷ commands.Fsync file ∷ [])) (report 1 (answers.Eio 1) answers.Done (answers.Opened 2) answers.Done) → ⊥
opened_with_more fit = let few : 2 ≤ 1 = ((fit file 1 refl).numbers (cpu 1) _ _ refl refl 0 (commands.Open file, answers.Opened 2) refl refl).within in absurd (omega arith)

opened_with_fewer : LossesFit (script_with (commands.Fsync file ∷ commands.Open file ∷ [])) (report 1 (answers.Eio 1) answers.Done (answers.Eio 1) (answers.Opened 0)) → ⊥
opened_with_fewer fit = let few : 1 ≤ 0 = ((fit file 1 refl).numbers (cpu 1) _ _ refl refl 1 (commands.Open file, answers.Opened 0) refl refl).rises in absurd (omega arith)
