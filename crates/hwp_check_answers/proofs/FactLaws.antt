-- What is known of commands by their numbers is what is known of each.
use Rattle.std.proofs.Common.{◌≡◌, false, List, length, replicate, Option}
use Rattle.hwp_check_evidence.specs.hwp_geom.declared.Cpu.{Cpu}
use Rattle.hwp_check_evidence.specs.hwp_script_words.declared.Command.{Command}
use Rattle.hwp_check_evidence.specs.hwp_report_text.declared.CpuLine.{CpuLine}
use Rattle.hwp_check_evidence.specs.hwp_report_text.declared.Report.{Report}
use Rattle.hwp_check_evidence.specs.Firsts.{AreNames, is_named}
use Rattle.hwp_check_evidence.specs.Named.{flagged_pages}
use Rattle.hwp_check_answers.specs.declared.judging.Naming.{Naming}
use Rattle.hwp_check_answers.specs.Facts.{AreNamings}
use Rattle.hwp_check_evidence.specs.hwp_geom.declared.VSlot.{VSlot}
use Rattle.hwp_check_evidence.specs.hwp_geom.declared.Who.{Who}

pub namings : (copies : Who → Option VSlot) (report : Report) (cpu : Cpu) (list : List Command) (rows : List CpuLine) (naming : Naming) → AreNames (length list) rows naming.names → length naming.others.items ≡ length list
    → naming.others.items ≡ flagged_pages (is_named naming.names) copies cpu (replicate (length list) false) 0 report.pages → AreNamings copies report cpu list rows naming
namings copies report cpu list rows naming names many others = record { names = names; many = many; others = others }
