use Rattle.std.proofs.Common.{◌≡◌, codes, rules}
use Rattle.hwp_report_words.proofs.pages.NoLines.{no_sigbus}
use Rattle.hwp_report_words.proofs.entries.read_met.Goals as goal

pub returns-in_default : goal.returns-in_default
returns-in_default c =
    let word : c.args.first.now ≡ codes "sigbus" = search rules in no_sigbus c.args.first.now c.args.second.now word c.in_default.ensures
