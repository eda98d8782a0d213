use Rattle.std.proofs.Common.{◌≡◌, drop, fold}
use Rattle.hwp_law.specs.Cows.{Cow, cow_after, cow_of}
use Rattle.hwp_law.specs.hwp_report_text.declared.Answer.{Answer}
use Rattle.hwp_law.specs.hwp_script_words.declared.Command.{Command}
use Rattle.hwp_check_rules.specs.ActedOn.{cow_in}
use Rattle.hwp_check_rules.proofs.cows.cow_of.Given as goal

abbrev pub invariant-loop-pair : goal.invariant-loop-pair
invariant-loop-pair l = fold (λ (c : Cow) (p : Command × Answer). cow_after l.fn.layout l.fn.slot p.0 p.1 c) (cow_in l.cow) (drop l.pair-index l.fn.earlier) ≡ cow_of l.fn.layout l.fn.earlier l.fn.slot
