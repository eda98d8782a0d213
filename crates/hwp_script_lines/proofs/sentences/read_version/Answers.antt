use Rattle.std.proofs.Common.{rules, ◌≡◌, codes, sym, ◌∙◌}
use Rattle.hwp_script_lines.proofs.PageLaws.{one_digit, two_digit, no_version}
use Rattle.hwp_script_lines.proofs.sentences.read_version.Goals as goal

pub returns-then-is_text : goal.returns-then-is_text
returns-then-is_text c = let e : c.args.word.now ≡ codes "1" = search rules in e ∙ sym one_digit

pub returns-then-is_text-2 : goal.returns-then-is_text-2
returns-then-is_text-2 c = let e : c.args.word.now ≡ codes "2" = search rules in e ∙ sym two_digit

pub returns-else-is_text-2 : goal.returns-else-is_text-2
returns-else-is_text-2 c = no_version c.args.word.now (search rules) (search rules)
