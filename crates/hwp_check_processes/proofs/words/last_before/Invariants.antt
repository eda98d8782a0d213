use Rattle.std.proofs.Common.{◌≡◌, drop, filter_map}
use Rattle.hwp_check_rules.specs.hwp_law.Private.{last_word, word_before}
use Rattle.hwp_check_processes.proofs.words.last_before.Given as goal

abbrev pub invariant-loop-entry : goal.invariant-loop-entry
invariant-loop-entry l =
    last_word l.last (filter_map (word_before l.fn.cpu l.fn.number l.fn.line) (drop l.entry-index l.fn.entries)) ≡ last_word 0 (filter_map (word_before l.fn.cpu l.fn.number l.fn.line) l.fn.entries)
