-- The rule of the table has it that no entry names a handled frame.
use Rattle.std.proofs.Common.{map, drop}
use Rattle.hwp_core_rule.specs.Words.{size}
use Rattle.hwp_table_words.proofs.TableKeeps.{reached-holds}
use Rattle.hwp_table_words.proofs.tlb.Named.{none-handled}
use Rattle.hwp_table_words.specs.Rules.{cache_seat}
use Rattle.hwp_table_words.specs.Stands.{first_part, stand}
use Rattle.hwp_tlb.specs.Law.{NoneHandled}

pub kept-none-handled : NoneHandled
kept-none-handled layout t kept =
    none-handled layout (stand kept.reached.views (first_part layout t)) (reached-holds layout (first_part layout t) kept.reached) 16 (drop (size layout) t.words) (map cache_seat t.views) kept.agree
