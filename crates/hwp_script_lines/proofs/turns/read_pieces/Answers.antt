use Rattle.std.proofs.Common.{[], inl, inr, arith}
use Rattle.hwp_script_words.proofs.PairsLaws.{one-of, two-of}
use Rattle.hwp_script_lines.proofs.TurnLaws.{few-pieces}
use Rattle.hwp_script_lines.proofs.turns.read_pieces.Goals as goal

pub returns-in-len1 : goal.returns-in-len1
returns-in-len1 c = rw (one-of c.args.pieces.now (record { ref_ptr = (0, 0); now = [] }) (omega arith)) c.read_plain_turn.ensures

pub returns-in-len2 : goal.returns-in-len2
returns-in-len2 c = rw (two-of c.args.pieces.now (record { ref_ptr = (0, 0); now = [] }) (omega arith)) c.read_kind_turn.ensures

pub returns-in_default : goal.returns-in_default
returns-in_default c = few-pieces c.args.pieces.now (inl c.in_default.len_below)

pub returns-in_default-2 : goal.returns-in_default-2
returns-in_default-2 c = few-pieces c.args.pieces.now (inr c.in_default.len_at_least)
