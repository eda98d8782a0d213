use Rattle.std.proofs.Common.{subst}
use Rattle.hwp_top_report.specs.hwp_geom.declared.Layout.{Layout}
use Rattle.hwp_top_report.specs.hwp_table_words.Ends.{HasAll}
use Rattle.hwp_top_report.proofs.Came.{last-bare}
use Rattle.hwp_top.proofs.running.seat_all.Goals as goal

pub into_pass-requires : goal.into_pass-requires
into_pass-requires g c = let p = c.in_ok-rows.ensures.played in record { nothing = last-bare c.args.script.now p.turns c.play.new.board.state c.in_ok-rows.rows c.requires.valid p.ended }

pub returns-clause-knows : goal.returns-clause-knows
returns-clause-knows g c = record {
  log = c.play.new.board.log;
  state = c.play.new.board.state;
  played = c.in_ok-rows.ensures.played;
  all = subst (λ (l : Layout). HasAll l c.into_pass.result.me.0.known) c.in_ok-rows.ensures.layout c.into_pass.ensures.all;
  whole = c.into_pass.ensures.whole;
}
