use Rattle.std.proofs.Common.{sym, subst}
use Rattle.hwp_threads.specs.hwp_table_words.Known.{Known}
use Rattle.hwp_top.specs.ThreadRuns.{HaveRun}
use Rattle.hwp_top.proofs.Closed.{closed-run, has-all}
use Rattle.hwp_top.proofs.threading.play_on_threads.Goals as goal

pub close-requires-clause-all : goal.close-requires-clause-all
close-requires-clause-all g c = let did = c.in_ok-pass.ensures.knows in has-all c.args.script.now c.in_ok-pass.pass.me.0.known did.now c.in_ok-pass.rows c.requires.valid did.ran did.finished

pub returns-clause-played : goal.returns-clause-played
returns-clause-played g c =
    let did = c.in_ok-pass.ensures.knows in
    closed-run g.W.Ways.ways c.args.script.now c.in-Ok.ended did.now c.in_ok-pass.rows c.requires.valid c.in-Ok.ensures.layout
    (subst (λ (v : Known). HaveRun c.args.script.now v did.now) (sym c.in-Ok.ensures.known) did.ran) did.finished c.reached.ensures
