use Rattle.std.proofs.Common.{◌+◌, ℕ, sym, ap, ◌∙◌, arith}
use Rattle.std.proofs.lemmas.Result.{on_ok_weaker}
use Rattle.hwp_check_frames.specs.Counts.{at_key, raise}
use Rattle.hwp_check_frames.proofs.BesideLaws.{marked-raise, unmarked-raise}
use Rattle.hwp_check_frames.proofs.beside.add_result.Goals as goal

pub returns-in-Some : goal.returns-in-Some
returns-in-Some c =
    on_ok_weaker c.add.result (λ rises q.
    rises q ∙ ap (λ (key : (ℕ × ℕ) × ℕ). at_key c.args.lines.now q + raise key q) c.spot_of.ensures
    ∙ ap (λ (n : ℕ). at_key c.args.lines.now q + n) (marked-raise q c.args.who c.args.frame.0 c.args.came c.in-Some.moved (sym c.marking.ensures ∙ c.in-Some.is))) c.add.ensures

pub returns-in-None : goal.returns-in-None
returns-in-None c = λ q. omega (arith, unmarked-raise q c.args.who c.args.frame.0 c.args.came (sym c.marking.ensures ∙ c.in-None.is))
