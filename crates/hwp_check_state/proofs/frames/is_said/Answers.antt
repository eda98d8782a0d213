use Rattle.std.proofs.Common.{◌<◌, ℕ, Bool, false, List, get_or, length, ap, ◌∙◌, sym, subst}
use Rattle.hwp_check_state.proofs.TableLaws.{said-is, said-length}
use Rattle.hwp_check_state.proofs.frames.is_said.Goals as goal

pub bounds-said-page : goal.bounds-said-page
bounds-said-page c = subst (λ (n : ℕ). c.args.page < n) (sym (ap (λ (l : List Bool). length l) c.requires.said ∙ said-length c.args.pages c.args.frames.now)) c.requires.within

pub returns : goal.returns
returns c = ap (λ (l : List Bool). get_or l c.args.page false) c.requires.said ∙ said-is c.args.pages c.args.page c.args.frames.now c.requires.within
