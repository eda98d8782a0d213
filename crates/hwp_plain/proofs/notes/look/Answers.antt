use Rattle.std.proofs.Common.{Some, sym, ap, ◌∙◌, subst}
use Rattle.hwp_core_rule.specs.declared.SharedWord.{SharedWord}
use Rattle.hwp_core_rule.specs.Words.{IsPlace, read, words_of}
use Rattle.hwp_plain.proofs.LineTells.{sees-step}
use Rattle.hwp_plain.proofs.notes.look.Goals as goal

pub word_at-requires : goal.word_at-requires
word_at-requires g c = record {
  inside = subst (IsPlace c.args.board.now.layout) (sym c.place-place.ensures) ((c.who-who.ensures.law.can _ _ _ c.in-Some.step c.requires.fits (sym c.plan.ensures ∙ c.in-Some.is)).asks.place);
}

pub returns : goal.returns
returns g c =
    let board = c.args.board.now in
    sees-step board.layout board.state (g.M.Task.task.who c.args.task.now) (g.M.Task.task.plan c.args.task.now) c.in-Some.step (Some (record { who = c.who-who.result; place = c.place-place.result; before = c.word_at.result }))
    (sym c.plan.ensures ∙ c.in-Some.is)
    (record {
      seen_is = λ i. Some (record {
        who = c.who-who.ensures.who i;
        place = c.place-place.ensures i;
        before = (c.word_at.ensures ∙ ap (λ (p : SharedWord). read p (words_of board.layout board.state.words)) c.place-place.ensures) i;
      });
      within = (c.who-who.ensures.law.can _ _ _ c.in-Some.step c.requires.fits (sym c.plan.ensures ∙ c.in-Some.is)).asks.place;
    })
