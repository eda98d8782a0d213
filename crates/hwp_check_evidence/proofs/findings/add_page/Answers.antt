use Rattle.std.proofs.Common.{◌≡◌, ℕ, List, [], ◌∷◌, ◌++◌, fold, replicate, ap, ◌∙◌}
use Rattle.hwp_check_evidence.specs.Ends.{any_ended, never, page_ends}
use Rattle.hwp_check_evidence.proofs.findings.add_page.Goals as goal

pub returns : goal.returns
returns c =
    let noted : c.note_page.new.ends.items ≡ page_ends c.args.layout.now c.args.cpu c.args.entries.now =
    c.note_page.ensures.any ∙ ap (λ (l : List ℕ). fold (any_ended c.args.layout.now c.args.cpu) l c.args.entries.now) (c.in_ok-ends.ensures ∙ ap (λ (n : ℕ). replicate n never) c.requires) in
    record {
      ends = c.in_ok-push.ensures.items ∙ ap (λ (l : List ℕ). c.args.found.now.ends.items ++ l ∷ []) (c.from_vec.ensures ∙ noted);
      ended = c.note_page.ensures.own;
      span = c.in_ok-page_span.field-0;
      is_span = c.in_ok-page_span.ensures;
      spans = c.in_ok-push-2.ensures.items;
      others = c.note_page.ensures.others;
    }
