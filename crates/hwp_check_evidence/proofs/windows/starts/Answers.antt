use Rattle.std.proofs.Common.{◌≡◌, ℕ, ◌+◌, ◌-◌, Some, drop, length, slice_get, refl, ap, ◌∙◌, sym, subst, arith}
use Rattle.std.proofs.lemmas.List.{length_push}
use Rattle.std.proofs.lemmas.Option.{slice_get_read}
use Rattle.hwp_check_evidence.specs.Windows.{AreStarts, start_of, starts_with}
use Rattle.hwp_check_evidence.proofs.SpanLaws.{start-next, starts-more}
use Rattle.hwp_check_evidence.proofs.windows.starts.Goals as goal

pub loop-back-preserved : goal.loop-back-preserved
loop-back-preserved c =
    let less = c.loop-back-test.true in
    let there : slice_get c.args.entries.now (length c.args.entries.now - 1 - c.loop-back.back) ≡ Some c.index-entries-entries.result =
    slice_get_read c.args.entries.now (length c.args.entries.now) (length c.args.entries.now - 1 - c.loop-back.back) c.index-entries-entries.result refl (omega (arith, less)) c.index-entries-entries.is in
    let at : slice_get c.args.entries.now (length c.args.entries.now - (c.loop-back.back + 1)) ≡ Some c.index-entries-entries.result =
    ap (slice_get c.args.entries.now) (let z : length c.args.entries.now - (c.loop-back.back + 1) ≡ length c.args.entries.now - 1 - c.loop-back.back = omega arith in z) ∙ there in
    let next : length c.args.entries.now - (c.loop-back.back + 1) + 1 ≡ length c.args.entries.now - c.loop-back.back = omega (arith, less) in
    let start : starts_with c.args.cpu c.loop-back.start c.index-entries-entries.result ≡ start_of c.args.cpu (drop (length c.args.entries.now - (c.loop-back.back + 1)) c.args.entries.now) =
    ap (λ (m : ℕ). starts_with c.args.cpu m c.index-entries-entries.result) (c.loop-back.invariant.1 ∙ ap (λ (m : ℕ). start_of c.args.cpu (drop m c.args.entries.now)) (sym next))
    ∙ sym (start-next c.args.cpu c.args.entries.now (length c.args.entries.now - (c.loop-back.back + 1)) c.index-entries-entries.result at) in (
      ap length c.in_ok-push.ensures ∙ length_push c.loop-back.list c.loop-back.start ∙ ap (λ (m : ℕ). m + 1) c.loop-back.invariant.0,
      c.starts_with-start.ensures ∙ start,
      subst (AreStarts c.args.cpu c.args.entries.now) (sym c.in_ok-push.ensures)
          (starts-more c.args.cpu c.args.entries.now c.loop-back.list c.loop-back.back c.loop-back.start c.loop-back.invariant.0 (omega (arith, less)) c.loop-back.invariant.1 c.loop-back.invariant.2),
    )

pub returns-clause-starts : goal.returns-clause-starts
returns-clause-starts c =
    let end = c.loop-back.auto.back-end in
    subst (AreStarts c.args.cpu c.args.entries.now) (sym c.in_ok-push-2.ensures)
    (starts-more c.args.cpu c.args.entries.now c.loop-back.list c.loop-back.back c.loop-back.start c.loop-back.invariant.0 (omega (arith, end)) c.loop-back.invariant.1 c.loop-back.invariant.2)

pub returns-clause-many : goal.returns-clause-many
returns-clause-many c =
    let past = c.loop-back-test.false in
    let end = c.loop-back.auto.back-end in
    ap length c.in_ok-push-2.ensures ∙ length_push c.loop-back.list c.loop-back.start ∙ ap (λ (m : ℕ). m + 1) (c.loop-back.invariant.0 ∙ (let all : c.loop-back.back ≡ length c.args.entries.now = omega (arith, past, end) in all))
