use Rattle.std.proofs.Common.{◌≡◌, ◌+◌, [], length, take, refl, ap, ◌∙◌, subst, arith}
use Rattle.hwp_law.specs.hwp_page.History.{state_after}
use Rattle.hwp_law.specs.hwp_page.Step.{after, opening_of}
use Rattle.hwp_law.specs.hwp_page.declared.PageState.{PageState}
use Rattle.hwp_check_evidence.specs.Glances.{AreKept, glance_of, glances_from}
use Rattle.hwp_check_evidence.proofs.GlanceLaws.{begins, ends-at, goes-on-at, last-pushed}
use Rattle.hwp_check_evidence.proofs.MapLaws.{kept-next, none-kept, state-next}
use Rattle.hwp_check_evidence.proofs.glances.page_glances.Goals as goal

pub loop-at-init : goal.loop-at-init
loop-at-init c =
    rw (c.in_ok-push.ensures, c.look.ensures, c.in_ok-glances.ensures, c.opening-state.ensures, c.new-maps.ensures.items) (
      last-pushed [] (glance_of (opening_of c.args.kind c.args.locked)),
      begins (opening_of c.args.kind c.args.locked) c.args.entries.now,
      refl,
      none-kept (opening_of c.args.kind c.args.locked) c.args.entries.now,
    )

pub loop-at-preserved : goal.loop-at-preserved
loop-at-preserved c =
    let next : after c.loop-at.state c.index-entries-at.result.what ≡ state_after (opening_of c.args.kind c.args.locked) (take (c.loop-at.at + 1) c.args.entries.now) =
    ap (λ (t : PageState). after t c.index-entries-at.result.what) c.loop-at.invariant.2
    ∙ state-next (opening_of c.args.kind c.args.locked) c.args.entries.now c.loop-at.at c.index-entries-at.result c.loop-at-test.true c.index-entries-at.is in
    rw (c.in_ok-go_on.ensures.list, c.in_ok-keep.ensures, c.go_on.ensures.state, ← c.index-entries-at.is) (
      last-pushed c.loop-at.glances (glance_of (after c.loop-at.state c.index-entries-at.result.what)),
      goes-on-at c.loop-at.glances (glances_from (opening_of c.args.kind c.args.locked) c.args.entries.now) c.loop-at.state c.args.entries.now c.loop-at.at c.index-entries-at.result c.loop-at-test.true c.index-entries-at.is c.loop-at.invariant.1,
      next,
      kept-next (opening_of c.args.kind c.args.locked) c.args.entries.now c.loop-at.at c.loop-at.maps.items (after c.loop-at.state c.index-entries-at.result.what) c.loop-at.invariant.3 next,
    )

pub returns : goal.returns
returns c =
    let past = c.loop-at-test.false in
    let within = c.loop-at.auto.at-end in
    let end : c.loop-at.at ≡ length c.args.entries.now = omega (arith, past, within) in
    record {
      glances = ends-at c.loop-at.glances (glances_from (opening_of c.args.kind c.args.locked) c.args.entries.now) c.loop-at.state c.args.entries.now c.loop-at.at c.loop-at-test.false c.loop-at.invariant.1;
      kept = subst (λ n. AreKept (opening_of c.args.kind c.args.locked) c.args.entries.now n c.loop-at.maps.items) end c.loop-at.invariant.3;
    }
