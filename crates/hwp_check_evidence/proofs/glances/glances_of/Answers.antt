use Rattle.std.proofs.Common.{◌≡◌, ℕ, ◌+◌, Bool, false, List, Some, get_or, slice_get, refl, ap, ◌∙◌, subst}
use Rattle.std.proofs.lemmas.List.{length_push}
use Rattle.std.proofs.lemmas.Option.{slice_get_read}
use Rattle.hwp_law.specs.hwp_geom.declared.PageKind.{PageKind}
use Rattle.hwp_law.specs.hwp_geom.declared.PageKind.TheVariants.{Anon}
use Rattle.hwp_law.specs.hwp_page.declared.Entry.{Entry}
use Rattle.hwp_check_evidence.specs.Glances.{IsPage}
use Rattle.hwp_check_evidence.proofs.MapLaws.{pages-next}
use Rattle.hwp_check_evidence.proofs.glances.glances_of.Goals as goal

pub loop-number-preserved : goal.loop-number-preserved
loop-number-preserved c =
    let there : slice_get c.args.pages.now c.loop-number.number ≡ Some c.index-pages-number.result = slice_get_read _ _ _ _ refl c.loop-number-test.true c.index-pages-number.is in
    let new : IsPage (get_or c.args.layout.now.pages c.loop-number.number Anon) (get_or c.args.layout.now.locked c.loop-number.number false) c.index-pages-number.result c.in_ok-page_glances.field-0 =
    subst (λ (kinds : List PageKind). IsPage (get_or kinds c.loop-number.number Anon) (get_or c.args.layout.now.locked c.loop-number.number false) c.index-pages-number.result c.in_ok-page_glances.field-0) c.as_slice-kinds.ensures
    (subst (λ (locked : Bool). IsPage (get_or c.as_slice-kinds.result.now c.loop-number.number Anon) locked c.index-pages-number.result c.in_ok-page_glances.field-0)
    (c.is_locked_at-locked.ensures ∙ ap (λ (flags : List Bool). get_or flags c.loop-number.number false) c.as_slice-flags.ensures)
    (subst (λ (list : List Entry). IsPage (get_or c.as_slice-kinds.result.now c.loop-number.number Anon) c.is_locked_at-locked.result list c.in_ok-page_glances.field-0) c.as_slice.ensures c.in_ok-page_glances.ensures)) in
    rw c.in_ok-push.ensures.items (
      length_push c.loop-number.all.items c.in_ok-page_glances.field-0 ∙ ap (λ (m : ℕ). m + 1) c.loop-number.invariant.0,
      pages-next c.args.layout.now c.args.pages.now c.loop-number.all.items c.loop-number.number c.index-pages-number.result c.in_ok-page_glances.field-0 c.loop-number.invariant.0 there new c.loop-number.invariant.1,
    )
