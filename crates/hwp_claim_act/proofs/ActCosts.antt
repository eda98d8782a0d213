-- The law of the rank of `Act`, and what it begins and ends with.
use Rattle.std.proofs.Common.{◌≡◌, ℕ, ◌+◌, ◌<◌, ◌≤◌, Bool, true, false, cond, Option, Some, None, is_none, refl, sym, ap, ◌∙◌, subst, arith}
use Rattle.std.proofs.lemmas.Bool.{both_ways}
use Rattle.std.proofs.lemmas.Option.{none-some}
use Rattle.hwp_core.specs.hwp_geom.declared.Frame.{Frame}
use Rattle.hwp_core.specs.hwp_geom.declared.Layout.{Layout}
use Rattle.hwp_core.specs.hwp_geom.declared.Page.{Page}
use Rattle.hwp_core.specs.hwp_geom.declared.Thread.{Thread}
use Rattle.hwp_core.specs.hwp_geom.declared.Who.{Who}
use Rattle.hwp_core.specs.hwp_page.History.{BodyValue}
use Rattle.hwp_core.specs.hwp_core_rule.declared.Step.{Step}
use Rattle.hwp_core.specs.hwp_core_rule.declared.View.{View}
use Rattle.hwp_core.specs.hwp_core_rule.Lasting.{IsMild}
use Rattle.hwp_core.specs.hwp_core_rule.Words.{Words}
use Rattle.hwp_core.specs.hwp_core_rule.declared.Turn.{Turn}
use Rattle.hwp_core.specs.hwp_core_rule.Boards.{view_of}
use Rattle.hwp_core.specs.hwp_core_rule.Ranks.{IsRanked, is_waits, words_at, pass}
use Rattle.hwp_core.proofs.of_hwp_core_rule.tasks.StepRanks.{rank-of, steps-on}
use Rattle.hwp_core.specs.declared.give_up.GiveUp.{GiveUp}
use Rattle.hwp_core.specs.GiveUps as give_ups
use Rattle.hwp_core.proofs.GiveUpCosts.{give-up-falls, give-up-goes, give-up-mild, give-up-ranked, give-up-small}
use Rattle.hwp_core.specs.declared.clear.Clear.{Clear}
use Rattle.hwp_core.specs.Clears as clears
use Rattle.hwp_core.proofs.ClearLaws.{clear-mild, clear-small, clears-fall}
use Rattle.hwp_claim_act.specs.declared.abandon.Abandon.{Abandon}
use Rattle.hwp_claim_act.specs.declared.abandon.AbandonAt.{AbandonAt}
use Rattle.hwp_claim_act.specs.declared.abandon.AbandonAt.TheVariants as abandon_at
use Rattle.hwp_claim_act.specs.declared.act.Act.{Act}
use Rattle.hwp_claim_act.specs.declared.act.ActAt.{ActAt}
use Rattle.hwp_claim_act.specs.declared.act.ActAt.TheVariants as at
use Rattle.hwp_claim_act.specs.declared.failing.Entered.{Entered}
use Rattle.hwp_claim_act.specs.declared.read_policies.ReadPolicies.{ReadPolicies}
use Rattle.hwp_claim_act.specs.Abandons as abandons
use Rattle.hwp_claim_act.specs.Acting.{Fits, FitsAt, task as act-task}
use Rattle.hwp_claim_act.specs.Acts.{AfterRead, AfterReadAt, Enters, Follows, FollowsAt, Shows, ShowsAt, abandoned_at, after_abandon, after_clear, after_give_up, bare, bare_at, class, class_at, cost, cost_at, plan, plan_at, act_most}
use Rattle.hwp_claim_act.specs.Reads as reads
use Rattle.hwp_claim_act.proofs.AbandonLaws.{abandon-classes, abandon-falls, abandon-mild, abandon-small}
use Rattle.hwp_claim_act.proofs.ActLaws.{both}
use Rattle.hwp_claim_act.proofs.ReadLaws.{reads-fall, reads-mild, reads-small}

-- once the entry is made
clear-cost : (who : Who) (page : Page) (frame : Frame) (c : Clear) (entered : Entered) (w : Words) → cost_at (after_clear who page frame c entered) w ≤ clears.cost c w + 24
clear-cost who page frame c entered w = which (is_none c.next)
  where
    which : (b : Bool) → cost_at (cond b (at.Abandon (abandons.begin who page frame c.count entered.losses entered.failed entered.body)) (at.Clear c entered.losses entered.failed entered.body)) w ≤ clears.cost c w + 24
    which true = omega arith
    which false = omega arith

-- strictly less, where it had translations left
clear-cost-less : (who : Who) (page : Page) (frame : Frame) (c : Clear) (entered : Entered) (w : Words) (n : ℕ) → clears.cost c w < n → cost_at (after_clear who page frame c entered) w < n + 24
clear-cost-less who page frame c entered w n less = let k = clear-cost who page frame c entered w in omega (arith, k, less)

enters-cost : (who : Who) (page : Page) (frame : Frame) (required : Option Thread) (body : BodyValue) (r : ReadPolicies) (w : Words) (y : ActAt) → Enters who page frame required body r.seen.items y → cost_at y w ≤ pass + 16
enters-cost who page frame required body r w y is = subst (λ (x : ActAt). cost_at x w ≤ pass + 16) (sym is.next_is) (let k = clear-cost who page frame is.clear is.entered w in let few = clear-small w is.clear in omega (arith, k, few))

after-read-cost : (who : Who) (page : Page) (frame : Frame) (r : ReadPolicies) (w : Words) (n : ℕ) (y : ActAt) → reads.cost r < n → AfterRead who page frame r y → cost_at y w < n + (pass + 17)
after-read-cost who page frame r w n y less after = which r.next refl after
  where
    which : (o : Option Thread) → r.next ≡ o → AfterReadAt who page frame r o y → cost_at y w < n + (pass + 17)
    which (Some thread) is after = subst (λ (x : ActAt). cost_at x w < n + (pass + 17)) (sym after) (omega (arith, less))
    which None is after = let k = enters-cost who page frame r.required r.body r w y after in omega (arith, k)

abandon-cost : (x : Abandon) (w : Words) → cost_at (after_abandon x) w ≤ abandons.cost x
abandon-cost x w = which x.at refl
  where
    which : (z : AbandonAt) → x.at ≡ z → cost_at (abandoned_at x z) w ≤ abandons.cost x
    which abandon_at.Over is = omega arith
    which abandon_at.SetCache is = omega arith
    which abandon_at.SetOwner is = omega arith
    which (abandon_at.Lose file) is = omega arith
    which (abandon_at.Kill number process) is = omega arith
    which abandon_at.PutRef is = omega arith
    which abandon_at.Retire is = omega arith
    which abandon_at.UnlockPage is = omega arith

give-up-cost : (g : GiveUp) (w : Words) → cost_at (after_give_up g) w ≤ give_ups.cost g w
give-up-cost g w = which (is_none (give_ups.plan g))
  where
    which : (b : Bool) → cost_at (cond b (at.Over None) (at.GiveUp g)) w ≤ give_ups.cost g w
    which true = omega arith
    which false = omega arith

-- ---- each turn lowers the cost

pub act-falls : (layout : Layout) (view : View) (w now : Words) (a : Act) (step : Step) (found : ℕ) (next : Act) (turn : Turn) → Fits layout view a → plan a ≡ Some step → Shows (bare a) found → Follows (bare a) found next turn → cost next now < cost a w
act-falls layout view w now a step found next turn fits is shows follows = which a.at fits.at is shows follows.1
  where
    which : (x : ActAt) → FitsAt layout view a.who a.page a.frame x → plan_at x ≡ Some step → ShowsAt (bare_at x) found → FollowsAt a.who a.page a.frame (bare_at x) found next.at turn → cost_at next.at now < cost_at x w
    which (at.Read r) has e shows (is, same) = after-read-cost a.who a.page a.frame is.after now (reads.cost r) next.at (reads-fall layout view r is.after found has.read e is.follows) is.next_is
    which (at.Clear c losses failed body) has e shows (is, same) = subst (λ (x : ActAt). cost_at x now < clears.cost c w + 24) (sym is.next_is)
        (clear-cost-less a.who a.page a.frame is.after (record { body = body; losses = losses; failed = failed }) now (clears.cost c w) (clears-fall c is.after w now e is.follows shows))
    which (at.Abandon x) has e shows (is, same) = subst (λ (y : ActAt). cost_at y now < abandons.cost x) (sym is) (let k = abandon-cost (abandons.next (abandons.bare x)) now in let less = abandon-falls layout view x has.abandon e in omega (arith, k, less))
    which (at.GiveUp g) has e shows (is, same) = subst (λ (y : ActAt). cost_at y now < give_ups.cost g w) (sym is) (let k = give-up-cost (give_ups.next (give_ups.bare g) found) now in let less = give-up-falls w now g step found e in omega (arith, k, less))
    which (at.Over failed) has e shows follows = absurd (none-some step e)

pub act-small : (w : Words) (a : Act) → cost a w ≤ act_most
act-small w a = which a.at
  where
    which : (x : ActAt) → cost_at x w ≤ act_most
    which (at.Read r) = let few = reads-small r in omega (arith, few)
    which (at.Clear c losses failed body) = let few = clear-small w c in omega (arith, few)
    which (at.Abandon x) = let few = abandon-small x in omega (arith, few)
    which (at.GiveUp g) = let few = give-up-small w g in omega (arith, few)
    which (at.Over failed) = omega arith

act-classes : (a : Act) → (1 ≤ class a) × (class a ≤ 4)
act-classes a = which a.at
  where
    which : (x : ActAt) → (1 ≤ class_at x) × (class_at x ≤ 4)
    which (at.Read r) = (omega arith, omega arith)
    which (at.Clear c losses failed body) = (omega arith, omega arith)
    which (at.Abandon x) = abandon-classes x
    which (at.GiveUp g) = give-up-ranked.classes g
    which (at.Over failed) = (omega arith, omega arith)

-- no turn waits
pub act-goes : (a : Act) (found : ℕ) (next : Act) (turn : Turn) → Follows (bare a) found next turn → is_waits turn ≡ false
act-goes a found next turn follows = which a.at follows.1
  where
    which : (x : ActAt) → FollowsAt a.who a.page a.frame (bare_at x) found next.at turn → is_waits turn ≡ false
    which (at.Read r) (is, same) = ap is_waits same
    which (at.Clear c losses failed body) (is, same) = ap is_waits same
    which (at.Abandon x) (is, same) = ap is_waits same
    which (at.GiveUp g) (is, same) = ap is_waits same ∙ give-up-goes (give_ups.bare g)
    which (at.Over failed) (is, same) = ap is_waits same

-- none of its steps poisons a frame or takes its poison back
pub act-mild : (a : Act) (step : Step) → plan a ≡ Some step → IsMild step
act-mild a step is = which a.at is
  where
    which : (x : ActAt) → plan_at x ≡ Some step → IsMild step
    which (at.Read r) e = reads-mild r step e
    which (at.Clear c losses failed body) e = clear-mild c step e
    which (at.Abandon x) e = abandon-mild x step e
    which (at.GiveUp g) e = give-up-mild g step e
    which (at.Over failed) e = absurd (none-some step e)

pub act-ranked : IsRanked act-task
act-ranked = rank-of act-task (λ s. refl) act-classes (λ layout a seat s rule fits. let few : _ = act-small (words_at layout a) s in omega (arith, few))
    (λ layout seat a b s t turn made goes. act-falls layout (view_of a seat) (words_at layout a) (words_at layout b) s made.step made.found t turn made.fits made.planned
    (both layout (view_of a seat) _ s made.step made.found made.got made.fits made.planned (steps-on made)).0 made.follows)
    (λ layout seat a b s t turn made is quiet. absurd (both_ways true (sym is ∙ act-goes s made.found t turn made.follows) refl))
    (λ s. refl) act-mild
