use Rattle.std.proofs.Common.{ℕ, ◌*◌, ◌<◌, ◌≤◌, sym, ap, ◌∙◌, subst}
use Rattle.hwp_core_rule.specs.declared.Step.{Step}
use Rattle.hwp_table_words.specs.tlb.Rule.{frames_of}
use Rattle.hwp_table_words.specs.tlb.Steps.{shown_after}
use Rattle.hwp_table_words.specs.declared.follow.Follow.{Follow}
use Rattle.hwp_table_words.specs.declared.follow.Follow.TheVariants as follows
use Rattle.hwp_table_words.specs.Caches.{IsAlmostGuarded, IsListed}
use Rattle.hwp_table_words.specs.Seats.{mine_of}
use Rattle.hwp_table_words.proofs.Follows.{are-locked, guard-all, guard-bare, guard-still, is-load, locks-of}
use Rattle.hwp_table_words.proofs.Looked.{at-table}
use Rattle.hwp_table_words.proofs.caching.follow.Goals as goal

pub returns-then-ways-eq0-clause-guarded : goal.returns-then-ways-eq0-clause-guarded
returns-then-ways-eq0-clause-guarded g c = guard-bare g.W.Ways.ways c.args.layout.now.cpus (mine_of c.args.seat.now.me.0.known.mines) c.args.seat.now.me.0.caching (sym c.ways.ensures.value ∙ c.if-ways-eq0.true)

pub returns-in-Nothing-clause-guarded : goal.returns-in-Nothing-clause-guarded
returns-in-Nothing-clause-guarded g c =
    guard-still (g.W.Ways.ways * c.args.layout.now.cpus) c.args.layout.now.frames follows.Nothing (mine_of c.args.seat.now.me.0.known.mines) c.args.seat.now.me.0.caching (λ f none. none)
    (subst (λ (o : Follow). IsAlmostGuarded (g.W.Ways.ways * c.args.layout.now.cpus) c.args.layout.now.frames o (mine_of c.args.seat.now.me.0.known.mines) c.args.seat.now.me.0.caching) (sym c.follow_of.ensures ∙ c.in-Nothing.is) c.requires.guarded)

pub fill_loaded-requires-clause-at : goal.fill_loaded-requires-clause-at
fill_loaded-requires-clause-at g c =
    at-table g.W.Ways.ways c.args.layout.now c.args.sheet.now.key c.args.sheet.now.table_id c.args.seat.now.table_id c.args.seat.now.me c.args.order.now c.requires.seat (subst (λ (n : ℕ). n ≤ 16) c.ways.ensures.value c.ways.ensures.few)

pub fill_loaded-requires-clause-carries : goal.fill_loaded-requires-clause-carries
fill_loaded-requires-clause-carries g c = c.requires.seat.carries

pub fill_loaded-requires-clause-shown : goal.fill_loaded-requires-clause-shown
fill_loaded-requires-clause-shown g c =
    c.requires.shown ∙ ap (λ (t : Step). shown_after t c.args.found (frames_of (mine_of c.args.seat.now.me.0.known.mines).locks)) (is-load c.args.step.now c.args.found c.in-Fill.slot (sym c.follow_of.ensures ∙ c.in-Fill.is))

pub fill_loaded-requires-clause-guarded : goal.fill_loaded-requires-clause-guarded
fill_loaded-requires-clause-guarded g c =
    guard-still (g.W.Ways.ways * c.args.layout.now.cpus) c.args.layout.now.frames (follows.Fill c.in-Fill.slot) (mine_of c.args.seat.now.me.0.known.mines) c.args.seat.now.me.0.caching (λ f none. none)
    (subst (λ (o : Follow). IsAlmostGuarded (g.W.Ways.ways * c.args.layout.now.cpus) c.args.layout.now.frames o (mine_of c.args.seat.now.me.0.known.mines) c.args.seat.now.me.0.caching) (sym c.follow_of.ensures ∙ c.in-Fill.is) c.requires.guarded)

pub sweep_locked-requires-clause-at : goal.sweep_locked-requires-clause-at
sweep_locked-requires-clause-at g c =
    at-table g.W.Ways.ways c.args.layout.now c.args.sheet.now.key c.args.sheet.now.table_id c.args.seat.now.table_id c.args.seat.now.me c.args.order.now c.requires.seat (subst (λ (n : ℕ). n ≤ 16) c.ways.ensures.value c.ways.ensures.few)

pub sweep_locked-requires-clause-carries : goal.sweep_locked-requires-clause-carries
sweep_locked-requires-clause-carries g c = c.requires.seat.carries

pub sweep_locked-requires-clause-locked : goal.sweep_locked-requires-clause-locked
sweep_locked-requires-clause-locked g c =
    subst (λ (n : ℕ). 0 < n) (sym (locks-of c.args.seat.now.me c.requires.seat.one c.in-Sweep.frame.0)) (subst (λ (o : Follow). IsListed o (mine_of c.args.seat.now.me.0.known.mines)) (sym c.follow_of.ensures ∙ c.in-Sweep.is) c.requires.listed)

pub sweep_locked-requires-clause-guarded : goal.sweep_locked-requires-clause-guarded
sweep_locked-requires-clause-guarded g c =
    subst (λ (o : Follow). IsAlmostGuarded (g.W.Ways.ways * c.args.layout.now.cpus) c.args.layout.now.frames o (mine_of c.args.seat.now.me.0.known.mines) c.args.seat.now.me.0.caching) (sym c.follow_of.ensures ∙ c.in-Sweep.is) c.requires.guarded

pub sweep_all-requires-clause-at : goal.sweep_all-requires-clause-at
sweep_all-requires-clause-at g c =
    at-table g.W.Ways.ways c.args.layout.now c.args.sheet.now.key c.args.sheet.now.table_id c.args.seat.now.table_id c.args.seat.now.me c.args.order.now c.requires.seat (subst (λ (n : ℕ). n ≤ 16) c.ways.ensures.value c.ways.ensures.few)

pub sweep_all-requires-clause-locked : goal.sweep_all-requires-clause-locked
sweep_all-requires-clause-locked g c = are-locked c.args.layout.now c.args.seat.now.me c.args.order.now c.requires.seat.carries c.requires.seat.one

pub returns-in-SweepAll-clause-rest : goal.returns-in-SweepAll-clause-rest
returns-in-SweepAll-clause-rest g c = c.sweep_all.ensures.rest.rest

pub returns-in-SweepAll-clause-guarded : goal.returns-in-SweepAll-clause-guarded
returns-in-SweepAll-clause-guarded g c =
    guard-all c.args.layout.now c.args.seat.now.me c.args.order.now c.requires.seat.carries (g.W.Ways.ways * c.args.layout.now.cpus) c.sweep_all.new.seat.me c.sweep_all.ensures.rest
    (subst (λ (o : Follow). IsAlmostGuarded (g.W.Ways.ways * c.args.layout.now.cpus) c.args.layout.now.frames o (mine_of c.args.seat.now.me.0.known.mines) c.args.seat.now.me.0.caching) (sym c.follow_of.ensures ∙ c.in-SweepAll.is) c.requires.guarded) c.sweep_all.ensures.swept
