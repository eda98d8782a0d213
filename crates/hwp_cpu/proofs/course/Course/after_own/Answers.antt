use Rattle.std.proofs.Common.{rules, ◌∙◌, sym, ◌≡◌, ◌<◌, ◌==◌, ◌&&◌, ℕ, Bool, true, false, nat_lt, cond, List, Option, None, Some, drop, length, ap, subst, inr, refl}
use Rattle.std.proofs.lemmas.Bool.{eq-eqb, lt-ltb}
use Rattle.std.proofs.lemmas.Option.{none-some}
use Rattle.hwp_cpu_row.specs.hwp_geom.declared.Layout.{Layout}
use Rattle.hwp_cpu_row.specs.hwp_core_rule.declared.Turn.{Turn}
use Rattle.hwp_cpu_row.specs.hwp_claim.declared.EventOutcome.{EventOutcome}
use Rattle.hwp_cpu_row.specs.declared.Watching.{Watching}
use Rattle.hwp_cpu_row.specs.Dues.{DueValue, HasTaken}
use Rattle.hwp_cpu.specs.declared.course.Course.{Course}
use Rattle.hwp_cpu.specs.Courses.{AfterCollecting, AfterOwnBy, AfterRest, AfterRestBy, IsGoingOn, has_more, passed, rests}
use Rattle.hwp_cpu.proofs.course.Course.after_own.Goals as goal
use Rattle.hwp_cpu_command.specs.Jobs as jobs

at-rest : (b : Bool) (m : ℕ) → cond b None (Some m) ≡ None → b ≡ true
at-rest true m is = refl
at-rest false m is = absurd (none-some m (sym is))

-- it rests, and comes to this
rested : (layout : Layout) (c after : Course) (t u turn : Turn) → cond (rests c.own) None (Some (passed c.own c.noted)) ≡ None → AfterRest layout c after u → turn ≡ cond (jobs.pauses c.own) t u → AfterOwnBy layout c (rests c.own) t after turn
rested layout c after t u turn is rest same = subst (λ (b : Bool). AfterOwnBy layout c b t after turn) (sym (at-rest (rests c.own) (passed c.own c.noted) is)) (u, rest, same)

behind : (layout : Layout) (c after : Course) (u : Turn) (b : Bool) → has_more layout c ≡ b → AfterRestBy layout c b after u → AfterRest layout c after u
behind layout c after u b is rest = subst (λ (x : Bool). AfterRestBy layout c x after u) (sym is) rest

taken : (layout : Layout) (c : Course) (told : List EventOutcome) (w : Option Watching) (due : DueValue) → told ≡ jobs.told_of c.own → HasTaken layout (drop c.noted told) c.watching c.due w due → AfterCollecting layout c (record c { watching = w; noted = length told; due = due })
taken layout c told w due is took =
    (w, due, subst (λ (l : List EventOutcome). HasTaken layout (drop c.noted l) c.watching c.due w due) is took, ap (λ (l : List EventOutcome). record c { watching = w; noted = length l; due = due }) is)

more : (layout : Layout) (c : Course) (told : List EventOutcome) → told ≡ jobs.told_of c.own → c.noted < length told → layout.frames ≡ c.frames → has_more layout c ≡ true
more layout c told is some same =
    ap (λ (l : List EventOutcome). nat_lt c.noted (length l) && (layout.frames == c.frames)) (sym is)
    ∙ ap (λ (b : Bool). b && (layout.frames == c.frames)) (lt-ltb c.noted (length told) some)
    ∙ eq-eqb layout.frames c.frames same

none-more : (layout : Layout) (c : Course) (told : List EventOutcome) → told ≡ jobs.told_of c.own → (nat_lt c.noted (length told) && (layout.frames == c.frames)) ≡ false → has_more layout c ≡ false
none-more layout c told is none = ap (λ (l : List EventOutcome). nat_lt c.noted (length l) && (layout.frames == c.frames)) (sym is) ∙ none

pub returns-then-layout-self : goal.returns-then-layout-self
returns-then-layout-self c =
    let took : HasTaken c.args.layout.now (drop c.args.self.now.noted c.told-told.result.now) c.args.self.now.watching c.args.self.now.due c.take_notes.new.watching c.take_notes.new.due = search rules in
    rested c.args.layout.now c.args.self.now c.go_on.new.self c.args.turn c.go_on.result c.turned-then-layout-self.result
    (sym c.passed-passed.ensures.noted ∙ c.in_default.is)
    (behind c.args.layout.now c.args.self.now c.go_on.new.self c.go_on.result true
    (more c.args.layout.now c.args.self.now c.told-told.result.now c.told-told.ensures c.if-self-count.true c.if-layout-self.true)
    (inr (_, taken c.args.layout.now c.args.self.now c.told-told.result.now c.take_notes.new.watching c.take_notes.new.due c.told-told.ensures took, c.go_on.ensures)))
    (c.turned-then-layout-self.ensures ∙ ap (λ (b : Bool). cond b c.args.turn c.go_on.result) c.passed-passed.ensures.pauses)

pub returns : goal.returns
returns c =
    let same : c.else-self-count.self ≡ c.args.self.now = search rules in
    let none : (nat_lt c.args.self.now.noted (length c.told-told.result.now) && (c.args.layout.now.frames == c.args.self.now.frames)) ≡ false = search rules in
    rested c.args.layout.now c.args.self.now c.go_on-2.new.self c.args.turn c.go_on-2.result c.turned-2.result
    (sym c.passed-passed.ensures.noted ∙ c.in_default.is)
    (behind c.args.layout.now c.args.self.now c.go_on-2.new.self c.go_on-2.result false
    (none-more c.args.layout.now c.args.self.now c.told-told.result.now c.told-told.ensures none)
    (subst (λ (d : Course). IsGoingOn d c.go_on-2.new.self c.go_on-2.result) same c.go_on-2.ensures))
    (c.turned-2.ensures ∙ ap (λ (b : Bool). cond b c.args.turn c.go_on-2.result) c.passed-passed.ensures.pauses)
