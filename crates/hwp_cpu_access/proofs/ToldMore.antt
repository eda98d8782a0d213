-- What a step of an instruction adds to the lines that it tells.
use Rattle.std.proofs.Common.{◌≡◌, ◌⊎◌, inl, inr, ℕ, ◌+◌, ◌≤◌, ◌&&◌, Bool, true, false, List, [], ◌++◌, Option, Some, None, is_some, length, map, append-nil, refl, sym, ap, ◌∙◌, subst, arith}
use Rattle.std.proofs.lemmas.List.{length-append, length-map}
use Rattle.hwp_fault.specs.hwp_geom.declared.Frame.{Frame}
use Rattle.hwp_fault.specs.hwp_geom.declared.Layout.{Layout}
use Rattle.hwp_fault.specs.hwp_geom.declared.Thread.{Thread}
use Rattle.hwp_fault.specs.hwp_geom.declared.Who.{Who}
use Rattle.hwp_fault.specs.hwp_page.History.{BodyValue}
use Rattle.hwp_fault.specs.hwp_core_rule.declared.Made.{Made}
use Rattle.hwp_fault.specs.hwp_core_rule.declared.Step.{Step}
use Rattle.hwp_fault.specs.hwp_core_rule.declared.View.{View}
use Rattle.hwp_fault.specs.hwp_core_rule.declared.Turn.{Turn}
use Rattle.hwp_fault.specs.hwp_core_rule.Calls.{IsOnTurn, Steps, logs}
use Rattle.hwp_fault.proofs.of_hwp_core_rule.tasks.StepLeaves.{on-turn-after}
use Rattle.hwp_fault.specs.declared.Access.{Access}
use Rattle.hwp_fault.specs.declared.AccessAnswer.{AccessAnswer}
use Rattle.hwp_fault.specs.declared.AccessAnswer.TheVariants as access_answers
use Rattle.hwp_fault.specs.declared.Request.{Request}
use Rattle.hwp_fault.specs.Accesses as accesses
use Rattle.hwp_fault.proofs.AccessLaws.{answered as access-answered, stays as access-stays}
use Rattle.hwp_fault.proofs.FaultAdds.{access-owes}
use Rattle.hwp_claim.specs.hwp_banks.Banks.{Banks}
use Rattle.hwp_claim.specs.hwp_banks.Events.{bank_count}
use Rattle.hwp_claim.specs.hwp_severity.Handling.{has_stop}
use Rattle.hwp_claim.specs.declared.EventOutcome.{EventOutcome}
use Rattle.hwp_claim.specs.declared.Handler.{Handler}
use Rattle.hwp_claim.specs.declared.Held.{Held}
use Rattle.hwp_claim.specs.declared.handler.HandlerAt.{HandlerAt}
use Rattle.hwp_claim.specs.declared.handler.HandlerAt.TheVariants as handler_at
use Rattle.hwp_claim.specs.Checks.{Check, left_by, restarting, with_own}
use Rattle.hwp_claim.specs.Events.{held_in}
use Rattle.hwp_claim.specs.Fits as handler_fits
use Rattle.hwp_claim.specs.Fits.{AreTold, events_of}
use Rattle.hwp_claim.specs.Handlers as handlers
use Rattle.hwp_claim.specs.Told.{first_signal, halts, has_kept, was_poisoned}
use Rattle.hwp_claim.proofs.EventTells.{events-stay, kept}
use Rattle.hwp_claim.proofs.HandlerLaws.{begins-fit, stays as handler-stays}
use Rattle.hwp_cpu_access.specs.Fits.{FitsAt, FitsBehind, HasHandler, IsAccessing, banks_at}
use Rattle.hwp_cpu_access.specs.Instructions.{AfterAccessBy, BeginsCheck, Follows, FollowsAt, after_handler, after_handler_by, bare, bare_at, emptied, going_on, handler_of, left_to_do, pause, plan, plan_at, put, put_at}
use Rattle.hwp_cpu_access.specs.declared.instruction.Instruction.{Instruction}
use Rattle.hwp_cpu_access.specs.declared.instruction.InstructionAt.{InstructionAt}
use Rattle.hwp_cpu_access.specs.declared.instruction.InstructionAt.TheVariants as at
use Rattle.hwp_cpu_access.specs.declared.instruction.Pause.{Pause}
use Rattle.hwp_cpu_access.proofs.InstructionLaws.{left-three, own-three}

-- these lines are told of a machine check of the command that is over: they are of the events that its banks held, with the instruction's
-- own event, and rightly told
pub record TellsOf (layout : Layout) (view : View) (i : Instruction) (checks : List Check) (more : List EventOutcome) : Type 0 where
  pub frame : Frame
  pub events : map (λ (t : EventOutcome). t.held) more ≡ held_in (restarting i.mode) (with_own i.origin frame i.request.line (left_by i.before.value checks))
  pub held_back : Bool
  pub told : AreTold layout view i.request.who (Some i.request.thread) held_back more

-- the lines of one machine check more, behind these: the instruction pauses behind it, or one of its events stopped the machine, or the
-- machine check kept nothing or the processor collects nothing
pub record TellsMore (layout : Layout) (view : View) (i : Instruction) (checks : List Check) (after : Instruction) : Type 0 where
  pub more : List EventOutcome
  pub told_is : after.lines.told ≡ i.lines.told ++ more
  pub few : length more ≤ bank_count
  pub of_check : TellsOf layout view i checks more
  pub next : (is_some (pause after) ≡ true) ⊎ ((halts more ≡ true) ⊎ (has_kept more && i.collects ≡ false))

-- no line more, or those of one machine check
abbrev pub Tells : Layout → View → Instruction → List Check → Instruction → Type 0
Tells layout view i checks after = (after.lines.told ≡ i.lines.told) ⊎ TellsMore layout view i checks after

-- a machine check of the command, which goes on or is over
pub record IsOwnCheck (layout : Layout) (view : View) (i : Instruction) (checks : List Check) (frame : Frame) (h : Handler) : Type 0 where
  pub handler : handler_fits.Fits layout view h
  pub own : h.who ≡ i.request.who
  pub thread_is : h.thread ≡ Some i.request.thread
  pub events : events_of h.events ≡ held_in (restarting i.mode) (with_own i.origin frame i.request.line (left_by i.before.value checks))

module _ {layout : Layout} {view : View} (i : Instruction) {checks : List Check} {frame : Frame} {h : Handler} (has : IsOwnCheck layout view i checks frame h) where
  few-told : length h.events.told ≤ bank_count
  few-told =
      let all : length (events_of h.events) ≡ length (map (λ (t : EventOutcome). t.held) h.events.told) + length h.events.left = length-append (map (λ (t : EventOutcome). t.held) h.events.told) h.events.left in
      let same : length (map (λ (t : EventOutcome). t.held) h.events.told) ≡ length h.events.told = length-map h.events.told (λ (t : EventOutcome). t.held) in
      let most : length (events_of h.events) ≤ bank_count = has.handler.found.few in
      omega (arith, all, same, most)

  tells-of : h.events.left ≡ [] → TellsOf layout view i checks h.events.told
  tells-of none = record {
    frame = frame;
    events = sym (append-nil (map (λ (t : EventOutcome). t.held) h.events.told)) ∙ ap (λ (l : List Held). map (λ (t : EventOutcome). t.held) h.events.told ++ l) (sym none) ∙ has.events;
    held_back = h.stops;
    told = subst (λ (w : Who). AreTold layout view w (Some i.request.thread) h.stops h.events.told) has.own (subst (λ (t : Option Thread). AreTold layout view h.who t h.stops h.events.told) has.thread_is has.handler.told);
  }

  -- what follows it, of an instruction with the same lines
  module _ (j : Instruction) (same : j.lines.told ≡ i.lines.told) (collects : j.collects ≡ i.collects) where
    abbrev Next : Instruction → Type 0
    Next after = (is_some (pause after) ≡ true) ⊎ ((halts h.events.told ≡ true) ⊎ (has_kept h.events.told && i.collects ≡ false))

    goes-next : (kept : Bool) (p : Pause) → has_kept h.events.told && i.collects ≡ kept → Next (record j { at = going_on j.request kept p })
    goes-next true p is = inl refl
    goes-next false p is = inr (inr is)

    over-tells : h.events.left ≡ [] → (stopped : Bool) → (stopped ≡ true → halts h.events.told ≡ true) → Tells layout view i checks (after_handler_by j frame h (Some stopped))
    over-tells none stopped halted = inr (record { more = h.events.told; told_is = ap (λ (l : List EventOutcome). l ++ h.events.told) same; few = few-told; of_check = tells-of none; next = which stopped halted })
      where
        which : (b : Bool) → (b ≡ true → halts h.events.told ≡ true) → Next (after_handler_by j frame h (Some b))
        which true is = inr (inl (is refl))
        which false is = goes-next (has_kept h.events.told && j.collects) (left_to_do (first_signal h.events.told) frame (was_poisoned frame h.events.told)) (ap (λ (b : Bool). has_kept h.events.told && b) (sym collects))

    handler-tells : Tells layout view i checks (after_handler j frame h)
    handler-tells = which h.at has.handler.at
      where
        which : (x : HandlerAt) → handler_fits.FitsAt layout view h.who h.thread h.stops h.events x → Tells layout view i checks (after_handler_by j frame h (handlers.answer_at x))
        which (handler_at.Over stopped) over = over-tells over.0.none_left stopped (λ is. over.0.halts_is ∙ is)
        which handler_at.Stop over = inl same
        which (handler_at.Fail f) over = inl same
        which handler_at.GaveUp over = inl same

module _ {past : List Made} {earlier : List Check} (layout : Layout) (old new : View) (i : Instruction) (step : Step) (found : ℕ) (got : Option BodyValue) (fits : FitsBehind past earlier layout old i) where
  begun-tells : (frame : Frame) (after : Instruction) → i.banks ≡ left_by i.before.value (earlier ++ fits.checks) → IsOnTurn new i.request.who → handler_fits.IsAtRest new → BeginsCheck layout (bare i) frame after → Tells layout new i (earlier ++ fits.checks) after
  begun-tells frame after banks_are on rest (inl refused) = inl (ap (λ (x : Instruction). x.lines.told) refused)
  begun-tells frame after banks_are on rest (inr (spare, room, is)) = subst (Tells layout new i (earlier ++ fits.checks)) (sym is) (handler-tells i own (emptied (bare i) spare) refl refl)
    where
      own : IsOwnCheck layout new i (earlier ++ fits.checks) frame (handler_of layout i frame)
      own = record {
        handler = begins-fit layout new i.alloc i.request.who (Some i.request.thread) (restarting i.mode) (with_own i.origin frame i.request.line i.banks) (own-three i frame i.banks (ap length banks_are ∙ left-three i.before.value (earlier ++ fits.checks) fits.three)) on fits.sound rest;
        own = refl;
        thread_is = refl;
        events = events-stay layout i.alloc i.request.who (Some i.request.thread) (has_stop (restarting i.mode) (with_own i.origin frame i.request.line i.banks)) (held_in (restarting i.mode) (with_own i.origin frame i.request.line i.banks)) []
            ∙ ap (λ (b : Banks). held_in (restarting i.mode) (with_own i.origin frame i.request.line b)) banks_are;
      }

  access-tells : (a : Access) → accesses.FitsFrom past layout new a → i.banks ≡ left_by i.before.value (earlier ++ fits.checks) → IsOnTurn new i.request.who → new.owed.losses ≡ [] → (o : Option AccessAnswer) → accesses.answer a ≡ o → (after : Instruction) → AfterAccessBy layout (bare i) a o after → Tells layout new i (earlier ++ fits.checks) after
  access-tells a has banks_are on paid (Some (access_answers.Checked frame place)) is after next =
      begun-tells frame after banks_are on (record { hand_is = (access-answered layout new a (access_answers.Checked frame place) has is).hand_is; paid = paid }) next
  access-tells a has banks_are on paid None is after next = inl (ap (λ (x : Instruction). x.lines.told) next)
  access-tells a has banks_are on paid (Some (access_answers.Value word place)) is after next = inl (ap (λ (x : Instruction). x.lines.told) next)
  access-tells a has banks_are on paid (Some (access_answers.Stored place)) is after next = inl (ap (λ (x : Instruction). x.lines.told) next)
  access-tells a has banks_are on paid (Some (access_answers.Sigbus place)) is after next = inl (ap (λ (x : Instruction). x.lines.told) next)
  access-tells a has banks_are on paid (Some access_answers.NoFrame) is after next = inl (ap (λ (x : Instruction). x.lines.told) next)
  access-tells a has banks_are on paid (Some (access_answers.Gone page)) is after next = inl (ap (λ (x : Instruction). x.lines.told) next)
  access-tells a has banks_are on paid (Some access_answers.Stopped) is after next = inl (ap (λ (x : Instruction). x.lines.told) next)

  access-went : (a : Access) → i.at ≡ at.Access a → IsAccessing past layout old i (earlier ++ fits.checks) a → accesses.plan a ≡ Some step → Steps layout i.request.who step (logs (accesses.put a)) old new found got
      → (after : Instruction) (turn : Turn) → FollowsAt layout (bare i) (bare_at (at.Access a)) found got after turn → Tells layout new i (earlier ++ fits.checks) after
  access-went a at_is has e made after turn next =
      access-tells next.access (moved.1 next.access turn next.follows).0 (fits.banks_are ∙ ap (banks_at i.before.value (earlier ++ fits.checks)) at_is) (on-turn-after fits.on_turn made) (access-owes layout old new a step found got has.access e own ∙ has.paid) (accesses.answer next.access) refl after next.next_is
    where
      own : Steps layout a.request.who step (logs (accesses.put a)) old new found got
      own = subst (λ (r : Request). Steps layout r.who step (logs (accesses.put a)) old new found got) (sym has.own) made

      moved : accesses.Shows (accesses.bare a) found got × ((after : Access) (result : Turn) → accesses.Next layout (accesses.bare a) found got after result → accesses.FitsFrom past layout new after × (after.request.who.cpu ≡ a.request.who.cpu))
      moved = access-stays layout old new a step found got has.access e own

  handler-went : (frame : Frame) (h : Handler) → HasHandler past layout old i (earlier ++ fits.checks) frame h → handlers.plan h ≡ Some step → Steps layout i.request.who step (logs (handlers.put h)) old new found got
      → (after : Instruction) (turn : Turn) → FollowsAt layout (bare i) (bare_at (at.Handle frame h)) found got after turn → Tells layout new i (earlier ++ fits.checks) after
  handler-went frame h has e made after turn next = subst (Tells layout new i (earlier ++ fits.checks)) (sym next.next_is) (handler-tells i own (bare i) refl refl)
    where
      here : Steps layout h.who step (logs (handlers.put h)) old new found got
      here = subst (λ (w : Who). Steps layout w step (logs (handlers.put h)) old new found got) (sym has.own) made

      own : IsOwnCheck layout new i (earlier ++ fits.checks) frame next.handler
      own = let left = kept layout (handlers.bare h) found got next.handler turn next.follows in record {
        handler = ((handler-stays layout old new h step found got has.handler e here).1 next.handler turn next.follows).0;
        own = left.who ∙ has.own;
        thread_is = left.thread ∙ has.thread_is;
        events = left.events ∙ has.events;
      }

pub told-more : {past : List Made} {earlier : List Check} (layout : Layout) (old new : View) (i : Instruction) (step : Step) (found : ℕ) (got : Option BodyValue) (fits : FitsBehind past earlier layout old i) → plan i ≡ Some step → Steps layout i.request.who step (logs (put i)) old new found got
    → (after : Instruction) (turn : Turn) → Follows layout (bare i) found got after turn → Tells layout new i (earlier ++ fits.checks) after
told-more {past} {earlier} layout old new i step found got fits is made after turn follows = which i.at refl fits.at is made follows
  where
    which : (x : InstructionAt) → i.at ≡ x → FitsAt past layout old i (earlier ++ fits.checks) x → plan_at x ≡ Some step → Steps layout i.request.who step (logs (put_at x)) old new found got → FollowsAt layout (bare i) (bare_at x) found got after turn → Tells layout new i (earlier ++ fits.checks) after
    which (at.Access a) at_is has e by next = access-went layout old new i step found got fits a at_is has e by after turn next
    which (at.Handle frame h) at_is has e by next = handler-went layout old new i step found got fits frame h has.has e by after turn next
    which (at.LoadFrame frame) at_is has e by next = inl (ap (λ (x : Instruction). x.lines.told) next.0)
    which (at.LoadStop frame) at_is has e by next = inl (ap (λ (x : Instruction). x.lines.told) next.0)
    which at.GiveUp at_is has e by next = inl (ap (λ (x : Instruction). x.lines.told) next.0)
    which (at.Paused p) at_is has e by next = inl (ap (λ (x : Instruction). x.lines.told) next.0)
    which (at.Over answer) at_is has e by next = inl (ap (λ (x : Instruction). x.lines.told) next.0)
