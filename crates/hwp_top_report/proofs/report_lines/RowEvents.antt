-- The lines of a frame's record that a command's events caused, and its event lines for the frame that tell a result, are of the same
-- failures, in the same order.
use Rattle.std.proofs.Common.{◌≡◌, ℕ, zero, suc, ◌+◌, ◌<◌, ◌==◌, ◌&&◌, Bool, true, false, cond, List, [], ◌∷◌, ◌++◌, Option, Some, None, if◌then◌else◌, is_some, filter, filter_map, map, option_map, refl, sym, ap, ◌∙◌, subst, arith, true≢false}
use Rattle.std.specs.List.{cons_option, count_by, sum_by, zip}
use Rattle.std.proofs.lemmas.Bool.{eq-eqb, eqb-true, false_from_ne_true}
use Rattle.std.proofs.lemmas.List.{append-nil}
use Rattle.std.proofs.lemmas.List.Elements.{filter-append}
use Rattle.std.proofs.lemmas.List.Sums.{sum_by-cons}
use Rattle.std.proofs.lemmas.Option.{none-some, same_Some}
use Rattle.hwp_law_served.specs.hwp_geom.declared.Frame.{Frame}
use Rattle.hwp_law_served.specs.hwp_geom.declared.Who.{Who}
use Rattle.hwp_law_served.specs.hwp_banks.Addresses.{frame_at}
use Rattle.hwp_law_served.specs.hwp_page.declared.Situation.{Situation}
use Rattle.hwp_law_served.specs.hwp_page.Situations.{outcome_of}
use Rattle.hwp_law_served.specs.hwp_core_rule.Lists.{EachMember}
use Rattle.hwp_law_served.specs.hwp_core_rule.Words.{sum_below}
use Rattle.hwp_law_served.proofs.of_hwp_core_rule.CountsBelow.{below-swap}
use Rattle.hwp_law_served.specs.hwp_report_text.declared.Acted.{Acted}
use Rattle.hwp_law_served.specs.hwp_report_text.declared.EventLine.{EventLine}
use Rattle.hwp_law_served.specs.hwp_report_text.declared.How.TheVariants as hows
use Rattle.hwp_law_served.specs.hwp_report_text.declared.MarkLine.{MarkLine}
use Rattle.hwp_law_served.specs.hwp_report_text.declared.MarkLine.TheVariants as marks
use Rattle.hwp_law_served.specs.hwp_law.Pairings.{is_urgent, situation_number}
use Rattle.hwp_law_served.specs.hwp_law.Records.{is_by_hardware, line_results, mark_results, result_of}
use Rattle.hwp_law_served.specs.hwp_claim.declared.Found.{Found}
use Rattle.hwp_law_served.specs.hwp_cpu_row.declared.FrameChange.{FrameChange}
use Rattle.hwp_law_served.specs.hwp_cpu_row.declared.FrameChange.TheVariants as owns
use Rattle.hwp_law_served.specs.hwp_cpu_row.declared.Offlining.{Offlining}
use Rattle.hwp_law_served.specs.hwp_cpu_row.declared.Row.{Row}
use Rattle.hwp_law_served.specs.hwp_claim.declared.EventOutcome.{EventOutcome}
use Rattle.hwp_law_served.specs.hwp_claim.Told.{frame_of}
use Rattle.hwp_law_served.specs.Rows.{Note, act_note, lines_of, note_by, note_of, own_note, row_notes, told_note}
use Rattle.hwp_law_served.specs.hwp_cpu_row.Acts.{Offlined, Told, acts, acts_from, event_at}
use Rattle.hwp_law_served.proofs.Sums.{below-one, sum-same}
use Rattle.hwp_law_served.proofs.lines.ToldRight.{found_act}
use Rattle.hwp_top_report.proofs.marks.RowNotes.{lines-append, through-map}

-- a failure that came to a result, with what was told of it
abbrev pub Came : Type 0
Came = EventOutcome × Found

abbrev pub found_in : Option Found → Bool → EventOutcome → List Came → List Came
found_in None here t rest = rest
found_in (Some found) here t rest = cond here ((t, found) ∷ rest) rest

-- those of a frame
abbrev pub found_on : ℕ → List EventOutcome → List Came
found_on f [] = []
found_on f (t ∷ ts) = found_in t.found (frame_at t.held.event.addr == f) t (found_on f ts)

-- what is told of one in the frame's record, and in the command's events
abbrev pub hardware_line : Who → Came → MarkLine
hardware_line who c = marks.Poisoned c.1.cycle who (hows.Failure true c.1.situation (outcome_of c.1.situation))

abbrev pub came_line : ℕ → Came → EventLine
came_line seq c = event_at seq c.0

map-cond : {A B : Type 0} (g : A → B) (x : A) (l : List A) (b : Bool) → map g (cond b (x ∷ l) l) ≡ cond b (g x ∷ map g l) (map g l)
map-cond g x l true = refl
map-cond g x l false = refl

-- each is of an event that was told
came-so : (P : EventOutcome → Type 0) (f : ℕ) (told : List EventOutcome) → EachMember P told → EachMember (λ (c : Came). P c.0 × (c.0.found ≡ Some c.1) × (frame_at c.0.held.event.addr ≡ f)) (found_on f told)
came-so P f [] each = λ i c there. absurd (none-some c there)
came-so P f (t ∷ ts) each = which t.found (frame_at t.held.event.addr == f) refl refl (came-so P f ts (λ i x there. each (suc i) x there))
  where
    which : (o : Option Found) (b : Bool) → t.found ≡ o → (frame_at t.held.event.addr == f) ≡ b → EachMember (λ (c : Came). P c.0 × (c.0.found ≡ Some c.1) × (frame_at c.0.held.event.addr ≡ f)) (found_on f ts)
        → EachMember (λ (c : Came). P c.0 × (c.0.found ≡ Some c.1) × (frame_at c.0.held.event.addr ≡ f)) (found_in o b t (found_on f ts))
    which None b is at rest = rest
    which (Some found) false is at rest = rest
    which (Some found) true is at rest = first
      where
        first : EachMember (λ (c : Came). P c.0 × (c.0.found ≡ Some c.1) × (frame_at c.0.held.event.addr ≡ f)) ((t, found) ∷ found_on f ts)
        first zero c there = subst (λ (x : Came). P x.0 × (x.0.found ≡ Some x.1) × (frame_at x.0.held.event.addr ≡ f)) (same_Some (t, found) c there) (each 0 t refl, is, eqb-true (frame_at t.held.event.addr) f at)
        first (suc i) c there = rest i c there

-- ---- in the record

-- by what was done to a frame otherwise there is none
change-lines : (frame : Frame) (who : Who) (change : Option FrameChange) (rest : List Note) → filter is_by_hardware (lines_of frame (cons_option (own_note who change) rest)) ≡ filter is_by_hardware (lines_of frame rest)
change-lines frame who None rest = refl
change-lines frame who (Some change) rest = which change ((note_by who change).0.0 == frame.0)
  where
    which : (c : FrameChange) (b : Bool) → filter is_by_hardware (map (λ (n : Note). n.1) (cond b (note_by who c ∷ filter (λ (n : Note). n.0.0 == frame.0) rest) (filter (λ (n : Note). n.0.0 == frame.0) rest))) ≡ filter is_by_hardware (lines_of frame rest)
    which c false = refl
    which (owns.Failed f found) true = refl
    which (owns.Offlined f cycle true) true = refl
    which (owns.Offlined f cycle false) true = refl
    which (owns.Revived f cycle) true = refl

-- by an event there is one, where it made its frame fail
event-lines : (frame : Frame) (who : Who) (t : EventOutcome) (rest : List Note) (came : List Came) → filter is_by_hardware (lines_of frame rest) ≡ map (hardware_line who) came
    → filter is_by_hardware (lines_of frame (cons_option (told_note who t) rest)) ≡ map (hardware_line who) (found_in t.found (frame_at t.held.event.addr == frame.0) t came)
event-lines frame who t rest came same = which t.found
  where
    which : (o : Option Found) → filter is_by_hardware (lines_of frame (cons_option (option_map (note_of who true (frame_of t.held)) o) rest)) ≡ map (hardware_line who) (found_in o (frame_at t.held.event.addr == frame.0) t came)
    which None = same
    which (Some found) =
        let here : Bool = frame_at t.held.event.addr == frame.0 in
        let of : List Note = filter (λ (n : Note). n.0.0 == frame.0) rest in
        through-map (λ (n : Note). n.1) is_by_hardware (note_of who true (frame_of t.held) found) of here
        ∙ ap (λ (l : List MarkLine). cond here (hardware_line who (t, found) ∷ l) l) same
        ∙ sym (map-cond (hardware_line who) (t, found) came here)

acts-lines : (frame : Frame) (who : Who) (n : ℕ) (told : List EventOutcome) (offlined : List Offlining) → filter is_by_hardware (lines_of frame (filter_map (act_note who) (acts_from n told offlined))) ≡ map (hardware_line who) (found_on frame.0 told)
acts-lines frame who n [] [] = refl
acts-lines frame who n (t ∷ ts) [] = event-lines frame who t (filter_map (act_note who) (map Told ts)) (found_on frame.0 ts) (acts-lines frame who n ts [])
acts-lines frame who n [] (o ∷ os) = change-lines frame who o.change (filter_map (act_note who) (acts_from n [] os)) ∙ acts-lines frame who n [] os
acts-lines frame who n (t ∷ ts) (o ∷ os) = which (o.told == n) (acts-lines frame who n (t ∷ ts) os) (acts-lines frame who (n + 1) ts (o ∷ os))
  where
    which : (b : Bool) → filter is_by_hardware (lines_of frame (filter_map (act_note who) (acts_from n (t ∷ ts) os))) ≡ map (hardware_line who) (found_on frame.0 (t ∷ ts))
        → filter is_by_hardware (lines_of frame (filter_map (act_note who) (acts_from (n + 1) ts (o ∷ os)))) ≡ map (hardware_line who) (found_on frame.0 ts)
        → filter is_by_hardware (lines_of frame (filter_map (act_note who) (if b then Offlined o ∷ acts_from n (t ∷ ts) os else Told t ∷ acts_from (n + 1) ts (o ∷ os)))) ≡ map (hardware_line who) (found_on frame.0 (t ∷ ts))
    which true more rest = change-lines frame who o.change (filter_map (act_note who) (acts_from n (t ∷ ts) os)) ∙ more
    which false more rest = event-lines frame who t (filter_map (act_note who) (acts_from (n + 1) ts (o ∷ os))) (found_on frame.0 ts) rest

pub row-lines : (frame : Frame) (who : Who) (row : Row) → filter is_by_hardware (lines_of frame (row_notes who row)) ≡ map (hardware_line who) (found_on frame.0 row.told)
row-lines frame who row =
    let did : List Note = filter_map (act_note who) (acts row.told row.offlined) in
    let own : List Note = cons_option (own_note who row.own) [] in
    ap (filter is_by_hardware) (lines-append frame did own) ∙ filter-append is_by_hardware (lines_of frame did) (lines_of frame own)
    ∙ ap (λ (l : List MarkLine). filter is_by_hardware (lines_of frame did) ++ l) (change-lines frame who row.own [])
    ∙ append-nil (filter is_by_hardware (lines_of frame did))
    ∙ acts-lines frame who 0 row.told row.offlined

-- ---- among the events

abbrev pub TellsResult : EventOutcome → Type 0
TellsResult t = result_of t.acted ≡ option_map found_act t.found

flip : (a b : ℕ) → (a == b) ≡ (b == a)
flip a b = which (b == a) refl
  where
    which : (c : Bool) → (b == a) ≡ c → (a == b) ≡ (b == a)
    which true is = eq-eqb a b (sym (eqb-true b a is)) ∙ sym is
    which false is = false_from_ne_true (a == b) (λ same. let turned : (b == a) ≡ true = eq-eqb b a (sym (eqb-true a b same)) in true≢false (sym turned ∙ is)) ∙ sym is

pub row-results : (f seq : ℕ) (told : List EventOutcome) → EachMember TellsResult told → filter (λ (l : EventLine). (f == frame_at l.addr) && is_some (result_of l.acted)) (map (event_at seq) told) ≡ map (came_line seq) (found_on f told)
row-results f seq [] each = refl
row-results f seq (t ∷ ts) each =
    let at : ℕ = frame_at t.held.event.addr in
    let rest : List EventLine = filter (λ (l : EventLine). (f == frame_at l.addr) && is_some (result_of l.acted)) (map (event_at seq) ts) in
    ap (λ (b : Bool). cond (b && is_some (result_of t.acted)) (event_at seq t ∷ rest) rest) (flip f at)
    ∙ ap (λ (o : Option Acted). cond ((at == f) && is_some o) (event_at seq t ∷ rest) rest) (each 0 t refl)
    ∙ which t.found (at == f) rest (row-results f seq ts (λ i x there. each (suc i) x there))
  where
    which : (o : Option Found) (b : Bool) (rest : List EventLine) → rest ≡ map (came_line seq) (found_on f ts) → cond (b && is_some (option_map found_act o)) (event_at seq t ∷ rest) rest ≡ map (came_line seq) (found_in o b t (found_on f ts))
    which None true rest same = same
    which None false rest same = same
    which (Some found) true rest same = ap (λ (l : List EventLine). event_at seq t ∷ l) same
    which (Some found) false rest same = same

-- ---- the two

pub same-results : (who : Who) (seq f : ℕ) (told : List EventOutcome) → EachMember TellsResult told → mark_results (map (hardware_line who) (found_on f told)) ≡ line_results (map (came_line seq) (found_on f told))
same-results who seq f told each = same (found_on f told) (λ i c there. let so = came-so TellsResult f told each i c there in so.0 ∙ ap (option_map found_act) so.1)
  where
    same : (cs : List Came) → EachMember (λ (c : Came). result_of c.0.acted ≡ Some (found_act c.1)) cs → mark_results (map (hardware_line who) cs) ≡ line_results (map (came_line seq) cs)
    same [] all = refl
    same (c ∷ cs) all = ap (λ (l : List Acted). found_act c.1 ∷ l) (same cs (λ i x there. all (suc i) x there)) ∙ sym (ap (λ (o : Option Acted). cons_option o (line_results (map (came_line seq) cs))) (all 0 c refl))

-- the results that the record says are those of the failures
pub results-are : (who : Who) (cs : List Came) → mark_results (map (hardware_line who) cs) ≡ map (λ (c : Came). found_act c.1) cs
results-are who [] = refl
results-are who (c ∷ cs) = ap (λ (l : List Acted). found_act c.1 ∷ l) (results-are who cs)

-- ---- how many

-- what an event counts whose failure came to a result
abbrev pub weigh : (Came → ℕ) → EventOutcome → Option Found → ℕ
weigh W t None = 0
weigh W t (Some found) = W (t, found)

on-frame : (W : Came → ℕ) (f : ℕ) (told : List EventOutcome) → sum_by W (found_on f told) ≡ sum_by (λ (t : EventOutcome). cond (frame_at t.held.event.addr == f) (weigh W t t.found) 0) told
on-frame W f [] = refl
on-frame W f (t ∷ ts) =
    which t.found (frame_at t.held.event.addr == f) (on-frame W f ts) ∙ sym (sum_by-cons (λ (x : EventOutcome). cond (frame_at x.held.event.addr == f) (weigh W x x.found) 0) t ts)
  where
    which : (o : Option Found) (b : Bool) → sum_by W (found_on f ts) ≡ sum_by (λ (x : EventOutcome). cond (frame_at x.held.event.addr == f) (weigh W x x.found) 0) ts
        → sum_by W (found_in o b t (found_on f ts)) ≡ cond b (weigh W t o) 0 + sum_by (λ (x : EventOutcome). cond (frame_at x.held.event.addr == f) (weigh W x x.found) 0) ts
    which None true same = omega (arith, same)
    which None false same = omega (arith, same)
    which (Some found) true same = let all : sum_by W ((t, found) ∷ found_on f ts) ≡ W (t, found) + sum_by W (found_on f ts) = sum_by-cons W (t, found) (found_on f ts) in omega (arith, same, all)
    which (Some found) false same = omega (arith, same)

-- over all frames of the machine
pub on-frames : (W : Came → ℕ) (n : ℕ) (told : List EventOutcome) → EachMember (λ (t : EventOutcome). (found : Found) → t.found ≡ Some found → frame_at t.held.event.addr < n) told
    → sum_below (λ f. sum_by W (found_on f told)) n ≡ sum_by (λ (t : EventOutcome). weigh W t t.found) told
on-frames W n told within =
    ap (λ (g : ℕ → ℕ). sum_below g n) (λ k f. on-frame W f told k)
    ∙ below-swap (λ (f : ℕ) (t : EventOutcome). cond (frame_at t.held.event.addr == f) (weigh W t t.found) 0) told n
    ∙ sum-same (λ (t : EventOutcome). sum_below (λ f. cond (frame_at t.held.event.addr == f) (weigh W t t.found) 0) n) (λ (t : EventOutcome). weigh W t t.found) told (λ i t there. which t (t.found) (within i t there))
  where
    none : (b : Bool) → ◌≡◌ {A = ℕ} (cond b 0 0) 0
    none true = refl
    none false = refl

    which : (t : EventOutcome) (o : Option Found) → ((found : Found) → o ≡ Some found → frame_at t.held.event.addr < n) → sum_below (λ f. cond (frame_at t.held.event.addr == f) (weigh W t o) 0) n ≡ weigh W t o
    which t None within = ap (λ (g : ℕ → ℕ). sum_below g n) (λ k f. none (frame_at t.held.event.addr == f) k) ∙ zeros n
      where
        zeros : (n : ℕ) → sum_below (λ f. 0) n ≡ 0
        zeros zero = refl
        zeros (suc n) = let rest : sum_below (λ f. 0) n ≡ 0 = zeros n in omega (arith, rest)
    which t (Some found) within = below-one (frame_at t.held.event.addr) (W (t, found)) n (within found refl)

-- the event line beside a line of the record has row S9, and the line tells this situation
abbrev pub urgent_weight : Situation → Came → ℕ
urgent_weight situation c = cond ((situation_number c.1.situation == situation_number situation) && (c.0.held.grade.row == 9)) 1 0

pub urgent-counts : (who : Who) (seq : ℕ) (situation : Situation) (cs : List Came) → count_by (is_urgent situation) (zip (map (hardware_line who) cs) (map (came_line seq) cs)) ≡ sum_by (urgent_weight situation) cs
urgent-counts who seq situation [] = refl
urgent-counts who seq situation (c ∷ cs) =
    let rest : count_by (is_urgent situation) (zip (map (hardware_line who) cs) (map (came_line seq) cs)) ≡ sum_by (urgent_weight situation) cs = urgent-counts who seq situation cs in
    let one : count_by (is_urgent situation) ((hardware_line who c, came_line seq c) ∷ zip (map (hardware_line who) cs) (map (came_line seq) cs)) ≡ urgent_weight situation c + count_by (is_urgent situation) (zip (map (hardware_line who) cs) (map (came_line seq) cs))
    = sum_by-cons (λ (p : MarkLine × EventLine). cond (is_urgent situation p) 1 0) (hardware_line who c, came_line seq c) (zip (map (hardware_line who) cs) (map (came_line seq) cs)) in
    let other : sum_by (urgent_weight situation) (c ∷ cs) ≡ urgent_weight situation c + sum_by (urgent_weight situation) cs = sum_by-cons (urgent_weight situation) c cs in
    omega (arith, rest, one, other)
