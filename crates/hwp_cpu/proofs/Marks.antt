-- What a command has marked so far: as its own task goes on, as a frame is taken out of use beside it, and where that is done.
use Rattle.hwp_cpu_row.specs.hwp_core_rule.declared.Turn.{Turn}
use Rattle.hwp_cpu_row.specs.hwp_page.History.{BodyValue}
use Rattle.std.proofs.Common.{◌≡◌, inl, inr, ℕ, List, [], ◌∷◌, ◌++◌, Option, Some, None, filter_map, length, map, append_assoc, append-nil, refl, sym, ap, ◌∙◌}
use Rattle.std.specs.List.{cons_option}
use Rattle.std.proofs.lemmas.List.{append_cancel_left}
use Rattle.std.proofs.lemmas.List.Elements.{filter_map-append}
use Rattle.hwp_cpu_row.specs.hwp_geom.declared.Frame.{Frame}
use Rattle.hwp_cpu_row.specs.hwp_geom.declared.Layout.{Layout}
use Rattle.hwp_cpu_row.specs.hwp_geom.declared.Who.{Who}
use Rattle.hwp_cpu_row.specs.hwp_core_rule.declared.Mark.{Mark}
use Rattle.hwp_cpu_row.specs.hwp_claim_frame.Done.{Grows, Marking, marking_of}
use Rattle.hwp_cpu_row.specs.hwp_claim.declared.EventOutcome.{EventOutcome}
use Rattle.hwp_cpu_row.specs.hwp_claim.CheckDone.{marked_in}
use Rattle.hwp_cpu_row.specs.declared.Offlining.{Offlining}
use Rattle.hwp_cpu_row.specs.Acts.{AreInTime, Offlined, Told, acts}
use Rattle.hwp_cpu_row.proofs.Acts.{acts-offlined, acts-told}
use Rattle.hwp_cpu_command.specs.declared.Job.{Job}
use Rattle.hwp_cpu_command.specs.declared.job.Job.TheVariants as kinds
use Rattle.hwp_cpu_command.specs.Done.{marked_beyond, marked_now}
use Rattle.hwp_cpu_command.specs.Jobs.{Next, bare, offlined_by, told_of}
use Rattle.hwp_cpu_command.specs.hwp_soft.declared.Soft.{Soft}
use Rattle.hwp_cpu_command.specs.hwp_soft.declared.SoftAnswer.{SoftAnswer}
use Rattle.hwp_cpu_command.specs.hwp_soft.declared.SoftAnswer.TheVariants as soft_answers
use Rattle.hwp_cpu_command.specs.hwp_soft.declared.soft.SoftAt.TheVariants as soft_at
use Rattle.hwp_cpu_command.specs.hwp_soft.Done as soft_done
use Rattle.hwp_cpu_command.specs.hwp_soft.Softs as softs
use Rattle.hwp_cpu_command.proofs.JobEnds.{soft-over}
use Rattle.hwp_cpu.proofs.commands.Beside.{marked-parts}
use Rattle.hwp_cpu.proofs.commands.ToldGrows.{told-longer}
use Rattle.hwp_cpu.specs.declared.course.Course.{Course}
use Rattle.hwp_cpu.specs.Courses.{offlining, with_result}
use Rattle.hwp_law_served.specs.Accounts.{act_marking, own_marking}
use Rattle.hwp_cpu.specs.Serving.{marked_beside, marked_so_far}

-- ---- by acts

abbrev pub by_acts : List EventOutcome → List Offlining → List Marking
by_acts told os = filter_map act_marking (acts told os)

told-marks : (more : List EventOutcome) → filter_map act_marking (map Told more) ≡ filter_map marked_in more
told-marks [] = refl
told-marks (t ∷ ts) = ap (λ (l : List Marking). cons_option (marked_in t) l) (told-marks ts)

acts-more : (told more : List EventOutcome) (os : List Offlining) → AreInTime 0 (length told) os → by_acts (told ++ more) os ≡ by_acts told os ++ filter_map marked_in more
acts-more told more os within =
    ap (filter_map act_marking) (acts-told told more os within) ∙ filter_map-append act_marking (acts told os) (map Told more) ∙ ap (λ (l : List Marking). by_acts told os ++ l) (told-marks more)

-- what was marked in a step is marked behind the acts
own-swap : (told more : List EventOutcome) (os : List Offlining) (beyond next x : List Marking) → AreInTime 0 (length told) os → filter_map marked_in (told ++ more) ++ next ≡ (filter_map marked_in told ++ beyond) ++ x
    → by_acts (told ++ more) os ++ (next ++ []) ≡ (by_acts told os ++ (beyond ++ [])) ++ x
own-swap told more os beyond next x within same =
    ap (λ (l : List Marking). by_acts (told ++ more) os ++ l) (append-nil next)
    ∙ ap (λ (l : List Marking). l ++ next) (acts-more told more os within)
    ∙ append_assoc (by_acts told os) (filter_map marked_in more) next
    ∙ ap (λ (l : List Marking). by_acts told os ++ l) rest
    ∙ sym (append_assoc (by_acts told os) beyond x)
    ∙ ap (λ (l : List Marking). (by_acts told os ++ l) ++ x) (sym (append-nil beyond))
  where
    rest : filter_map marked_in more ++ next ≡ beyond ++ x
    rest = append_cancel_left (filter_map marked_in told) (filter_map marked_in more ++ next) (beyond ++ x) (
        sym (append_assoc (filter_map marked_in told) (filter_map marked_in more) next)
        ∙ ap (λ (l : List Marking). l ++ next) (sym (filter_map-append marked_in told more))
        ∙ same
        ∙ append_assoc (filter_map marked_in told) beyond x
        )

-- ---- lists that grow as others do

-- whatever is added to the first is added to the second
abbrev pub GrowAlike : List Marking → List Marking → List Marking → List Marking → Type 0
GrowAlike before after b a = (x : List Marking) → after ≡ before ++ x → a ≡ b ++ x

pub regrown : {old new : List Mark} {who : Who} {before after b a : List Marking} → GrowAlike before after b a → Grows (λ (m : Mark). m.stamp.who) marking_of old new who before after → Grows (λ (m : Mark). m.stamp.who) marking_of old new who b a
regrown {before = before} {b = b} alike (inl (same, is)) = inl (same, alike [] (is ∙ sym (append-nil before)) ∙ append-nil b)
regrown alike (inr (m, more, own, longer)) = inr (m, more, own, alike (marking_of m ∷ []) longer)

-- ---- a turn

-- its own task goes on
pub own-alike : (layout : Layout) (c : Course) (k : Job) (found : ℕ) (got : Option BodyValue) (turn : Turn) → Next layout (bare c.own) found got k turn → AreInTime 0 (length (told_of c.own)) c.due.offlined → c.beside ≡ None
    → GrowAlike (marked_now c.own) (marked_now k) (marked_so_far c) (marked_so_far (record c { own = k }))
own-alike layout c k found got turn next within none x longer =
    ap (λ (o : Option Soft). by_acts (told_of k) c.due.offlined ++ (marked_beyond k ++ marked_beside o)) none
    ∙ ap (λ (l : List EventOutcome). by_acts l c.due.offlined ++ (marked_beyond k ++ [])) told.1
    ∙ own-swap (told_of c.own) told.0 c.due.offlined (marked_beyond c.own) (marked_beyond k) x within (
    ap (λ (l : List EventOutcome). filter_map marked_in l ++ marked_beyond k) (sym told.1) ∙ sym (marked-parts k) ∙ longer ∙ ap (λ (l : List Marking). l ++ x) (marked-parts c.own)
    )
    ∙ ap (λ (o : Option Soft). (by_acts (told_of c.own) c.due.offlined ++ (marked_beyond c.own ++ marked_beside o)) ++ x) (sym none)
  where
    told : (more : List EventOutcome) × (told_of k ≡ told_of c.own ++ more)
    told = told-longer layout c.own k found got turn next

-- a frame is taken out of use beside it
pub beside-alike : (c : Course) (s t : Soft) → c.beside ≡ Some s → GrowAlike (marked_now (kinds.Soft s)) (marked_now (kinds.Soft t)) (marked_so_far c) (marked_so_far (record c { beside = Some t }))
beside-alike c s t is x longer =
    ap (λ (l : List Marking). first ++ (marked_beyond c.own ++ l)) longer
    ∙ ap (λ (l : List Marking). first ++ l) (sym (append_assoc (marked_beyond c.own) (soft_done.marked_at s.frame s.at) x))
    ∙ sym (append_assoc first (marked_beyond c.own ++ soft_done.marked_at s.frame s.at) x)
    ∙ ap (λ (o : Option Soft). (first ++ (marked_beyond c.own ++ marked_beside o)) ++ x) (sym is)
  where
    first : List Marking
    first = by_acts (told_of c.own) c.due.offlined

-- ---- what came of the frame

soft-marks : (frame : Frame) (x : SoftAnswer) → soft_done.marked_at frame (soft_at.Over x) ≡ cons_option (own_marking (offlined_by frame x)) []
soft-marks frame (soft_answers.Moved to at cycle) = refl
soft-marks frame (soft_answers.TakenFree cycle) = refl
soft-marks frame soft_answers.Stopped = refl
soft-marks frame soft_answers.Kernel = refl
soft-marks frame soft_answers.Already = refl
soft-marks frame (soft_answers.HasBad mask) = refl
soft-marks frame soft_answers.NoFrame = refl

-- it stands as the last act
pub beside-over : (c : Course) (s : Soft) (x : SoftAnswer) → c.beside ≡ Some s → softs.answer s ≡ Some x → marked_beyond c.own ≡ [] → AreInTime 0 (length (told_of c.own)) c.due.offlined
    → marked_so_far (record (with_result c s.frame x) { beside = None }) ≡ marked_so_far c
beside-over c s x is over none within =
    ap (λ (l : List Marking). filter_map act_marking (acts (told_of c.own) (c.due.offlined ++ o ∷ [])) ++ (l ++ [])) none
    ∙ append-nil (filter_map act_marking (acts (told_of c.own) (c.due.offlined ++ o ∷ [])))
    ∙ ap (filter_map act_marking) (acts-offlined (told_of c.own) c.due.offlined o within refl)
    ∙ filter_map-append act_marking (acts (told_of c.own) c.due.offlined) (Offlined o ∷ [])
    ∙ ap (λ (l : List Marking). by_acts (told_of c.own) c.due.offlined ++ l) (sym (soft-marks s.frame x) ∙ sym (ap (soft_done.marked_at s.frame) (soft-over s over)))
    ∙ ap (λ (l : List Marking). by_acts (told_of c.own) c.due.offlined ++ (l ++ soft_done.marked_at s.frame s.at)) (sym none)
    ∙ ap (λ (b : Option Soft). by_acts (told_of c.own) c.due.offlined ++ (marked_beyond c.own ++ marked_beside b)) (sym is)
  where
    o : Offlining
    o = offlining c.own s.frame x
