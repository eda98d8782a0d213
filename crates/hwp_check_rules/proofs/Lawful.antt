-- The nine rules together are the law of reports.
use Rattle.std.proofs.Common.{◌≡◌, ℕ, zero, suc, ◌<◌, Bool, true, cond, List, [], ◌∷◌, Some, IsSome, get_or, length, slice_get, refl, sym, ap, ◌∙◌, subst, arith, Option}
use Rattle.std.proofs.lemmas.Option.{same_Some, none-some, slice_get-get_or, slice_get_within}
use Rattle.hwp_law.specs.hwp_geom.Layout.{is_locked}
use Rattle.hwp_law.specs.hwp_geom.declared.Cpu.{Cpu}
use Rattle.hwp_law.specs.hwp_geom.declared.FileNo.{FileNo}
use Rattle.hwp_law.specs.hwp_geom.declared.Frame.{Frame}
use Rattle.hwp_law.specs.hwp_geom.declared.Layout.{Layout}
use Rattle.hwp_law.specs.hwp_geom.declared.Page.{Page}
use Rattle.hwp_law.specs.hwp_geom.declared.PageKind.{PageKind}
use Rattle.hwp_law.specs.hwp_page.History.{IsReplay, Leads}
use Rattle.hwp_law.specs.hwp_page.Step.{after, opening_of}
use Rattle.hwp_law.specs.hwp_page.declared.Entry.{Entry}
use Rattle.hwp_law.specs.hwp_page.declared.PageState.{PageState}
use Rattle.hwp_law.specs.hwp_script_words.declared.Command.{Command}
use Rattle.hwp_law.specs.hwp_script_words.declared.Script.{Script}
use Rattle.hwp_law.specs.hwp_report_text.declared.Answer.{Answer}
use Rattle.hwp_law.specs.hwp_report_text.declared.Answer.TheVariants as answers
use Rattle.hwp_law.specs.hwp_report_text.declared.CpuLine.{CpuLine}
use Rattle.hwp_law.specs.hwp_report_text.declared.CpuLine.TheVariants as lines
use Rattle.hwp_law.specs.hwp_report_text.declared.FrameLine.{FrameLine}
use Rattle.hwp_law.specs.hwp_report_text.declared.Report.{Report}
use Rattle.hwp_law.specs.Frames.{IsFrameLine}
use Rattle.hwp_law.specs.Acting.{acting_script, copied_at}
use Rattle.hwp_law.specs.Law.{AnswersFit as LawAnswers, FramesFit as LawFrames, HasShape, HistoriesFit as LawHistories, IsLawful}
use Rattle.hwp_check_rules.proofs.ActedLosses.{acted-losses, acted-many, losses-acted}
use Rattle.hwp_law.specs.Lines.{answered}
use Rattle.hwp_law.specs.Losses.{IsNumber, LossesAgree, tells_number}
use Rattle.hwp_law.specs.PageHistory.{IsHistory}
use Rattle.hwp_check_rules.specs.Rules.{AnswersFit, FramesFit, HistoriesFit, LossesFit, MarksFit, SeenFit, ShapeFits, StopFits}
use Rattle.hwp_check_rules.specs.declared.verdicts.Rule.{Rule}
use Rattle.hwp_check_rules.specs.declared.verdicts.Rule.TheVariants.{Shape, Histories, Answers, Seen, Marks, Count, Losses, Stop, Frames}
use Rattle.hwp_check_rules.specs.Verdicts.{Fits, Holds}
use Rattle.hwp_check_rules.proofs.AnswersByRow.{by-rows, rows-by, told-of}
use Rattle.hwp_law.specs.hwp_geom.declared.VSlot.{VSlot}
use Rattle.hwp_law.specs.hwp_geom.declared.Who.{Who}

leads-same : (layout : Layout) (page : Page) (s : PageState) (entries : List Entry) (t u : PageState) → Leads layout page s entries t → Leads layout page s entries u → t ≡ u
leads-same layout page s [] t u one other = sym one ∙ other
leads-same layout page s (e ∷ entries) t u one other = leads-same layout page (after s e.what) entries t u one.1 other.1

-- a history has one state at its end
pub replay-same : (layout : Layout) (page : Page) (entries : List Entry) (t u : PageState) → IsReplay layout page entries t → IsReplay layout page entries u → t ≡ u
replay-same layout page entries t u one other =
    let kind : one.kind ≡ other.kind = same_Some _ _ (sym one.declared ∙ other.declared) in
    leads-same layout page (opening_of other.kind (is_locked layout page)) entries t u (subst (λ (k : PageKind). Leads layout page (opening_of k (is_locked layout page)) entries t) kind one.leads) other.leads

-- of two lists that are as long as each other, both have an item at a place
pub both_there : {X Y : Type 0} (xs : List X) (ys : List Y) (i : ℕ) (x : X) → length xs ≡ length ys → slice_get xs i ≡ Some x → (y : Y) × (slice_get ys i ≡ Some y)
both_there [] ys i x same is = absurd (none-some _ is)
both_there (a ∷ xs) [] i x same is = let e : suc (length xs) ≡ 0 = same in absurd (omega (arith, e))
both_there (a ∷ xs) (b ∷ ys) zero x same is = (b, refl)
both_there (a ∷ xs) (b ∷ ys) (suc i) x same is = let e : suc (length xs) ≡ suc (length ys) = same in both_there xs ys i x (omega (arith, e)) is

-- the law of a report by a script, where stores copy so
pub record IsLawfulBy (script : Script) (copies : Who → Option VSlot) (report : Report) : Type 0 where
  pub shape : HasShape script report
  pub histories : LawHistories script copies report
  pub answers : LawAnswers script copies report
  pub frames : LawFrames script report
  pub losses : LossesAgree script report

module _ (script : Script) (copies : Who → Option VSlot) (report : Report) where
  -- what the law says of a script that has as many lists as processors, where stores copy so
  module _ (one_each : length script.lists ≡ script.layout.cpus) (law : IsLawfulBy script copies report) where
    shape : ShapeFits script report
    shape = record { version = law.shape.version; files = law.losses.files_fit; frames = law.shape.frames; pages = law.shape.pages; cpus = law.shape.cpus }

    histories : HistoriesFit script copies report
    histories = record {
      legal = λ page entries is. let h = law.histories.legal page entries is in (h.state, h.replay);
      made = law.histories.made;
      ordered = law.histories.ordered;
    }

    answers_fit : AnswersFit script copies report
    answers_fit = record {
      answered = λ cpu list rows there of_report. by-rows script report cpu list rows (law.answers.caused cpu list rows there of_report);
      named = law.answers.named;
      last = law.answers.last;
      windows = law.answers.windows;
      endings = law.answers.endings;
      events = law.answers.events;
      offlined = law.answers.offlined;
    }

    stop_fits : StopFits script report
    stop_fits = record {
      told = λ cpu rows row seq there is. told cpu rows row seq there is;
      caused = law.answers.stop.caused;
      stays = law.answers.stop.stays;
    }
      where
        told : (cpu : Cpu) (rows : List CpuLine) (row seq : ℕ) → slice_get report.cpus cpu.0 ≡ Some rows → slice_get rows row ≡ Some (lines.Answer seq answers.Stopped) → IsSome report.stop
        told cpu rows row seq there is =
            let both = both_there report.cpus script.lists cpu.0 rows (law.shape.cpus ∙ sym one_each) there in
            told-of script report cpu 0 both.0 rows (law.answers.caused cpu both.0 rows both.1 there) row seq is

    frames_fit : FramesFit script report
    frames_fit = record {
      shown = λ frame kernel line declared there. let l = law.frames.lines frame kernel line declared there in record { place = l.place; bad = l.bad; weak = l.weak };
      held = λ page entries state there replay.
          let h = law.histories.legal page entries there in
          h.held ∙ ap (λ (s : PageState). cond s.cached 1 0) (replay-same script.layout page entries h.state state h.replay replay);
    }

    -- the records of frames, and the losses
    marks : MarksFit script report
    marks = record { kept = λ frame kernel line declared there. (law.frames.lines frame kernel line declared there).kept; recorded = law.frames.recorded }

    losses : LossesFit script report
    losses = λ file lost there. record {
      lost_is = law.losses.lost file lost there;
      numbers = λ cpu list rows of_script of_report.
          let within : file.0 < length report.files = slice_get_within report.files file.0 lost there in
          law.losses.numbers file cpu list rows (omega (arith, within, law.losses.files_fit)) of_script of_report;
    }

    seen : SeenFit script report
    seen = record { right = law.histories.seen; falls_never = law.histories.falls_never }

    -- a report that the law allows keeps each rule
    pub fits : (rule : Rule) → Fits rule script copies report
    fits Shape = shape
    fits Histories = histories
    fits Answers = answers_fit
    fits Seen = seen
    fits Marks = marks
    fits Count = law.frames.count
    fits Losses = losses
    fits Stop = stop_fits
    fits Frames = frames_fit

  module _ (holds : (rule : Rule) → Fits rule script copies report) where
    -- a report that keeps each rule is one that the law allows
    pub by-fits : IsLawfulBy script copies report
    by-fits = record {
      shape = record { version = shape_fits.version; frames = shape_fits.frames; pages = shape_fits.pages; cpus = shape_fits.cpus };
      histories = record { legal = legal; made = of_histories.made; ordered = of_histories.ordered; seen = of_seen.right; falls_never = of_seen.falls_never };
      answers = record {
        caused = λ cpu list rows of_script of_report. rows-by script report cpu list rows (of_answers.answered cpu list rows of_script of_report);
        named = of_answers.named;
        last = of_answers.last;
        windows = of_answers.windows;
        endings = of_answers.endings;
        events = of_answers.events;
        offlined = of_answers.offlined;
        stop = record { caused = of_stop.caused; stays = of_stop.stays };
      };
      frames = record { lines = frame_lines; recorded = of_marks.recorded; count = holds Count };
      losses = record { files_fit = shape_fits.files; lost = λ file lost there. (of_losses file lost there).lost_is; numbers = numbers };
    }
      where
        shape_fits : ShapeFits script report
        shape_fits = holds Shape

        of_histories : HistoriesFit script copies report
        of_histories = holds Histories

        of_answers : AnswersFit script copies report
        of_answers = holds Answers

        of_seen : SeenFit script report
        of_seen = holds Seen

        of_marks : MarksFit script report
        of_marks = holds Marks

        of_stop : StopFits script report
        of_stop = holds Stop

        of_losses : LossesFit script report
        of_losses = holds Losses

        numbers : (file : FileNo) (cpu : Cpu) (list : List Command) (rows : List CpuLine) → file.0 < script.layout.files
            → slice_get script.lists cpu.0 ≡ Some list → slice_get report.cpus cpu.0 ≡ Some rows
            → (i : ℕ) (p : Command × Answer) → slice_get {X = Command × Answer} (answered list rows) i ≡ Some p
            → tells_number file p.0 p.1 ≡ true → IsNumber script report file cpu (answered list rows) i
        numbers file cpu list rows within = (of_losses file (get_or report.files file.0 0) (slice_get-get_or report.files file.0 0 (omega (arith, within, shape_fits.files)))).numbers cpu list rows

        of_frames : FramesFit script report
        of_frames = holds Frames

        legal : (page : Page) (entries : List Entry) → slice_get report.pages page.0 ≡ Some entries → IsHistory script.layout report.frames page entries
        legal page entries there = let r = of_histories.legal page entries there in record { state = r.0; replay = r.1; held = of_frames.held page entries r.0 there r.1 }

        frame_lines : (frame : Frame) (kernel : Bool) (line : FrameLine) → slice_get script.layout.kernel frame.0 ≡ Some kernel → slice_get report.frames frame.0 ≡ Some line → IsFrameLine script report kernel frame line
        frame_lines frame kernel line declared there =
            let s = of_frames.shown frame kernel line declared there in
            record { place = s.place; bad = s.bad; weak = s.weak; kept = of_marks.kept frame kernel line declared there }

-- ---- by the script that the processors acted on

module _ (script : Script) (report : Report) where
  abbrev acted : Script
  acted = acting_script script report

  abbrev copied : Who → Option VSlot
  copied = copied_at script report

  pub lawful-holds : length script.lists ≡ script.layout.cpus → IsLawful script report → (rule : Rule) → Holds rule script report
  lawful-holds one_each law = by
    where
      all : (rule : Rule) → Fits rule acted copied report
      all = fits acted copied report (acted-many script report ∙ one_each) (record { shape = record { version = law.shape.version; frames = law.shape.frames; pages = law.shape.pages; cpus = law.shape.cpus }; histories = law.histories; answers = law.answers; frames = law.frames; losses = losses-acted script report law.losses })

      by : (rule : Rule) → Holds rule script report
      by Shape = all Shape
      by Histories = all Histories
      by Answers = (all Answers, law.private, law.guests)
      by Seen = all Seen
      by Marks = all Marks
      by Count = all Count
      by Losses = all Losses
      by Stop = all Stop
      by Frames = all Frames

  pub holds-lawful : ((rule : Rule) → Holds rule script report) → IsLawful script report
  holds-lawful holds = record { shape = record { version = law.shape.version; frames = law.shape.frames; pages = law.shape.pages; cpus = law.shape.cpus }; histories = law.histories; answers = law.answers; frames = law.frames; losses = acted-losses script report law.losses; private = (holds Answers).1; guests = (holds Answers).2 }
    where
      each : (rule : Rule) → Fits rule acted copied report
      each Shape = holds Shape
      each Histories = holds Histories
      each Answers = (holds Answers).0
      each Seen = holds Seen
      each Marks = holds Marks
      each Count = holds Count
      each Losses = holds Losses
      each Stop = holds Stop
      each Frames = holds Frames

      law : IsLawfulBy acted copied report
      law = by-fits acted copied report each
