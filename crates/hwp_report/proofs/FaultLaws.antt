-- The first line that doesn't follow.
use Rattle.std.proofs.Common.{◌≡◌, ◌≢◌, ℕ, ◌+◌, ◌-◌, ◌≤◌, ◌==◌, ◌⊎◌, inl, inr, List, [], ◌∷◌, ◌++◌, length, take, drop, Option, Some, None, refl, sym, ap, subst, ◌∙◌, append_assoc, append-nil, arith}
use Rattle.std.specs.Prelude.{All}
use Rattle.std.specs.List.{flat_map}
use Rattle.std.proofs.lemmas.Bool.{cases_lt}
use Rattle.std.proofs.lemmas.List.Splits.{slice_split_at}
use Rattle.std.proofs.lemmas.List.{append_cancel_left, length-append, length-map, length-take-le, take-append-drop, take-map, take_at}
use Rattle.std.proofs.lemmas.List.Elements.{All-head, All-tail, All-append, All-take}
use Rattle.hwp_report_text.specs.hwp_geom.Words.{line, pieces, cut}
use Rattle.hwp_report_text.proofs.of_hwp_geom.Cuts.{joined, none_is, line-joined, cut-joined_line, pieces-line}
use Rattle.hwp_report_text.specs.declared.Report.{Report}
use Rattle.hwp_report_text.specs.ReportText.{report_lines}
use Rattle.hwp_report.specs.declared.report_line.ReportLine.{ReportLine}
use Rattle.hwp_report.specs.declared.partial.Partial.{Partial}
use Rattle.hwp_report.specs.declared.partial.Partial.TheVariants as partials
use Rattle.hwp_report.specs.Fits.{ReportFits}
use Rattle.hwp_report.specs.Forms.{FormFits, form_words}
use Rattle.hwp_report.specs.Follows.{follow, IsRefused}
use Rattle.hwp_report.specs.Cutting.{IsCut}
use Rattle.hwp_report.specs.Texts.{IsTextOf, IsReportOf, Begin, IsFaultAt}
use Rattle.hwp_report.proofs.LinesRead.{lines_read, forms_text, report_forms, IsReadSoFar}
use Rattle.hwp_report.proofs.WordsPut.{line_of_form}
use Rattle.hwp_report.proofs.TextLaws.{words_of_report, text_of_words, text_of_report}
use Rattle.hwp_report.proofs.FitsLaws.{report_fits}
use Rattle.hwp_report.proofs.FormsFit.{forms_fit}
use Rattle.hwp_report.proofs.FollowLaws.{adds}
use Rattle.hwp_report.proofs.ReportReads.{onward, onward-none, onward-append, on_report}
use Rattle.hwp_report.proofs.PartialEnds.{IsWithin, can_finish}
use Rattle.hwp_report.proofs.HeadBounds.{within}
use Rattle.hwp_report.proofs.SameForms.{form_unique}

-- two texts that begin with a line begin with the same line
same_first : (f g : ReportLine) (x y : List ℕ) → FormFits f → FormFits g → line (form_words f) ++ x ≡ line (form_words g) ++ y → (f ≡ g) × (x ≡ y)
same_first f g x y fits gits e =
    let lf = line_of_form f fits in
    let lg = line_of_form g gits in
    let firsts : joined (form_words f) ∷ pieces x ≡ joined (form_words g) ∷ pieces y =
    sym (pieces-line (form_words f) x lf) ∙ ap pieces e ∙ pieces-line (form_words g) y lg in
    let first : joined (form_words f) ≡ joined (form_words g) = cc in
    let words : form_words f ≡ form_words g = sym (cut-joined_line (form_words f) lf) ∙ ap cut first ∙ cut-joined_line (form_words g) lg in
    let same : f ≡ g = form_unique f g fits gits words in
    (same, append_cancel_left (line (form_words f)) x y (e ∙ ap (λ ws. line ws ++ y) (sym words)))

-- of two lists of lines that begin the same text, one begins the other
pub record Longer (fs gs : List ReportLine) (x y : List ℕ) : Type 0 where
  pub more : List ReportLine
  pub lines : gs ≡ fs ++ more
  pub text : x ≡ forms_text more ++ y

one_begins : (fs gs : List ReportLine) (x y : List ℕ) → All FormFits fs → All FormFits gs → forms_text fs ++ x ≡ forms_text gs ++ y
    → Longer fs gs x y ⊎ Longer gs fs y x
one_begins [] gs x y a b e = inl (record { more = gs; lines = refl; text = e })
one_begins (f ∷ fs) [] x y a b e = inr (record { more = f ∷ fs; lines = refl; text = sym e })
one_begins (f ∷ fs) (g ∷ gs) x y a b e =
    let heads = same_first f g (forms_text fs ++ x) (forms_text gs ++ y) (All-head FormFits f fs a) (All-head FormFits g gs b)
    (sym (append_assoc (line (form_words f)) (forms_text fs) x) ∙ e ∙ append_assoc (line (form_words g)) (forms_text gs) y) in
    elim (one_begins fs gs x y (All-tail FormFits f fs a) (All-tail FormFits g gs b) heads.1) [
      | inl l ↦ inl (record { more = l.more; lines = ap (λ t. g ∷ t) l.lines ∙ ap (λ h. h ∷ fs ++ l.more) (sym heads.0); text = l.text })
      | inr l ↦ inr (record { more = l.more; lines = ap (λ t. f ∷ t) l.lines ∙ ap (λ h. h ∷ gs ++ l.more) heads.0; text = l.text })
    ]

-- what was read so far was read line by line, and nothing in hand is more than its heading says
pub record IsReached (partial : Partial) : Type 0 where
  pub read : onward (Some partials.Nothing) (lines_read partial) ≡ Some partial
  pub within : IsWithin partial

-- a line that begins what is left doesn't follow
pub record Refuses (p : Partial) (rest : List ℕ) : Type 0 where
  pub each : (f : ReportLine) (behind : List ℕ) → FormFits f → rest ≡ line (form_words f) ++ behind → follow p f ≡ None

-- a report that begins with these lines begins with no further line of the text
no_further : (p : Partial) (rest : List ℕ) (report : Report) (f : ReportLine) (more : List ReportLine) (behind : List ℕ) → ReportFits report → IsReached p
    → Refuses p rest → report_forms report ≡ lines_read p ++ f ∷ more → rest ≡ line (form_words f) ++ behind → ⊥
no_further p rest report f more behind fits h none lines text =
    let all = forms_fit report fits in
    let whole : onward (Some partials.Nothing) (lines_read p ++ f ∷ more) ≡ Some (partials.Whole report) =
    ap (onward (Some partials.Nothing)) (sym lines) ∙ on_report report fits in
    let stuck : onward (Some partials.Nothing) (lines_read p ++ f ∷ more) ≡ None =
    onward-append (Some partials.Nothing) (lines_read p) (f ∷ more)
    ∙ ap (λ read. onward read (f ∷ more)) h.read
    ∙ ap (λ read. onward read more) (none.each f behind (fits_at (lines_read p) f more (subst (All FormFits) lines all)) text)
    ∙ onward-none more in
    absurd (cc)
  where
    fits_at : (fs : List ReportLine) (f : ReportLine) (gs : List ReportLine) → All FormFits (fs ++ f ∷ gs) → FormFits f
    fits_at [] f gs h = All-head FormFits f gs h
    fits_at (x ∷ xs) f gs h = fits_at xs f gs (All-tail FormFits x (xs ++ f ∷ gs) h)

pub more_reached : (p : Partial) (f : ReportLine) (q : Partial) → IsReached p → FormFits f → follow p f ≡ Some q → IsReached q
more_reached p f q h fits e = record {
  read =
      ap (onward (Some partials.Nothing)) (adds p f q fits e)
      ∙ onward-append (Some partials.Nothing) (lines_read p) (f ∷ [])
      ∙ ap (λ read. onward read (f ∷ [])) h.read
      ∙ e;
  within = within p f q fits h.within e;
}

-- what is read with lines more are those lines more
step_adds : (p : Partial) (f : ReportLine) (fs : List ReportLine) (q : Partial) (next : Option Partial) → FormFits f
    → ((r : Partial) → onward (Some r) fs ≡ Some q → lines_read q ≡ lines_read r ++ fs) → follow p f ≡ next → onward next fs ≡ Some q
    → lines_read q ≡ lines_read p ++ f ∷ fs
step_adds p f fs q None fits more step e = absurd (let none : None ≡ Some q = sym (onward-none fs) ∙ e in cc)
step_adds p f fs q (Some r) fits more step e = more r e ∙ ap (λ t. t ++ fs) (adds p f r fits step) ∙ append_assoc (lines_read p) (f ∷ []) fs

adds_all : (p : Partial) (fs : List ReportLine) (q : Partial) → All FormFits fs → onward (Some p) fs ≡ Some q → lines_read q ≡ lines_read p ++ fs
adds_all p [] q fits e = let same : p ≡ q = cc in ap lines_read (sym same) ∙ sym (append-nil (lines_read p))
adds_all p (f ∷ fs) q fits e =
    step_adds p f fs q (follow p f) (All-head FormFits f fs fits) (λ r k. adds_all r fs q (All-tail FormFits f fs fits) k) refl e

-- the first lines of a report, as words and as data
first_lines : (report : Report) (k : ℕ) → flat_map line (take k (report_lines report)) ≡ forms_text (take k (report_forms report))
first_lines report k =
    ap (λ ws. flat_map line (take k ws)) (sym (words_of_report report))
    ∙ ap (flat_map line) (take-map form_words k (report_forms report))
    ∙ sym (text_of_words (take k (report_forms report)))

begins : (bytes rest : List ℕ) (p : Partial) (n : ℕ) → IsReadSoFar bytes p rest n → IsReached p → Begin bytes (n - 1)
begins bytes rest p n h reached =
    let finish = can_finish p reached.within in
    let all : report_forms finish.report ≡ lines_read p ++ finish.more = adds_all p finish.more (partials.Whole finish.report) finish.fits finish.read in
    let place : n - 1 ≡ length (lines_read p) = omega (arith, h.number) in
    let front : take (n - 1) (report_forms finish.report) ≡ lines_read p = ap (take (n - 1)) all ∙ take_at (lines_read p) finish.more (n - 1) (sym place) in
    record {
      report = finish.report;
      fits = report_fits finish.report (subst (All FormFits) (sym all) (All-append FormFits (lines_read p) finish.more h.fits finish.fits));
      many =
          let count : length (report_lines finish.report) ≡ length (lines_read p) + length finish.more =
          ap length (sym (words_of_report finish.report)) ∙ length-map (report_forms finish.report) form_words ∙ ap length all ∙ length-append (lines_read p) finish.more in
          omega (arith, place, count);
      rest = rest;
      same = h.same ∙ ap (λ fs. forms_text fs ++ rest) (sym front) ∙ ap (λ t. t ++ rest) (sym (first_lines finish.report (n - 1)));
    }

-- no report begins with more lines of the text
no_more : (bytes rest : List ℕ) (p : Partial) (n k : ℕ) → IsReadSoFar bytes p rest n → IsReached p → Refuses p rest → Begin bytes k → n ≤ k → ⊥
no_more bytes rest p n k h reached none b high =
    let gs = take k (report_forms b.report) in
    let count : length (report_lines b.report) ≡ length (report_forms b.report) =
    ap length (sym (words_of_report b.report)) ∙ length-map (report_forms b.report) form_words in
    let long : length gs ≡ k = length-take-le k (report_forms b.report) (omega (arith, count, b.many)) in
    let same : forms_text (lines_read p) ++ rest ≡ forms_text gs ++ b.rest = sym h.same ∙ b.same ∙ ap (λ t. t ++ b.rest) (first_lines b.report k) in
    elim (one_begins (lines_read p) gs rest b.rest h.fits (All-take FormFits k (report_forms b.report) (forms_fit b.report b.fits)) same) [
      | inl l ↦ by l.more l.lines l.text long
      | inr l ↦ absurd (omega (arith, h.number, ap length l.lines, length-append gs l.more, long))
    ]
  where
    by : (more : List ReportLine) → take k (report_forms b.report) ≡ lines_read p ++ more → rest ≡ forms_text more ++ b.rest
        → length (take k (report_forms b.report)) ≡ k → ⊥
    by [] lines text long = omega (arith, h.number, ap length lines, length-append (lines_read p) [], long)
    by (f ∷ more) lines text long =
        no_further p rest b.report f (more ++ drop k (report_forms b.report)) (forms_text more ++ b.rest) b.fits reached none
        (sym (take-append-drop k (report_forms b.report)) ∙ ap (λ t. t ++ drop k (report_forms b.report)) lines
        ∙ append_assoc (lines_read p) (f ∷ more) (drop k (report_forms b.report)))
        (text ∙ append_assoc (line (form_words f)) (forms_text more) b.rest)

-- what was read so far is no whole text
no_text : (bytes rest : List ℕ) (p : Partial) (n : ℕ) (report : Report) → IsReadSoFar bytes p rest n → IsReached p → Refuses p rest
    → ((r : Report) → p ≡ partials.Whole r → rest ≡ [] → ⊥) → IsTextOf bytes report → ⊥
no_text bytes rest p n report h reached none unfinished t =
    elim (one_begins (lines_read p) (report_forms report) rest [] h.fits (forms_fit report t.fits)
    (sym h.same ∙ t.same ∙ sym (text_of_report report) ∙ sym (append-nil (forms_text (report_forms report))))) [
      | inl l ↦ longer l.more l.lines l.text
      | inr l ↦ shorter l.more l.lines l.text
    ]
  where
    whole : lines_read p ≡ report_forms report → p ≡ partials.Whole report
    whole e = let same : Some p ≡ Some (partials.Whole report) = sym reached.read ∙ ap (onward (Some partials.Nothing)) e ∙ on_report report t.fits in cc

    longer : (more : List ReportLine) → report_forms report ≡ lines_read p ++ more → rest ≡ forms_text more ++ [] → ⊥
    longer [] lines text = unfinished report (whole (sym (append-nil (lines_read p)) ∙ sym lines)) text
    longer (f ∷ more) lines text =
        no_further p rest report f more (forms_text more ++ []) t.fits reached none lines (text ∙ append_assoc (line (form_words f)) (forms_text more) [])

    shorter : (more : List ReportLine) → lines_read p ≡ report_forms report ++ more → [] ≡ forms_text more ++ rest → ⊥
    shorter [] lines text = unfinished report (whole (lines ∙ append-nil (report_forms report))) (sym text)
    shorter (f ∷ more) lines text =
        let stuck : None ≡ Some p =
        sym (onward-none more)
        ∙ ap (λ read. onward read (f ∷ more)) (sym (on_report report t.fits))
        ∙ sym (onward-append (Some partials.Nothing) (report_forms report) (f ∷ more))
        ∙ ap (onward (Some partials.Nothing)) (sym lines)
        ∙ reached.read in
        absurd (cc)

-- where what is left begins with no line that follows, and the text isn't whole, the next line is at fault
pub fault_at : (bytes rest : List ℕ) (p : Partial) (n : ℕ) → IsReadSoFar bytes p rest n → IsReached p → Refuses p rest
    → ((r : Report) → p ≡ partials.Whole r → rest ≡ [] → ⊥) → IsFaultAt bytes n
fault_at bytes rest p n h reached none unfinished = record {
  none = λ report t. no_text bytes rest p n report h reached none unfinished t;
  some = omega (arith, h.number);
  before = begins bytes rest p n h reached;
  greatest = λ k b. elim (cases_lt k n) [
    | inl low ↦ low
    | inr high ↦ absurd (no_more bytes rest p n k h reached none b high)
  ];
}

-- bytes without a line feed begin with no line
pub refuses_rest : (p : Partial) (rest : List ℕ) → All (λ b. b ≢ 10) rest → Refuses p rest
refuses_rest p rest h = record {
  each = λ f behind fits e.
      let all : rest ≡ joined (form_words f) ++ 10 ∷ behind =
      e ∙ ap (λ t. t ++ behind) (line-joined (form_words f)) ∙ append_assoc (joined (form_words f)) (10 ∷ []) behind in
      absurd (feed_in (joined (form_words f)) behind (subst (All (λ b. b ≢ 10)) all h));
}
  where
    feed_in : (xs ys : List ℕ) → All (λ b. b ≢ 10) (xs ++ 10 ∷ ys) → ⊥
    feed_in [] ys h = All-head (λ b. b ≢ 10) 10 ys h refl
    feed_in (x ∷ xs) ys h = feed_in xs ys (All-tail (λ b. b ≢ 10) x (xs ++ 10 ∷ ys) h)

-- a line that was refused doesn't follow
pub refuses_line : (p : Partial) (rest here after : List ℕ) → IsCut rest here after → IsRefused p here → Refuses p rest
refuses_line p rest here after c refused = record {
  each = λ f behind fits e.
      let firsts : here ∷ pieces after ≡ joined (form_words f) ∷ pieces behind =
      sym (slice_split_at (λ b. b == 10) here 10 after (none_is 10 here c.no_feed) refl)
      ∙ ap pieces (sym c.same ∙ e)
      ∙ pieces-line (form_words f) behind (line_of_form f fits) in
      let first : here ≡ joined (form_words f) = cc in
      let same : here ++ 10 ∷ [] ≡ line (form_words f) = ap (λ t. t ++ 10 ∷ []) first ∙ sym (line-joined (form_words f)) in
      by f fits same refused;
}
  where
    by : (f : ReportLine) → FormFits f → here ++ 10 ∷ [] ≡ line (form_words f) → IsRefused p here → follow p f ≡ None
    by f fits same (inl none) = absurd (none f fits same)
    by f fits same (inr (g, gits, other, stuck)) =
        let one = same_first g f [] [] gits fits (ap (λ t. t ++ []) (sym other ∙ same)) in
        ap (follow p) (sym one.0) ∙ stuck

-- bytes are the text of one report alone
pub one_report : (bytes : List ℕ) (a b : Report) → IsTextOf bytes a → IsTextOf bytes b → a ≡ b
one_report bytes a b s t =
    elim (one_begins (report_forms a) (report_forms b) [] [] (forms_fit a s.fits) (forms_fit b t.fits) (text a s ∙ sym (text b t))) [
      | inl l ↦ same a b s t l.more l.lines
      | inr l ↦ sym (same b a t s l.more l.lines)
    ]
  where
    text : (r : Report) → IsTextOf bytes r → forms_text (report_forms r) ++ [] ≡ bytes
    text r h = append-nil (forms_text (report_forms r)) ∙ text_of_report r ∙ sym h.same

    same : (r q : Report) → IsTextOf bytes r → IsTextOf bytes q → (more : List ReportLine) → report_forms q ≡ report_forms r ++ more → r ≡ q
    same r q h k [] lines =
        let read : Some (partials.Whole r) ≡ Some (partials.Whole q) =
        sym (on_report r h.fits) ∙ ap (onward (Some partials.Nothing)) (sym (lines ∙ append-nil (report_forms r))) ∙ on_report q k.fits in
        (cc)
    same r q h k (f ∷ more) lines =
        let stuck : None ≡ Some (partials.Whole q) =
        sym (onward-none more)
        ∙ ap (λ read. onward read (f ∷ more)) (sym (on_report r h.fits))
        ∙ sym (onward-append (Some partials.Nothing) (report_forms r) (f ∷ more))
        ∙ ap (onward (Some partials.Nothing)) (sym lines)
        ∙ on_report q k.fits in
        absurd (cc)

-- all was read
pub whole_read : (bytes rest : List ℕ) (report : Report) (n : ℕ) → IsReadSoFar bytes (partials.Whole report) rest n → rest ≡ [] → IsReportOf bytes report
whole_read bytes rest report n h none =
    let text : IsTextOf bytes report = record {
      fits = report_fits report h.fits;
      same = h.same ∙ ap (λ t. forms_text (report_forms report) ++ t) none ∙ append-nil (forms_text (report_forms report)) ∙ text_of_report report;
    } in
    record { text = text; only = λ other t. one_report bytes other report t text }
