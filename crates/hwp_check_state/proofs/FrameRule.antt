-- The rule of frames, and the first line that breaks it.
use Rattle.std.proofs.Common.{◌≡◌, ◌⊎◌, ◌↔◌, inl, inr, ℕ, zero, suc, ◌+◌, ◌<◌, ◌≤◌, ◌==◌, ◌&&◌, ◌||◌, min, Bool, true, false, not, true≢false, cond, List, [], ◌∷◌, Option, Some, None, MatchOption, length, map, option_map, slice_get, slice_index_or, sum_by, take, unwrap_or, refl, sym, ap, ◌∙◌, subst, arith}
use Rattle.std.specs.Int.{IsBitSet}
use Rattle.std.proofs.lemmas.Bool.{cases_lt, eqb-false, eqb-true, not-false, not-true}
use Rattle.std.proofs.lemmas.List.{length-map, take-take, take_all}
use Rattle.std.proofs.lemmas.List.Sums.{count_by_more_no, count_by_more_yes, sum_by-take-le}
use Rattle.std.proofs.lemmas.Option.{get_or_from_slice_get, none-some, slice_get-get_or, slice_get_within}
use Rattle.hwp_check_rules.specs.hwp_geom.declared.Page.{Page}
use Rattle.hwp_check_rules.specs.hwp_page.History.{IsReplay}
use Rattle.hwp_check_rules.specs.hwp_page.declared.Entry.{Entry}
use Rattle.hwp_check_rules.specs.hwp_page.declared.PageState.{PageState}
use Rattle.hwp_check_rules.specs.hwp_script_words.declared.Command.{Command}
use Rattle.hwp_check_rules.specs.hwp_script_words.declared.Command.TheVariants as commands
use Rattle.hwp_check_rules.specs.hwp_script_words.declared.Script.{Script}
use Rattle.hwp_check_rules.specs.hwp_report_text.declared.FrameLine.{FrameLine}
use Rattle.hwp_check_rules.specs.hwp_report_text.declared.Whereabouts.TheVariants as places
use Rattle.hwp_check_rules.specs.hwp_report_text.declared.Report.{Report}
use Rattle.hwp_check_rules.specs.hwp_law.Frames.{WasDone}
use Rattle.hwp_check_rules.specs.hwp_law.Records.{ends_poisoned}
use Rattle.hwp_check_rules.specs.hwp_law.PageHistory.{is_of}
use Rattle.hwp_check_rules.specs.Faults.{EndsIn, IsFrameFault, IsFrameWrong, IsSaidTwice, IsUnsaid, first_free, holders, sayers}
use Rattle.hwp_check_rules.specs.Firsts.{soonest, IsFirstFault}
use Rattle.hwp_check_state.specs.Frames.{AreDoneOf, AreRight, bad_bit, cached_after, ends_of, is_beyond, is_placed, is_right_frame, is_right_line, is_unsaid_from, weak_bit, with_bits}
use Rattle.hwp_check_rules.specs.Rules.{FramesFit, IsFrameShown}
use Rattle.hwp_check_rules.specs.Standing.{frame_height, frame_line}
use Rattle.hwp_check_state.proofs.FrameLaws.{bad-is, beyond-is, end-cached, end-within, frame_of, not-beyond, not-placed, placed-is, same-bits, weak-is}

-- four tests at once
record AllFour (a b c d : Bool) : Type 0 where
  first : a ≡ true
  second : b ≡ true
  third : c ≡ true
  fourth : d ≡ true

all-four : (a b c d : Bool) → (a && b && c && d) ≡ true → AllFour a b c d
all-four true true true true is = record { first = refl; second = refl; third = refl; fourth = refl }
all-four false b c d is = absurd (true≢false (sym is))
all-four true false c d is = absurd (true≢false (sym is))
all-four true true false d is = absurd (true≢false (sym is))
all-four true true true false is = absurd (true≢false (sym is))

one-false : (a b c d : Bool) → (a && b && c && d) ≡ false → (a ≡ false) ⊎ (b ≡ false) ⊎ (c ≡ false) ⊎ (d ≡ false)
one-false false b c d is = inl refl
one-false true false c d is = inr (inl refl)
one-false true true false d is = inr (inr (inl refl))
one-false true true true false is = inr (inr (inr refl))
one-false true true true true is = absurd (true≢false is)

-- a page that is cached and that no frame says
record IsLost (n : ℕ) (list : List Bool) (frames : List FrameLine) : Type 0 where
  place : ℕ
  within : place < length list
  cached : slice_index_or list place false ≡ true
  none : sayers (record { 0 = n + place }) frames ≡ 0

lost-is : (n : ℕ) (list : List Bool) (frames : List FrameLine) → is_unsaid_from n list frames ≡ true → IsLost n list frames
lost-is n [] frames is = absurd (true≢false (sym is))
lost-is n (cached ∷ rest) frames is = elim (which cached (sayers (record { 0 = n }) frames == 0) (is_unsaid_from (n + 1) rest frames) refl refl refl is) [
  | inl here ↦ here
  | inr more ↦ let m = lost-is (n + 1) rest frames more in record {
    place = suc m.place;
    within = let less : m.place < length rest = m.within in omega (arith, less);
    cached = m.cached;
    none = ap (λ (k : ℕ). sayers (record { 0 = k }) frames) (omega arith) ∙ m.none;
  }
]
  where
    which : (a b c : Bool) → cached ≡ a → sayers (record { 0 = n }) frames == 0 ≡ b → is_unsaid_from (n + 1) rest frames ≡ c → ((a && b) || c) ≡ true
        → IsLost n (cached ∷ rest) frames ⊎ (is_unsaid_from (n + 1) rest frames ≡ true)
    which a b true one two more is = inr more
    which true true false one two more is = inl (record {
      place = 0;
      within = omega arith;
      cached = one;
      none = ap (λ (k : ℕ). sayers (record { 0 = k }) frames) (omega arith) ∙ eqb-true (sayers (record { 0 = n }) frames) 0 two;
    })
    which true false false one two more is = absurd (true≢false (sym is))
    which false b false one two more is = absurd (true≢false (sym is))

none-lost : (n : ℕ) (list : List Bool) (frames : List FrameLine) → is_unsaid_from n list frames ≡ false → IsLost n list frames → ⊥
none-lost n [] frames is lost = let less : lost.place < 0 = lost.within in omega (arith, less)
none-lost n (cached ∷ rest) frames is lost = which lost.place refl cached (sayers (record { 0 = n }) frames == 0) (is_unsaid_from (n + 1) rest frames) refl refl refl is (none-lost (n + 1) rest frames)
  where
    which : (k : ℕ) → lost.place ≡ k → (a b c : Bool) → cached ≡ a → sayers (record { 0 = n }) frames == 0 ≡ b → is_unsaid_from (n + 1) rest frames ≡ c → ((a && b) || c) ≡ false
        → (is_unsaid_from (n + 1) rest frames ≡ false → IsLost (n + 1) rest frames → ⊥) → ⊥
    which k at a b true one two more is later = true≢false (or-true (a && b) ∙ is)
      where
        or-true : (x : Bool) → true ≡ (x || true)
        or-true true = refl
        or-true false = refl
    which k at true true false one two more is later = true≢false is
    which zero at true false false one two more is later =
        eqb-false (sayers (record { 0 = n }) frames) 0 two (ap (λ (m : ℕ). sayers (record { 0 = m }) frames) (omega (arith, at)) ∙ lost.none)
    which zero at false b false one two more is later = true≢false (sym lost.cached ∙ ap (λ (m : ℕ). slice_index_or (cached ∷ rest) m false) at ∙ one)
    which (suc k) at a b false one two more is later = later more (record {
      place = k;
      within = let less : lost.place < length (cached ∷ rest) = lost.within in omega (arith, less, at);
      cached = ap (λ (m : ℕ). slice_index_or (cached ∷ rest) m false) (sym at) ∙ lost.cached;
      none = ap (λ (m : ℕ). sayers (record { 0 = m }) frames) (omega (arith, at)) ∙ lost.none;
    })

module _ (script : Script) (report : Report) (done : List Command) (are : AreDoneOf script report done) (kernels : length script.layout.kernel ≡ length report.frames)
    (legal : (page : Page) (entries : List Entry) → slice_get report.pages page.0 ≡ Some entries → (state : PageState) × IsReplay script.layout page entries state) where
  abbrev pub cached : List Bool
  cached = ends_of report

  -- each page has a state at its end
  ends : (page : Page) → page.0 < length cached → (state : PageState) × EndsIn script report page state
  ends page within =
      let same : length (map (cached_after false) report.pages) ≡ length report.pages = length-map report.pages (cached_after false) in
      let there : slice_get report.pages page.0 ≡ Some (slice_index_or report.pages page.0 []) = slice_get-get_or report.pages page.0 [] (omega (arith, same, within)) in
      let l = legal page (slice_index_or report.pages page.0 []) there in
      (l.0, record { entries = slice_index_or report.pages page.0 []; there = there; replay = l.1 })

  -- each frame has the word whether it is the kernel's
  kernel-of : (number : ℕ) → number < length report.frames → (kernel : Bool) × (slice_get script.layout.kernel number ≡ Some kernel)
  kernel-of number within = (slice_index_or script.layout.kernel number false, slice_get-get_or script.layout.kernel number false (omega (arith, kernels, within)))

  module _ (number : ℕ) (line : FrameLine) (kernel : Bool) (there : slice_get report.frames number ≡ Some line) (declared : slice_get script.layout.kernel number ≡ Some kernel) where
    own-kernel : unwrap_or (slice_get script.layout.kernel number) false ≡ kernel
    own-kernel = ap (λ (o : Option Bool). unwrap_or o false) declared

    abbrev pub bads : ℕ
    bads = with_bits (bad_bit number) 0 done

    abbrev pub weaks : ℕ
    weaks = with_bits (weak_bit number) 0 done

    abbrev pub placed_test : Bool
    placed_test = is_placed (length script.layout.pages) (unwrap_or (slice_get script.layout.kernel number) false) (ends_poisoned line.marks) line.place

    abbrev pub beyond_test : Bool
    beyond_test = is_beyond cached (take number report.frames) line.place

    shown : placed_test ≡ true → line.bad.0 == bads ≡ true → line.weak.0 == weaks ≡ true
        → IsFrameShown script report kernel (frame_of number) line
    shown placed bad weak = record {
      place = placed-is script.layout kernel (ends_poisoned line.marks) line.place
          (ap (λ (k : Bool). is_placed (length script.layout.pages) k (ends_poisoned line.marks) line.place) (sym own-kernel) ∙ placed);
      bad = λ n. subst (λ (m : ℕ). IsBitSet m n ↔ WasDone script report (commands.Bad (frame_of number) n)) (sym (eqb-true line.bad.0 bads bad)) (bad-is script report done are number n);
      weak = λ n. subst (λ (m : ℕ). IsBitSet m n ↔ WasDone script report (commands.Weak (frame_of number) n)) (sym (eqb-true line.weak.0 weaks weak)) (weak-is script report done are number n);
    }

    unplaced : placed_test ≡ false → IsFrameShown script report kernel (frame_of number) line → ⊥
    unplaced out shows = not-placed script.layout kernel (ends_poisoned line.marks) line.place
        (ap (λ (k : Bool). is_placed (length script.layout.pages) k (ends_poisoned line.marks) line.place) (sym own-kernel) ∙ out) shows.place

    other-bad : line.bad.0 == bads ≡ false → IsFrameShown script report kernel (frame_of number) line → ⊥
    other-bad differs shows = eqb-false line.bad.0 bads differs (same-bits line.bad.0 bads (λ n. (
      λ set. (bad-is script report done are number n).1 ((shows.bad n).0 set),
      λ set. (shows.bad n).1 ((bad-is script report done are number n).0 set),
    )))

    other-weak : line.weak.0 == weaks ≡ false → IsFrameShown script report kernel (frame_of number) line → ⊥
    other-weak differs shows = eqb-false line.weak.0 weaks differs (same-bits line.weak.0 weaks (λ n. (
      λ set. (weak-is script report done are number n).1 ((shows.weak n).0 set),
      λ set. (shows.weak n).1 ((weak-is script report done are number n).0 set),
    )))

    own-line : is_right_frame script report done cached number ≡ is_right_line script report done cached number line
    own-line = ap (λ (o : Option FrameLine). unwrap_or (option_map (is_right_line script report done cached number) o) true) there

    pub frame-right : is_right_frame script report done cached number ≡ true → IsFrameShown script report kernel (frame_of number) line × (is_beyond cached (take number report.frames) line.place ≡ false)
    frame-right is = let four = all-four placed_test (line.bad.0 == bads) (line.weak.0 == weaks) (not beyond_test) (sym own-line ∙ is) in (shown four.first four.second four.third, not-true beyond_test four.fourth)

    twice : is_beyond cached (take number report.frames) line.place ≡ true → IsSaidTwice script report (frame_line report number)
    twice is = let b = beyond-is cached (take number report.frames) line.place is in
        let e = ends b.0 b.2 in record {
          frame = frame_of number;
          shown = line;
          page = b.0;
          state = e.0;
          there = there;
          line_is = refl;
          says = b.1;
          ends = e.1;
          enough = subst (λ (x : Bool). cond x 1 0 ≤ sayers b.0 (take number report.frames)) (end-cached script report b.0 e.0 e.1) b.3;
        }

    pub frame-wrong : is_right_frame script report done cached number ≡ false → IsFrameFault script report (frame_line report number)
    frame-wrong is = elim (one-false placed_test (line.bad.0 == bads) (line.weak.0 == weaks) (not beyond_test) (sym own-line ∙ is)) [
      | inl out ↦ inl (wrong (unplaced out))
      | inr (inl differs) ↦ inl (wrong (other-bad differs))
      | inr (inr (inl differs)) ↦ inl (wrong (other-weak differs))
      | inr (inr (inr beyond)) ↦ inr (inl (twice (not-false beyond_test beyond)))
    ]
      where
        wrong : (IsFrameShown script report kernel (frame_of number) line → ⊥) → IsFrameWrong script report (frame_line report number)
        wrong no-show = record { frame = frame_of number; kernel = kernel; shown = line; declared = declared; there = there; line_is = refl; wrong = no-show }

  -- a frame below where all are right
  right-at : (n : ℕ) → AreRight script report done cached n → (number : ℕ) (line : FrameLine) → number < n → slice_get report.frames number ≡ Some line → is_beyond cached (take number report.frames) line.place ≡ false
  right-at n all number line less there = let k = kernel-of number (slice_get_within report.frames number line there) in (frame-right number line k.0 there k.1 (all number less)).1

  below-holders : (n : ℕ) → AreRight script report done cached n → (number : ℕ) (line : FrameLine) → number < n → slice_get report.frames number ≡ Some line
      → (page : Page) (state : PageState) → EndsIn script report page state → is_of page line.place ≡ true → sayers page (take number report.frames) < holders state
  below-holders n all number line less there page state end says =
      subst (λ (x : Bool). sayers page (take number report.frames) < cond x 1 0) (end-cached script report page state end)
      (not-beyond cached (take number report.frames) line.place page (right-at n all number line less there) says (end-within script report page state end))

  one-more : (page : Page) (n : ℕ) (line : FrameLine) → slice_get report.frames n ≡ Some line → is_of page line.place ≡ true → sayers page (take (n + 1) report.frames) ≡ sayers page (take n report.frames) + 1
  one-more page n line there yes-says = count_by_more_yes (λ (f : FrameLine). is_of page f.place) report.frames n line (slice_get_within report.frames n line there)
      (ap (λ (f : FrameLine). is_of page f.place) (get_or_from_slice_get report.frames n line line there) ∙ yes-says)

  same-more : (page : Page) (n : ℕ) (line : FrameLine) → slice_get report.frames n ≡ Some line → is_of page line.place ≡ false → sayers page (take (n + 1) report.frames) ≡ sayers page (take n report.frames)
  same-more page n line there no-says = count_by_more_no (λ (f : FrameLine). is_of page f.place) report.frames n line (slice_get_within report.frames n line there)
      (ap (λ (f : FrameLine). is_of page f.place) (get_or_from_slice_get report.frames n line line there) ∙ no-says)

  few : AreRight script report done cached (length report.frames) → (page : Page) (state : PageState) → EndsIn script report page state → (n : ℕ) → n ≤ length report.frames → sayers page (take n report.frames) ≤ holders state
  few all page state end zero within = let none : sayers page (take 0 report.frames) ≡ 0 = refl in omega (arith, none)
  few all page state end (suc n) within = which (slice_get report.frames n) refl (few all page state end n (omega (arith, within)))
    where
      next : suc n ≡ n + 1
      next = omega arith

      inside : n < length report.frames
      inside = omega (arith, within)

      which : (o : Option FrameLine) → slice_get report.frames n ≡ o → sayers page (take n report.frames) ≤ holders state → sayers page (take (suc n) report.frames) ≤ holders state
      which None none before = absurd (none-some (slice_index_or report.frames n any) (sym none ∙ slice_get-get_or report.frames n any inside))
        where
          any : FrameLine
          any = record { place = places.Free; bad = record { 0 = 0 }; weak = record { 0 = 0 }; marks = [] }
      which (Some line) there before = subst (λ (m : ℕ). sayers page (take m report.frames) ≤ holders state) (sym next) (told (is_of page line.place) refl)
        where
          told : (b : Bool) → is_of page line.place ≡ b → sayers page (take (n + 1) report.frames) ≤ holders state
          told true yes-says =
              let less : sayers page (take n report.frames) < holders state = below-holders (length report.frames) all n line inside there page state end yes-says in
              let more : sayers page (take (n + 1) report.frames) ≡ sayers page (take n report.frames) + 1 = one-more page n line there yes-says in
              omega (arith, less, more)
          told false no-says = let same : sayers page (take (n + 1) report.frames) ≡ sayers page (take n report.frames) = same-more page n line there no-says in omega (arith, same, before)

  lost-page : (page : Page) (state : PageState) → EndsIn script report page state → state.cached ≡ true → sayers page report.frames ≡ 0 → IsLost 0 cached report.frames
  lost-page page state end is none = record {
    place = page.0;
    within = end-within script report page state end;
    cached = end-cached script report page state end ∙ is;
    none = ap (λ (k : ℕ). sayers (record { 0 = k }) report.frames) (omega arith) ∙ none;
  }

  fits : AreRight script report done cached (length report.frames) → is_unsaid_from 0 cached report.frames ≡ false → FramesFit script report
  fits all none = record {
    shown = λ frame kernel line declared there. (frame-right frame.0 line kernel there declared (all frame.0 (slice_get_within report.frames frame.0 line there))).0;
    held = λ page entries state there replay. held page state (record { entries = entries; there = there; replay = replay });
  }
    where
      held : (page : Page) (state : PageState) → EndsIn script report page state → sayers page report.frames ≡ holders state
      held page state end = which state.cached refl
        where
          up : sayers page report.frames ≤ holders state
          up = subst (λ (l : List FrameLine). sayers page l ≤ holders state) (take_all (length report.frames) report.frames (omega arith)) (few all page state end (length report.frames) (omega arith))

          which : (b : Bool) → state.cached ≡ b → sayers page report.frames ≡ holders state
          which false out = let h : holders state ≡ 0 = ap (λ (x : Bool). cond x 1 0) out in omega (arith, h, up)
          which true in' = let h : holders state ≡ 1 = ap (λ (x : Bool). cond x 1 0) in' in elim (cases_lt 0 (sayers page report.frames)) [
            | inl some ↦ omega (arith, h, up, some)
            | inr less ↦ absurd (none-lost 0 cached report.frames none (lost-page page state end in' (omega (arith, less))))
          ]

  -- a fault breaks the rule
  breaks : (line : ℕ) → IsFrameFault script report line → FramesFit script report → ⊥
  breaks line fault fit = elim fault [
    | inl w ↦ w.wrong (fit.shown w.frame w.kernel w.shown w.declared w.there)
    | inr (inl t) ↦
        let all : sayers t.page report.frames ≡ holders t.state = fit.held t.page t.ends.entries t.state t.ends.there t.ends.replay in
        let more : sayers t.page (take (t.frame.0 + 1) report.frames) ≡ sayers t.page (take t.frame.0 report.frames) + 1 = one-more t.page t.frame.0 t.shown t.there t.says in
        let part : sayers t.page (take (t.frame.0 + 1) report.frames) ≤ sayers t.page report.frames = sum_by-take-le (λ (f : FrameLine). cond (is_of t.page f.place) 1 0) report.frames (t.frame.0 + 1) in
        let enough : holders t.state ≤ sayers t.page (take t.frame.0 report.frames) = t.enough in
        omega (arith, all, more, part, enough)
    | inr (inr u) ↦
        let all : sayers u.page report.frames ≡ holders u.state = fit.held u.page u.ends.entries u.state u.ends.there u.ends.replay in
        let h : holders u.state ≡ 1 = ap (λ (x : Bool). cond x 1 0) u.cached in
        let none : sayers u.page report.frames ≡ 0 = u.none_says in
        omega (arith, all, h, none)
  ]

  rises : (i j : ℕ) → i ≤ j → frame_line report i ≤ frame_line report j
  rises i j less =
      let part : sum_by frame_height (take i report.frames) ≤ sum_by frame_height (take j report.frames) =
      subst (λ (l : List FrameLine). sum_by frame_height l ≤ sum_by frame_height (take j report.frames)) (take-take i j report.frames less) (sum_by-take-le frame_height (take j report.frames) i) in
      omega (arith, part)

  -- where the first frames are right, no frame before is at fault
  wrong-later : (n : ℕ) → AreRight script report done cached n → (line : ℕ) → IsFrameWrong script report line → frame_line report n ≤ line
  wrong-later n all line w = elim (cases_lt w.frame.0 n) [
    | inl less ↦ absurd (w.wrong (frame-right w.frame.0 w.shown w.kernel w.there w.declared (all w.frame.0 less)).0)
    | inr more ↦ let up : frame_line report n ≤ frame_line report w.frame.0 = rises n w.frame.0 more in let is : line ≡ frame_line report w.frame.0 = w.line_is in omega (arith, up, is)
  ]

  twice-later : (n : ℕ) → AreRight script report done cached n → (line : ℕ) → IsSaidTwice script report line → frame_line report n ≤ line
  twice-later n all line t = elim (cases_lt t.frame.0 n) [
    | inl less ↦
        let below : sayers t.page (take t.frame.0 report.frames) < holders t.state = below-holders n all t.frame.0 t.shown less t.there t.page t.state t.ends t.says in
        let enough : holders t.state ≤ sayers t.page (take t.frame.0 report.frames) = t.enough in
        absurd (omega (arith, below, enough))
    | inr more ↦ let up : frame_line report n ≤ frame_line report t.frame.0 = rises n t.frame.0 more in let is : line ≡ frame_line report t.frame.0 = t.line_is in omega (arith, up, is)
  ]

  no-wrong : AreRight script report done cached (length report.frames) → (line : ℕ) → IsFrameWrong script report line → ⊥
  no-wrong all line w = w.wrong (frame-right w.frame.0 w.shown w.kernel w.there w.declared (all w.frame.0 (slice_get_within report.frames w.frame.0 w.shown w.there))).0

  no-twice : AreRight script report done cached (length report.frames) → (line : ℕ) → IsSaidTwice script report line → ⊥
  no-twice all line t =
      let below : sayers t.page (take t.frame.0 report.frames) < holders t.state =
      below-holders (length report.frames) all t.frame.0 t.shown (slice_get_within report.frames t.frame.0 t.shown t.there) t.there t.page t.state t.ends t.says in
      let enough : holders t.state ≤ sayers t.page (take t.frame.0 report.frames) = t.enough in
      omega (arith, below, enough)

  no-unsaid : is_unsaid_from 0 cached report.frames ≡ false → (line : ℕ) → IsUnsaid script report line → ⊥
  no-unsaid none line u = none-lost 0 cached report.frames none (lost-page u.page u.state u.ends u.cached u.none_says)

  abbrev pub free_line : ℕ
  free_line = frame_line report (first_free 0 report.frames)

  unsaid-fault : is_unsaid_from 0 cached report.frames ≡ true → IsUnsaid script report free_line
  unsaid-fault some =
      let lost = lost-is 0 cached report.frames some in
      let e = ends (record { 0 = lost.place }) lost.within in
      record {
        page = record { 0 = lost.place };
        state = e.0;
        ends = e.1;
        cached = sym (end-cached script report (record { 0 = lost.place }) e.0 e.1) ∙ lost.cached;
        none_says = ap (λ (k : ℕ). sayers (record { 0 = k }) report.frames) (omega arith) ∙ lost.none;
        line_is = refl;
      }

  broken-by : (line : ℕ) → IsFrameFault script report line → ((other : ℕ) → IsFrameFault script report other → line ≤ other) → IsFirstFault (FramesFit script report) (IsFrameFault script report) line
  broken-by line fault first = record { broken = breaks line fault; at = fault; first = first }

  -- the first frame that is wrong
  record IsFirstFrame (at : ℕ) : Type 0 where
    before : AreRight script report done cached at
    within : at < length report.frames
    wrong : is_right_frame script report done cached at ≡ false

  fault-at : (at : ℕ) → IsFirstFrame at → IsFrameFault script report (frame_line report at)
  fault-at at first = which (slice_get report.frames at) refl
    where
      which : (o : Option FrameLine) → slice_get report.frames at ≡ o → IsFrameFault script report (frame_line report at)
      which None none = absurd (true≢false (sym (ap (λ (p : Option FrameLine). unwrap_or (option_map (is_right_line script report done cached at) p) true) none) ∙ first.wrong))
      which (Some line) there = let k = kernel-of at first.within in frame-wrong at line k.0 there k.1 first.wrong

  both : (at : ℕ) (b : Bool) → is_unsaid_from 0 cached report.frames ≡ b → IsFirstFrame at → MatchOption (soonest (Some (frame_line report at)) (cond b (Some free_line) None)) (FramesFit script report) (IsFirstFault (FramesFit script report) (IsFrameFault script report))
  both at false none first = broken-by (frame_line report at) (fault-at at first) (λ other fault. elim fault [
    | inl w ↦ wrong-later at first.before other w
    | inr (inl t) ↦ twice-later at first.before other t
    | inr (inr u) ↦ absurd (no-unsaid none other u)
  ])
  both at true some first = broken-by (min (frame_line report at) free_line) (which (cases_lt (frame_line report at) free_line)) (λ other fault. elim fault [
    | inl w ↦ let up : frame_line report at ≤ other = wrong-later at first.before other w in omega (arith, up)
    | inr (inl t) ↦ let up : frame_line report at ≤ other = twice-later at first.before other t in omega (arith, up)
    | inr (inr u) ↦ let is : other ≡ free_line = u.line_is in omega (arith, is)
  ])
    where
      which : (frame_line report at < free_line) ⊎ (free_line ≤ frame_line report at) → IsFrameFault script report (min (frame_line report at) free_line)
      which (inl less) = let is : frame_line report at ≡ min (frame_line report at) free_line = omega (arith, less) in subst (IsFrameFault script report) is (fault-at at first)
      which (inr less) = let is : free_line ≡ min (frame_line report at) free_line = omega (arith, less) in subst (IsFrameFault script report) is (inr (inr (unsaid-fault some)))

  none-wrong : (b : Bool) → is_unsaid_from 0 cached report.frames ≡ b → AreRight script report done cached (length report.frames) → MatchOption (soonest None (cond b (Some free_line) None)) (FramesFit script report) (IsFirstFault (FramesFit script report) (IsFrameFault script report))
  none-wrong false none all = fits all none
  none-wrong true some all = broken-by free_line (inr (inr (unsaid-fault some))) (λ other fault. elim fault [
    | inl w ↦ absurd (no-wrong all other w)
    | inr (inl t) ↦ absurd (no-twice all other t)
    | inr (inr u) ↦ let is : other ≡ free_line = u.line_is in omega (arith, is)
  ])

  pub frames-is : (wrong : Option ℕ)
      → MatchOption wrong (AreRight script report done cached (length report.frames)) (λ at. AreRight script report done cached at × (at < length report.frames) × (is_right_frame script report done cached at ≡ false))
      → MatchOption (soonest (option_map (frame_line report) wrong) (cond (is_unsaid_from 0 cached report.frames) (Some free_line) None)) (FramesFit script report) (IsFirstFault (FramesFit script report) (IsFrameFault script report))
  frames-is None all = none-wrong (is_unsaid_from 0 cached report.frames) refl all
  frames-is (Some at) first = both at (is_unsaid_from 0 cached report.frames) refl (record { before = first.0; within = first.1; wrong = first.2 })
