-- Where no frame was available, the script isn't ample: the frames that have marks are among those that it names.
use Rattle.std.proofs.Common.{◌≡◌, inl, inr, ℕ, zero, suc, ◌+◌, ◌*◌, ◌<◌, ◌≤◌, ◌==◌, ◌||◌, min, not, Bool, true, false, cond, List, [], ◌∷◌, Option, None, Some, is_some, length, map, option_map, slice_get, slice_index_or, refl, sym, ap, ◌∙◌, subst, arith, true≢false}
use Rattle.std.specs.List.{cons_option, filter_map, list_any, sum_by}
use Rattle.std.specs.Int.{from_bool}
use Rattle.std.proofs.lemmas.Bool.{eqb-true, ltb-true}
use Rattle.std.proofs.lemmas.Option.{get_or_from_slice_get, none-some, same_Some}
use Rattle.hwp_law_served.specs.hwp_geom.declared.VSlot.{VSlot}
use Rattle.hwp_law_served.specs.hwp_geom.declared.Cpu.{Cpu}
use Rattle.hwp_law_served.specs.hwp_geom.declared.Frame.{Frame}
use Rattle.hwp_law_served.specs.hwp_geom.declared.Who.{Who}
use Rattle.hwp_law_served.specs.hwp_core_rule.declared.Mark.{Mark}
use Rattle.hwp_law_served.specs.hwp_core_rule.declared.SharedWord.TheVariants as places
use Rattle.hwp_law_served.specs.hwp_core_rule.declared.State.{State}
use Rattle.hwp_law_served.specs.hwp_core_rule.declared.View.{View}
use Rattle.hwp_law_served.specs.hwp_core_rule.Lists.{EachMember, sum_all}
use Rattle.hwp_law_served.specs.hwp_core_rule.Words.{sum_below, words_of}
use Rattle.hwp_law_served.specs.hwp_core_rule.parts.Counter.{is_poisoning}
use Rattle.hwp_law_served.specs.hwp_core_rule.parts.Exhaustion.{is_marked, usable}
use Rattle.hwp_law_served.proofs.of_hwp_core_rule.CountsBelow.{some-term}
use Rattle.hwp_law_served.proofs.of_hwp_core_rule.Lists.{at_map, each-map, map-was}
use Rattle.hwp_law_served.specs.hwp_core_rule.Boards.{view_of}
use Rattle.hwp_law_served.specs.hwp_core_rule.Known.{Saw}
use Rattle.hwp_law_served.specs.hwp_script_words.declared.Command.{Command}
use Rattle.hwp_law_served.specs.hwp_script_words.declared.Command.TheVariants as commands
use Rattle.hwp_law_served.specs.hwp_script_words.declared.Script.{Script}
use Rattle.hwp_law_served.specs.hwp_banks.Addresses.{frame_at}
use Rattle.hwp_law_served.specs.hwp_report_text.declared.EventLine.{EventLine}
use Rattle.hwp_law_served.specs.hwp_report_text.declared.OfflineResult.{OfflineResult}
use Rattle.hwp_law_served.specs.hwp_report_text.declared.OfflineResult.TheVariants as results
use Rattle.hwp_law_served.specs.hwp_report_text.declared.Report.{Report}
use Rattle.hwp_law_served.specs.hwp_law.Answers.{is_ample, named_frames, usable_from}
use Rattle.hwp_law_served.proofs.Homes.{there-is}
use Rattle.hwp_law_served.proofs.of_hwp_core_rule.MoreEntries.{each-append}
use Rattle.hwp_law_served.specs.hwp_claim_frame.Done.{Marking, marking_of, poisoning}
use Rattle.hwp_law_served.specs.hwp_law.Commands.{command_at, has_watch}
use Rattle.hwp_law_served.specs.hwp_law.Watched.{due}
use Rattle.hwp_law_served.specs.hwp_claim.declared.Found.{Found}
use Rattle.hwp_law_served.specs.hwp_cpu_row.declared.FrameChange.{FrameChange}
use Rattle.hwp_law_served.specs.hwp_cpu_row.declared.FrameChange.TheVariants as owns
use Rattle.hwp_law_served.specs.hwp_cpu_row.declared.Offlining.{Offlining}
use Rattle.hwp_law_served.specs.hwp_cpu_row.declared.Row.{Row}
use Rattle.hwp_law_served.specs.hwp_cpu_row.Acts.{Act, acts, event_at, told_notes}
use Rattle.hwp_law_served.specs.hwp_claim.declared.EventOutcome.{EventOutcome}
use Rattle.hwp_law_served.specs.hwp_claim.Told.{frame_of}
use Rattle.hwp_law_served.specs.Accounts.{IsOwn, act_marking, is_same, marking_by, markings, markings_in, own_marking}
use Rattle.hwp_law_served.specs.Offlinings.{IsOfflineServed, watched_at}
use Rattle.hwp_law_served.specs.Served.{IsOffliningServed}
use Rattle.hwp_law_served.proofs.Acts.{IsOneOf, act-of}
use Rattle.hwp_law_served.proofs.RunEnds.{IsEnd, IsOf, command-of, filter-has, list-of, own-view, rows-of, served-of}
use Rattle.hwp_top_report.proofs.report_lines.NamedEvents.{AreSuch, IsNamed, due-such, events-named, named-at, notes-such, or-true}
use Rattle.hwp_law_served.proofs.lines.Offlines.{can-offline}
use Rattle.hwp_law_served.proofs.Picked.{picked-is}
use Rattle.hwp_law_served.proofs.deeds.Made.{command-is}
use Rattle.hwp_top_report.proofs.marks.RowNotes.{each-cons}
use Rattle.hwp_law_served.proofs.marks.MarkPlaces.{IsMarkOf, below-count, first-poisons, has-place, mark_count, mark_place, word-of-mark}
use Rattle.hwp_law_served.proofs.marks.Marked.{same-self}

-- ---- sums

-- 1 where a frame is neither the kernel's nor named
abbrev spare : List Bool → List ℕ → ℕ → ℕ
spare kernel named f = cond (slice_index_or kernel f true || list_any (λ n. n == f) named) 0 1

spare-below : (kernel : List Bool) (named : List ℕ) (n : ℕ) (ks : List Bool) → ((i : ℕ) (k : Bool) → slice_get ks i ≡ Some k → slice_get kernel (n + i) ≡ Some k) → usable_from named n ks + sum_below (spare kernel named) n ≡ sum_below (spare kernel named) (n + length ks)
spare-below kernel named n [] same = let none : n + 0 ≡ n = omega arith in let zero_ : 0 + sum_below (spare kernel named) n ≡ sum_below (spare kernel named) n = omega arith in zero_ ∙ ap (sum_below (spare kernel named)) (sym none)
spare-below kernel named n (k ∷ ks) same =
    let zero_ : n + 0 ≡ n = omega arith in
    let here : slice_index_or kernel n true ≡ k = get_or_from_slice_get kernel n k true (subst (λ (m : ℕ). slice_get kernel m ≡ Some k) zero_ (same 0 k refl)) in
    let its : spare kernel named n ≡ cond (k || list_any (λ m. m == n) named) 0 1 = ap (λ (b : Bool). cond (b || list_any (λ m. m == n) named) 0 1) here in
    let rest : usable_from named (n + 1) ks + sum_below (spare kernel named) (n + 1) ≡ sum_below (spare kernel named) ((n + 1) + length ks)
    = spare-below kernel named (n + 1) ks (λ i b there. let more : n + suc i ≡ (n + 1) + i = omega arith in subst (λ (m : ℕ). slice_get kernel m ≡ Some b) more (same (suc i) b there)) in
    let one : sum_below (spare kernel named) (n + 1) ≡ sum_below (spare kernel named) n + spare kernel named n = (let next : n + 1 ≡ suc n = omega arith in ap (sum_below (spare kernel named)) next) in
    let all : sum_below (spare kernel named) (n + suc (length ks)) ≡ sum_below (spare kernel named) ((n + 1) + length ks) = (let same_ : n + suc (length ks) ≡ (n + 1) + length ks = omega arith in ap (sum_below (spare kernel named)) same_) in
    let first : usable_from named n (k ∷ ks) ≡ cond (k || list_any (λ m. m == n) named) 0 1 + usable_from named (n + 1) ks = refl in
    omega (arith, its, rest, one, all, first)

-- two sums that are within a third at each number
below-le : (g h u : ℕ → ℕ) (n : ℕ) → ((i : ℕ) → i < n → g i + h i ≤ u i) → sum_below g n + sum_below h n ≤ sum_below u n
below-le g h u zero each = omega arith
below-le g h u (suc n) each =
    let rest : sum_below g n + sum_below h n ≤ sum_below u n = below-le g h u n (λ i less. each i (omega (arith, less))) in
    let last : g n + h n ≤ u n = each n (omega arith) in
    omega arith

module _ (script : Script) (copies : Who → Option VSlot) (seat : Cpu → ℕ) (last : State) (report : Report) (end : IsEnd script copies seat last report) where
  abbrev all_marks : List (List Mark)
  all_marks = map (λ (v : View). v.marks) last.views

  abbrev Such : Marking → Type 0
  Such k = is_poisoning k.kind ≡ true → list_any (λ n. n == k.frame.0) (named_frames script) ≡ true

  -- a frame that was taken out of use beside a command is named: an event of the command noted it, in a script with a `watch`
  offlined-named : (who : Who) (of : IsOf script copies end.rows (view_of last (seat who.cpu)) who) → AreSuch (IsNamed script copies seat last report end) (has_watch script) of.row.told
      → EachMember (λ (o : Offlining). list_any (λ n. n == o.frame.0) (named_frames script) ≡ true) of.row.offlined
  offlined-named who of told i o there =
      let view : View = view_of last (seat who.cpu) in
      let watches : has_watch script ≡ true = (can-offline script copies seat last report end view who of (λ none. none-some o (sym (ap (λ (l : List Offlining). slice_get l i) none) ∙ there))).0 in
      let lines : EachMember (λ (l : EventLine). IsFrameNamed (frame_at l.addr)) (map (event_at 0) of.row.told) = each-map (event_at 0) (λ (l : EventLine). IsFrameNamed (frame_at l.addr)) of.row.told
      (λ k t at. told k t at (ap (λ (b : Bool). is_some t.found || b) watches ∙ or-true (is_some t.found))) in
      let noted : EachMember (λ (f : Frame). IsFrameNamed f.0) (told_notes script.layout of.row.told) = notes-such IsFrameNamed script.layout (map (event_at 0) of.row.told) lines in
      let are : EachMember (λ (f : Frame). IsFrameNamed f.0) (map (λ (x : Offlining). x.frame) of.row.offlined)
      = subst (EachMember (λ (f : Frame). IsFrameNamed f.0)) (sym (due-here of)) (due-such (λ (f : Frame). IsFrameNamed f.0) (watched_at script.layout of.list of.own who.seq) (told_notes script.layout of.row.told) noted) in
      are i o.frame (at_map (λ (x : Offlining). x.frame) of.row.offlined i o there)
    where
      IsFrameNamed : ℕ → Type 0
      IsFrameNamed f = list_any (λ n. n == f) (named_frames script) ≡ true

      due-here : (of : IsOf script copies end.rows (view_of last (seat who.cpu)) who) → map (λ (x : Offlining). x.frame) of.row.offlined ≡ due (watched_at script.layout of.list of.own who.seq) (told_notes script.layout of.row.told)
      due-here of = (served-of script copies seat last report end who.cpu of.list of.own of.list_is of.own_is).0.due who.seq of.row of.row_is

  -- the frame of a failure by an event is named, that of what a command did to a frame itself, and one that was taken out of use beside it
  picked-named : (row : Row) → AreSuch (IsNamed script copies seat last report end) (has_watch script) row.told → EachMember (λ (o : Offlining). list_any (λ n. n == o.frame.0) (named_frames script) ≡ true) row.offlined
      → EachMember (λ (o : Offlining). (x : Marking) → own_marking o.change ≡ Some x → x.frame ≡ o.frame) row.offlined → (command : Command) (who : Who) → command_at script who ≡ Some command → IsOwn command row.answer row.own
      → EachMember Such (markings_in row)
  picked-named row told offlined frames command who at own = each-append Such (filter_map act_marking (acts row.told row.offlined)) (cons_option (own_marking row.own) []) by-acts (by-own row.own command at own)
    where
      of-told : (t : EventOutcome) (x : Marking) (o : Option Found) → t.found ≡ o → option_map (λ (found : Found). poisoning (frame_of t.held) true found.cycle) o ≡ Some x → ((is_some t.found || has_watch script) ≡ true → IsNamed script copies seat last report end t.held.event.addr) → Such x
      of-told t x None none is named = absurd (none-some x is)
      of-told t x (Some found) some is named = subst Such (same_Some (poisoning (frame_of t.held) true found.cycle) x is) (λ poisons. named (ap (λ (o : Option Found). is_some o || has_watch script) some))

      of-act : (a : Act) (x : Marking) → act_marking a ≡ Some x → IsOneOf row.told row.offlined a → Such x
      of-act a x gives (inl is) = of-told is.t x is.t.found refl (ap act_marking is.same ∙ gives) (told is.j is.t is.there)
      of-act a x gives (inr is) = λ poisons.
          subst (λ (f : Frame). list_any (λ n. n == f.0) (named_frames script) ≡ true) (sym (frames is.j is.o is.there x (ap act_marking is.same ∙ gives))) (offlined is.j is.o is.there)

      by-acts : EachMember Such (filter_map act_marking (acts row.told row.offlined))
      by-acts k x there = let of = picked-is act_marking (acts row.told row.offlined) k x there in of-act of.1 x of.3 (act-of row.told row.offlined of.0 of.1 of.2)

      by-own : (o : Option FrameChange) (c : Command) → command_at script who ≡ Some c → IsOwn c row.answer o → EachMember Such (cons_option (own_marking o) [])
      by-own None c at own = λ i x there. absurd (none-some x there)
      by-own (Some (owns.Failed frame found)) (commands.Inject f) at own = each-cons Such (poisoning frame false found.cycle) [] (λ poisons. named-at script who (commands.Inject f) frame.0 at (ap (λ (y : Frame). Some y.0) (sym own.0))) (λ i y there. absurd (none-some y there))
      by-own (Some (owns.Offlined frame cycle moved)) (commands.Soft f) at own = each-cons Such (poisoning frame false cycle) [] (λ poisons. named-at script who (commands.Soft f) frame.0 at (ap (λ (y : Frame). Some y.0) (sym own.0))) (λ i y there. absurd (none-some y there))
      by-own (Some (owns.Revived frame cycle)) (commands.Unpoison f) at own = each-cons Such (marking_by (owns.Revived frame cycle)) [] (λ poisons. absurd (true≢false (sym poisons))) (λ i y there. absurd (none-some y there))
      by-own (Some x) c at own = absurd own

  -- what was done to a frame that was taken out of use was done to that frame
  frames-of : (who : Who) (offlined : List Offlining) → EachMember (IsOffliningServed script.layout (view_of last (seat who.cpu)) who) offlined → EachMember (λ (o : Offlining). (x : Marking) → own_marking o.change ≡ Some x → x.frame ≡ o.frame) offlined
  frames-of who offlined served i o there x is = frame-is o.change o.result (served i o there).came is
    where
      none-so : (change : Option FrameChange) → change ≡ None → own_marking change ≡ Some x → x.frame ≡ o.frame
      none-so change none is = absurd (none-some x (sym (ap own_marking none) ∙ is))

      some-is : (change : Option FrameChange) (cycle : ℕ) (moved : Bool) → change ≡ Some (owns.Offlined o.frame cycle moved) → own_marking change ≡ Some x → x.frame ≡ o.frame
      some-is change cycle moved some is = ap (λ (k : Marking). k.frame) (sym (same_Some (poisoning o.frame false cycle) x (sym (ap own_marking some) ∙ is)))

      frame-is : (change : Option FrameChange) (result : OfflineResult) → IsOfflineServed script.layout (view_of last (seat who.cpu)) who o.frame change result → own_marking change ≡ Some x → x.frame ≡ o.frame
      frame-is change (results.Moved other at) (users, (cycle, some), free) is = some-is change cycle true some is
      frame-is change results.TakenFree (users, (cycle, some)) is = some-is change cycle false some is
      frame-is change results.Already (users, saw, none) is = none-so change none is
      frame-is change (results.HasBad mask) (users, lines, none) is = none-so change none is
      frame-is change results.NoFrame (users, saw, none) is = none-so change none is
      frame-is change results.Stopped (saw, none) is = none-so change none is

  -- a poisoned frame is named
  mark-named : (i j : ℕ) (v : View) (m : Mark) → slice_get last.views i ≡ Some v → slice_get v.marks j ≡ Some m → is_poisoning m.kind ≡ true → list_any (λ n. n == m.frame.0) (named_frames script) ≡ true
  mark-named i j v m view there poisons =
      let who : Who = m.stamp.who in
      let past = (end.board.holds.rule.processors.commands.own i v view).marks j m there in
      let own = own-view script copies seat last report end i v who view past in
      let mine : slice_get (view_of last (seat who.cpu)).marks j ≡ Some m = sym (ap (λ (x : View). slice_get x.marks j) own.1) ∙ there in
      let list = list-of script copies seat last report end who.cpu own.0 in
      let rows = rows-of script copies seat last report end who.cpu own.0 in
      let begun = (served-of script copies seat last report end who.cpu list.0 rows.0 list.1 rows.1).0.marked j m mine in
      let command = there-is list.0 who.seq begun.1 in
      let of = command-of script copies seat last report end who list.0 command.0 list.1 command.1 in
      let told = events-named script copies seat last report end who.cpu of.list of.own own.0 of.list_is of.own_is who.seq of.row of.row_is in
      let found = filter-has (λ (k : Mark). is_same who k.stamp.who) (view_of last (seat who.cpu)).marks j m mine (same-self who who refl) in
      let among : slice_get (markings who (view_of last (seat who.cpu))) found.0 ≡ Some (marking_of m) = at_map marking_of _ found.0 m found.1 in
      picked-named of.row told (offlined-named who of told) (frames-of who of.row.offlined of.served.offlined) of.command who (command-is script who of.list of.command of.list_is of.command_is) of.served.accounted.own found.0 (marking_of m) (sym (ap (λ (l : List Marking). slice_get l found.0) of.served.accounted.marked) ∙ among) poisons

  -- a frame without a name has no mark
  unmarked : (f : ℕ) → list_any (λ n. n == f) (named_frames script) ≡ false → sum_all (λ (m : Mark). from_bool (m.frame.0 == f)) all_marks ≡ 0
  unmarked f unnamed = which (sum_all (λ (m : Mark). from_bool (m.frame.0 == f)) all_marks) refl
    where
      some : (b : Bool) → 0 < from_bool b → b ≡ true
      some true more = refl
      some false more = absurd (omega (arith, more))

      which : (n : ℕ) → sum_all (λ (m : Mark). from_bool (m.frame.0 == f)) all_marks ≡ n → n ≡ 0
      which zero is = refl
      which (suc n) is =
          let list = some-term (sum_by (λ (m : Mark). from_bool (m.frame.0 == f))) all_marks (omega arith) in
          let mark = some-term (λ (m : Mark). from_bool (m.frame.0 == f)) list.1 list.3 in
          let was = map-was (λ (v : View). v.marks) last.views list.0 list.1 list.2 in
          let at : slice_get was.0.marks mark.0 ≡ Some mark.1 = ap (λ (l : List Mark). slice_get l mark.0) was.2 ∙ mark.2 in
          let frame_is : mark.1.frame.0 ≡ f = eqb-true mark.1.frame.0 f (some (mark.1.frame.0 == f) mark.3) in
          -- the first mark of the frame
          let its = word-of-mark script.layout last end.board.holds list.0 mark.0 was.0 mark.1 was.1 at in
          let less : mark_place mark.1 < mark_count its.0 = below-count script.layout last end.board.holds list.0 mark.0 was.0 mark.1 its.0 was.1 at its.1 in
          let first : IsMarkOf script.layout last end.board.holds f 0 = has-place script.layout last end.board.holds f its.0 0 (subst (λ (g : ℕ). slice_get (words_of script.layout last.words).frames g ≡ Some its.0) frame_is its.1) (omega (arith, less)) in
          let named : list_any (λ k. k == f) (named_frames script) ≡ true
          = subst (λ (g : ℕ). list_any (λ k. k == g) (named_frames script) ≡ true) first.frame_is (mark-named first.i first.j first.view first.mark first.view_is first.listed (first-poisons first.mark first.place_is)) in
          absurd (true≢false (sym named ∙ unnamed))

  within : (f : ℕ) → spare script.layout.kernel (named_frames script) f + is_marked script.layout all_marks f ≤ usable script.layout f
  within f = which (slice_index_or script.layout.kernel f true) (list_any (λ n. n == f) (named_frames script)) (unmarked f)
    where
      which : (k named : Bool) → (named ≡ false → sum_all (λ (m : Mark). from_bool (m.frame.0 == f)) all_marks ≡ 0)
          → cond (k || named) 0 1 + min (from_bool (not k)) (sum_all (λ (m : Mark). from_bool (m.frame.0 == f)) all_marks) ≤ from_bool (not k)
      which true named none = omega arith
      which false true none = omega arith
      which false false none = let zero_ : sum_all (λ (m : Mark). from_bool (m.frame.0 == f)) all_marks ≡ 0 = none refl in omega arith

  -- where a command saw no frame available, the script isn't ample
  pub not-ample : (cpu : Cpu) → cpu.0 < script.layout.cpus → (who : Who) → Saw (view_of last (seat cpu)) who places.Available 0 → is_ample script ≡ false
  not-ample cpu inside who saw = which (is_ample script) refl
    where
      which : (b : Bool) → is_ample script ≡ b → is_ample script ≡ false
      which false is = is
      which true is =
          let more : length script.layout.pages + 2 * script.layout.cpus < usable_from (named_frames script) 0 script.layout.kernel = ltb-true _ _ is in
          let explained : sum_below (usable script.layout) script.layout.frames ≤ sum_below (is_marked script.layout all_marks) script.layout.frames + length script.layout.pages + 2 * script.layout.cpus
          = end.board.holds.rule.failures.exhaustion.explained (seat cpu) (view_of last (seat cpu)).sights (at_map (λ (z : View). z.sights) last.views (seat cpu) (view_of last (seat cpu)) (end.seated.there cpu inside)) saw.0 saw.1 saw.2 saw.3.1 saw.3.2 in
          let counted : usable_from (named_frames script) 0 script.layout.kernel + 0 ≡ sum_below (spare script.layout.kernel (named_frames script)) (0 + length script.layout.kernel)
          = spare-below script.layout.kernel (named_frames script) 0 script.layout.kernel (λ i k there. let same : i ≡ 0 + i = omega arith in subst (λ (n : ℕ). slice_get script.layout.kernel n ≡ Some k) same there) in
          let fit : 0 + length script.layout.kernel ≡ script.layout.frames = (let many : length script.layout.kernel ≡ script.layout.frames = end.board.holds.sound.kernel in omega arith) in
          let at : sum_below (spare script.layout.kernel (named_frames script)) (0 + length script.layout.kernel) ≡ sum_below (spare script.layout.kernel (named_frames script)) script.layout.frames = ap (sum_below (spare script.layout.kernel (named_frames script))) fit in
          let both : sum_below (spare script.layout.kernel (named_frames script)) script.layout.frames + sum_below (is_marked script.layout all_marks) script.layout.frames ≤ sum_below (usable script.layout) script.layout.frames
          = below-le (spare script.layout.kernel (named_frames script)) (is_marked script.layout all_marks) (usable script.layout) script.layout.frames (λ f less. within f) in
          absurd (omega (arith, more, explained, counted, at, both))
