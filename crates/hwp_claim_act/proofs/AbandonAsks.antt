-- The steps by which a page is taken out of its failed frame can be made.
use Rattle.std.proofs.Common.{◌≡◌, ◌≢◌, ℕ, ◌+◌, ◌-◌, ◌^◌, ◌<◌, ◌≤◌, ◌==◌, ◌||◌, Bool, true, false, cond, List, [], ◌∷◌, ◌++◌, Option, Some, None, length, drop, get_or, option_map, slice_get, refl, sym, ap, ◌∙◌, subst, arith}
use Rattle.std.proofs.Math.Seq.{drop-append_seam}
use Rattle.std.proofs.lemmas.List.Folds.{list_any-append}
use Rattle.std.proofs.lemmas.Option.{none-some, same_Some, slice_get-get_or, slice_get_within}
use Rattle.std.proofs.lemmas.List.Elements.{All-get_or}
use Rattle.std.proofs.lemmas.List.Sums.{sum_by-append, sum_by-cons}
use Rattle.std.specs.Prelude.{option_and_then}
use Rattle.std.specs.FinSet as set
use Rattle.std.specs.Int.{from_bool}
use Rattle.std.specs.List.{find, list_any, sum_by}
use Rattle.std.specs.Ordering.{nat_cmp}
use Rattle.hwp_core.specs.hwp_geom.declared.FileNo.{FileNo}
use Rattle.hwp_core.specs.hwp_geom.declared.Frame.{Frame}
use Rattle.hwp_core.specs.hwp_geom.declared.Layout.{Layout}
use Rattle.hwp_core.specs.hwp_geom.declared.Page.{Page}
use Rattle.hwp_core.specs.hwp_geom.declared.PageKind.{PageKind}
use Rattle.hwp_core.specs.hwp_geom.declared.PageKind.TheVariants.{Anon, File}
use Rattle.hwp_core.specs.hwp_geom.declared.Proc.{Proc}
use Rattle.hwp_core.specs.hwp_geom.declared.Thread.{Thread}
use Rattle.hwp_core.specs.hwp_geom.declared.TransDecl.{TransDecl}
use Rattle.hwp_core.specs.hwp_geom.Layout.{IsBacked, IsSound}
use Rattle.hwp_core.specs.hwp_kill.declared.Signal.{Signal}
use Rattle.hwp_core.specs.hwp_kill.Kill.{IsIn}
use Rattle.hwp_core.proofs.of_hwp_kill.PolicyOwners.{nobody, process_declared, within_threads}
use Rattle.hwp_core.specs.hwp_page.declared.Entry.{Entry}
use Rattle.hwp_core.specs.hwp_page.declared.PageState.{PageState}
use Rattle.hwp_core.specs.hwp_page.Endings.{ends, has_ending, is_ending}
use Rattle.hwp_core.specs.hwp_page.History.{BodyValue}
use Rattle.hwp_core.specs.hwp_page.Losses.{file_behind, is_loss}
use Rattle.hwp_core.specs.hwp_page.Situations.{always_signals, is_signalling}
use Rattle.hwp_core.specs.hwp_words.Names.{frame_name}
use Rattle.hwp_core.specs.hwp_words.Translations.{pte_word}
use Rattle.hwp_core.specs.hwp_words.declared.Pte.TheVariants as ptes
use Rattle.hwp_core.specs.hwp_core_rule.declared.FrameLock.{FrameLock}
use Rattle.hwp_core.specs.hwp_core_rule.declared.InHand.{InHand}
use Rattle.hwp_core.specs.hwp_core_rule.declared.Log.{Log}
use Rattle.hwp_core.specs.hwp_core_rule.declared.Made.{Made}
use Rattle.hwp_core.specs.hwp_core_rule.declared.Mark.{Mark}
use Rattle.hwp_core.specs.hwp_core_rule.declared.Step.{Step}
use Rattle.hwp_core.specs.hwp_core_rule.declared.Step.TheVariants as steps
use Rattle.hwp_core.specs.hwp_core_rule.declared.View.{View}
use Rattle.hwp_core.specs.hwp_core_rule.Asks.{CanUnlockPage, HasPage}
use Rattle.hwp_core.specs.hwp_core_rule.Lists.{SomeMember}
use Rattle.hwp_core.specs.hwp_core_rule.Logs.{log_of, state_of, file_of, fitting_word}
use Rattle.hwp_core.specs.hwp_core_rule.Rule.{losing_of}
use Rattle.hwp_core.specs.hwp_core_rule.Views.{is_body_of, listed, listed_of, locks_on, loss_made, losses_made, lost_by, made_from, more_of, refs_on, stamp_of}
use Rattle.hwp_core.specs.hwp_core_rule.parts.Counter.{is_poisoning}
use Rattle.hwp_core.specs.hwp_core_rule.parts.Losses.{IsPoisonLoss}
use Rattle.hwp_core.proofs.of_hwp_core_rule.Lists.{same-number}
use Rattle.hwp_core.specs.hwp_core_rule.Calls.{CanMake, FitsLayout, logs}
use Rattle.hwp_core.specs.hwp_core_rule.Hands.{Hand}
use Rattle.hwp_core.proofs.of_hwp_core_rule.tasks.StepLeaves.{can-make, can-put}
use Rattle.hwp_core.specs.Holds.{page_lock}
use Rattle.hwp_core.proofs.VacateLaws.{can-uncache, lock-held, put-fits-of, refs-are}
use Rattle.hwp_claim_act.specs.declared.abandon.Abandon.{Abandon}
use Rattle.hwp_claim_act.specs.declared.abandon.AbandonAt.{AbandonAt}
use Rattle.hwp_claim_act.specs.declared.abandon.AbandonAt.TheVariants as at
use Rattle.hwp_claim_act.specs.Abandons.{is_unhandled, plan, plan_at, put, put_at, snapshot}
use Rattle.hwp_claim_act.specs.Abandoned.{Carries, CanLoseOne, Fits, FitsAt, IsLostFile, IsUnlisted, entry_of, what_of}
use Rattle.hwp_claim_act.proofs.SignalEnds.{ended-by-ending, ending-ends, filtered, signal-in}

-- the page's lock, with its words, and its body in hand
module _ {view : View} (page other : Page) (frame : Option Frame) {trans : List ℕ} {taken : InHand} (pages : view.pages ≡ page_lock page frame (Some trans) ∷ []) (bodies : view.bodies ≡ taken ∷ []) (own : taken.log.page ≡ page) (same : page ≡ other) where
  abbrev pub page-held : HasPage view other
  page-held = record {
    lock = record { lock = page_lock page frame (Some trans); listed = ap (λ l. slice_get l 0) pages; page_is = same };
    body = taken;
    body_is = ap (find (is_body_of other)) bodies ∙ ap (λ (b : Bool). cond b (Some taken) None) (same-number taken.log.page.0 other.0 (ap (λ (p : Page). p.0) (own ∙ same)));
    cache = frame_name frame;
    cache_is = refl;
    trans = trans;
    trans_is = refl;
  }

-- the file behind a page of the layout is declared
backed : (layout : Layout) (kind : PageKind) (file : FileNo) → IsBacked layout kind → file_behind kind ≡ Some file → file.0 < layout.files
backed layout Anon file has is = absurd (none-some file is)
backed layout (File f fill) file has is = subst (λ (n : FileNo). n.0 < layout.files) (same_Some f file is) has

pub file-within : (layout : Layout) (page : Page) (file : FileNo) → IsSound layout → page.0 < length layout.pages → file_of layout page ≡ Some file → file.0 < layout.files
file-within layout page file sound inside behind =
    let there = slice_get-get_or layout.pages page.0 Anon inside in
    backed layout (get_or layout.pages page.0 Anon) file (All-get_or (IsBacked layout) layout.pages page.0 Anon inside sound.page_names) (sym (ap (λ (o : Option PageKind). option_and_then file_behind o) there) ∙ behind)

-- the process of a thread of the layout is declared
pub process-within : (layout : Layout) (thread : Thread) (process : Proc) → IsSound layout → IsIn layout thread process → process.0 < layout.procs
process-within layout thread process sound own =
    let within = within_threads layout thread process own in
    let declared = process_declared layout thread.0 nobody sound within in
    let is : (get_or layout.threads thread.0 nobody).process ≡ process = rw (slice_get-get_or layout.threads thread.0 nobody within) at own in
    let e = ap (λ (p : Proc). p.0) is in
    omega arith

-- one lock of the frame
lock-one : (frame : Frame) (l : FrameLock) → l.frame ≡ frame → locks_on frame.0 (l ∷ []) ≡ 1
lock-one frame l is =
    let all : locks_on frame.0 (l ∷ []) ≡ from_bool (l.frame.0 == frame.0) + 0 = sum_by-cons (λ (x : FrameLock). from_bool (x.frame.0 == frame.0)) l [] in
    let one : from_bool (l.frame.0 == frame.0) ≡ 1 = ap from_bool (same-number l.frame.0 frame.0 (ap (λ (f : Frame). f.0) is)) in
    omega (arith, all, one)

-- a frame's name fits a cache word
pub small-frame : {layout : Layout} {view : View} (a : Abandon) → Fits layout view a → a.frame.0 < 2 ^ 16
small-frame a fits = let few : _ = fits.sound.frames in let inside : _ = fits.frame in omega (arith, few, inside)

module _ {layout : Layout} {view : View} (a : Abandon) {killed : ℕ} {trans : List ℕ} {taken : InHand} (has : Carries layout view a killed trans taken) where
  pub body-page : has.body.page ≡ a.page
  body-page = ap (λ (l : Log). l.page) has.entry.log_is ∙ has.entry.page_is

  -- no translation of the page names a frame
  names-none : a.frame.0 < 2 ^ 16 → (slot : ℕ) (t : TransDecl) → slice_get layout.trans slot ≡ Some t → t.page ≡ a.page → slice_get trans slot ≢ Some (a.frame.0 + 1)
  names-none small slot t declared own there = which (set.contains state.bar slot) (word ∙ ap (λ (b : Bool). cond b 0 (cond (set.contains state.bar slot) (pte_word ptes.Poison) 0)) unused)
    where
      state : PageState
      state = state_of layout (log_of has.body)

      word : a.frame.0 + 1 ≡ fitting_word state 0 slot
      word = has.fits.used slot (a.frame.0 + 1) t declared (own ∙ sym body-page) there

      unused : set.contains state.maps slot ≡ false
      unused = ap (λ m. set.contains m slot) has.unmapped ∙ set.contains-empty nat_cmp slot

      which : (b : Bool) → a.frame.0 + 1 ≡ cond b (pte_word ptes.Poison) 0 → ⊥
      which true e = let far : pte_word ptes.Poison ≡ 2 ^ 63 = refl in omega (arith, e, far, small)
      which false e = omega (arith, e)

  -- a signal goes to a thread of its process
  in-process : (i : ℕ) (s : Signal) → slice_get has.f.signals i ≡ Some s → IsIn layout s.thread s.process
  in-process = signal-in layout (state_of layout has.log).maps (is_signalling has.f.situation) (always_signals has.f.situation) has.f.required has.f.seen has.f.signals has.entry.allowed.killed

  ending-in : (i : ℕ) (s : Signal) → slice_get a.losses.endings i ≡ Some s → IsIn layout s.thread s.process
  ending-in i s is =
      let from = filtered (is_unhandled layout) has.f.signals i s (ap (λ l. slice_get l i) (sym has.entry.endings_are) ∙ is) in
      in-process from.1.0 s (from.1.2 ∙ ap (λ (x : Signal). Some x) from.1.3)

  -- the last entry alone is new
  since-entry : drop taken.since has.body.log ≡ entry_of a.who has.f ∷ []
  since-entry = ap (λ (n : ℕ). drop n has.body.log) has.in_hand.since ∙ ap (λ (l : Log). drop (length has.log.entries) l.entries) has.entry.log_is ∙ drop-append_seam has.log.entries (entry_of a.who has.f ∷ [])

  abbrev ended : Proc → Bool
  ended process = list_any (λ (s : Signal). ends layout process s.thread) has.f.signals

  -- the processes whose ending signals the body has
  has-ending-of : (i : ℕ) (s : Signal) → slice_get a.losses.endings i ≡ Some s → has_ending layout s.process has.body.log ≡ true
  has-ending-of i s is =
      ap (λ (l : Log). has_ending layout s.process l.entries) has.entry.log_is
      ∙ list_any-append (λ (e : Entry). is_ending layout s.process e.what) has.log.entries (entry_of a.who has.f ∷ [])
      ∙ ap (λ (b : Bool). list_any (λ (e : Entry). is_ending layout s.process e.what) has.log.entries || (b || false)) (ending-ends layout has.f.signals in-process i s (ap (λ l. slice_get l i) (sym has.entry.endings_are) ∙ is))
      ∙ or-true (list_any (λ (e : Entry). is_ending layout s.process e.what) has.log.entries)
    where
      or-true : (b : Bool) → (b || true) ≡ true
      or-true true = refl
      or-true false = refl

  -- a loss of the file is owed once the entry is listed
  module _ (bodies : view.bodies ≡ taken ∷ []) where
    pub in-hand : find (is_body_of has.body.page) view.bodies ≡ Some taken
    in-hand = ap (find (is_body_of has.body.page)) bodies ∙ ap (λ (b : Bool). cond b (Some taken) None) (same-number taken.log.page.0 has.body.page.0 (ap (λ (p : Page). p.0) (has.in_hand.own ∙ sym body-page)))

    pub list-is : listed layout a.who (log_of has.body) view ≡ listed_of layout a.who (log_of has.body) (Some taken) view
    list-is = ap (λ (b : Option InHand). listed_of layout a.who (log_of has.body) b view) in-hand

    module _ (new : IsUnlisted a.who has.log has.f has.body taken) where
      pub losses-new : (listed layout a.who (log_of has.body) view).owed.losses ≡ loss_made (file_of layout has.body.page) (is_loss (what_of has.f)) ++ []
      losses-new = ap (λ (v : View). v.owed.losses) list-is
          ∙ ap (λ (l : List FileNo). l ++ losses_made layout has.body.page (more_of taken (log_of has.body))) has.paid
          ∙ ap (λ (l : List Entry). losses_made layout has.body.page l) new.more

      pub loss-owed : (file : FileNo) → file_of layout a.page ≡ Some file → is_loss (what_of has.f) ≡ true → (listed layout a.who (log_of has.body) view).owed.losses ≡ file ∷ []
      loss-owed file behind lost = losses-new
          ∙ ap (λ (o : Option FileNo). loss_made o (is_loss (what_of has.f)) ++ []) (ap (file_of layout) body-page ∙ behind)
          ∙ ap (λ (b : Bool). loss_made (Some file) b ++ []) lost

      -- which the frames that the view poisoned allow
      abbrev lossy : Made → ℕ
      lossy m = from_bool (is_loss m.entry.what)

      abbrev poisoning : Mark → ℕ
      poisoning m = from_bool (is_poisoning m.kind)

      abbrev new-made : Made
      new-made = record { stamp = stamp_of a.who view; page = has.body.page; place = length taken.log.entries; entry = entry_of a.who has.f; frame = taken.frame }

      made-is : (listed layout a.who (log_of has.body) view).made ≡ view.made ++ new-made ∷ []
      made-is = ap (λ (v : View). v.made) list-is ∙ ap (λ (l : List Entry). view.made ++ made_from (stamp_of a.who view) has.body.page taken.frame (length taken.log.entries) l) new.more

      marks-are : (listed layout a.who (log_of has.body) view).marks ≡ view.marks
      marks-are = ap (λ (v : View). v.marks) list-is

      lossy-one : (b : Bool) → from_bool b ≤ 1
      lossy-one true = omega arith
      lossy-one false = omega arith

      poison-loss : (file : FileNo) → CanLoseOne view → IsPoisonLoss (losing_of (lost_by layout a.who file (log_of has.body) view))
      poison-loss file spare =
          let all : sum_by lossy (listed layout a.who (log_of has.body) view).made ≡ sum_by lossy view.made + sum_by lossy (new-made ∷ []) = ap (sum_by lossy) made-is ∙ sum_by-append lossy view.made (new-made ∷ []) in
          let one : sum_by lossy (new-made ∷ []) ≡ from_bool (is_loss (what_of has.f)) + 0 = sum_by-cons lossy new-made [] in
          let most : from_bool (is_loss (what_of has.f)) ≤ 1 = lossy-one (is_loss (what_of has.f)) in
          let marks : sum_by poisoning (listed layout a.who (log_of has.body) view).marks ≡ sum_by poisoning view.marks = ap (sum_by poisoning) marks-are in
          omega (arith, all, one, most, marks, spare)

    -- the body goes onto the shelf
    can-shelve : view.pages ≡ page_lock a.page None (Some trans) ∷ [] → view.locks ≡ [] → length a.losses.endings ≤ killed → CanUnlockPage layout a.who view a.page (logs a.body)
    can-shelve pages locks all = subst (λ (b : Option BodyValue). CanUnlockPage layout a.who view a.page (logs b)) (sym has.given_is) (record {
      has = record { lock = page_lock a.page None (Some trans); listed = ap (λ l. slice_get l 0) pages; page_is = refl };
      named = ap (λ (p : Page). p.0 + 1) body-page;
      put_away = λ none. absurd (none-some (log_of has.body) (sym none));
      no_frame = λ i l there. absurd (none-some l (sym (ap (λ ls. slice_get ls i) locks) ∙ there));
      put = record {
        body = taken;
        body_is = in-hand;
        extends = has.in_hand.extends;
        fits = put-fits-of None trans taken (log_of has.body) body-page pages has.fits;
        killed = killed-all;
      };
    })
      where
        killed-all : (process : Proc) → has_ending layout process (drop taken.since has.body.log) ≡ true → SomeMember (λ (p : Proc). p ≡ process) taken.killed
        killed-all process some =
            let now : ended process ≡ true = sym (or-false (ended process)) ∙ sym (ap (has_ending layout process) since-entry) ∙ some in
            let ending = ended-by-ending layout has.f.signals in-process process now in
            let at : slice_get a.losses.endings ending.0 ≡ Some ending.1 = ap (λ l. slice_get l ending.0) has.entry.endings_are ∙ ending.2 in
            let inside : ending.0 < length a.losses.endings = slice_get_within a.losses.endings ending.0 ending.1 at in
            let done = has.in_hand.killed_are ending.0 ending.1 (omega (arith, inside, all)) at in
            (done.0, done.1, done.2, done.3 ∙ ending.3)
          where
            or-false : (b : Bool) → (b || false) ≡ b
            or-false true = refl
            or-false false = refl

  body-fits : FitsLayout layout a.body
  body-fits b is = ap (λ (x : BodyValue). x.layout) (same_Some b has.body (sym is ∙ has.given_is)) ∙ has.entry.layout_is

pub can : (layout : Layout) (view : View) (a : Abandon) (step : Step) → Fits layout view a → plan a ≡ Some step → CanMake layout a.who step (put a) view
can layout view a step fits is = which a.at fits.at is
  where
    small : a.frame.0 < 2 ^ 16
    small = small-frame a fits

    which : (x : AbandonAt) → FitsAt layout view a x → plan_at a.page a.frame a.count a.body x ≡ Some step → CanMake layout a.who step (put_at a.body x) view
    which at.SetCache has e = can-make fits.on_turn e fits.page (record {
      page_held = page-held a.page a.page (Some a.frame) (ap (λ (h : Hand). h.pages) has.hand_is) (ap (λ (h : Hand). h.bodies) has.hand_is) has.carries.in_hand.own refl;
      frames = can-uncache layout view a.page a.frame (a.count - 1) _ small (ap (λ (h : Hand). h.locks) has.hand_is) refl (ap (λ (h : Hand). h.refs) has.hand_is) (omega (arith, fits.some, fits.room));
    })
    which at.SetOwner has e = can-make fits.on_turn e fits.frame (
      fits.page,
      record {
        has = lock-held _ (ap (λ (h : Hand). h.locks) has.hand_is) refl;
        owned = refl;
        page_held = page-held a.page a.page None (ap (λ (h : Hand). h.pages) has.hand_is) (ap (λ (h : Hand). h.bodies) has.hand_is) has.carries.in_hand.own refl;
        uncached = λ zero. omega (arith, zero);
        unmapped = names-none a has.carries small;
      },
    )
    which (at.Lose file) (has, its) e = can-make fits.on_turn (sym (ap (λ (b : Option BodyValue). option_map (λ (b : BodyValue). steps.Lose file (snapshot b)) b) has.carries.given_is) ∙ e) (file-within layout a.page file fits.sound fits.page lost.0) (record {
      page_held = page-held a.page has.carries.body.page None (ap (λ (h : Hand). h.pages) has.hand_is) bodies has.carries.in_hand.own (sym (body-page a has.carries));
      extends = has.carries.in_hand.extends;
      behind = ap (file_of layout) (body-page a has.carries) ∙ lost.0;
      owed = (0, file, ap (λ (l : List FileNo). slice_get l 0) (loss-owed a has.carries bodies has.unlisted file lost.0 lost.1), refl);
      poisoned = poison-loss a has.carries bodies has.unlisted file has.spare;
    })
      where
        bodies : view.bodies ≡ has.taken ∷ []
        bodies = ap (λ (h : Hand). h.bodies) has.hand_is

        lost : (file_of layout a.page ≡ Some file) × (is_loss (what_of has.carries.f) ≡ true)
        lost = subst (IsLostFile layout a.page has.carries.f) its has.carries.entry.file_is
    which (at.Kill number process) (has, its) e = can-make fits.on_turn (sym (ap (λ (b : Option BodyValue). option_map (λ (b : BodyValue). steps.Kill process a.page (snapshot b)) b) has.carries.given_is) ∙ e)
        (subst (λ (p : Proc). p.0 < layout.procs) its.2 (process-within layout its.0.thread its.0.process fits.sound (ending-in a has.carries number its.0 its.1))) (record {
          within = fits.page;
          page_is = body-page a has.carries;
          page_held = page-held a.page has.carries.body.page None (ap (λ (h : Hand). h.pages) has.hand_is) (ap (λ (h : Hand). h.bodies) has.hand_is) has.carries.in_hand.own (sym (body-page a has.carries));
          extends = has.carries.in_hand.extends;
          ending = subst (λ (p : Proc). has_ending layout p has.carries.body.log ≡ true) its.2 (has-ending-of a has.carries number its.0 its.1);
        })
    which at.PutRef has e = can-make fits.on_turn e fits.frame (
      let some : _ = fits.some in omega (arith, some),
      subst (λ (h : Hand). a.count - 1 + locks_on a.frame.0 h.locks ≤ refs_on a.frame.0 h.refs) (sym has.hand_is)
          (let all : _ = refs-are a.frame a.count in let one = lock-one a.frame (record { frame = a.frame; owner = 0; handled = false; poisoned = true }) refl in let some : _ = fits.some in omega (arith, all, one, some)),
    )
    which at.Retire has e = can-make fits.on_turn e fits.frame (record {
      has = lock-held _ (ap (λ (h : Hand). h.locks) has.hand_is) refl;
      unowned = refl;
      unhandled = refl;
      poisoned = refl;
      empty = refl;
    })
    which at.UnlockPage has e = can-put fits.on_turn e fits.page
        (can-shelve a has.carries (ap (λ (h : Hand). h.bodies) has.hand_is) (ap (λ (h : Hand). h.pages) has.hand_is) (ap (λ (h : Hand). h.locks) has.hand_is) (omega arith)) (body-fits a has.carries) tt
    which at.Over has e = absurd (none-some step e)
