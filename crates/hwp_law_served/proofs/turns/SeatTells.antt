-- What seats know at the end of a run, their steps told them.
use Rattle.std.proofs.Common.{◌≡◌, ◌⊎◌, ℕ, ◌<◌, ◌≤◌, ◌==◌, List, [], ◌∷◌, ◌++◌, Some, map, slice_get, slice_index, inl, inr, refl, sym, ap, ◌∙◌, subst, append_assoc, arith}
use Rattle.std.specs.Int.{from_bool}
use Rattle.std.specs.List.{sum_by}
use Rattle.std.proofs.lemmas.Bool.{eqb-true}
use Rattle.std.proofs.lemmas.List.{append-nil}
use Rattle.std.proofs.lemmas.Option.{none-some, slice_get_within}
use Rattle.hwp_law.specs.hwp_geom.declared.Cpu.{Cpu}
use Rattle.hwp_law.specs.hwp_geom.declared.Frame.{Frame}
use Rattle.hwp_law.specs.hwp_geom.declared.Layout.{Layout}
use Rattle.hwp_law.specs.hwp_geom.declared.Who.{Who}
use Rattle.hwp_plain.specs.hwp_words.Frames.{lock_of}
use Rattle.hwp_plain.specs.hwp_core_rule.declared.FrameLock.{FrameLock}
use Rattle.hwp_plain.specs.hwp_core_rule.declared.Log.{Log}
use Rattle.hwp_plain.specs.hwp_core_rule.declared.Rec.{Rec}
use Rattle.hwp_plain.specs.hwp_core_rule.declared.Ref.{Ref}
use Rattle.hwp_plain.specs.hwp_core_rule.declared.SharedWord.{SharedWord}
use Rattle.hwp_plain.specs.hwp_core_rule.declared.SharedWord.TheVariants as places
use Rattle.hwp_plain.specs.hwp_core_rule.declared.Sight.{Sight}
use Rattle.hwp_plain.specs.hwp_core_rule.declared.State.{State}
use Rattle.hwp_plain.specs.hwp_core_rule.declared.Step.{Step}
use Rattle.hwp_plain.specs.hwp_core_rule.declared.Step.TheVariants as steps
use Rattle.hwp_plain.specs.hwp_core_rule.declared.View.{View}
use Rattle.hwp_plain.specs.hwp_core_rule.Asks.{AsksOf}
use Rattle.hwp_plain.specs.hwp_core_rule.Lists.{EachMember, SomeMember}
use Rattle.hwp_plain.specs.hwp_core_rule.Moves.{Move}
use Rattle.hwp_plain.specs.hwp_core_rule.Opening.{below, opening, opening_view}
use Rattle.hwp_plain.specs.hwp_core_rule.Rule.{Holds}
use Rattle.hwp_plain.specs.hwp_core_rule.Steps.{place_of}
use Rattle.hwp_plain.specs.hwp_core_rule.Views.{locks_on, noted, view_after}
use Rattle.hwp_plain.specs.hwp_core_rule.Words.{index, words_of}
use Rattle.hwp_plain.specs.hwp_core_rule.parts.Entries.{IsUnder as IsUnderLock}
use Rattle.hwp_plain.specs.hwp_core_rule.parts.Locks.{IsLocked}
use Rattle.hwp_plain.proofs.of_hwp_core_rule.Lists.{at_map, each-map, each-set, each-weaken, same-number, set_here, term-le}
use Rattle.hwp_plain.proofs.of_hwp_core_rule.MetWords.{frame-word}
use Rattle.hwp_plain.proofs.of_hwp_core_rule.MoveKeeps.{shaped}
use Rattle.hwp_plain.specs.hwp_core_rule.Boards.{Played}
use Rattle.hwp_law_served.specs.Turns.{Leads, SawPage, TurnBy}
use Rattle.hwp_law_served.proofs.turns.SeatKnows.{IsStamped, IsUnder, Marks, Said, SaidOfStep, Sayings, Spoils, said-by}
use Rattle.hwp_law_served.proofs.turns.TurnLeads.{leads-on}

-- an unlocked word of a frame by a stamp that names the frame's lock: the step adopted the frame
pub record ShowsAdopted (s : Sight) (step : Step) : Type 0 where
  pub adopted : (frame : Frame) → s.place ≡ places.Frame frame → IsUnderLock frame s.stamp → lock_of s.word ≡ 0 → step ≡ steps.Adopt frame

-- the turns told the view's lists
abbrev pub told : Layout → List Played → Sayings
told layout turns = record {
  sight = λ s. TurnBy layout turns s.stamp.who (λ (made : Rec) (view : View). (place_of made.step ≡ s.place) × (made.found ≡ s.word) × IsUnder s view × ShowsAdopted s made.step);
  length = λ l. l.stamp.page ≡ Some l.log.page → SawPage layout turns l.stamp.who l.log.page (λ (log : Log). log ≡ l.log);
  mark = λ m. TurnBy layout turns m.stamp.who (λ (made : Rec) (view : View). Marks made.step made.found m);
  stop = λ who. TurnBy layout turns who (λ (made : Rec) (view : View). (made.step ≡ steps.Stop who.cpu) × (made.found ≡ 0));
  spoil = λ s. TurnBy layout turns s.stamp.who (λ (made : Rec) (view : View). Spoils made.step s);
}

module _ (layout : Layout) where
  -- the word of a frame whose lock a view lists is locked
  held-locked : (a : State) (seat : ℕ) (view : View) (frame : Frame) (found : ℕ) → Holds layout a → slice_get a.views seat ≡ Some view → SomeMember (λ (l : FrameLock). l.frame ≡ frame) view.locks
      → found ≡ slice_index a.words (index layout (places.Frame frame)) → 0 < lock_of found
  held-locked a seat view frame found rule me has met =
      let lock : FrameLock = has.1 in
      let held : List (List Ref × List FrameLock) = map (λ (v : View). (v.refs, v.locks)) a.views in
      let mine : slice_get held seat ≡ Some (view.refs, view.locks) = at_map (λ (v : View). (v.refs, v.locks)) a.views seat view me in
      let known : IsLocked (words_of layout a.words).frames view.refs lock = rule.rule.frames.frame_locks.known seat (view.refs, view.locks) mine has.0 lock has.2 in
      let same : lock.frame.0 ≡ frame.0 = ap (λ (f : Frame). f.0) has.3 in
      let inside : frame.0 < layout.frames = subst (λ (n : ℕ). frame.0 < n) (shaped layout a rule).frames
      (slice_get_within (words_of layout a.words).frames frame.0 known.word (subst (λ (n : ℕ). slice_get (words_of layout a.words).frames n ≡ Some known.word) same known.there)) in
      let all : sum_by (λ (h : List Ref × List FrameLock). locks_on frame.0 h.1) held ≡ lock_of found = rule.rule.frames.frame_locks.one frame.0 found (frame-word layout a rule frame found inside met) in
      let own : locks_on frame.0 view.locks ≤ sum_by (λ (h : List Ref × List FrameLock). locks_on frame.0 h.1) held = term-le (λ (h : List Ref × List FrameLock). locks_on frame.0 h.1) held seat (view.refs, view.locks) mine in
      let one : from_bool (lock.frame.0 == frame.0) ≡ 1 = ap from_bool (same-number lock.frame.0 frame.0 same) in
      let more : from_bool (lock.frame.0 == frame.0) ≤ locks_on frame.0 view.locks = term-le (λ (l : FrameLock). from_bool (l.frame.0 == frame.0)) view.locks has.0 lock has.2 in
      omega (arith, all, own, one, more)

  -- a turn stays one where more follow
  pub later : {Such : Rec → View → Type 0} {who : Who} (turns more : List Played) → TurnBy layout turns who Such → TurnBy layout (turns ++ more) who Such
  later turns more by = record {
    before = by.before;
    turn = by.turn;
    after = by.after ++ more;
    all = ap (λ (l : List Played). l ++ more) by.all ∙ append_assoc by.before (by.turn ∷ by.after) more;
    board = by.board;
    led = by.led;
    view = by.view;
    knows = by.knows;
    own = by.own;
    such = by.such;
  }

  said-later : (turns more : List Played) (v : View) → Said (told layout turns) v → Said (told layout (turns ++ more)) v
  said-later turns more v said = record {
    sights = λ i s e. later turns more (said.sights i s e);
    lengths = λ i l e page. later turns more (said.lengths i l e page);
    marks = λ i m e. later turns more (said.marks i m e);
    stops = λ i w e. later turns more (said.stops i w e);
    spoiled = λ i s e. later turns more (said.spoiled i s e);
  }

  module _ (before : List Played) (p : Played) (a b : State) (led : Leads layout (opening layout) before a) (m : Move layout p.seat p.made a b) (holds : Holds layout b) where
    abbrev after : View
    after = view_after layout p.made m.view

    -- the newest turn
    pub now : {Such : Rec → View → Type 0} (who : Who) → p.made.who ≡ who → Such p.made after → TurnBy layout (before ++ p ∷ []) who Such
    now who own such = record {
      before = before;
      turn = p;
      after = [];
      all = refl;
      board = b;
      led = leads-on layout (opening layout) a b before (p ∷ []) led (b, m, holds, refl);
      view = after;
      knows = ap (λ (s : State). slice_get s.views p.seat) m.next ∙ set_here a.views p.seat after m.view m.me;
      own = own;
      such = such;
    }

    stops-own : (step : Step) (cpu : Cpu) → AsksOf layout p.made.who step p.made.content m.view → step ≡ steps.Stop cpu → step ≡ steps.Stop p.made.who.cpu
    stops-own step cpu asks is = is ∙ ap (λ (c : Cpu). steps.Stop c) (subst (λ (s : Step). AsksOf layout p.made.who s p.made.content m.view) is asks)

    -- with the rule before it: what the step adds, and all that is said of its seat's lists
    module _ (rule : Holds layout a) where
      adopts : (s : Sight) → s.place ≡ place_of p.made.step → s.word ≡ p.made.found → IsStamped s p.made.step (noted p.made.who m.view) → ShowsAdopted s p.made.step
      adopts s place word stamped = record { adopted = λ frame is under free. which frame is free (stamped.locked frame is under) }
        where
          which : (frame : Frame) → s.place ≡ places.Frame frame → lock_of s.word ≡ 0 → (p.made.step ≡ steps.Adopt frame) ⊎ SomeMember (λ (l : FrameLock). l.frame ≡ frame) m.view.locks → p.made.step ≡ steps.Adopt frame
          which frame is free (inl own) = own
          which frame is free (inr has) =
              let met : p.made.found ≡ slice_index a.words (index layout (places.Frame frame)) = m.met ∙ ap (λ (place : SharedWord). slice_index a.words (index layout place)) (sym place ∙ is) in
              let some : 0 < lock_of p.made.found = held-locked a p.seat m.view frame p.made.found rule m.me has met in
              let none : lock_of p.made.found ≡ 0 = ap lock_of (sym word) ∙ free in
              absurd (omega (arith, some, none))

      new : SaidOfStep (told layout (before ++ p ∷ [])) p.made.who p.made.step p.made.found (noted p.made.who m.view) after
      new = record {
        sight = λ s own place word under stamped. now s.stamp.who (sym own) (sym place, sym word, under, adopts s place word stamped);
        length = λ l own seen page. now l.stamp.who (sym own) (seen page);
        mark = λ k own made. now k.stamp.who (sym own) made;
        stop = λ cpu is zero. now p.made.who refl (stops-own p.made.step cpu m.asks.kind is, eqb-true p.made.found 0 zero);
        spoil = λ s own made. now s.stamp.who (sym own) made;
      }

      said-move : EachMember (Said (told layout before)) a.views → EachMember (Said (told layout (before ++ p ∷ []))) b.views
      said-move each =
          let was : EachMember (Said (told layout (before ++ p ∷ []))) a.views = each-weaken (Said (told layout before)) (Said (told layout (before ++ p ∷ []))) a.views (said-later before (p ∷ [])) each in
          let own : Said (told layout (before ++ p ∷ [])) after = said-by (told layout (before ++ p ∷ [])) layout p.made.who p.made.step p.made.found p.made.content (noted p.made.who m.view) new (was p.seat m.view m.me) in
          subst (λ (s : State). EachMember (Said (told layout (before ++ p ∷ []))) s.views) (sym m.next) (each-set (Said (told layout (before ++ p ∷ []))) a.views p.seat after own was)

  said-on : (before turns : List Played) (a b : State) → Holds layout a → Leads layout (opening layout) before a → Leads layout a turns b → EachMember (Said (told layout before)) a.views → EachMember (Said (told layout (before ++ turns))) b.views
  said-on before [] a b rule led leads each =
      subst (λ (s : State). EachMember (Said (told layout (before ++ []))) s.views) (sym leads)
      (subst (λ (l : List Played). EachMember (Said (told layout l)) a.views) (sym (append-nil before)) each)
  said-on before (p ∷ ps) a b rule led (mid, move, holds, rest) each =
      subst (λ (l : List Played). EachMember (Said (told layout l)) b.views) (append_assoc before (p ∷ []) ps)
      (said-on (before ++ p ∷ []) ps mid b holds (leads-on layout (opening layout) a mid before (p ∷ []) led (mid, move, holds, refl)) rest (said-move before p a mid led move holds rule each))

  opening-said : (c : ℕ) → Said (told layout []) (opening_view c)
  opening-said c = record {
    sights = λ i x e. absurd (none-some x e);
    lengths = λ i x e. absurd (none-some x e);
    marks = λ i x e. absurd (none-some x e);
    stops = λ i x e. absurd (none-some x e);
    spoiled = λ i x e. absurd (none-some x e);
  }

  -- each sight, length, mark, stop and spoiled line that a view lists at the end of a run was told by a turn of its own command
  pub all-told : (turns : List Played) (last : State) → Holds layout (opening layout) → Leads layout (opening layout) turns last → EachMember (Said (told layout turns)) last.views
  all-told turns last rule leads = said-on [] turns (opening layout) last rule refl leads
      (each-map opening_view (Said (told layout [])) (below layout.cpus) (λ i c e. opening-said c))
