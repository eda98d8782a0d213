-- Each entry that rests on bad lines was made by a command that was shown them: by a step under the lock of the frame from which it
-- had the page's body.
use Rattle.std.proofs.Common.{◌≡◌, ◌⊎◌, inl, inr, ℕ, zero, suc, ◌+◌, ◌<◌, ◌≤◌, Bool, true, false, true≢false, List, [], ◌∷◌, ◌++◌, Option, Some, None, drop, length, slice_get, refl, sym, ap, ◌∙◌, subst, append_assoc, arith}
use Rattle.std.proofs.lemmas.List.{append-nil}
use Rattle.std.proofs.lemmas.Option.{none-some, same_Some, slice_get_within}
use Rattle.hwp_law_served.specs.hwp_geom.declared.Frame.{Frame}
use Rattle.hwp_law_served.specs.hwp_geom.declared.Layout.{Layout}
use Rattle.hwp_law_served.specs.hwp_geom.declared.Page.{Page}
use Rattle.hwp_law_served.specs.hwp_geom.declared.Who.{Who}
use Rattle.hwp_law_served.specs.hwp_page.declared.Entry.{Entry}
use Rattle.hwp_law_served.specs.hwp_page.declared.Met.TheVariants.{Word}
use Rattle.hwp_law_served.specs.hwp_page.declared.What.{What}
use Rattle.hwp_law_served.specs.hwp_page.declared.What.TheVariants as whats
use Rattle.hwp_law_served.specs.hwp_core_rule.declared.FrameLock.{FrameLock}
use Rattle.hwp_law_served.specs.hwp_core_rule.declared.InHand.{InHand}
use Rattle.hwp_law_served.specs.hwp_core_rule.declared.Log.{Log}
use Rattle.hwp_law_served.specs.hwp_core_rule.declared.Made.{Made}
use Rattle.hwp_law_served.specs.hwp_core_rule.declared.SharedWord.{SharedWord}
use Rattle.hwp_law_served.specs.hwp_core_rule.declared.SharedWord.TheVariants as places
use Rattle.hwp_law_served.specs.hwp_core_rule.declared.Sight.{Sight}
use Rattle.hwp_law_served.specs.hwp_core_rule.declared.Stamp.{Stamp}
use Rattle.hwp_law_served.specs.hwp_core_rule.declared.State.{State}
use Rattle.hwp_law_served.specs.hwp_core_rule.declared.Step.{Step}
use Rattle.hwp_law_served.specs.hwp_core_rule.declared.Step.TheVariants as steps
use Rattle.hwp_law_served.specs.hwp_core_rule.declared.View.{View}
use Rattle.hwp_law_served.specs.hwp_core_rule.Lists.{EachMember, SomeMember}
use Rattle.hwp_law_served.specs.hwp_core_rule.Moves.{Move}
use Rattle.hwp_law_served.specs.hwp_core_rule.Opening.{below, opening, opening_view}
use Rattle.hwp_law_served.specs.hwp_core_rule.Rule.{Holds}
use Rattle.hwp_law_served.specs.hwp_core_rule.Steps.{place_of}
use Rattle.hwp_law_served.specs.hwp_core_rule.Views.{made_from, more_of, noted, stamp_of, view_after, view_by, is_body_of}
use Rattle.hwp_law_served.specs.hwp_core_rule.parts.Entries.{HasMask, HasSeen, IsUnder}
use Rattle.hwp_law_served.proofs.of_hwp_core_rule.AsksNoted.{asks-noted}
use Rattle.hwp_law_served.proofs.of_hwp_core_rule.Lists.{at_last, at_push, each-map, each-set, each-weaken}
use Rattle.hwp_law_served.proofs.of_hwp_core_rule.MoreEntries.{each-append}
use Rattle.hwp_law_served.proofs.of_hwp_core_rule.ListDrops.{find-is}
use Rattle.hwp_law_served.specs.hwp_core_rule.Boards.{Played}
use Rattle.hwp_law_served.specs.Turns.{Leads}
use Rattle.hwp_law_served.proofs.turns.StepEntries.{Adds, AddsMade, adds}
use Rattle.hwp_law_served.proofs.turns.TurnLeads.{leads-on}
use Rattle.hwp_law_served.proofs.turns.SeatKnows.{under-lock}
use Rattle.hwp_law_served.proofs.turns.SeatTells.{later, now}
use Rattle.hwp_top_report.specs.Loads.{HasPageIn, Inspects}
use Rattle.hwp_law_served.proofs.StepAdds.{OneMore, adds-by}
use Rattle.hwp_top_report.proofs.loads.BodiesBy.{bodies-so}

-- the bad lines that an entry rests on
abbrev pub mask_of : What → Option ℕ
mask_of (whats.Load slot line (Word mask word)) = Some mask.0
mask_of (whats.Store slot line (Word mask word)) = Some mask.0
mask_of (whats.Mce slot line mask) = Some mask.0
mask_of whats.Sync = Some 0
mask_of whats.Out = Some 0
mask_of whats.Soft = Some 0
mask_of _ = None

-- its command has seen them
mask-seen : (sights : List Sight) (who : Who) (frame : Option Frame) (what : What) (n : ℕ) → mask_of what ≡ Some n → HasSeen sights who frame what → HasMask sights who frame n
mask-seen sights who frame (whats.Load slot line (Word mask word)) n is seen = subst (HasMask sights who frame) (same_Some mask.0 n is) seen
mask-seen sights who frame (whats.Store slot line (Word mask word)) n is seen = subst (HasMask sights who frame) (same_Some mask.0 n is) seen
mask-seen sights who frame (whats.Mce slot line mask) n is seen = subst (HasMask sights who frame) (same_Some mask.0 n is) seen
mask-seen sights who frame whats.Sync n is seen = subst (HasMask sights who frame) (same_Some 0 n is) seen
mask-seen sights who frame whats.Out n is seen = subst (HasMask sights who frame) (same_Some 0 n is) seen
mask-seen sights who frame whats.Soft n is seen = subst (HasMask sights who frame) (same_Some 0 n is) seen
mask-seen sights who frame what n is seen = absurd (none-some n is)

-- a member past the first n is one of the list
past-first : {A : Type 0} (l : List A) (n i : ℕ) (x : A) → slice_get (drop n l) i ≡ Some x → slice_get l (n + i) ≡ Some x
past-first l zero i x there = ap (slice_get l) (let h : 0 + i ≡ i = omega arith in h) ∙ there
past-first [] (suc n) i x there = absurd (none-some x there)
past-first (y ∷ ys) (suc n) i x there = ap (slice_get (y ∷ ys)) (let h : suc n + i ≡ suc (n + i) = omega arith in h) ∙ past-first ys n i x there

-- ---- a step that shows bad lines

abbrev is_bad : SharedWord → Bool
is_bad (places.Bad frame) = true
is_bad _ = false

last-same : {A : Type 0} (l : List A) (x y : A) → l ++ x ∷ [] ≡ l ++ y ∷ [] → x ≡ y
last-same l x y same = same_Some x y (sym (at_last l x) ∙ ap (λ m. slice_get m (length l)) same ∙ at_last l y)

not-longer : {A : Type 0} (l : List A) (x : A) → l ≡ l ++ x ∷ [] → ⊥
not-longer l x same =
    let inside : length l < length l = slice_get_within l (length l) x (ap (λ m. slice_get m (length l)) same ∙ at_last l x) in
    omega (arith, inside)

-- it is a load: the sight is of the locks that the seat has, and keeps
bad-sight : (layout : Layout) (who : Who) (step : Step) (found : ℕ) (content : Option Log) (v : View) (s : Sight) (frame : Frame) → (view_by layout who step found content v).sights ≡ v.sights ++ s ∷ [] → place_of step ≡ places.Bad frame
    → (s.stamp ≡ stamp_of who v) × ((view_by layout who step found content v).locks ≡ v.locks)
bad-sight layout who (steps.Load (places.Bad g)) found content v s frame more is = (sym (ap (λ (x : Sight). x.stamp) (last-same v.sights _ s more)), refl)
bad-sight layout who (steps.Spoil g line damage) found content v s frame more is = absurd (not-longer v.sights s more)
bad-sight layout who step found content v s frame more is = absurd (true≢false (sym (ap is_bad is)))

-- each sight of a body's frame, since the body was taken and under the frame's lock, was shown by a turn that had both
abbrev IsBodySeen : Layout → List Played → List Sight → InHand → Type 0
IsBodySeen layout turns sights b =
    (frame : Frame) (k : ℕ) (s : Sight) → b.frame ≡ Some frame → b.from ≤ k → slice_get sights k ≡ Some s → s.place ≡ places.Bad frame → IsUnder frame s.stamp → Inspects layout turns s.stamp.who b.log.page frame s.word

-- the bad lines that an entry rests on were shown by such a turn
abbrev pub IsEntrySeen : Layout → List Played → Made → Type 0
IsEntrySeen layout turns m = (n : ℕ) → mask_of m.entry.what ≡ Some n → (frame : Frame) × Inspects layout turns m.entry.who m.page frame n

pub record AreInspected (layout : Layout) (turns : List Played) (v : View) : Type 0 where
  pub hands : EachMember (IsBodySeen layout turns v.sights) v.bodies
  pub made : EachMember (IsEntrySeen layout turns) v.made

module _ (layout : Layout) where
  inspected-later : (turns more : List Played) (v : View) → AreInspected layout turns v → AreInspected layout (turns ++ more) v
  inspected-later turns more v was = record {
    hands = λ i b there frame k s from past sight bad under. later layout turns more (was.hands i b there frame k s from past sight bad under);
    made = λ i m there n is. let by = was.made i m there n is in (by.0, later layout turns more by.1);
  }

  module _ (before : List Played) (p : Played) (a b : State) (led : Leads layout (opening layout) before a) (m : Move layout p.seat p.made a b) (holds : Holds layout b) (was : AreInspected layout (before ++ p ∷ []) m.view) where
    abbrev v : View
    v = noted p.made.who m.view

    abbrev after : View
    after = view_after layout p.made m.view

    abbrev turns : List Played
    turns = before ++ p ∷ []

    -- the bodies in hand, by the sights of before
    bodies : EachMember (IsBodySeen layout turns v.sights) after.bodies
    bodies = bodies-so layout (IsBodySeen layout turns v.sights)
        (λ x y page frame from seen f k s of past there bad under. subst (λ (q : Page). Inspects layout turns s.stamp.who q f s.word) (sym page) (seen f k s (sym frame ∙ of) (subst (λ (n : ℕ). n ≤ k) from past) there bad under))
        p.made.who p.made.step p.made.found p.made.content v
        (λ x from f k s of past there bad under.
        let inside : k < length v.sights = slice_get_within v.sights k s there in
        let most : length v.sights ≤ k = subst (λ (n : ℕ). n ≤ k) from past in
        absurd (omega (arith, inside, most)))
        was.hands

    -- and by the one that the step adds
    hands-after : OneMore (λ (s : Sight). (s.stamp.who ≡ p.made.who) × (s.place ≡ place_of p.made.step) × (s.word ≡ p.made.found)) v.sights after.sights → EachMember (IsBodySeen layout turns after.sights) after.bodies
    hands-after (inl same) i body in_hand frame k s of past there bad under = bodies i body in_hand frame k s of past (sym (ap (λ (l : List Sight). slice_get l k) same) ∙ there) bad under
    hands-after (inr (x, more, (own, place, word))) i body in_hand frame k s of past there bad under =
        which (at_push v.sights x s k (sym (ap (λ (l : List Sight). slice_get l k) more) ∙ there))
      where
        newest : x ≡ s → Inspects layout turns s.stamp.who body.log.page frame s.word
        newest is =
            let at : place_of p.made.step ≡ places.Bad frame = sym place ∙ ap (λ (y : Sight). y.place) is ∙ bad in
            let load = bad-sight layout p.made.who p.made.step p.made.found p.made.content v x frame more at in
            let stamp : s.stamp ≡ stamp_of p.made.who v = ap (λ (y : Sight). y.stamp) (sym is) ∙ load.0 in
            let lock = under-lock p.made.who v frame (subst (IsUnder frame) stamp under) in
            let has : HasPageIn body.log.page frame after = record { locked = subst (SomeMember (λ (l : FrameLock). l.frame ≡ frame)) (sym load.1) lock; body = (i, body, in_hand, (refl, of)) } in
            now layout before p a b led m holds s.stamp.who (sym own ∙ ap (λ (y : Sight). y.stamp.who) is) (at, sym word ∙ ap (λ (y : Sight). y.word) is, has)

        which : (slice_get v.sights k ≡ Some s) ⊎ (x ≡ s) → Inspects layout turns s.stamp.who body.log.page frame s.word
        which (inl old) = bodies i body in_hand frame k s of past old bad under
        which (inr is) = newest is

    -- an entry that rests on sights since the body was taken
    entry-seen : (log : Log) (body : InHand) (stamp : Stamp) (place : ℕ) (e : Entry) → IsBodySeen layout turns v.sights body → log.page ≡ body.log.page → e.who ≡ p.made.who → HasSeen (drop body.from v.sights) p.made.who body.frame e.what
        → IsEntrySeen layout turns (record { stamp = stamp; page = log.page; place = place; entry = e; frame = body.frame })
    entry-seen log body stamp place e all page own seen n is = which body.frame refl (mask-seen (drop body.from v.sights) p.made.who body.frame e.what n is seen)
      where
        which : (o : Option Frame) → body.frame ≡ o → HasMask (drop body.from v.sights) p.made.who o n → (frame : Frame) × Inspects layout turns e.who log.page frame n
        which None of mask = absurd mask
        which (Some frame) of (i, s, there, shows) =
            let by = all frame (body.from + i) s of (omega arith) (past-first v.sights body.from i s there) shows.place_is shows.under in (
              frame,
              subst (λ (w : Who). Inspects layout turns w log.page frame n) (shows.own ∙ sym own)
                  (subst (λ (q : Page). Inspects layout turns s.stamp.who q frame n) (sym page) (subst (λ (k : ℕ). Inspects layout turns s.stamp.who body.log.page frame k) shows.word_is by)),
            )

    entries-seen : (log : Log) (body : InHand) (stamp : Stamp) → IsBodySeen layout turns v.sights body → log.page ≡ body.log.page → (place : ℕ) (list : List Entry) → EachMember (λ (e : Entry). e.who ≡ p.made.who) list
        → EachMember (λ (e : Entry). HasSeen (drop body.from v.sights) p.made.who body.frame e.what) list → EachMember (IsEntrySeen layout turns) (made_from stamp log.page body.frame place list)
    entries-seen log body stamp all page place [] own seen i x there = absurd (none-some x there)
    entries-seen log body stamp all page place (e ∷ es) own seen zero x there =
        subst (IsEntrySeen layout turns) (same_Some _ x there) (entry-seen log body stamp place e all page (own 0 e refl) (seen 0 e refl))
    entries-seen log body stamp all page place (e ∷ es) own seen (suc i) x there =
        entries-seen log body stamp all page (suc place) es (λ j y at. own (suc j) y at) (λ j y at. seen (suc j) y at) i x there

    made-after : Adds layout p.made.who p.made.step p.made.found p.made.content v after → EachMember (IsEntrySeen layout turns) after.made
    made-after (inl none) = subst (EachMember (IsEntrySeen layout turns)) (sym none.made) was.made
    made-after (inr (inl one)) = subst (EachMember (IsEntrySeen layout turns)) (sym one.made) was.made
    made-after (inr (inr more)) = subst (EachMember (IsEntrySeen layout turns)) (sym more.made) (each-append (IsEntrySeen layout turns) v.made _ was.made (listed more))
      where
        listed : (more : AddsMade layout p.made.who v after) → EachMember (IsEntrySeen layout turns) (made_from (stamp_of p.made.who v) more.log.page more.body.frame (length more.body.log.entries) (more_of more.body more.log))
        listed more =
            let found = find-is (is_body_of more.log.page) v.bodies more.body more.body_is in
            entries-seen more.log more.body (stamp_of p.made.who v) (was.hands found.0 more.body found.1) more.extends.page_is (length more.body.log.entries) (more_of more.body more.log) more.extends.own more.extends.seen

    moved : AreInspected layout turns after
    moved = record {
      hands = hands-after (adds-by layout p.made.who p.made.step p.made.found p.made.content v).sights;
      made = made-after (adds layout p.made.who p.made.step p.made.found p.made.content v (asks-noted layout p.made.who m.view p.made.step p.made.content m.asks.kind));
    }

  -- ---- a run

  inspected-move : (before : List Played) (p : Played) (a b : State) → Leads layout (opening layout) before a → Move layout p.seat p.made a b → Holds layout b → EachMember (AreInspected layout before) a.views → EachMember (AreInspected layout (before ++ p ∷ [])) b.views
  inspected-move before p a b led m holds each =
      let was : EachMember (AreInspected layout (before ++ p ∷ [])) a.views = each-weaken (AreInspected layout before) (AreInspected layout (before ++ p ∷ [])) a.views (inspected-later before (p ∷ [])) each in
      let own : AreInspected layout (before ++ p ∷ []) (view_after layout p.made m.view) = moved before p a b led m holds (was p.seat m.view m.me) in
      subst (λ (s : State). EachMember (AreInspected layout (before ++ p ∷ [])) s.views) (sym m.next) (each-set (AreInspected layout (before ++ p ∷ [])) a.views p.seat (view_after layout p.made m.view) own was)

  inspected-on : (before turns : List Played) (a b : State) → Leads layout (opening layout) before a → Leads layout a turns b → EachMember (AreInspected layout before) a.views → EachMember (AreInspected layout (before ++ turns)) b.views
  inspected-on before [] a b led leads each =
      subst (λ (s : State). EachMember (AreInspected layout (before ++ [])) s.views) (sym leads)
      (subst (λ (l : List Played). EachMember (AreInspected layout l) a.views) (sym (append-nil before)) each)
  inspected-on before (p ∷ ps) a b led (mid, move, holds, rest) each =
      subst (λ (l : List Played). EachMember (AreInspected layout l) b.views) (append_assoc before (p ∷ []) ps)
      (inspected-on (before ++ p ∷ []) ps mid b (leads-on layout (opening layout) a mid before (p ∷ []) led (mid, move, holds, refl)) rest (inspected-move before p a mid led move holds each))

  -- along a run, the bad lines that each entry rests on were shown to its command under the lock of the page's frame
  pub all-inspected : (turns : List Played) (last : State) → Leads layout (opening layout) turns last → EachMember (AreInspected layout turns) last.views
  all-inspected turns last leads = inspected-on [] turns (opening layout) last refl leads
      (each-map opening_view (AreInspected layout []) (below layout.cpus) (λ i c e. record { hands = λ j b there. absurd (none-some b there); made = λ j x there. absurd (none-some x there) }))
