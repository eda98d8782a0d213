-- Each history is legal: its entries lead from the page's opening, step by step.
use Rattle.std.proofs.Common.{◌≡◌, ℕ, zero, suc, ◌==◌, Bool, true, false, cond, List, [], ◌∷◌, ◌++◌, Option, Some, None, length, map, replicate, slice_get, refl, sym, ap, ◌∙◌, subst}
use Rattle.std.proofs.lemmas.Option.{none-some, same_Some}
use Rattle.hwp_law.specs.hwp_geom.Layout.{is_locked}
use Rattle.hwp_law.specs.hwp_geom.declared.Frame.{Frame}
use Rattle.hwp_law.specs.hwp_geom.declared.Layout.{Layout}
use Rattle.hwp_law.specs.hwp_geom.declared.Page.{Page}
use Rattle.hwp_law.specs.hwp_geom.declared.Proc.{Proc}
use Rattle.hwp_law.specs.hwp_geom.declared.Who.{Who}
use Rattle.hwp_law.specs.hwp_page.declared.Entry.{Entry}
use Rattle.hwp_law.specs.hwp_page.declared.PageState.{PageState}
use Rattle.hwp_law.specs.hwp_page.History.{Leads}
use Rattle.hwp_law.specs.hwp_page.Step.{after}
use Rattle.hwp_plain.specs.hwp_core_rule.declared.InHand.{InHand}
use Rattle.hwp_plain.specs.hwp_core_rule.declared.Log.{Log}
use Rattle.hwp_plain.specs.hwp_core_rule.declared.SharedWord.{SharedWord}
use Rattle.hwp_plain.specs.hwp_core_rule.declared.SharedWord.TheVariants as places
use Rattle.hwp_plain.specs.hwp_core_rule.declared.Rec.{Rec}
use Rattle.hwp_plain.specs.hwp_core_rule.declared.SlotMove.{SlotMove}
use Rattle.hwp_plain.specs.hwp_core_rule.declared.SlotMove.TheVariants as moves
use Rattle.hwp_plain.specs.hwp_core_rule.declared.State.{State}
use Rattle.hwp_plain.specs.hwp_core_rule.declared.Step.{Step}
use Rattle.hwp_plain.specs.hwp_core_rule.declared.Step.TheVariants as steps
use Rattle.hwp_plain.specs.hwp_core_rule.declared.View.{View}
use Rattle.hwp_plain.specs.hwp_core_rule.Asks.{AsksOf, CanPut, Extends}
use Rattle.hwp_plain.specs.hwp_core_rule.Lists.{EachMember, Homes}
use Rattle.hwp_plain.specs.hwp_core_rule.Logs.{log_of, opening_at, state_of}
use Rattle.hwp_plain.specs.hwp_core_rule.Moves.{Move}
use Rattle.hwp_plain.specs.hwp_core_rule.Opening.{below, opening, opening_log, opening_view}
use Rattle.hwp_plain.specs.hwp_core_rule.SlotMoves.{MeetsSlot, frame_slot, homes_after, homes_moved, moved_out, shelf_slot, slot_move}
use Rattle.hwp_plain.specs.hwp_core_rule.Steps.{goes}
use Rattle.hwp_plain.specs.hwp_core_rule.Views.{body_of, is_body_of, killed_by, listed_of, loaded, lock_found, lock_of_page, more_of, noted, put_home, taken, view_after, view_by}
use Rattle.hwp_plain.proofs.of_hwp_core_rule.AsksNoted.{asks-noted}
use Rattle.hwp_plain.proofs.of_hwp_core_rule.Lists.{each-changed, each-map, each-push, each-set}
use Rattle.hwp_plain.proofs.of_hwp_core_rule.MoreEntries.{each-append}
use Rattle.hwp_plain.proofs.of_hwp_core_rule.ListDrops.{each-without, find-is}
use Rattle.hwp_plain.specs.hwp_core_rule.Boards.{Played}
use Rattle.hwp_law_served.specs.Turns.{Leads as LeadsTo}

-- the entries lead from the opening of their page to its state
abbrev pub IsLegal : Layout → Log → Type 0
IsLegal layout log = Leads layout log.page (opening_at (slice_get layout.pages log.page.0) (is_locked layout log.page)) log.entries (state_of layout log)

-- entries, and then others
leads-append : (layout : Layout) (page : Page) (s t u : PageState) (xs ys : List Entry) → Leads layout page s xs t → Leads layout page t ys u → Leads layout page s (xs ++ ys) u
leads-append layout page s t u [] ys first then = subst (λ (x : PageState). Leads layout page x ys u) (sym first) then
leads-append layout page s t u (e ∷ es) ys (allowed, rest) then = (allowed, leads-append layout page (after s e.what) t u es ys rest then)

-- a history stays legal with entries that are allowed after it
legal-more : (layout : Layout) (old log : Log) (more : List Entry) → log.page ≡ old.page → log.entries ≡ old.entries ++ more → Leads layout log.page (state_of layout old) more (state_of layout log) → IsLegal layout old → IsLegal layout log
legal-more layout old log more page_is all leads was =
    let first : Leads layout log.page (opening_at (slice_get layout.pages log.page.0) (is_locked layout log.page)) old.entries (state_of layout old)
    = subst (λ (p : Page). Leads layout p (opening_at (slice_get layout.pages p.0) (is_locked layout p)) old.entries (state_of layout old)) (sym page_is) was in
    subst (λ (es : List Entry). Leads layout log.page (opening_at (slice_get layout.pages log.page.0) (is_locked layout log.page)) es (state_of layout log)) (sym all)
    (leads-append layout log.page (opening_at (slice_get layout.pages log.page.0) (is_locked layout log.page)) (state_of layout old) (state_of layout log) old.entries more first leads)

-- ---- what a step makes of the bodies in hand

module _ (layout : Layout) (P : Log → Type 0) where
  abbrev Are : View → Type 0
  Are v = EachMember (λ (b : InHand). P b.log) v.bodies

  -- a history that a body in hand has with more entries is such
  abbrev Stays : Who → View → Type 0
  Stays who v = (log : Log) (body : InHand) → body_of log.page v ≡ Some body → Extends layout who v.sights body log → P log

  listed-so : (who : Who) (log : Log) (v : View) → P log → Are v → Are (listed_of layout who log (body_of log.page v) v)
  listed-so who log v here each = which (body_of log.page v)
    where
      which : (o : Option InHand) → Are (listed_of layout who log o v)
      which None = each
      which (Some body) = each-changed (λ (b : InHand). P b.log) (is_body_of log.page) (λ (b : InHand). record b { log = log }) v.bodies (λ b is was. here) each

  puts : (who : Who) (content : Option Log) (v : View) → ((log : Log) → content ≡ Some log → P log) → Are v → Are (put_home layout who content v)
  puts who None v here each = each
  puts who (Some log) v here each = each-without (λ (b : InHand). P b.log) (is_body_of log.page) (listed_of layout who log (body_of log.page v) v).bodies (listed-so who log v (here log refl) each)

  locks : (who : Who) (frame : Option Frame) (content : Option Log) (v w : View) (b : Bool) → ((log : Log) → b ≡ true → content ≡ Some log → P log) → Are w → Are v → Are (cond b (taken layout who frame content w) v)
  locks who frame None v w true here there each = there
  locks who frame (Some log) v w true here there each = each-push (λ (b : InHand). P b.log) w.bodies _ (here log refl refl) there
  locks who frame content v w false here there each = each

  both : (b : Bool) (x y : View) → Are x → Are y → Are (cond b x y)
  both true x y first second = first
  both false x y first second = second

  loads : (who : Who) (place : SharedWord) (found : ℕ) (v : View) → Are v → Are (loaded who place found v)
  loads who (places.Cache page) found v each = each
  loads who (places.Frame frame) found v each = each
  loads who (places.Trans slot) found v each = each
  loads who (places.Page page) found v each = each
  loads who (places.Free number) found v each = each
  loads who places.Available found v each = each
  loads who (places.Bad frame) found v each = each
  loads who (places.Weak frame) found v each = each
  loads who places.Counter found v each = each
  loads who (places.Process process) found v each = each
  loads who (places.Policy thread) found v each = each
  loads who (places.Loss file) found v each = each
  loads who places.Stop found v each = each

  kills : (process : Proc) (page : Page) (v : View) → Are v → Are (killed_by process page v)
  kills process page v each = each-changed (λ (b : InHand). P b.log) (is_body_of page) (λ (b : InHand). record b { killed = b.killed ++ process ∷ [] }) v.bodies (λ b is was. was) each

  -- a slot that is at home with a body has one that is such
  abbrev IsHome : Option (Option Log) → Type 0
  IsHome content = (log : Log) → content ≡ Some (Some log) → P log

  abbrev AreHome : Homes → Type 0
  AreHome homes = EachMember IsHome homes

  goes-out : (homes : Homes) (slot : ℕ) → AreHome homes → AreHome (homes_moved (moves.Out slot) None homes)
  goes-out homes slot each = each-set IsHome homes slot None (λ log is. absurd (none-some (Some log) is)) each

  comes-home : (homes : Homes) (slot : ℕ) (content : Option Log) → ((log : Log) → content ≡ Some log → P log) → AreHome homes → AreHome (homes_moved (moves.Home slot) content homes)
  comes-home homes slot content here each = each-set IsHome homes slot (Some content) (λ log is. here log (same_Some content (Some log) is)) each

  may-go : (homes : Homes) (slot : ℕ) (b : Bool) (content : Option Log) → AreHome homes → AreHome (homes_moved (moved_out b slot) content homes)
  may-go homes slot true content each = goes-out homes slot each
  may-go homes slot false content each = each

  -- what is put home is such, where bodies with more entries are
  put-so : (who : Who) (v : View) (content : Option Log) → Stays who v → CanPut layout who v content → (log : Log) → content ≡ Some log → P log
  put-so who v None stays can log is = absurd (none-some log is)
  put-so who v (Some put) stays can log is = subst P (same_Some put log is) (stays put can.body can.body_is can.extends)

  -- the bodies in the seat's hand and those at home, after a step
  pub bodies-by : (who : Who) (step : Step) (found : ℕ) (content : Option Log) (v : View) (homes : Homes) → AsksOf layout who step content v → Stays who v
      → ((log : Log) (slot : ℕ) → content ≡ Some log → slot_move layout step found ≡ moves.Out slot → P log)
      → Are v → AreHome homes → Are (view_by layout who step found content v) × AreHome (homes_after layout step found content homes)
  bodies-by who (steps.Load place) found content v homes asks stays brought each home = (loads who place found v each, home)
  bodies-by who (steps.Reserve seen) found content v homes asks stays brought each home = (both (found == seen) _ _ each each, home)
  bodies-by who (steps.TakeBit frame) found content v homes asks stays brought each home = (both (goes (steps.TakeBit frame) found) _ _ each each, home)
  bodies-by who (steps.GiveBit frame) found content v homes asks stays brought each home = (each, home)
  bodies-by who steps.Unreserve found content v homes asks stays brought each home = (each, home)
  bodies-by who (steps.Adopt frame) found content v homes asks stays brought each home = (each, goes-out homes (frame_slot frame) home)
  bodies-by who (steps.GetRef frame seen count) found content v homes asks stays brought each home = (both (found == seen) _ _ each each, home)
  bodies-by who (steps.PutRef frame count) found content v homes asks stays brought each home = (each, home)
  bodies-by who (steps.LockFrame frame) found content v homes asks stays brought each home = (
    locks who (Some frame) content v (record v { locks = v.locks ++ lock_found frame found ∷ [] }) (goes (steps.LockFrame frame) found)
        (λ log taken is. brought log (frame_slot frame) is (ap (λ (b : Bool). moved_out b (frame_slot frame)) taken)) each each,
    may-go homes (frame_slot frame) (goes (steps.LockFrame frame) found) content home,
  )
  bodies-by who (steps.UnlockFrame frame) found content v homes asks stays brought each home =
      (puts who content v (put-so who v content stays asks.put) each, comes-home homes (frame_slot frame) content (put-so who v content stays asks.put) home)
  bodies-by who (steps.Retire frame) found content v homes asks stays brought each home = (each, comes-home homes (frame_slot frame) content (λ log is. absurd (none-some log (sym asks.empty ∙ is))) home)
  bodies-by who (steps.Revive frame seen) found content v homes asks stays brought each home = (both (found == seen) _ _ each each, home)
  bodies-by who (steps.SetOwner frame page owned) found content v homes asks stays brought each home = (each, home)
  bodies-by who (steps.LockPage page) found content v homes asks stays brought each home = (
    locks who None content v (record v { pages = v.pages ++ lock_of_page layout page content (body_of page v) ∷ [] }) (goes (steps.LockPage page) found)
        (λ log taken is. brought log (shelf_slot layout page) is (ap (λ (b : Bool). moved_out b (shelf_slot layout page)) taken)) each each,
    may-go homes (shelf_slot layout page) (goes (steps.LockPage page) found) content home,
  )
  bodies-by who (steps.UnlockPage page) found content v homes asks stays brought each home =
      (puts who content v (put-so who v content stays asks.put) each, comes-home homes (shelf_slot layout page) content (put-so who v content stays asks.put) home)
  bodies-by who (steps.SetPte slot pte) found content v homes asks stays brought each home = (each, home)
  bodies-by who (steps.SetCache page frame) found content v homes asks stays brought each home = (each, home)
  bodies-by who (steps.Poison frame hardware) found content v homes asks stays brought each home = (both (goes (steps.Poison frame hardware) found) _ _ each each, home)
  bodies-by who (steps.CountPoison hardware) found content v homes asks stays brought each home = (each, home)
  bodies-by who steps.Uncount found content v homes asks stays brought each home = (each, home)
  bodies-by who (steps.Spoil frame line damage) found content v homes asks stays brought each home = (each, home)
  bodies-by who (steps.Stop cpu) found content v homes asks stays brought each home = (both (found == 0) _ _ each each, home)
  bodies-by who steps.GiveUp found content v homes asks stays brought each home = (each, home)
  bodies-by who (steps.Kill process page body) found content v homes asks stays brought each home =
      let here : P (log_of body.value) = stays (log_of body.value) asks.page_held.body asks.page_held.body_is asks.extends in
      let killed = kills process page (listed_of layout who (log_of body.value) (body_of body.value.page v) v) (listed-so who (log_of body.value) v here each) in
      (both (found == 0) _ _ killed killed, home)
  bodies-by who (steps.SetPolicy thread policy settings) found content v homes asks stays brought each home = (each, home)
  bodies-by who (steps.Lose file body) found content v homes asks stays brought each home =
      (listed-so who (log_of body.value) v (stays (log_of body.value) asks.page_held.body asks.page_held.body_is asks.extends) each, home)
  bodies-by who (steps.ReportLost file) found content v homes asks stays brought each home = (each, home)

-- ---- a run

-- all histories of a board are legal, at home and in hand
pub record AreLegal (layout : Layout) (s : State) : Type 0 where
  pub home : EachMember (λ (content : Option (Option Log)). (log : Log) → content ≡ Some (Some log) → IsLegal layout log) s.homes
  pub in_hand : EachMember (λ (v : View). EachMember (λ (b : InHand). IsLegal layout b.log) v.bodies) s.views

legal-moved : (layout : Layout) (seat : ℕ) (r : Rec) (a b : State) → Move layout seat r a b → AreLegal layout a → AreLegal layout b
legal-moved layout seat r a b m legal = subst (AreLegal layout) (sym m.next) (record {
  home = after.1;
  in_hand = each-set (λ (v : View). EachMember (λ (b : InHand). IsLegal layout b.log) v.bodies) a.views seat (view_after layout r m.view) after.0 legal.in_hand;
})
  where
    stays : (log : Log) (body : InHand) → body_of log.page m.view ≡ Some body → Extends layout r.who m.view.sights body log → IsLegal layout log
    stays log body is extends =
        let found = find-is (is_body_of log.page) m.view.bodies body is in
        legal-more layout body.log log (more_of body log) extends.page_is extends.longer extends.leads (legal.in_hand seat m.view m.me found.0 body found.1)

    brought : (log : Log) (slot : ℕ) → r.content ≡ Some log → slot_move layout r.step r.found ≡ moves.Out slot → IsLegal layout log
    brought log slot is out =
        let there : slice_get a.homes slot ≡ Some (Some r.content) = subst (λ (move : SlotMove). MeetsSlot move a.homes r.content) out m.slot in
        legal.home slot (Some r.content) there log (ap (λ (c : Option Log). Some c) is)

    after : EachMember (λ (b : InHand). IsLegal layout b.log) (view_after layout r m.view).bodies × EachMember (λ (content : Option (Option Log)). (log : Log) → content ≡ Some (Some log) → IsLegal layout log) (homes_after layout r.step r.found r.content a.homes)
    after = bodies-by layout (IsLegal layout) r.who r.step r.found r.content (noted r.who m.view) a.homes (asks-noted layout r.who m.view r.step r.content m.asks.kind) stays brought (legal.in_hand seat m.view m.me) legal.home

module _ (layout : Layout) where
  legal-on : (turns : List Played) (a b : State) → LeadsTo layout a turns b → AreLegal layout a → AreLegal layout b
  legal-on [] a b leads legal = subst (AreLegal layout) (sym leads) legal
  legal-on (p ∷ ps) a b (mid, move, kept, rest) legal = legal-on ps mid b rest (legal-moved layout p.seat p.made a mid move legal)

  opening-legal : AreLegal layout (opening layout)
  opening-legal = record {
    home = each-append (λ (content : Option (Option Log)). (log : Log) → content ≡ Some (Some log) → IsLegal layout log) (replicate layout.frames (Some None)) (map (λ (q : ℕ). Some (Some (opening_log q))) (below (length layout.pages)))
        (none-of layout.frames)
        (each-map (λ (q : ℕ). Some (Some (opening_log q))) (λ (content : Option (Option Log)). (log : Log) → content ≡ Some (Some log) → IsLegal layout log) (below (length layout.pages))
        (λ i q e log is. subst (IsLegal layout) (same_Some (opening_log q) log (same_Some (Some (opening_log q)) (Some log) is)) refl));
    in_hand = each-map opening_view (λ (v : View). EachMember (λ (b : InHand). IsLegal layout b.log) v.bodies) (below layout.cpus) (λ i c e j b there. absurd (none-some b there));
  }
    where
      none-of : (n : ℕ) → EachMember (λ (content : Option (Option Log)). (log : Log) → content ≡ Some (Some log) → IsLegal layout log) (replicate n (Some None))
      none-of zero i content there log is = absurd (none-some content there)
      none-of (suc n) zero content there log is = absurd (none-some log (same_Some None (Some log) (same_Some (Some None) content there ∙ is)))
      none-of (suc n) (suc i) content there log is = none-of n i content there log is

  -- along a run each history is legal
  pub run-legal : (turns : List Played) (last : State) → LeadsTo layout (opening layout) turns last → AreLegal layout last
  run-legal turns last leads = legal-on turns (opening layout) last leads opening-legal
