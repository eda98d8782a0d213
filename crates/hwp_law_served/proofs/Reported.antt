-- What a report says of histories, where it is that of the last board of a run and nothing is held there.
use Rattle.std.proofs.Common.{◌≡◌, ℕ, ◌+◌, ◌<◌, ◌≤◌, List, [], Option, Some, None, length, map, take, slice_get, option_and_then, refl, sym, ap, ◌∙◌, subst, arith}
use Rattle.std.proofs.Math.Seq.{take-append_seam}
use Rattle.std.proofs.lemmas.List.{length-append}
use Rattle.std.proofs.lemmas.Option.{none-some, same_Some}
use Rattle.hwp_law.specs.hwp_geom.Layout.{is_locked}
use Rattle.hwp_law.specs.hwp_geom.declared.Layout.{Layout}
use Rattle.hwp_law.specs.hwp_geom.declared.Page.{Page}
use Rattle.hwp_law.specs.hwp_geom.declared.PageKind.{PageKind}
use Rattle.hwp_law.specs.hwp_geom.declared.Who.{Who}
use Rattle.hwp_law.specs.hwp_page.declared.At.{At}
use Rattle.hwp_law.specs.hwp_page.declared.Entry.{Entry}
use Rattle.hwp_law.specs.hwp_page.declared.PageState.{PageState}
use Rattle.hwp_law.specs.hwp_page.History.{Leads, state_after}
use Rattle.hwp_law.specs.hwp_page.Step.{opening_of}
use Rattle.hwp_plain.specs.hwp_core_rule.declared.Length.{Length}
use Rattle.hwp_plain.specs.hwp_core_rule.declared.Log.{Log}
use Rattle.hwp_plain.specs.hwp_core_rule.declared.Made.{Made}
use Rattle.hwp_plain.specs.hwp_core_rule.declared.State.{State}
use Rattle.hwp_plain.specs.hwp_core_rule.declared.View.{View}
use Rattle.hwp_plain.specs.hwp_core_rule.Lists.{EachMember, SomeMember}
use Rattle.hwp_plain.specs.hwp_core_rule.Logs.{opening_at, state_of}
use Rattle.hwp_plain.specs.hwp_core_rule.Rule.{Holds}
use Rattle.hwp_plain.specs.hwp_core_rule.Words.{words_of}
use Rattle.hwp_plain.specs.hwp_core_rule.parts.Holdings.{IsPast}
use Rattle.hwp_plain.proofs.of_hwp_core_rule.Lists.{at_map}
use Rattle.hwp_plain.proofs.of_hwp_core_rule.NotLater.{one-view}
use Rattle.hwp_law.specs.hwp_report_text.declared.FrameLine.{FrameLine}
use Rattle.hwp_law.specs.hwp_report_text.declared.Report.{Report}
use Rattle.hwp_law.specs.History.{AreOrdered}
use Rattle.hwp_law.specs.Places.{entry_at}
use Rattle.hwp_law.specs.PageHistory.{IsHistory}
use Rattle.hwp_law.specs.States.{HadState}
use Rattle.hwp_law_served.specs.Ends.{EndsWith, place_in}
use Rattle.hwp_law_served.proofs.Histories.{IsThat, entry-made, made-stands, one-body}
use Rattle.hwp_law_served.proofs.Homes.{home-within, there-is}
use Rattle.hwp_law_served.proofs.Legal.{AreLegal}
use Rattle.hwp_law_served.proofs.Placed.{cached-once}
use Rattle.hwp_law_served.proofs.turns.SightOrder.{Rising}

-- the report is that of this board, which a run led to, and on which no frame is locked and no body in hand
pub record IsLast (layout : Layout) (last : State) (report : Report) : Type 0 where
  pub holds : Holds layout last
  pub legal : AreLegal layout last
  pub rises : EachMember (Rising layout) last.views
  pub empty : EachMember (λ (v : View). v.bodies ≡ []) last.views
  pub unlocked : EachMember (λ (v : View). v.locks ≡ []) last.views
  pub ends : EndsWith layout last report
  pub frames_fit : length report.frames ≡ layout.frames
  pub pages_fit : length report.pages ≡ length layout.pages

-- the entry at a place stands in a history of the report
pub record StandsIn (pages : List (List Entry)) (at : At) (e : Entry) : Type 0 where
  pub entries : List Entry
  pub history : slice_get pages at.page.0 ≡ Some entries
  pub there : slice_get entries at.entry ≡ Some e

pub stands-in : (pages : List (List Entry)) (at : At) (e : Entry) → entry_at pages at ≡ Some e → StandsIn pages at e
stands-in pages at e is = which (slice_get pages at.page.0) refl is
  where
    which : (o : Option (List Entry)) → slice_get pages at.page.0 ≡ o → option_and_then (λ (entries : List Entry). slice_get entries at.entry) o ≡ Some e → StandsIn pages at e
    which None none is = absurd (none-some e is)
    which (Some entries) some is = record { entries = entries; history = some; there = is }

entry-is : (pages : List (List Entry)) (at : At) (entries : List Entry) → slice_get pages at.page.0 ≡ Some entries → entry_at pages at ≡ slice_get entries at.entry
entry-is pages at entries is = ap (λ (o : Option (List Entry)). option_and_then (λ (es : List Entry). slice_get es at.entry) o) is

module _ (layout : Layout) (last : State) (report : Report) (l : IsLast layout last report) where
  -- the history of a page, in its slot
  pub home-of : (page : Page) (entries : List Entry) → slice_get report.pages page.0 ≡ Some entries → (slot : ℕ) × (slice_get last.homes slot ≡ Some (Some (Some (record { page = page; entries = entries }))))
  home-of page entries there = let home = (l.ends.pages page entries there).home in (home.0, home.2 ∙ ap (λ (c : Option (Option Log)). Some c) home.3)

  kind-of : (page : Page) → page.0 < length layout.pages → (kind : PageKind) × (slice_get layout.pages page.0 ≡ Some kind)
  kind-of page within = there-is layout.pages page.0 within

  -- each history leads from its opening, and says where the page is
  pub histories-lead : (page : Page) (entries : List Entry) → slice_get report.pages page.0 ≡ Some entries → IsHistory layout report.frames page entries
  histories-lead page entries there =
      let home = home-of page entries there in
      let log : Log = record { page = page; entries = entries } in
      let kind = kind-of page (home-within layout last l.holds log home.0 home.1) in
      record {
        state = state_of layout log;
        replay = record {
          kind = kind.0;
          declared = kind.1;
          leads = subst (λ (o : Option PageKind). Leads layout page (opening_at o (is_locked layout page)) entries (state_of layout log)) kind.1 (l.legal.home home.0 (Some (Some log)) home.1 log refl);
        };
        held = cached-once layout last l.holds l.unlocked report.frames l.frames_fit word-of home.0 log home.1;
      }
    where
      word-of : (f : ℕ) (line : FrameLine) → slice_get report.frames f ≡ Some line → (w : ℕ) × (slice_get (words_of layout last.words).frames f ≡ Some w) × (line.place ≡ place_in w)
      word-of f line is = let on = l.ends.frames (record { 0 = f }) line is in (on.word, on.there, on.place)

  -- in each history the commands of one processor don't fall
  pub histories-ordered : AreOrdered report.pages
  histories-ordered at later e f first second same_page before same_cpu =
      let a = stands-in report.pages at e first in
      let b = stands-in report.pages later f second in
      let home = home-of at.page a.entries a.history in
      let same : b.entries ≡ a.entries = same_Some b.entries a.entries (sym b.history ∙ ap (λ (p : Page). slice_get report.pages p.0) (sym same_page) ∙ a.history) in
      l.holds.rule.histories.entries.ordered.at_home home.0 (record { page = at.page; entries = a.entries }) home.1 at.entry later.entry e f before a.there (sym (ap (λ (es : List Entry). slice_get es later.entry) same) ∙ b.there) same_cpu

  -- each entry of the report is one that a view lists as made, at its place
  pub entry-listed : (at : At) (e : Entry) → entry_at report.pages at ≡ Some e → SomeMember (λ (v : View). SomeMember (λ (m : Made). IsThat at.page at.entry e m.page m.place m.entry) v.made) last.views
  entry-listed at e is =
      let a = stands-in report.pages at e is in
      let home = home-of at.page a.entries a.history in
      entry-made layout last l.holds l.empty home.0 (record { page = at.page; entries = a.entries }) at.entry e home.1 a.there

  -- a history of a body at home is that of its page in the report
  pub body-reported : (slot : ℕ) (log : Log) → slice_get last.homes slot ≡ Some (Some (Some log)) → slice_get report.pages log.page.0 ≡ Some log.entries
  body-reported slot log home =
      let within : log.page.0 < length layout.pages = home-within layout last l.holds log slot home in
      let told = there-is report.pages log.page.0 (subst (λ (n : ℕ). log.page.0 < n) (sym l.pages_fit) within) in
      let other = home-of log.page told.0 told.1 in
      let same : slot ≡ other.0 = one-body layout last l.holds l.empty slot other.0 log (record { page = log.page; entries = told.0 }) within home other.1 refl in
      let one : log ≡ record { page = log.page; entries = told.0 } = same_Some log _ (same_Some (Some log) _ (same_Some (Some (Some log)) _ (sym home ∙ ap (slice_get last.homes) same ∙ other.1))) in
      told.1 ∙ ap (λ (x : Log). Some x.entries) (sym one)

  -- and each entry that a view lists stands in the report, at its place
  pub listed-entry : (i j : ℕ) (v : View) (m : Made) → slice_get last.views i ≡ Some v → slice_get v.made j ≡ Some m → entry_at report.pages (record { page = m.page; entry = m.place }) ≡ Some m.entry
  listed-entry i j v m view made =
      let stands = made-stands layout last l.holds l.empty i j v m view made in
      let told : slice_get report.pages m.page.0 ≡ Some stands.1.entries = sym (ap (λ (p : Page). slice_get report.pages p.0) stands.3) ∙ body-reported stands.0 stands.1 stands.2 in
      entry-is report.pages (record { page = m.page; entry = m.place }) stands.1.entries told ∙ stands.4

  -- ---- what commands saw of pages

  -- a processor is part of one view
  one-part-of : (i k : ℕ) (v u : View) (a b : Who) → slice_get last.views i ≡ Some v → slice_get last.views k ≡ Some u → IsPast v.parts a → IsPast u.parts b → a.cpu ≡ b.cpu → u ≡ v
  one-part-of i k v u a b mine theirs past passed same =
      let is : i ≡ k = one-view layout (map (λ (x : View). x.parts) last.views) l.holds.rule.processors.processors i k past.0 passed.0 v.parts u.parts past.1 passed.1
      (at_map (λ (x : View). x.parts) last.views i v mine) (at_map (λ (x : View). x.parts) last.views k u theirs) past.2 passed.2 (past.3.0 ∙ same ∙ sym passed.3.0) in
      same_Some u v (sym theirs ∙ sym (ap (slice_get last.views) is) ∙ mine)

  module _ (i j : ℕ) (v : View) (x : Length) (view : slice_get last.views i ≡ Some v) (seen : slice_get v.lengths j ≡ Some x) where
    -- the entry of a command of the same processor is listed by the same view
    of-same : (bt : At) (e : Entry) → entry_at report.pages bt ≡ Some e → e.who.cpu ≡ x.stamp.who.cpu → SomeMember (λ (m : Made). IsThat bt.page bt.entry e m.page m.place m.entry) v.made
    of-same bt e is same =
        let listed = entry-listed bt e is in
        let made = listed.3 in
        let past = (l.holds.rule.processors.commands.own i v view).lengths j x seen in
        let passed = (l.holds.rule.processors.commands.own listed.0 listed.1 listed.2).made made.0 made.1 made.2 in
        let cpu_is : x.stamp.who.cpu ≡ made.1.entry.who.cpu = sym same ∙ ap (λ (y : Entry). y.who.cpu) (sym made.3.entry_is) in
        subst (λ (u : View). SomeMember (λ (m : Made). IsThat bt.page bt.entry e m.page m.place m.entry) u.made) (one-part-of i listed.0 v listed.1 x.stamp.who made.1.entry.who view listed.2 past passed cpu_is) made

    -- it lies above the entries of the processor's earlier commands
    pub past-earlier : (bt : At) (e : Entry) → entry_at report.pages bt ≡ Some e → bt.page ≡ x.log.page → e.who.cpu ≡ x.stamp.who.cpu → e.who.seq < x.stamp.who.seq → bt.entry < length x.log.entries
    past-earlier bt e is page_is same earlier =
        let m = of-same bt e is same in
        let that = m.3 in
        let above = ((l.rises i v view).above j x seen m.0 m.1 m.2).past (that.page_is ∙ page_is)
        (ap (λ (y : Entry). y.who.cpu) that.entry_is ∙ same, subst (λ (y : Entry). y.who.seq < x.stamp.who.seq) (sym that.entry_is) earlier) in
        let at : m.1.place ≡ bt.entry = that.place_is in
        let less : m.1.place < length x.log.entries = above in
        omega arith

    -- and not above those of its later commands
    pub before-later : (bt : At) (e : Entry) → entry_at report.pages bt ≡ Some e → bt.page ≡ x.log.page → e.who.cpu ≡ x.stamp.who.cpu → x.stamp.who.seq < e.who.seq → length x.log.entries ≤ bt.entry
    before-later bt e is page_is same later =
        let m = of-same bt e is same in
        let that = m.3 in
        let below = ((l.rises i v view).above j x seen m.0 m.1 m.2).below (that.page_is ∙ page_is)
        (sym (ap (λ (y : Entry). y.who.cpu) that.entry_is ∙ same), subst (λ (y : Entry). x.stamp.who.seq < y.who.seq) (sym that.entry_is) later) in
        let at : m.1.place ≡ bt.entry = that.place_is in
        let less : length x.log.entries ≤ m.1.place = below in
        omega arith

    -- nor below what its earlier commands saw
    pub not-below-seen : (k n : ℕ) (u : View) (y : Length) → slice_get last.views k ≡ Some u → slice_get u.lengths n ≡ Some y → y.log.page ≡ x.log.page → y.stamp.who.cpu ≡ x.stamp.who.cpu → y.stamp.who.seq < x.stamp.who.seq
        → length y.log.entries ≤ length x.log.entries
    not-below-seen k n u y other saw page_is same earlier =
        let past = (l.holds.rule.processors.commands.own i v view).lengths j x seen in
        let passed = (l.holds.rule.processors.commands.own k u other).lengths n y saw in
        let is : u ≡ v = one-part-of i k v u x.stamp.who y.stamp.who view other past passed (sym same) in
        (l.rises i v view).follows j x seen n y (sym (ap (λ (z : View). slice_get z.lengths n) is) ∙ saw) page_is (same, earlier)

    -- the page was then in the state that was seen
    pub seen-had : (P : PageState → Type 0) → P (state_of layout x.log) → HadState layout report.pages (record { page = x.log.page; entry = length x.log.entries }) P
    seen-had P had =
        let within : x.log.page.0 < length layout.pages = (l.rises i v view).inside j x seen in
        let told = there-is report.pages x.log.page.0 (subst (λ (n : ℕ). x.log.page.0 < n) (sym l.pages_fit) within) in
        let home = home-of x.log.page told.0 told.1 in
        let kind = kind-of x.log.page within in
        let reached = l.holds.rule.histories.entries.lengths_reached i v.lengths (at_map (λ (z : View). z.lengths) last.views i v view) j x seen in
        let starts = reached.at_home home.0 (record { page = x.log.page; entries = told.0 }) home.1 refl in
        let all : length told.0 ≡ length x.log.entries + length starts.0 = ap (λ (es : List Entry). length es) starts.1 ∙ length-append x.log.entries starts.0 in
        let front : take (length x.log.entries) told.0 ≡ x.log.entries = ap (λ (es : List Entry). take (length x.log.entries) es) starts.1 ∙ take-append_seam x.log.entries starts.0 in
        record {
          kind = kind.0;
          entries = told.0;
          declared = kind.1;
          there = told.1;
          within = omega arith;
          had = subst (λ (es : List Entry). P (state_after (opening_of kind.0 (is_locked layout x.log.page)) es)) (sym front) (subst (λ (o : Option PageKind). P (state_after (opening_at o (is_locked layout x.log.page)) x.log.entries)) kind.1 had);
        }
