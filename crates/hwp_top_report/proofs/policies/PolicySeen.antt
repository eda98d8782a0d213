-- What commands saw of policy words: so many settings as their own processor had made by then, and never fewer than an earlier
-- command saw.
use Rattle.std.proofs.Common.{◌≡◌, inl, inr, ℕ, ◌+◌, ◌<◌, ◌≤◌, ◌==◌, ◌&&◌, nat_lt, Bool, true, false, List, [], ◌∷◌, ◌++◌, Some, length, map, take, slice_get, slice_index, refl, sym, ap, ◌∙◌, subst, arith}
use Rattle.std.specs.Int.{from_bool}
use Rattle.std.specs.List.{sum_by}
use Rattle.std.proofs.lemmas.Bool.{eqb-true, ltb-true}
use Rattle.std.proofs.lemmas.List.{length-take}
use Rattle.std.proofs.lemmas.List.Sums.{sum_by_push}
use Rattle.std.proofs.lemmas.Option.{none-some, same_Some, slice_get_within}
use Rattle.hwp_law_served.specs.hwp_geom.declared.Cpu.{Cpu}
use Rattle.hwp_law_served.specs.hwp_geom.declared.Layout.{Layout}
use Rattle.hwp_law_served.specs.hwp_geom.declared.Thread.{Thread}
use Rattle.hwp_law_served.specs.hwp_geom.declared.ThreadDecl.{ThreadDecl}
use Rattle.hwp_law_served.specs.hwp_geom.declared.Who.{Who}
use Rattle.hwp_law_served.specs.hwp_kill.declared.Policy.TheVariants as policies
use Rattle.hwp_law_served.specs.hwp_page.Orders.{IsEarlier, IsNotLater}
use Rattle.hwp_law_served.specs.hwp_core_rule.declared.Part.{Part}
use Rattle.hwp_law_served.specs.hwp_core_rule.declared.SharedWord.{SharedWord}
use Rattle.hwp_law_served.specs.hwp_core_rule.declared.SharedWord.TheVariants as places
use Rattle.hwp_law_served.specs.hwp_core_rule.declared.Rec.{Rec}
use Rattle.hwp_law_served.specs.hwp_core_rule.declared.Setting.{Setting}
use Rattle.hwp_law_served.specs.hwp_core_rule.declared.Sight.{Sight}
use Rattle.hwp_law_served.specs.hwp_core_rule.declared.State.{State}
use Rattle.hwp_law_served.specs.hwp_core_rule.declared.View.{View}
use Rattle.hwp_law_served.specs.hwp_core_rule.Lists.{EachMember, SomeMember}
use Rattle.hwp_law_served.specs.hwp_core_rule.Moves.{Move}
use Rattle.hwp_law_served.specs.hwp_core_rule.Rule.{Holds}
use Rattle.hwp_law_served.specs.hwp_core_rule.Steps.{place_of}
use Rattle.hwp_law_served.specs.hwp_core_rule.Views.{noted, view_after}
use Rattle.hwp_law_served.specs.hwp_core_rule.Words.{IsPlace, index, words_of}
use Rattle.hwp_law_served.specs.hwp_core_rule.parts.Holdings.{IsPast}
use Rattle.hwp_law_served.specs.hwp_core_rule.parts.Policies.{IsOf, PolicyAgrees, last_policy, settings_of}
use Rattle.hwp_law_served.proofs.of_hwp_core_rule.CountsBelow.{some-term}
use Rattle.hwp_law_served.proofs.of_hwp_core_rule.Lists.{at_last, at_map, each-push, map-was, set_here}
use Rattle.hwp_law_served.proofs.of_hwp_core_rule.MoveKeeps.{shaped}
use Rattle.hwp_law_served.proofs.of_hwp_core_rule.NotLater.{not-later}
use Rattle.hwp_law_served.proofs.of_hwp_core_rule.WordsByKind.{word-there, words-read}
use Rattle.hwp_law_served.proofs.Homes.{there-is}
use Rattle.hwp_law_served.proofs.StepAdds.{Adds, OneMore, adds-by}
use Rattle.hwp_law_served.proofs.RunKeeps.{IsKept}
use Rattle.hwp_top_report.proofs.endings.Gone.{names-inside}
use Rattle.hwp_top_report.proofs.policies.PolicyCounts.{before-all, before-most, is_before, made_before, number-back, number_in}

-- ---- what is kept

-- as many settings as the processor had made
pub record IsCountedBy (v : View) (x : Sight) (thread : Thread) : Type 0 where
  pub low : made_before thread x.stamp.who.seq v.settings ≤ number_in x.word
  pub high : number_in x.word ≤ made_before thread (x.stamp.who.seq + 1) v.settings

pub record IsPoliced (layout : Layout) (v : View) (x : Sight) (thread : Thread) : Type 0 where
  pub decl : ThreadDecl
  pub declared : slice_get layout.threads thread.0 ≡ Some decl
  pub own : decl.cpu ≡ x.stamp.who.cpu → IsCountedBy v x thread

abbrev pub ArePoliced : Layout → View → Type 0
ArePoliced layout v = EachMember (λ (x : Sight). (thread : Thread) → x.place ≡ places.Policy thread → IsPoliced layout v x thread) v.sights

-- a later command saw no fewer settings
abbrev pub IsNumbered : Sight → Sight → Type 0
IsNumbered s u = (thread : Thread) → s.place ≡ places.Policy thread → u.place ≡ places.Policy thread → IsEarlier s.stamp.who u.stamp.who → number_in s.word ≤ number_in u.word

abbrev pub AreNumbered : View → Type 0
AreNumbered v = EachMember (λ (s : Sight). EachMember (IsNumbered s) v.sights) v.sights

pub record KnowPolicies (layout : Layout) (v : View) : Type 0 where
  pub policed : ArePoliced layout v
  pub numbered : AreNumbered v

-- ---- a policy word and the settings behind it

module _ (layout : Layout) (s : State) (h : Holds layout s) where
  -- each processor of the layout is part of a view
  view-with : (cpu : Cpu) → cpu.0 < layout.cpus → SomeMember (λ (v : View). IsOf cpu v.parts) s.views
  view-with cpu inside =
      let one = h.rule.processors.processors.one cpu.0 inside in
      let list = some-term (sum_by (λ (p : Part). from_bool (p.cpu.0 == cpu.0))) (map (λ (v : View). v.parts) s.views) (omega (arith, one)) in
      let part = some-term (λ (p : Part). from_bool (p.cpu.0 == cpu.0)) list.1 list.3 in
      let was = map-was (λ (v : View). v.parts) s.views list.0 list.1 list.2 in
      (list.0, was.0, was.1, (part.0, part.1, ap (λ (l : List Part). slice_get l part.0) was.2 ∙ part.2, ap (λ (n : ℕ). record { 0 = n }) (eqb-true part.1.cpu.0 cpu.0 (some (part.1.cpu.0 == cpu.0) part.3))))
    where
      some : (b : Bool) → 0 < from_bool b → b ≡ true
      some true more = refl
      some false more = absurd (omega (arith, more))

  pub agrees : (thread : Thread) (d : ThreadDecl) (found : ℕ) → slice_get layout.threads thread.0 ≡ Some d → found ≡ slice_index s.words (index layout (places.Policy thread)) → (i : ℕ) (v : View) → slice_get s.views i ≡ Some v → IsOf d.cpu v.parts
      → PolicyAgrees thread found (map (λ (x : View). x.sights) s.views) (settings_of thread v.settings)
  agrees thread d found declared met i v view own =
      let inside : thread.0 < length layout.threads = slice_get_within layout.threads thread.0 d declared in
      subst (λ (n : ℕ). PolicyAgrees thread n (map (λ (x : View). x.sights) s.views) (settings_of thread v.settings)) (words-read layout s.words (places.Policy thread) inside ∙ sym met)
      (h.rule.processors.policies.agrees thread d (slice_index (words_of layout s.words).policies thread.0) declared
      (word-there (words_of layout s.words).policies thread.0 (length layout.threads) (shaped layout s h).policies inside) i (v.parts, v.settings)
      (at_map (λ (x : View). (x.parts, x.settings)) s.views i v view) own)

  -- the word has the number of settings
  number-now : (thread : Thread) (found : ℕ) (sights : List (List Sight)) (list : List Setting) → PolicyAgrees thread found sights list → number_in found ≡ length list
  number-now thread found sights list is = ap number_in is.now ∙ number-back (length list) (last_policy policies.Default list)

  number-then : (thread : Thread) (found : ℕ) (sights : List (List Sight)) (list : List Setting) → PolicyAgrees thread found sights list → (i j : ℕ) (l : List Sight) (x : Sight) → slice_get sights i ≡ Some l → slice_get l j ≡ Some x → x.place ≡ places.Policy thread
      → number_in x.word ≤ length list
  number-then thread found sights list is i j l x at there place =
      let was = is.shown i l at j x there place in
      let number : number_in x.word ≡ length (take was.0 list) = ap number_in was.2 ∙ number-back (length (take was.0 list)) (last_policy policies.Default (take was.0 list)) in
      let few : was.0 ≤ length list = was.1 in
      let long = length-take was.0 list in
      omega (arith, number, few, long)

-- ---- one step

module _ (layout : Layout) (seat : ℕ) (r : Rec) (a b : State) (h : Holds layout a) (m : Move layout seat r a b) (still : Holds layout b) (know : KnowPolicies layout m.view) where
  abbrev v : View
  v = m.view

  abbrev after : View
  after = view_after layout r m.view

  abbrev Shown : Sight → Type 0
  Shown s = (s.stamp.who ≡ r.who) × (s.place ≡ place_of r.step) × (s.word ≡ r.found)

  not-after : (other : Who) → IsPast v.parts other → IsNotLater other r.who
  not-after other past = not-later layout (words_of layout a.words) a.homes a.views seat v r.who m.me m.asks.turn h.rule seat v other m.me past

  sight-past : (i : ℕ) (x : Sight) → slice_get v.sights i ≡ Some x → IsNotLater x.stamp.who r.who
  sight-past i x there = not-after x.stamp.who ((h.rule.processors.commands.own seat v m.me).sights i x there)

  same-sights : (sights : List Sight) → sights ≡ v.sights → EachMember (λ (s : Sight). EachMember (IsNumbered s) sights) sights
  same-sights sights same = subst (λ (l : List Sight). EachMember (λ (s : Sight). EachMember (IsNumbered s) l) l) (sym same) know.numbered

  -- ---- a setting more

  module _ (g : Setting) (more : after.settings ≡ v.settings ++ g ∷ []) (own : g.stamp.who ≡ r.who) (same : after.sights ≡ v.sights) where
    -- it is of the processor of its thread
    set-by-own : (d : ThreadDecl) → slice_get layout.threads g.thread.0 ≡ Some d → d.cpu ≡ g.stamp.who.cpu
    set-by-own d declared =
        let there : slice_get b.views seat ≡ Some after = ap (λ (s : State). slice_get s.views seat) m.next ∙ set_here a.views seat after v m.me in
        let listed : slice_get after.settings (length v.settings) ≡ Some g = ap (λ (l : List Setting). slice_get l (length v.settings)) more ∙ at_last v.settings g in
        let by = still.rule.processors.policies.own seat (after.parts, after.settings) (at_map (λ (x : View). (x.parts, x.settings)) b.views seat after there) (length v.settings) g listed in
        ap (λ (x : ThreadDecl). x.cpu) (same_Some d by.decl (sym declared ∙ by.declared)) ∙ by.own

    counted-more : (i : ℕ) (x : Sight) → slice_get v.sights i ≡ Some x → (thread : Thread) → x.place ≡ places.Policy thread → IsPoliced layout after x thread
    counted-more i x there thread place =
        let was = know.policed i x there thread place in
        record {
          decl = was.decl;
          declared = was.declared;
          own = λ mine.
              let count = was.own mine in
              let low : made_before thread x.stamp.who.seq after.settings ≡ made_before thread x.stamp.who.seq v.settings + is_before thread x.stamp.who.seq g = ap (made_before thread x.stamp.who.seq) more ∙ sum_by_push (is_before thread x.stamp.who.seq) v.settings g in
              let high : made_before thread (x.stamp.who.seq + 1) after.settings ≡ made_before thread (x.stamp.who.seq + 1) v.settings + is_before thread (x.stamp.who.seq + 1) g = ap (made_before thread (x.stamp.who.seq + 1)) more ∙ sum_by_push (is_before thread (x.stamp.who.seq + 1)) v.settings g in
              let none : is_before thread x.stamp.who.seq g ≡ 0 = not-before thread x was.decl was.declared mine (g.thread.0 == thread.0) (nat_lt g.stamp.who.seq x.stamp.who.seq) refl refl (sight-past i x there) in
              let first = count.low in
              let second = count.high in
              record { low = omega (arith, low, none, first); high = omega (arith, high, second) };
        }
      where
        not-before : (thread : Thread) (x : Sight) (d : ThreadDecl) → slice_get layout.threads thread.0 ≡ Some d → d.cpu ≡ x.stamp.who.cpu → (b c : Bool) → (g.thread.0 == thread.0) ≡ b → nat_lt g.stamp.who.seq x.stamp.who.seq ≡ c → IsNotLater x.stamp.who r.who
            → from_bool (b && c) ≡ 0
        not-before thread x d declared mine false c of less past = refl
        not-before thread x d declared mine true false of less past = refl
        not-before thread x d declared mine true true of less past =
            let thread_is : g.thread.0 ≡ thread.0 = eqb-true g.thread.0 thread.0 of in
            let cpu_is : d.cpu ≡ g.stamp.who.cpu = set-by-own d (ap (slice_get layout.threads) thread_is ∙ declared) in
            let same_cpu : x.stamp.who.cpu ≡ r.who.cpu = sym mine ∙ cpu_is ∙ ap (λ (w : Who). w.cpu) own in
            let not_later : x.stamp.who.seq ≤ r.who.seq = past same_cpu in
            let seq : g.stamp.who.seq ≡ r.who.seq = ap (λ (w : Who). w.seq) own in
            let below : g.stamp.who.seq < x.stamp.who.seq = ltb-true g.stamp.who.seq x.stamp.who.seq less in
            absurd (omega (arith, not_later, seq, below))

    setting-more : KnowPolicies layout after
    setting-more = record {
      policed = subst (EachMember (λ (x : Sight). (thread : Thread) → x.place ≡ places.Policy thread → IsPoliced layout after x thread)) (sym same) counted-more;
      numbered = same-sights after.sights same;
    }

  -- ---- the same settings

  module _ (settings : after.settings ≡ v.settings) where
    policed-same : (x : Sight) → ((thread : Thread) → x.place ≡ places.Policy thread → IsPoliced layout v x thread) → (thread : Thread) → x.place ≡ places.Policy thread → IsPoliced layout after x thread
    policed-same x was thread place =
        let p = was thread place in
        record {
          decl = p.decl;
          declared = p.declared;
          own = λ mine. let count = p.own mine in record {
            low = subst (λ (l : List Setting). made_before thread x.stamp.who.seq l ≤ number_in x.word) (sym settings) count.low;
            high = subst (λ (l : List Setting). number_in x.word ≤ made_before thread (x.stamp.who.seq + 1) l) (sym settings) count.high;
          };
        }

    old-policed : EachMember (λ (x : Sight). (thread : Thread) → x.place ≡ places.Policy thread → IsPoliced layout after x thread) v.sights
    old-policed i x there = policed-same x (know.policed i x there)

    nothing-more : after.sights ≡ v.sights → KnowPolicies layout after
    nothing-more same = record {
      policed = subst (EachMember (λ (x : Sight). (thread : Thread) → x.place ≡ places.Policy thread → IsPoliced layout after x thread)) (sym same) old-policed;
      numbered = same-sights after.sights same;
    }

    -- ---- a sight more

    module _ (x : Sight) (more : after.sights ≡ v.sights ++ x ∷ []) (own : x.stamp.who ≡ r.who) (place : x.place ≡ place_of r.step) (word : x.word ≡ r.found) where
      module _ (thread : Thread) (is : x.place ≡ places.Policy thread) where
        at : place_of r.step ≡ places.Policy thread
        at = sym place ∙ is

        inside : thread.0 < length layout.threads
        inside = subst (IsPlace layout) at m.asks.place

        decl : (d : ThreadDecl) × (slice_get layout.threads thread.0 ≡ Some d)
        decl = there-is layout.threads thread.0 inside

        met : r.found ≡ slice_index a.words (index layout (places.Policy thread))
        met = m.met ∙ ap (λ (p : SharedWord). slice_index a.words (index layout p)) at

        of-own : decl.0.cpu ≡ x.stamp.who.cpu → IsOf decl.0.cpu v.parts
        of-own mine = (m.asks.turn.part.0, m.asks.turn.part.1, m.asks.turn.part.2, m.asks.turn.part.3.0 ∙ sym (mine ∙ ap (λ (w : Who). w.cpu) own))

        counted-now : decl.0.cpu ≡ x.stamp.who.cpu → IsCountedBy v x thread
        counted-now mine =
            let now = number-now layout a h thread r.found (map (λ (y : View). y.sights) a.views) (settings_of thread v.settings) (agrees layout a h thread decl.0 r.found decl.1 met seat v m.me (of-own mine)) in
            let number : number_in x.word ≡ number_in r.found = ap number_in word in
            let most = before-most thread x.stamp.who.seq v.settings in
            let all = before-all thread (x.stamp.who.seq + 1) v.settings (λ i g there same. past i g there (ap (λ (n : ℕ). record { 0 = n }) same)) in
            record { low = omega (arith, now, number, most); high = omega (arith, now, number, all) }
          where
            past : (i : ℕ) (g : Setting) → slice_get v.settings i ≡ Some g → g.thread ≡ thread → g.stamp.who.seq < x.stamp.who.seq + 1
            past i g there same =
                let by = h.rule.processors.policies.own seat (v.parts, v.settings) (at_map (λ (y : View). (y.parts, y.settings)) a.views seat v m.me) i g there in
                let d_is : by.decl ≡ decl.0 = same_Some by.decl decl.0 (sym by.declared ∙ ap (λ (t : Thread). slice_get layout.threads t.0) same ∙ decl.1) in
                let cpu_is : g.stamp.who.cpu ≡ r.who.cpu = sym by.own ∙ ap (λ (d : ThreadDecl). d.cpu) d_is ∙ mine ∙ ap (λ (w : Who). w.cpu) own in
                let few : g.stamp.who.seq ≤ r.who.seq = not-after g.stamp.who ((h.rule.processors.commands.own seat v m.me).settings i g there) cpu_is in
                let seq : x.stamp.who.seq ≡ r.who.seq = ap (λ (w : Who). w.seq) own in
                omega (arith, few, seq)

        policed-now : IsPoliced layout v x thread
        policed-now = record { decl = decl.0; declared = decl.1; own = counted-now }

        -- no earlier sight says more
        most-now : (i : ℕ) (s : Sight) → slice_get v.sights i ≡ Some s → s.place ≡ places.Policy thread → number_in s.word ≤ number_in x.word
        most-now i s there was =
            let sound : decl.0.cpu.0 < layout.cpus = (names-inside layout h.sound thread decl.0 decl.1).1 in
            let with_ = view-with layout a h decl.0.cpu sound in
            let is_ = agrees layout a h thread decl.0 r.found decl.1 met with_.0 with_.1 with_.2 with_.3 in
            let now = number-now layout a h thread r.found (map (λ (y : View). y.sights) a.views) (settings_of thread with_.1.settings) is_ in
            let then = number-then layout a h thread r.found (map (λ (y : View). y.sights) a.views) (settings_of thread with_.1.settings) is_ seat i v.sights s (at_map (λ (y : View). y.sights) a.views seat v m.me) there was in
            let number : number_in x.word ≡ number_in r.found = ap number_in word in
            omega (arith, now, then, number)

      old-new : (i : ℕ) (s : Sight) → slice_get v.sights i ≡ Some s → IsNumbered s x
      old-new i s there thread first second earlier = most-now thread second i s there first

      new-old : (i : ℕ) (s : Sight) → slice_get v.sights i ≡ Some s → IsNumbered x s
      new-old i s there thread first second earlier =
          let past : s.stamp.who.seq ≤ r.who.seq = sight-past i s there (sym earlier.0 ∙ ap (λ (w : Who). w.cpu) own) in
          let seq : x.stamp.who.seq ≡ r.who.seq = ap (λ (w : Who). w.seq) own in
          let less : x.stamp.who.seq < s.stamp.who.seq = earlier.1 in
          absurd (omega (arith, past, seq, less))

      new-new : IsNumbered x x
      new-new thread first second earlier = let less : x.stamp.who.seq < x.stamp.who.seq = earlier.1 in absurd (omega (arith, less))

      sight-more : KnowPolicies layout after
      sight-more = record {
        policed = subst (EachMember (λ (y : Sight). (thread : Thread) → y.place ≡ places.Policy thread → IsPoliced layout after y thread)) (sym more)
            (each-push (λ (y : Sight). (thread : Thread) → y.place ≡ places.Policy thread → IsPoliced layout after y thread) v.sights x (policed-same x policed-now) old-policed);
        numbered = subst (λ (l : List Sight). EachMember (λ (s : Sight). EachMember (IsNumbered s) l) l) (sym more)
            (each-push (λ (s : Sight). EachMember (IsNumbered s) (v.sights ++ x ∷ [])) v.sights x (each-push (IsNumbered x) v.sights x new-new new-old)
            (λ i s there. each-push (IsNumbered s) v.sights x (old-new i s there) (know.numbered i s there)));
      }

  pub policies-moved : KnowPolicies layout after
  policies-moved = by (adds-by layout r.who r.step r.found r.content (noted r.who m.view))
    where
      seen : after.settings ≡ v.settings → OneMore Shown v.sights after.sights → KnowPolicies layout after
      seen settings (inl same) = nothing-more settings same
      seen settings (inr (x, more, (own, place, word))) = sight-more settings x more own place word

      set_ : OneMore Shown v.sights after.sights → OneMore (λ (g : Setting). (g.stamp.who ≡ r.who) × (after.sights ≡ v.sights)) v.settings after.settings → KnowPolicies layout after
      set_ sights (inl same) = seen same sights
      set_ sights (inr (g, more, (own, same))) = setting-more g more own same

      by : Adds r.who r.step r.found (noted r.who m.view) after → KnowPolicies layout after
      by adds = set_ adds.sights adds.settings

-- along a run, what views know of policies
pub policies-kept : (layout : Layout) → IsKept layout (λ (s : State) (v : View). KnowPolicies layout v)
policies-kept layout = record {
  stays = λ seat r a b h m still v know. know;
  moves = λ seat r a b h m still all know. policies-moved layout seat r a b h m still know;
  opens = λ c. record { policed = λ i x there. absurd (none-some x there); numbered = λ i x there. absurd (none-some x there) };
}
