-- The policies that a failure's entry lists as seen are policies that their threads had, those of the failing processor's threads
-- the ones that they had then; and later commands of a processor see no fewer settings.
use Rattle.std.proofs.Common.{◌≡◌, ◌⊎◌, inl, inr, ℕ, zero, suc, ◌+◌, ◌*◌, ◌<◌, ◌≤◌, Bool, true, List, [], ◌∷◌, Option, None, Some, fold, filter, length, map, take, slice_get, slice_index, slice_index_or, option_and_then, option_map, unwrap_or, refl, sym, ap, ◌∙◌, subst, arith, true≢false}
use Rattle.std.specs.Prelude.{Contains}
use Rattle.std.specs.List.{cons_option}
use Rattle.std.proofs.lemmas.List.{length-map, length-take}
use Rattle.std.proofs.lemmas.Option.{same_Some, slice_get-get_or, slice_get_within}
use Rattle.hwp_law_served.specs.hwp_geom.declared.VSlot.{VSlot}
use Rattle.hwp_law_served.specs.hwp_geom.declared.Cpu.{Cpu}
use Rattle.hwp_law_served.specs.hwp_geom.declared.Frame.{Frame}
use Rattle.hwp_law_served.specs.hwp_geom.declared.Layout.{Layout}
use Rattle.hwp_law_served.specs.hwp_geom.declared.Page.{Page}
use Rattle.hwp_law_served.specs.hwp_geom.declared.Thread.{Thread}
use Rattle.hwp_law_served.specs.hwp_geom.declared.ThreadDecl.{ThreadDecl}
use Rattle.hwp_law_served.specs.hwp_geom.declared.Who.{Who}
use Rattle.hwp_law_served.specs.hwp_kill.declared.Policy.{Policy}
use Rattle.hwp_law_served.specs.hwp_kill.declared.Policy.TheVariants as policies
use Rattle.hwp_law_served.specs.hwp_kill.declared.Seen.{Seen}
use Rattle.hwp_law_served.specs.hwp_page.declared.At.{At}
use Rattle.hwp_law_served.specs.hwp_page.declared.Entry.{Entry}
use Rattle.hwp_law_served.specs.hwp_page.declared.What.{What}
use Rattle.hwp_law_served.specs.hwp_page.declared.What.TheVariants as entries
use Rattle.hwp_law_served.specs.hwp_words.Policies.{policy_code}
use Rattle.hwp_law_served.specs.hwp_core_rule.declared.SharedWord.TheVariants as places
use Rattle.hwp_law_served.specs.hwp_core_rule.declared.Setting.{Setting}
use Rattle.hwp_law_served.specs.hwp_core_rule.declared.Sight.{Sight}
use Rattle.hwp_law_served.specs.hwp_core_rule.declared.State.{State}
use Rattle.hwp_law_served.specs.hwp_core_rule.declared.View.{View}
use Rattle.hwp_law_served.specs.hwp_core_rule.Lists.{EachMember}
use Rattle.hwp_law_served.specs.hwp_core_rule.Steps.{policy_at}
use Rattle.hwp_law_served.specs.hwp_core_rule.Words.{index}
use Rattle.hwp_law_served.specs.hwp_core_rule.parts.Entries.{HasPolicy, HasSeen}
use Rattle.hwp_law_served.specs.hwp_core_rule.parts.Holdings.{IsPast}
use Rattle.hwp_law_served.specs.hwp_core_rule.parts.Policies.{last_policy as last_set, settings_of}
use Rattle.hwp_law_served.proofs.of_hwp_core_rule.Lists.{at_map, map-was}
use Rattle.hwp_law_served.specs.hwp_core_rule.Boards.{Played, view_of}
use Rattle.hwp_law_served.specs.hwp_script_words.declared.Command.{Command}
use Rattle.hwp_law_served.specs.hwp_script_words.declared.Command.TheVariants as commands
use Rattle.hwp_law_served.specs.hwp_script_words.declared.Script.{Script}
use Rattle.hwp_law_served.specs.hwp_report_text.declared.Answer.{Answer}
use Rattle.hwp_law_served.specs.hwp_report_text.declared.Report.{Report}
use Rattle.hwp_law_served.specs.hwp_law.Commands.{can_fail, has_watch}
use Rattle.hwp_law_served.specs.hwp_law.Entries.{Makes}
use Rattle.hwp_law_served.specs.hwp_law.Places.{entry_at}
use Rattle.hwp_law_served.specs.hwp_law.Settings.{last_policy, set_behind, setting_of, settings, unset}
use Rattle.hwp_law_served.proofs.copied.CopyEntries.{MakesWith}
use Rattle.hwp_law_served.specs.hwp_law.Policies.{answered_before, answered_on}
use Rattle.hwp_law_served.specs.hwp_law.SeenPolicies.{AreSeen, IsOwnCount, IsPolicySeen, SeenNeverFalls, answered_around, cpu_of_thread, seen_in}
use Rattle.hwp_law_served.proofs.Reported.{entry-listed}
use Rattle.hwp_law_served.specs.hwp_cpu_row.declared.Row.{Row}
use Rattle.hwp_law_served.specs.Accounts.{is_same, set_by}
use Rattle.hwp_law_served.specs.Handles.{answers_by}
use Rattle.hwp_law_served.specs.Rows.{lines_from}
use Rattle.hwp_law_served.specs.Runs.{IsRunOf}
use Rattle.hwp_law_served.specs.Served.{IsServed}
use Rattle.hwp_law_served.proofs.RunKeeps.{run-keeps}
use Rattle.hwp_law_served.proofs.RunEnds.{IsEnd, IsOf, command-of, list-of, own-view, rows-of, same-row, served-of}
use Rattle.hwp_top_report.proofs.endings.Gone.{names-inside}
use Rattle.hwp_law_served.proofs.LastBoard.{ended}
use Rattle.hwp_law_served.proofs.deeds.Made.{does}
use Rattle.hwp_top_report.proofs.policies.PolicyCounts.{made_before, number-back, number_in}
use Rattle.hwp_top_report.proofs.policies.PolicyDone.{are_of, before-done, set-count, set_of, step-count}
use Rattle.hwp_top_report.proofs.policies.PolicySeen.{IsPoliced, KnowPolicies, agrees, policies-kept}
use Rattle.hwp_law_served.proofs.RowLines.{answered-so}
use Rattle.hwp_law_served.proofs.Handles.{pair-there}
use Rattle.hwp_top_report.proofs.losses.NumbersTold.{zip-at}

-- ---- policies

same-policy : (p q : Policy) → policy_code p ≡ policy_code q → p ≡ q
same-policy policies.Late policies.Late is = refl
same-policy policies.Early policies.Early is = refl
same-policy policies.Default policies.Default is = refl
same-policy policies.Late policies.Early is = absurd (omega (arith, is))
same-policy policies.Late policies.Default is = absurd (omega (arith, is))
same-policy policies.Early policies.Late is = absurd (omega (arith, is))
same-policy policies.Early policies.Default is = absurd (omega (arith, is))
same-policy policies.Default policies.Late is = absurd (omega (arith, is))
same-policy policies.Default policies.Early is = absurd (omega (arith, is))

-- a policy word says both
same-word : (n k : ℕ) (p q : Policy) → policy_at n p ≡ policy_at k q → (n ≡ k) × (p ≡ q)
same-word n k p q is =
    let number : n ≡ k = sym (number-back n p) ∙ ap number_in is ∙ number-back k q in
    (number, same-policy p q (code (policy_code p) (policy_code q) is number))
  where
    code : (a b : ℕ) → n * 4 + a ≡ k * 4 + b → n ≡ k → a ≡ b
    code a b both number = omega (arith, both, number)

-- the last of some policies
last-of : (p : Policy) (list : List Setting) → fold (λ (earlier later : Policy). later) p (map (λ (g : Setting). g.policy) list) ≡ last_set p list
last-of p [] = refl
last-of p (g ∷ gs) = last-of g.policy gs

take-mapped : {A B : Type 0} (f : A → B) (n : ℕ) (xs : List A) → take n (map f xs) ≡ map f (take n xs)
take-mapped f zero xs = refl
take-mapped f (suc n) [] = refl
take-mapped {A} {B} f (suc n) (x ∷ xs) = ap (λ (l : List B). f x ∷ l) (take-mapped f n xs)

-- a policy that an entry lists was shown to its command
has-policy : (sights : List Sight) (who : Who) (frame : Option Frame) (what : What) (seen : Seen) → HasSeen sights who frame what → Contains (seen_in what) seen → HasPolicy sights who frame seen
has-policy sights who frame (entries.Fail situation required list signals) seen each (k, within, is) = subst (HasPolicy sights who frame) is (each k (slice_index_or list k seen) (slice_get-get_or list k seen within))
has-policy sights who frame what seen each (k, within, is) = absurd (omega (arith, within))

-- what sets a policy can't fail
no-setting : (layout : Layout) (earlier : List (Command × Answer)) (command : Command) (answer : Answer) → can_fail command ≡ true → set_by layout earlier command answer ≡ []
no-setting layout earlier (commands.Prctl thread args) answer fails = absurd (true≢false (sym fails))
no-setting layout earlier (commands.Fork thread process) answer fails = absurd (true≢false (sym fails))
no-setting layout earlier command answer fails = refl

can-fail : (watches : Bool) (command : Command) (what : What) (seen : Seen) → Makes watches command what → Contains (seen_in what) seen → can_fail command ≡ true
can-fail watches command (entries.Fail situation required list signals) seen makes has = makes.0
can-fail watches command what seen makes (k, within, is) = absurd (omega (arith, within))

-- nor is it the entry of a copy
can-fail-with : (layout : Layout) (watches : Bool) (copied : Option VSlot) (command : Command) (page : Page) (what : What) (seen : Seen) → MakesWith layout watches copied command page what → Contains (seen_in what) seen → can_fail command ≡ true
can-fail-with layout watches copied command page what seen (inl (makes, stands)) has = can-fail watches command what seen makes has
can-fail-with layout watches None command page what seen (inr never) has = absurd never
can-fail-with layout watches (Some from) (commands.Store thread to line word) page what seen (inr copy) has = refl
can-fail-with layout watches (Some from) command page what seen (inr never) has = absurd never

module _ (script : Script) (copies : Who → Option VSlot) (seat : Cpu → ℕ) (turns : List Played) (last : State) (report : Report) (run : IsRunOf script copies seat turns last report) where
  abbrev end : IsEnd script copies seat last report
  end = ended script copies seat turns last report run

  know : EachMember (λ (v : View). KnowPolicies script.layout v) last.views
  know = run-keeps script.layout (λ (s : State) (v : View). KnowPolicies script.layout v) (policies-kept script.layout) turns last run.rule run.moves

  -- the policy word that a command saw
  pub record SawPolicy (who : Who) (seen : Seen) : Type 0 where
    pub inside : who.cpu.0 < script.layout.cpus
    pub j : ℕ
    pub sight : Sight
    pub there : slice_get (view_of last (seat who.cpu)).sights j ≡ Some sight
    pub own : sight.stamp.who ≡ who
    pub place : sight.place ≡ places.Policy seen.thread
    pub word : sight.word ≡ policy_at seen.n seen.policy

  saw-policy : (at : At) (e : Entry) (seen : Seen) → entry_at report.pages at ≡ Some e → Contains (seen_in e.what) seen → SawPolicy e.who seen
  saw-policy at e seen is has =
      let listed = entry-listed script.layout last report end.board at e is in
      let made = listed.3 in
      let that = made.3 in
      let shown = end.board.holds.rule.histories.entries.shown listed.0 (listed.1.made, listed.1.sights) (at_map (λ (v : View). (v.made, v.sights)) last.views listed.0 listed.1 listed.2) made.0 made.1 made.2 in
      let its : HasSeen listed.1.sights e.who made.1.frame e.what = subst (λ (x : Entry). HasSeen listed.1.sights x.who made.1.frame x.what) that.entry_is shown in
      let past = subst (λ (x : Entry). IsPast listed.1.parts x.who) that.entry_is ((end.board.holds.rule.processors.commands.own listed.0 listed.1 listed.2).made made.0 made.1 made.2) in
      let own = own-view script copies seat last report end listed.0 listed.1 e.who listed.2 past in
      which listed.1 own made.1.frame (has-policy listed.1.sights e.who made.1.frame e.what seen its has)
    where
      which : (v : View) → (e.who.cpu.0 < script.layout.cpus) × (v ≡ view_of last (seat e.who.cpu)) → (frame : Option Frame) → HasPolicy v.sights e.who frame seen → SawPolicy e.who seen
      which v own None none = absurd none
      which v own (Some frame) (j, s, there, shows) =
          record { inside = own.0; j = j; sight = s; there = sym (ap (λ (x : View). slice_get x.sights j) own.1) ∙ there; own = shows.own; place = shows.place_is; word = shows.word_is }

  module _ (who : Who) (seen : Seen) (saw : SawPolicy who seen) where
    abbrev view : View
    view = view_of last (seat who.cpu)

    policed : IsPoliced script.layout view saw.sight seen.thread
    policed = (know (seat who.cpu) view (end.seated.there who.cpu saw.inside)).policed saw.j saw.sight saw.there seen.thread saw.place

    -- the processor of the thread
    abbrev cpu : Cpu
    cpu = policed.decl.cpu

    cpu-inside : cpu.0 < script.layout.cpus
    cpu-inside = (names-inside script.layout end.board.holds.sound seen.thread policed.decl policed.declared).1

    abbrev set_there : List Setting
    set_there = settings_of seen.thread (view_of last (seat cpu)).settings

    cpu-is : cpu_of_thread script seen.thread ≡ Some cpu
    cpu-is = ap (λ (o : Option ThreadDecl). option_and_then (λ (t : ThreadDecl). Some t.cpu) o) policed.declared

    -- those that the processor's view lists are those that its commands set
    all : settings script.layout seen.thread (answered_around script report seen.thread) ≡ map (λ (g : Setting). g.policy) set_there
    all =
        let list = list-of script copies seat last report end cpu cpu-inside in
        let rows = rows-of script copies seat last report end cpu cpu-inside in
        ap (λ (o : Option Cpu). settings script.layout seen.thread (unwrap_or (option_map (answered_on script report) o) [])) cpu-is
        ∙ ap (settings script.layout seen.thread) (answered-so script copies seat last report end cpu list.0 rows.0 list.1 rows.1)
        ∙ sym ((served-of script copies seat last report end cpu list.0 rows.0 list.1 rows.1).0.policies seen.thread)

    -- the word is the one after some of them
    then : (n : ℕ) × (n ≤ length set_there) × (saw.sight.word ≡ policy_at (length (take n set_there)) (last_set policies.Default (take n set_there)))
    then = (agrees script.layout last end.board.holds seen.thread policed.decl (slice_index last.words (index script.layout (places.Policy seen.thread))) policed.declared refl (seat cpu) (view_of last (seat cpu)) (end.seated.there cpu cpu-inside)
        (end.seated.own cpu cpu-inside)).shown (seat who.cpu) view.sights (at_map (λ (v : View). v.sights) last.views (seat who.cpu) view (end.seated.there who.cpu saw.inside)) saw.j saw.sight saw.there saw.place

    number : (seen.n ≡ then.0) × (seen.policy ≡ last_set policies.Default (take then.0 set_there))
    number =
        let both = same-word seen.n (length (take then.0 set_there)) seen.policy (last_set policies.Default (take then.0 set_there)) (sym saw.word ∙ then.2) in
        let long = length-take then.0 set_there in
        let few : then.0 ≤ length set_there = then.1 in
        let same : seen.n ≡ length (take then.0 set_there) = both.0 in
        (omega (arith, long, few, same), both.1)

    policy-seen : IsPolicySeen script report seen
    policy-seen =
        let few : then.0 ≤ length set_there = then.1 in
        let n : seen.n ≡ then.0 = number.0 in
        let many : length (settings script.layout seen.thread (answered_around script report seen.thread)) ≡ length set_there = ap (λ (l : List Policy). length l) all ∙ length-map set_there (λ (g : Setting). g.policy) in
        let taken : take seen.n (settings script.layout seen.thread (answered_around script report seen.thread)) ≡ map (λ (g : Setting). g.policy) (take then.0 set_there)
        = ap (λ (k : ℕ). take k (settings script.layout seen.thread (answered_around script report seen.thread))) n ∙ ap (take then.0) all ∙ take-mapped (λ (g : Setting). g.policy) then.0 set_there in
        record {
          made = omega (arith, few, n, many);
          policy = number.1 ∙ sym (ap last_policy taken ∙ last-of policies.Default (take then.0 set_there));
        }

    -- ---- of the command's own processor

    module _ (of : IsOf script copies end.rows view who) (fails : can_fail of.command ≡ true) where
      served : IsServed script.layout copies view who.cpu of.list of.own × (slice_get report.cpus who.cpu.0 ≡ Some (lines_from 0 of.own))
      served = served-of script copies seat last report end who.cpu of.list of.own of.list_is of.own_is

      abbrev pairs : List (Command × Answer)
      pairs = answers_by of.list of.own

      set-own : EachMember (λ (g : Setting). g.stamp.who.cpu ≡ who.cpu) view.settings
      set-own i g at = (served.0.set i g at).0

      each-set : (i : ℕ) (p : Command × Answer) → slice_get {X = Command × Answer} pairs i ≡ Some p → are_of seen.thread (map set_of (filter (λ (g : Setting). is_same (record { cpu = who.cpu; seq = i }) g.stamp.who) view.settings)) ≡ length (cons_option (setting_of script.layout (set_behind script.layout unset (take i pairs)) seen.thread.0 p.0 p.1) [])
      each-set i p at =
          let there = zip-at of.list (map (λ (r : Row). r.answer) of.own) i p at in
          let other : IsOf script copies end.rows view (record { cpu = who.cpu; seq = i }) = command-of script copies seat last report end (record { cpu = who.cpu; seq = i }) of.list p.0 of.list_is there.0 in
          let row = map-was (λ (r : Row). r.answer) of.own i p.1 there.1 in
          let answer : other.row.answer ≡ p.1 = ap (λ (r : Row). r.answer) (same-row other of.own row.0 of.own_is row.1) ∙ row.2 in
          let same : other.command ≡ p.0 = same_Some other.command p.0 (sym other.command_is ∙ ap (λ (l : List Command). slice_get l i) (same_Some other.list of.list (sym other.list_is ∙ of.list_is)) ∙ there.0) in
          ap (are_of seen.thread) other.served.accounted.set ∙ set-count script.layout other.earlier seen.thread other.command other.row.answer
          ∙ ap (λ (l : List (Command × Answer)). length (cons_option (setting_of script.layout (set_behind script.layout unset l) seen.thread.0 other.command other.row.answer) [])) (before-is other)
          ∙ ap (λ (c : Command). length (cons_option (setting_of script.layout (set_behind script.layout unset (take i pairs)) seen.thread.0 c other.row.answer) [])) same
          ∙ ap (λ (a : Answer). length (cons_option (setting_of script.layout (set_behind script.layout unset (take i pairs)) seen.thread.0 p.0 a) [])) answer
        where
          -- the earlier commands of the other one
          before-is : (other : IsOf script copies end.rows view (record { cpu = who.cpu; seq = i })) → other.earlier ≡ take i pairs
          before-is other = other.earlier_is ∙ ap (λ (l : List Command). take i (answers_by l other.own)) (same_Some other.list of.list (sym other.list_is ∙ of.list_is)) ∙ ap (λ (l : List Row). take i (answers_by of.list l)) (same_Some other.own of.own (sym other.own_is ∙ of.own_is))

      own-count : cpu_of_thread script seen.thread ≡ Some who.cpu → seen.n ≡ length (settings script.layout seen.thread (answered_before script report who))
      own-count is =
          let mine : policed.decl.cpu ≡ saw.sight.stamp.who.cpu = same_Some policed.decl.cpu who.cpu (sym cpu-is ∙ is) ∙ sym (ap (λ (w : Who). w.cpu) saw.own) in
          let count = policed.own mine in
          let word : number_in saw.sight.word ≡ seen.n = ap number_in saw.word ∙ number-back seen.n seen.policy in
          let low : made_before seen.thread who.seq view.settings ≤ number_in saw.sight.word = subst (λ (w : Who). made_before seen.thread w.seq view.settings ≤ number_in saw.sight.word) saw.own count.low in
          let high : number_in saw.sight.word ≤ made_before seen.thread (who.seq + 1) view.settings = subst (λ (w : Who). number_in saw.sight.word ≤ made_before seen.thread (w.seq + 1) view.settings) saw.own count.high in
          let step = step-count seen.thread who.cpu who.seq view.settings set-own in
          let none : are_of seen.thread (map set_of (filter (λ (g : Setting). is_same who g.stamp.who) view.settings)) ≡ 0 = ap (are_of seen.thread) (of.served.accounted.set ∙ no-setting script.layout of.earlier of.command of.row.answer fails) in
          let within : who.seq < length pairs = slice_get_within pairs who.seq (of.command, of.row.answer) (pair-there of.list of.own who.seq of.command of.row of.command_is of.row_is) in
          let done : made_before seen.thread who.seq view.settings ≡ length (settings script.layout seen.thread (take who.seq pairs)) = before-done script.layout seen.thread who.cpu view.settings pairs set-own each-set who.seq (omega (arith, within)) in
          let all_ : length (settings script.layout seen.thread (answered_before script report who)) ≡ length (settings script.layout seen.thread (take who.seq pairs))
          = ap (λ (l : List (Command × Answer)). length (settings script.layout seen.thread (take who.seq l))) (answered-so script copies seat last report end who.cpu of.list of.own of.list_is of.own_is) in
          omega (arith, word, low, high, step, none, done, all_)

  pub are-seen : AreSeen script report
  are-seen at e seen is has =
      let saw = saw-policy at e seen is has in
      let d = does script copies seat last report end at e is in
      (policy-seen e.who seen saw, own d.view d.of d.makes saw)
    where
      own : (v : View) (of : IsOf script copies end.rows v e.who) → MakesWith script.layout (has_watch script) (copies e.who) of.command at.page e.what → SawPolicy e.who seen → IsOwnCount script report e.who seen
      own v of makes saw =
          let mine = command-of script copies seat last report end e.who of.list of.command of.list_is of.command_is in
          let same : mine.command ≡ of.command = same_Some mine.command of.command (sym mine.command_is ∙ ap (λ (l : List Command). slice_get l e.who.seq) (same_Some mine.list of.list (sym mine.list_is ∙ of.list_is)) ∙ of.command_is) in
          own-count e.who seen saw mine (ap can_fail same ∙ can-fail-with script.layout (has_watch script) (copies e.who) of.command at.page e.what seen makes has)

  pub never-falls : SeenNeverFalls report
  never-falls at later e f seen again first second has more same_cpu earlier same_thread =
      let a = saw-policy at e seen first has in
      let b = saw-policy later f again second more in
      let there : slice_get (view_of last (seat e.who.cpu)).sights b.j ≡ Some b.sight = ap (λ (c : Cpu). slice_get (view_of last (seat c)).sights b.j) same_cpu ∙ b.there in
      let rises = (know (seat e.who.cpu) (view_of last (seat e.who.cpu)) (end.seated.there e.who.cpu a.inside)).numbered a.j a.sight a.there b.j b.sight there seen.thread a.place (b.place ∙ ap (λ (t : Thread). places.Policy t) (sym same_thread))
      (ap (λ (w : Who). w.cpu) a.own ∙ same_cpu ∙ sym (ap (λ (w : Who). w.cpu) b.own), ordered a b) in
      let low : number_in a.sight.word ≡ seen.n = ap number_in a.word ∙ number-back seen.n seen.policy in
      let high : number_in b.sight.word ≡ again.n = ap number_in b.word ∙ number-back again.n again.policy in
      omega (arith, rises, low, high)
    where
      ordered : (a : SawPolicy e.who seen) (b : SawPolicy f.who again) → a.sight.stamp.who.seq < b.sight.stamp.who.seq
      ordered a b =
          let first_ : a.sight.stamp.who.seq ≡ e.who.seq = ap (λ (w : Who). w.seq) a.own in
          let second_ : b.sight.stamp.who.seq ≡ f.who.seq = ap (λ (w : Who). w.seq) b.own in
          omega (arith, first_, second_, earlier)
